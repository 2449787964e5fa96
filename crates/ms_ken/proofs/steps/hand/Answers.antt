use Rattle.ms_ken.proofs.Keeping.{hands}
use Rattle.ms_ken.proofs.steps.hand.Goals as goal

pub split_seat-requires : goal.split_seat-requires
split_seat-requires g c = (c.requires.board.0, c.requires.board.1, hands _ _ _ c.requires.owns)
