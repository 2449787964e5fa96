use Rattle.ms_ken.proofs.Keeping.{notes}
use Rattle.ms_ken.proofs.steps.note.Goals as goal

pub split_seat-requires : goal.split_seat-requires
split_seat-requires g c = (c.requires.board.0, c.requires.board.1, notes _ _ _)
