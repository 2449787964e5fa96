use Rattle.ms_ken.proofs.Keeping.{tells}
use Rattle.ms_ken.proofs.steps.tell_as.Goals as goal

pub fetch_add-requires : goal.fetch_add-requires
fetch_add-requires g c = (c.requires.board.0, c.requires.board.1, tells _ _ _ _ _ _ _ c.requires.said c.requires.owns.0 c.requires.owns.1)
