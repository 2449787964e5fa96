use Rattle.std.proofs.Common.{ap, ◌∙◌}
use Rattle.ms_ken.proofs.Keeping.{takes, settles, spans}
use Rattle.ms_ken.proofs.steps.take.Goals as goal

pub join_seat-requires : goal.join_seat-requires
join_seat-requires g c = (c.requires.board.0, c.requires.note.0, c.requires.note.1, c.requires.board.1, takes _ _ _ _ _)

pub load-requires : goal.load-requires
load-requires g c = (c.join_seat.ensures.0 ∙ c.requires.board.0, c.requires.board.1, settles _ _ _ _)

pub returns-clause-spans : goal.returns-clause-spans
returns-clause-spans g c = spans _ _ c.args.seat.now.me.0 c.args.other.me.0 (ap (λ m. m.0) c.join_seat.ensures.2) c.load.ensures.2
