use Rattle.std.proofs.Common.{subst}
use Rattle.ms_ken.specs.Known.{Known}
use Rattle.ms_ken.specs.Lists.{Begins}
use Rattle.ms_ken.proofs.tests.note_before_tell.Goals as goal

pub returns-clause-prefix : goal.returns-clause-prefix
returns-clause-prefix g c = subst (λ (k : Known g.row.C-Event.Denot). Begins k.lists c.tell.new.pass.lists) c.note-note.ensures.same c.tell.ensures.keeps
