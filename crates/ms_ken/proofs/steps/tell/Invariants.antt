use Rattle.std.specs.Prelude.{Some}
use Rattle.ms_ken.proofs.steps.tell.Given as goal

abbrev pub ghosts-tell_as : goal.ghosts-tell_as
ghosts-tell_as g a = record { item = Some a.item.now }
