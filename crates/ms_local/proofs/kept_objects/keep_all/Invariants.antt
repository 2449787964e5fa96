use Rattle.ms_object.specs.Stores.{names_in}
use Rattle.ms_local.proofs.KeepingObjects.{KeptTo}
use Rattle.ms_local.proofs.kept_objects.keep_all.Given as goal

abbrev pub invariant-loop-place : goal.invariant-loop-place
invariant-loop-place g l = KeptTo l.objects (names_in l.objects) (g.K.Keeper.sees l.fn.keep) (g.K.Keeper.sees l.keep) l.place
