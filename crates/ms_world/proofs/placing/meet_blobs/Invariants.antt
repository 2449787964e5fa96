use Rattle.std.proofs.Common.{map, take}
use Rattle.ms_core.specs.declared.want.Wanted.TheVariants.{Blob}
use Rattle.ms_core.specs.Placing.{want_of}
use Rattle.ms_world.specs.Reaching.{Meets}
use Rattle.ms_world.proofs.placing.meet_blobs.Given as goal

abbrev pub invariant-loop-name : goal.invariant-loop-name
invariant-loop-name l = Meets (map (want_of Blob) (take l.name-index l.blobs)) l.fn.met l.met
