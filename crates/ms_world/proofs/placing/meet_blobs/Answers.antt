use Rattle.std.proofs.Common.{[], get_or}
use Rattle.std.proofs.lemmas.List.{get_or_default}
use Rattle.ms_core.specs.declared.want.Wanted.TheVariants.{Blob}
use Rattle.ms_core.specs.Placing.{want_of}
use Rattle.ms_world.proofs.MeetLaws.{meets_next}
use Rattle.ms_world.proofs.placing.meet_blobs.Goals as goal

pub loop-name-preserved : goal.loop-name-preserved
loop-name-preserved c =
    let blobs = c.args.blobs.now in
    let i = c.loop-name.name-index in
    let name = get_or blobs i (record { 0 = [] }) in
    meets_next (want_of Blob) blobs i name c.args.met.now c.loop-name.met c.meet.new.self c.loop-name-test.true (get_or_default blobs i (record { 0 = [] }) name c.loop-name-test.true) c.loop-name.invariant c.in_ok-meet.ensures.meets
