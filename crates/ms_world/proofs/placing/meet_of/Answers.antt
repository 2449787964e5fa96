use Rattle.ms_world.proofs.ReachLaws.{met_blob}
use Rattle.ms_world.proofs.placing.meet_of.Goals as goal

pub returns-in-Blob : goal.returns-in-Blob
returns-in-Blob c = met_blob c.args.format c.args.wanted c.args.text.now c.args.met.now c.is_blob.result c.in-Blob.is c.is_blob.ensures
