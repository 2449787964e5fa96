use Rattle.std.proofs.Common.{◌∙◌}
use Rattle.ms_tree.proofs.Named.{blob_wanted, size_right, size_wrong}
use Rattle.ms_tree.proofs.looking.read_blob.Goals as goal

pub returns-in_default : goal.returns-in_default
returns-in_default c = blob_wanted c.args.format c.args.name.now c.args.size _ _ c.in_default.ensures

pub returns-then-bytes-size : goal.returns-then-bytes-size
returns-then-bytes-size c = blob_wanted c.args.format c.args.name.now c.args.size _ _ c.in-Some.ensures ∙ size_wrong c.args.name.now c.args.size c.in-Some.bytes.now c.if-bytes-size.true

pub returns : goal.returns
returns c = blob_wanted c.args.format c.args.name.now c.args.size _ _ c.in-Some.ensures ∙ size_right c.args.name.now c.args.size c.in-Some.bytes.now c.if-bytes-size.false
