use Rattle.std.proofs.Common.{[], arith}
use Rattle.ms_tree.proofs.Sums.{sum_none, sum_within, sum_more, sum_all}
use Rattle.ms_tree.specs.declared.files.FileRef.{FileRef}
use Rattle.ms_tree.proofs.planting.bytes_of.Goals as goal

abbrev no_file : FileRef
no_file = record { path = record { ref_ptr = (0, 0); now = [] }; text = record { ref_ptr = (0, 0); now = [] } }

pub loop-file-init : goal.loop-file-init
loop-file-init c = sum_none c.args.files.now

pub overflow_add-total : goal.overflow_add-total
overflow_add-total c = let w = sum_within c.args.files.now c.loop-file.file-index c.loop-file.total no_file c.requires c.loop-file.invariant c.loop-file-test.true in omega (arith, w.0, w.1)

pub loop-file-preserved : goal.loop-file-preserved
loop-file-preserved c = sum_more c.args.files.now c.loop-file.file-index c.loop-file.total _ c.requires c.loop-file.invariant c.loop-file-test.true

pub returns : goal.returns
returns c = λ skip. sum_all c.args.files.now c.loop-file.file-index c.loop-file.total skip c.loop-file.invariant c.loop-file-test.false
