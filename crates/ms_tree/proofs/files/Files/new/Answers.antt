use Rattle.std.proofs.Common.{refl}
use Rattle.ms_tree.proofs.FileLaws.{none_IsFiles}
use Rattle.ms_tree.proofs.files.Files.new.Goals as goal

pub invariant_of-result : goal.invariant_of-result
invariant_of-result c = rw c.new.ensures.empty (record { files = none_IsFiles; total = refl })
