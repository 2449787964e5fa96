use Rattle.ms_tree.proofs.FileLaws.{none_IsFiles}
use Rattle.ms_tree.proofs.draft.Draft.new.Goals as goal

pub invariant_of-result : goal.invariant_of-result
invariant_of-result c = rw c.new.ensures.empty (record { rising = none_IsFiles.rising })
