use Rattle.ms_object.specs.Stores.{text_of}
use Rattle.ms_tree.proofs.Looked.{AreJoined}
use Rattle.ms_tree.proofs.looking.wrong_blob.Given as goal

abbrev pub invariant-loop-blob : goal.invariant-loop-blob
invariant-loop-blob l = AreJoined l.format (text_of l.store) l.file.size l.left l.file.blobs l.blob-index
