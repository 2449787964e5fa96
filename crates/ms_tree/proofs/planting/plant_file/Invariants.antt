use Rattle.std.proofs.Common.{◌≡◌}
use Rattle.ms_object.specs.Objects.{blob_size}
use Rattle.ms_object.specs.Stores.{text_of}
use Rattle.ms_tree.proofs.Writing.{IsWriting}
use Rattle.ms_tree.proofs.planting.plant_file.Given as goal

abbrev pub invariant-loop-piece : goal.invariant-loop-piece
invariant-loop-piece l = record {
  size : l.piece-iterator.size ≡ blob_size l.format;
  written : IsWriting l.format l.text l.piece-iterator.rest.now l.blobs.items (text_of l.initial.store) (text_of l.store);
}
