use Rattle.std.proofs.Common.{◌≡◌, ◌+◌, ◌≤◌, length, drop}
use Rattle.ms_object.specs.Stores.{text_of}
use Rattle.ms_object.specs.Trees.{blobs_joined}
use Rattle.ms_tree.specs.Gathering.{joined_on}
use Rattle.ms_tree.proofs.gathering.join_blobs.Given as goal

abbrev pub invariant-loop-blob : goal.invariant-loop-blob
invariant-loop-blob l = record {
  goes_on : joined_on l.text.items (blobs_joined l.format (text_of l.store) l.left (drop l.blob-index l.blobs)) ≡ blobs_joined l.format (text_of l.store) l.size l.blobs;
  short : length l.text.items + l.left ≤ l.size;
}
