use Rattle.std.proofs.Common.{◌≡◌, ◌+◌, [], length}
use Rattle.ms_text.specs.Lines.{lines_of}
use Rattle.ms_tree.specs.Listings.{with_lines}
use Rattle.ms_tree.proofs.ListingLaws.{HasRead}
use Rattle.ms_tree.proofs.listing.read_listing.Given as goal

abbrev pub invariant-loop-rest : goal.invariant-loop-rest
invariant-loop-rest l = record {
  same : with_lines (length l.files + 1) l.files (lines_of l.rest) ≡ with_lines 1 [] (lines_of l.text);
  read : HasRead (lines_of l.text) (lines_of l.rest) l.files;
}

abbrev pub decreases-loop-rest : goal.decreases-loop-rest
decreases-loop-rest l = length l.rest
