use Rattle.std.proofs.Common.{◌≡◌, ◌++◌, length, sym, ap, ◌∙◌, Ok, List, ℕ, min, arith}
use Rattle.std.proofs.lemmas.List.{length-append}
use Rattle.ms_object.specs.Stores.{text_of}
use Rattle.ms_tree.proofs.Joining.{Gives-same, blob_size_is, joined_step, joined_fault, joined_end}
use Rattle.ms_tree.proofs.gathering.join_blobs.Goals as goal

pub returns-in-Err-clause-exact : goal.returns-in-Err-clause-exact
returns-in-Err-clause-exact c =
    Gives-same _ _
    (joined_fault c.args.format (text_of c.args.store.now) c.loop-blob.left c.min-wanted.result c.args.blobs.now c.loop-blob.blob-index _ c.loop-blob.text.items c.in-Err.error _ (omega arith) (c.min-wanted.ensures ∙ ap (λ (n : ℕ). min n c.loop-blob.left) c.blob_bytes-most.ensures)
    c.loop-blob.invariant.goes_on c.in-Err.ensures)

pub loop-blob-preserved : goal.loop-blob-preserved
loop-blob-preserved c =
    let longer : c.extend_from_slice.new.self.items ≡ c.loop-blob.text.items ++ c.in-Ok.bytes.now = c.in_ok-extend_from_slice-in-Ok.ensures.items in
    record {
      goes_on = joined_step c.args.format (text_of c.args.store.now) c.loop-blob.left c.min-wanted.result c.args.blobs.now c.loop-blob.blob-index _ c.loop-blob.text.items c.in-Ok.bytes.now _ _ (omega arith) (c.min-wanted.ensures ∙ ap (λ (n : ℕ). min n c.loop-blob.left) c.blob_bytes-most.ensures)
          c.loop-blob.invariant.goes_on c.in-Ok.ensures longer;
      short = let size = blob_size_is c.args.format _ c.min-wanted.result _ c.in-Ok.bytes.now c.in-Ok.ensures in
          omega (arith, ap (λ (t : List ℕ). length t) longer, length-append c.loop-blob.text.items c.in-Ok.bytes.now, size);
    }

pub returns-clause-exact : goal.returns-clause-exact
returns-clause-exact c =
    joined_end c.args.format (text_of c.args.store.now) c.loop-blob.left c.args.blobs.now c.loop-blob.blob-index c.loop-blob.text.items _ (omega arith) c.loop-blob.invariant.goes_on
    ∙ ap (λ (t : List ℕ). Ok t) (sym c.from_vec.ensures)
