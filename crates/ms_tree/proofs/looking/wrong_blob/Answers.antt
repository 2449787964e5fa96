use Rattle.std.proofs.Common.{◌≡◌, ◌∙◌, ◌+◌, ◌-◌, List, ℕ, min, Err, All, IsSome, length, get_or, sym, ap, subst, arith}
use Rattle.ms_base.specs.declared.names.Name.{Name}
use Rattle.ms_object.specs.declared.fault.GatherError.TheVariants as faults
use Rattle.ms_object.specs.Stores.{text_of}
use Rattle.ms_tree.proofs.Looked.{AreJoined, more_joined, all_joined, wrong_joined}
use Rattle.ms_tree.proofs.looking.wrong_blob.Goals as goal

pub returns-in-Err-clause-first : goal.returns-in-Err-clause-first
returns-in-Err-clause-first c =
    wrong_joined c.args.format (text_of c.args.store.now) c.args.file.now.size c.loop-blob.left c.min-wanted.result c.args.file.now.blobs c.as_slice-blob-items.result.now c.loop-blob.blob-index _ c.in-Err._error
    c.as_slice-blob-items.ensures c.requires.there (omega arith) (c.min-wanted.ensures ∙ ap (λ (n : ℕ). min n c.loop-blob.left) c.blob_bytes-most.ensures) c.loop-blob.invariant c.in-Err.ensures

pub loop-blob-preserved : goal.loop-blob-preserved
loop-blob-preserved c =
    more_joined c.args.format (text_of c.args.store.now) c.args.file.now.size c.loop-blob.left c.min-wanted.result c.args.file.now.blobs c.as_slice-blob-items.result.now c.loop-blob.blob-index _ c.in-Ok._bytes.now
    c.as_slice-blob-items.ensures (omega arith) (c.min-wanted.ensures ∙ ap (λ (n : ℕ). min n c.loop-blob.left) c.blob_bytes-most.ensures) c.loop-blob.invariant c.in-Ok.ensures

pub returns-clause-none : goal.returns-clause-none
returns-clause-none c =
    let same = ap (λ (b : List Name). length b) c.as_slice-blob-items.ensures in
    all_joined c.args.format (text_of c.args.store.now) c.args.file.now.size c.loop-blob.left c.args.file.now.blobs c.loop-blob.blob-index (omega (arith, same)) c.loop-blob.invariant
