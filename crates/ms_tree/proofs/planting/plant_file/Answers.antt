use Rattle.std.proofs.Common.{◌≡◌, ℕ, List, [], ◌∷◌, ◌++◌, length, ap, ◌∙◌, subst, IfOk, OnOk, min}
use Rattle.ms_base.specs.declared.names.Name.{Name}
use Rattle.ms_object.specs.Objects.{file_object, object_text}
use Rattle.ms_object.specs.Stores.{text_of}
use Rattle.ms_tree.specs.Planting.{AddsTexts, blob_texts, file_text, named}
use Rattle.ms_tree.proofs.Stored.{kept_more}
use Rattle.ms_tree.proofs.Writing.{writing_more, writing_done}
use Rattle.ms_tree.proofs.planting.plant_file.Goals as goal

pub loop-piece-preserved : goal.loop-piece-preserved
loop-piece-preserved c =
    let step = c.in-Some.ensures.steps in
    let rest = c.loop-piece.piece-iterator.rest.now in
    let size = subst (λ (n : ℕ). length c.in-Some.piece.now ≡ min n (length rest)) c.loop-piece.invariant.size step.1.1 in record {
      size = step.0 ∙ c.loop-piece.invariant.size;
      written = writing_more c.args.format c.args.text.now rest c.in-Some.piece.now c.next.new.self.rest.now c.loop-piece.blobs.items c.push.new.self.items c.in_ok-plant_blob.field-0 (text_of c.args.store.now) (text_of c.loop-piece.store)
          (text_of c.plant_blob.new.store) c.loop-piece.invariant.written step.1.0 size step.1.2 c.in_ok-plant_blob.ensures.name c.in_ok-push.ensures.items c.in_ok-plant_blob.ensures.texts;
    }

pub write_file_of-requires : goal.write_file_of-requires
write_file_of-requires c =
    let done = writing_done c.args.format c.args.text.now c.loop-piece.piece-iterator.rest.now c.loop-piece.blobs.items (text_of c.args.store.now) (text_of c.loop-piece.store) c.loop-piece.invariant.written c.in-None.ensures.steps.1.0 in
    record { fits = c.requires; count = ap length c.as_slice.ensures.value ∙ done.count }

pub returns-clause-name : goal.returns-clause-name
returns-clause-name c =
    let done = writing_done c.args.format c.args.text.now c.loop-piece.piece-iterator.rest.now c.loop-piece.blobs.items (text_of c.args.store.now) (text_of c.loop-piece.store) c.loop-piece.invariant.written c.in-None.ensures.steps.1.0 in
    let text : c.write_file_of.new.out.items ≡ file_text c.args.format c.args.text.now =
    c.in_ok-write_file_of.ensures.ok ∙ ap (λ (l : List ℕ). l ++ object_text (file_object c.args.format (length c.args.text.now) c.as_slice.result.now)) c.new-file.ensures.items
    ∙ ap (λ (blobs : List Name). object_text (file_object c.args.format (length c.args.text.now) blobs)) (c.as_slice.ensures.value ∙ done.names) in
    subst (λ (t : List ℕ). IfOk c.keep.result (λ name. name ≡ named t)) text c.keep.ensures.name

pub returns-clause-texts : goal.returns-clause-texts
returns-clause-texts c =
    let done = writing_done c.args.format c.args.text.now c.loop-piece.piece-iterator.rest.now c.loop-piece.blobs.items (text_of c.args.store.now) (text_of c.loop-piece.store) c.loop-piece.invariant.written c.in-None.ensures.steps.1.0 in
    let text : c.write_file_of.new.out.items ≡ file_text c.args.format c.args.text.now =
    c.in_ok-write_file_of.ensures.ok ∙ ap (λ (l : List ℕ). l ++ object_text (file_object c.args.format (length c.args.text.now) c.as_slice.result.now)) c.new-file.ensures.items
    ∙ ap (λ (blobs : List Name). object_text (file_object c.args.format (length c.args.text.now) blobs)) (c.as_slice.ensures.value ∙ done.names) in
    subst (λ (t : List ℕ). OnOk c.keep.result (AddsTexts (text_of c.args.store.now) (text_of c.keep.new.store) (blob_texts c.args.format c.args.text.now ++ t ∷ []))) text
    (kept_more c.keep.result (text_of c.args.store.now) (text_of c.loop-piece.store) (text_of c.keep.new.store) (blob_texts c.args.format c.args.text.now) (c.write_file_of.new.out.items ∷ []) done.stored c.keep.ensures.texts)
