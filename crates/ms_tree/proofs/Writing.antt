-- Writing the blobs of a file, one after another.
use Rattle.std.proofs.Common.{◌≡◌, ℕ, ◌<◌, min, List, [], ◌∷◌, ◌++◌, sym, ap, ◌∙◌, subst, length, map, append-nil, append_assoc, arith}
use Rattle.std.proofs.lemmas.List.{map-append, length-map}
use Rattle.ms_object.specs.declared.format.Format.{Format}
use Rattle.ms_base.specs.declared.names.Name.{Name}
use Rattle.ms_object.specs.Objects.{blob_object, object_text, blob_size, blobs_in}
use Rattle.ms_object.specs.Trees.{Texts}
use Rattle.ms_tree.specs.Planting.{AddsTexts, named, blob_texts}
use Rattle.ms_tree.proofs.Pieces.{blobs_more, blobs_none, blobs_length}
use Rattle.ms_tree.proofs.Stored.{adds_none, adds_more}

-- the blobs before the rest are written
pub record IsWriting (format : Format) (bytes rest : List ℕ) (blobs : List Name) (old new : Texts) : Type 0 where
  pub texts : List (List ℕ)
  pub whole : blob_texts format bytes ≡ texts ++ blob_texts format rest
  pub names : blobs ≡ map named texts
  pub stored : AddsTexts old new texts

pub writing_none : (format : Format) → (bytes rest : List ℕ) (blobs : List Name) (store : Texts) → rest ≡ bytes → blobs ≡ [] → IsWriting format bytes rest blobs store store
writing_none format bytes rest blobs store e none = record { texts = []; whole = ap (blob_texts format) (sym e); names = none; stored = adds_none store }

pub writing_more : (format : Format) → (bytes rest piece behind : List ℕ) (blobs more : List Name) (name : Name) (old mid new : Texts) → IsWriting format bytes rest blobs old mid → rest ≡ piece ++ behind → length piece ≡ min (blob_size format) (length rest) → 0 < length rest
    → name ≡ named (object_text (blob_object format piece)) → more ≡ blobs ++ name ∷ [] → AddsTexts mid new (object_text (blob_object format piece) ∷ []) → IsWriting format bytes behind more old new
writing_more format bytes rest piece behind blobs more name old mid new w split size some is names adds =
    let text = object_text (blob_object format piece) in
    let size' = subst (λ (l : List ℕ). length piece ≡ min (blob_size format) (length l)) split size in
    let some' = subst (λ (l : List ℕ). 0 < length l) split some in
    let next : blob_texts format rest ≡ text ∷ blob_texts format behind = ap (blob_texts format) split ∙ blobs_more format piece behind size' some' in record {
      texts = w.texts ++ text ∷ [];
      whole = w.whole ∙ ap (λ (l : List (List ℕ)). w.texts ++ l) next ∙ sym (append_assoc w.texts (text ∷ []) (blob_texts format behind));
      names = names ∙ ap (λ (l : List Name). l ++ name ∷ []) w.names ∙ ap (λ (n : Name). map named w.texts ++ n ∷ []) is ∙ sym (map-append named w.texts (text ∷ []));
      stored = adds_more old mid new w.texts (text ∷ []) w.stored adds;
    }

-- all blobs are written
pub record AreWritten (format : Format) (bytes : List ℕ) (blobs : List Name) (old new : Texts) : Type 0 where
  pub names : blobs ≡ map named (blob_texts format bytes)
  pub stored : AddsTexts old new (blob_texts format bytes)
  pub count : length blobs ≡ blobs_in format (length bytes)

pub writing_done : (format : Format) → (bytes rest : List ℕ) (blobs : List Name) (old new : Texts) → IsWriting format bytes rest blobs old new → length rest ≡ 0 → AreWritten format bytes blobs old new
writing_done format bytes [] blobs old new w none =
    let whole : blob_texts format bytes ≡ w.texts = w.whole ∙ ap (λ (l : List (List ℕ)). w.texts ++ l) (blobs_none format) ∙ append-nil w.texts in
    let names : blobs ≡ map named (blob_texts format bytes) = w.names ∙ ap (map named) (sym whole) in record {
      names = names;
      stored = subst (λ (l : List (List ℕ)). AddsTexts old new l) (sym whole) w.stored;
      count = ap length names ∙ length-map (blob_texts format bytes) named ∙ blobs_length format bytes;
    }
writing_done format bytes (b ∷ rest) blobs old new w none = absurd (omega arith)
