-- The pieces of a text.
use Rattle.std.proofs.Common.{◌≡◌, ℕ, zero, suc, ◌-◌, ◌<◌, ◌≤◌, min, List, [], ◌∷◌, ◌++◌, refl, sym, ap, ◌∙◌, length, map, take, drop, take_at, drop_at, take_all, length-append, ◌⊎◌, inl, inr, arith}
use Rattle.std.proofs.lemmas.Bool.{cases_lt}
use Rattle.std.proofs.lemmas.List.{drop_all, nil_from_length, length-map, append-nil}
use Rattle.ms_object.specs.declared.format.Format.{Format}
use Rattle.ms_object.specs.declared.format.Format.TheVariants as formats
use Rattle.ms_object.specs.Objects.{blob_object, object_text, blob_size, blobs_in}
use Rattle.ms_tree.specs.Planting.{pieces, blob_texts}

pub count_more : (format : Format) → (n : ℕ) → 0 < n → blobs_in format n ≡ suc (blobs_in format (n - blob_size format))
count_more formats.One n some = omega arith
count_more formats.Two n some = omega arith

pub positive : (format : Format) → 1 ≤ blob_size format
positive formats.One = omega arith
positive formats.Two = omega arith

pub blobs_none : (format : Format) → blob_texts format [] ≡ []
blobs_none formats.One = refl
blobs_none formats.Two = refl

pub blobs_length : (format : Format) → (bytes : List ℕ) → length (blob_texts format bytes) ≡ blobs_in format (length bytes)
blobs_length format bytes = length-map (pieces format (blobs_in format (length bytes)) bytes) _ ∙ count (blobs_in format (length bytes)) bytes
  where
    count : (n : ℕ) (bytes : List ℕ) → length (pieces format n bytes) ≡ n
    count zero bytes = refl
    count (suc n) bytes = ap suc (count n (drop (blob_size format) bytes))

rest_length : (format : Format) → (piece rest : List ℕ) → length piece ≡ min (blob_size format) (length (piece ++ rest)) → length rest ≡ length (piece ++ rest) - blob_size format
rest_length format piece rest size = omega (arith, length-append piece rest)

whole_or_last : (format : Format) → (piece rest : List ℕ) → length piece ≡ min (blob_size format) (length (piece ++ rest)) → (length piece ≡ blob_size format) ⊎ (length (piece ++ rest) ≤ blob_size format)
whole_or_last format piece rest size = elim (cases_lt (length (piece ++ rest)) (blob_size format)) [ inl short ↦ inr (omega arith) | inr long ↦ inl (omega arith) ]

front_piece : (format : Format) → (piece rest : List ℕ) → length piece ≡ min (blob_size format) (length (piece ++ rest)) → take (blob_size format) (piece ++ rest) ≡ piece
front_piece format piece rest size =
    elim (whole_or_last format piece rest size) [
      | inl whole ↦ take_at piece rest (blob_size format) whole
      | inr last ↦ (let none : rest ≡ [] = nil_from_length rest (omega (arith, rest_length format piece rest size)) in
          take_all (blob_size format) (piece ++ rest) last ∙ ap (λ (l : List ℕ). piece ++ l) none ∙ append-nil piece)
    ]

back_piece : (format : Format) → (piece rest : List ℕ) → length piece ≡ min (blob_size format) (length (piece ++ rest)) → drop (blob_size format) (piece ++ rest) ≡ rest
back_piece format piece rest size =
    elim (whole_or_last format piece rest size) [
      | inl whole ↦ drop_at piece rest (blob_size format) whole
      | inr last ↦ (let none : rest ≡ [] = nil_from_length rest (omega (arith, rest_length format piece rest size)) in drop_all (blob_size format) (piece ++ rest) last ∙ sym none)
    ]

texts_of : (format : Format) → ℕ → List ℕ → List (List ℕ)
texts_of format n bytes = map (λ piece. object_text (blob_object format piece)) (pieces format n bytes)

texts_more : (format : Format) → (n : ℕ) (bytes piece rest : List ℕ) → take (blob_size format) bytes ≡ piece → drop (blob_size format) bytes ≡ rest → texts_of format (suc n) bytes ≡ object_text (blob_object format piece) ∷ texts_of format n rest
unfolding texts_of
texts_more format n bytes piece rest f b = ap (λ (p : List ℕ). object_text (blob_object format p) ∷ texts_of format n (drop (blob_size format) bytes)) f ∙ ap (λ (l : List ℕ). object_text (blob_object format piece) ∷ texts_of format n l) b

texts_are : (format : Format) → (bytes : List ℕ) → blob_texts format bytes ≡ texts_of format (blobs_in format (length bytes)) bytes
unfolding texts_of
texts_are format bytes = refl

-- a piece, and those of the rest
pub blobs_more : (format : Format) → (piece rest : List ℕ) → length piece ≡ min (blob_size format) (length (piece ++ rest)) → 0 < length (piece ++ rest) → blob_texts format (piece ++ rest) ≡ object_text (blob_object format piece) ∷ blob_texts format rest
blobs_more format piece rest size some =
    texts_are format (piece ++ rest)
    ∙ ap (λ (n : ℕ). texts_of format n (piece ++ rest)) (count_more format (length (piece ++ rest)) some ∙ ap (λ (n : ℕ). suc (blobs_in format n)) (sym (rest_length format piece rest size)))
    ∙ texts_more format (blobs_in format (length rest)) (piece ++ rest) piece rest (front_piece format piece rest size) (back_piece format piece rest size)
    ∙ ap (λ (l : List (List ℕ)). object_text (blob_object format piece) ∷ l) (sym (texts_are format rest))
