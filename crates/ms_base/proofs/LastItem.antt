-- The last item of a list takes another's place.
use Rattle.std.proofs.Common.{◌≡◌, ℕ, ◌+◌, ◌-◌, ◌≤◌, List, [], ◌∷◌, ◌++◌, length, slice_set, sym, ap, ◌∙◌, arith}
use Rattle.std.proofs.Math.Seq.{set-append_seam}
use Rattle.std.proofs.lemmas.List.{length_push}

pub last_set : {T : Type 0} (items front : List T) (last item : T) (count : ℕ) → items ≡ front ++ last ∷ [] → count ≡ length items → slice_set items (count - 1) item ≡ front ++ item ∷ []
last_set items front last item count is many =
    let place : count - 1 ≡ length front = omega (arith, many, ap (λ (l : List _). length l) is, length_push front last) in
    ap (λ (n : ℕ). slice_set items n item) place ∙ ap (λ (l : List _). slice_set l (length front) item) is ∙ set-append_seam front last [] item
