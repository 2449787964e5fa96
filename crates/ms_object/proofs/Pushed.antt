-- Texts put at the end, one after another.
use Rattle.std.proofs.Common.{◌≡◌, ℕ, ◌+◌, ◌<◌, List, [], ◌∷◌, ◌++◌, sym, ap, ◌∙◌, append_assoc, append-nil, length, take, get_or}
use Rattle.std.specs.List.{flat_map}
use Rattle.std.proofs.lemmas.Grind.{flat_map-append}
use Rattle.std.proofs.lemmas.List.{take_more}
use Rattle.std.proofs.lemmas.List.Concat.{flat_map-cons}
use Rattle.ms_base.specs.Fields.{Grows}

pub four_pushed : (out a b c d x1 x2 x3 x4 : List ℕ) → x1 ≡ out ++ a → x2 ≡ x1 ++ b → x3 ≡ x2 ++ c → x4 ≡ x3 ++ d → x4 ≡ out ++ (a ++ b ++ c ++ d)
four_pushed out a b c d x1 x2 x3 x4 p1 p2 p3 p4 = rw (p4, p3, p2, p1) (simp append_assoc)

pub five_pushed : (out a b c d e x1 x2 x3 x4 x5 : List ℕ) → x1 ≡ out ++ a → x2 ≡ x1 ++ b → x3 ≡ x2 ++ c → x4 ≡ x3 ++ d → x5 ≡ x4 ++ e → x5 ≡ out ++ (a ++ b ++ c ++ d ++ e)
five_pushed out a b c d e x1 x2 x3 x4 x5 p1 p2 p3 p4 p5 = rw (p5, p4, p3, p2, p1) (simp append_assoc)

pub one_more : (out all f x5 x6 : List ℕ) → x5 ≡ out ++ all → x6 ≡ x5 ++ f → x6 ≡ out ++ (all ++ f)
one_more out all f x5 x6 p5 p6 = rw (p6, p5) (append_assoc out all f)

pub grows_on : (out all old new : List ℕ) → old ≡ out ++ all → Grows old new → Grows out new
grows_on out all old new is h = (all ++ h.0, h.1 ∙ ap (λ (x : List ℕ). x ++ h.0) is ∙ append_assoc out all h.0)

-- one item more, each as a text
pub next_pushed : {X : Type 0} (f : X → List ℕ) (xs : List X) (i : ℕ) (d : X) (out now new : List ℕ) → i < length xs → now ≡ out ++ flat_map f (take i xs) → new ≡ now ++ f (get_or xs i d)
    → new ≡ out ++ flat_map f (take (i + 1) xs)
next_pushed f xs i d out now new within so_far more =
    let item = f (get_or xs i d) in
    let whole : flat_map f (take (i + 1) xs) ≡ flat_map f (take i xs) ++ item =
    rw (take_more xs i d within) (flat_map-append f (take i xs) (get_or xs i d ∷ []) ∙ ap (λ (t : List ℕ). flat_map f (take i xs) ++ t) (flat_map-cons f (get_or xs i d) [] ∙ append-nil item)) in
    more ∙ ap (λ (t : List ℕ). t ++ item) so_far ∙ append_assoc out (flat_map f (take i xs)) item ∙ ap (λ (t : List ℕ). out ++ t) (sym whole)
