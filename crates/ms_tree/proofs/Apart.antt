-- Texts that differ before either ends: different labels behind the same front, and all that goes on from them.
use Rattle.std.proofs.Common.{◌≢◌, ℕ, zero, suc, List, [], ◌∷◌, ◌++◌, Contains, refl, sym, ap, subst, ◌∙◌, arith, inl, inr}
use Rattle.std.proofs.lemmas.Bool.{cases_eq}
use Rattle.std.proofs.lemmas.List.{length-append, get_or_append_left}
use Rattle.ms_tree.specs.Gathering.{Differ}

pub Differ-sym : (x y : List ℕ) → Differ x y → Differ y x
Differ-sym x y d = record { place = d.place; in_one = d.in_other; in_other = d.in_one; apart = λ e. d.apart (sym e) }

-- both may go on
pub Differ-on : (x y a b : List ℕ) → Differ x y → Differ (x ++ a) (y ++ b)
Differ-on x y a b d = record {
  place = d.place;
  in_one = omega (arith, length-append x a, d.in_one);
  in_other = omega (arith, length-append y b, d.in_other);
  apart = λ e. d.apart (sym (get_or_append_left x a 0 d.place d.in_one) ∙ e ∙ get_or_append_left y b 0 d.place d.in_other);
}

Differ-cons : (c : ℕ) (x y : List ℕ) → Differ x y → Differ (c ∷ x) (c ∷ y)
Differ-cons c x y d = record { place = suc d.place; in_one = omega (arith, d.in_one); in_other = omega (arith, d.in_other); apart = d.apart }

-- both may have the same front
pub Differ-behind : (front x y : List ℕ) → Differ x y → Differ (front ++ x) (front ++ y)
Differ-behind [] x y d = d
Differ-behind (c ∷ front) x y d = Differ-cons c (front ++ x) (front ++ y) (Differ-behind front x y d)

-- different labels differ, once each has its end
pub labels_differ : (one other : List ℕ) → (Contains one 47 → ⊥) → (Contains other 47 → ⊥) → one ≢ other → Differ (one ++ 47 ∷ []) (other ++ 47 ∷ [])
labels_differ [] [] p q ne = absurd (ne refl)
labels_differ [] (b ∷ other) p q ne = record { place = zero; in_one = omega arith; in_other = omega arith; apart = λ e. q (zero, omega arith, sym e) }
labels_differ (a ∷ one) [] p q ne = record { place = zero; in_one = omega arith; in_other = omega arith; apart = λ e. p (zero, omega arith, e) }
labels_differ (a ∷ one) (b ∷ other) p q ne =
    elim (cases_eq a b) [
      | inl same ↦ subst (λ (c : ℕ). Differ (a ∷ one ++ 47 ∷ []) (c ∷ other ++ 47 ∷ [])) same
          (Differ-cons a (one ++ 47 ∷ []) (other ++ 47 ∷ [])
          (labels_differ one other (λ h. p (suc h.0, omega (arith, h.1), h.2)) (λ h. q (suc h.0, omega (arith, h.1), h.2))
          (λ e. ne (ap (λ (c : ℕ). c ∷ one) same ∙ ap (λ (t : List ℕ). b ∷ t) e))))
      | inr apart ↦ record { place = zero; in_one = omega arith; in_other = omega arith; apart = apart }
    ]
