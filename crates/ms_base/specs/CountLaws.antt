-- How many of a list pass a test, one member at a time.
use Rattle.std.proofs.Common.{◌≡◌, ◌+◌, ◌<◌, ◌≤◌, Bool, true, false, cond, List, [], ◌∷◌, refl, ap, ◌∙◌, count_by, arith}
use Rattle.std.proofs.lemmas.List.Sums.{sum_by-cons}

pub cond_le : (a b : Bool) → (a ≡ true → b ≡ true) → cond a 1 0 ≤ cond b 1 0
cond_le true true h = omega arith
cond_le true false h = (let q : false ≡ true = h refl in cc)
cond_le false b h = omega arith

module _ {X : Type 0} where
  pub count_cons : (p : X → Bool) (x : X) (xs : List X) → count_by p (x ∷ xs) ≡ cond (p x) 1 0 + count_by p xs
  count_cons p x xs = sum_by-cons (λ s. cond (p s) 1 0) x xs

  -- where the first one's test is known
  pub count_known : (p : X → Bool) (x : X) (xs : List X) (a : Bool) → p x ≡ a → count_by p (x ∷ xs) ≡ cond a 1 0 + count_by p xs
  count_known p x xs a e = count_cons p x xs ∙ ap (λ (v : Bool). cond v 1 0 + count_by p xs) e

  pub count_le : (p q : X → Bool) (xs : List X) → ((s : X) → p s ≡ true → q s ≡ true) → count_by p xs ≤ count_by q xs
  count_le p q [] h = omega arith
  count_le p q (x ∷ xs) h = omega (arith, count_cons p x xs, count_cons q x xs, cond_le (p x) (q x) (h x), count_le p q xs h)

  -- of those that are counted there is one
  pub count_some : (p : X → Bool) (xs : List X) → 0 < count_by p xs → (s : X) × (p s ≡ true)
  count_some p [] h = absurd (omega arith)
  count_some p (x ∷ xs) h = some_step (p x) refl (count_some p xs) (omega (arith, count_cons p x xs))
    where
      some_step : (b : Bool) → p x ≡ b → (0 < count_by p xs → (s : X) × (p s ≡ true)) → 0 < cond b 1 0 + count_by p xs → (s : X) × (p s ≡ true)
      some_step true e rest h = (x, e)
      some_step false e rest h = rest (omega arith)
