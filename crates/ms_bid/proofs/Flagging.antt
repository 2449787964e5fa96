-- Services by their flags.
use Rattle.std.proofs.Common.{◌≡◌, ◌↔◌, ℕ, ◌+◌, ◌<◌, Bool, true, false, List, [], ◌∷◌, ◌++◌, ◌⊎◌, inl, inr, sym, ap, ◌∙◌, subst, length, arith, zero, suc}
use Rattle.std.specs.Prelude.{Contains}
use Rattle.std.proofs.lemmas.Bool.{cases_lt}
use Rattle.std.proofs.lemmas.List.{get_or_past}
use Rattle.std.proofs.lemmas.List.Elements.{Contains-append_cases, Contains-append_left, Contains-append_right}
use Rattle.ms_bid.specs.Ends.{flag_at}

-- the services below a number whose flag is up
abbrev pub AreUpTo : List ℕ → List Bool → ℕ → Type 0
AreUpTo services flags n = (s : ℕ) → Contains services s ↔ ((s < n) × (flag_at flags s ≡ true))

only : (x y : ℕ) → Contains (x ∷ []) y → x ≡ y
only x y (zero, l, e) = e
only x y (suc k, l, e) = absurd (omega (arith, l))

-- a number below the next one is below this one, or this one
below_next : (s n : ℕ) → s < n + 1 → (s < n) ⊎ (s ≡ n)
below_next s n l = elim (cases_lt s n) [ inl b ↦ inl b | inr a ↦ inr (omega (arith, l, a)) ]

pub one_up : (services : List ℕ) (flags : List Bool) (n : ℕ) → AreUpTo services flags n → flag_at flags n ≡ true → AreUpTo (services ++ n ∷ []) flags (n + 1)
one_up services flags n h up s = (there, back) where
  there : Contains (services ++ n ∷ []) s → (s < n + 1) × (flag_at flags s ≡ true)
  there c = elim (Contains-append_cases services (n ∷ []) s c) [
    | inl was ↦ (let p = (h s).0 was in (omega (arith, p.0), p.1))
    | inr is ↦ (let e = only n s is in (omega (arith, e), subst (λ (k : ℕ). flag_at flags k ≡ true) e up))
  ]

  back : (s < n + 1) × (flag_at flags s ≡ true) → Contains (services ++ n ∷ []) s
  back p = elim (below_next s n p.0) [
    | inl b ↦ Contains-append_left services (n ∷ []) s ((h s).1 (b, p.1))
    | inr e ↦ Contains-append_right services (n ∷ []) s (zero, omega arith, sym e)
  ]

pub one_down : (services : List ℕ) (flags : List Bool) (n : ℕ) → AreUpTo services flags n → flag_at flags n ≡ false → AreUpTo services flags (n + 1)
one_down services flags n h down s = (λ c. let p = (h s).0 c in (omega (arith, p.0), p.1), back) where
  back : (s < n + 1) × (flag_at flags s ≡ true) → Contains services s
  back p = elim (below_next s n p.0) [
    | inl b ↦ (h s).1 (b, p.1)
    | inr e ↦ absurd (let q : false ≡ true = sym down ∙ (ap (flag_at flags) (sym e) ∙ p.1) in cc)
  ]

-- past the last number no flag is up
pub all_up : (services : List ℕ) (flags : List Bool) → length flags ≡ 16 → AreUpTo services flags 16 → (s : ℕ) → Contains services s ↔ (flag_at flags s ≡ true)
all_up services flags many h s = (λ c. ((h s).0 c).1, λ e. (h s).1 (within e, e)) where
  within : flag_at flags s ≡ true → s < 16
  within e = elim (cases_lt s 16) [
    | inl l ↦ l
    | inr g ↦ absurd (let q : false ≡ true = sym (get_or_past flags s false (omega (arith, g, many))) ∙ e in cc)
  ]
