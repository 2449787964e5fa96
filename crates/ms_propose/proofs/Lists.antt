-- Fronts of lists of flags and of sights.
use Rattle.std.proofs.Common.{◌≡◌, ℕ, zero, suc, ◌+◌, ◌*◌, ◌≤◌, ◌<◌, ◌==◌, Bool, true, false, cond, List, [], ◌∷◌, refl, sym, ap, ◌∙◌, length, take, slice_set, slice_index_or, count_by, replicate, arith}
use Rattle.std.specs.Prelude.{Contains, ◌||◌}
use Rattle.std.specs.List.{list_any}
use Rattle.std.proofs.lemmas.List.{get_or-take, take-replicate}
use Rattle.std.proofs.lemmas.List.Sums.{sum_by-cons}
use Rattle.std.proofs.lemmas.Bool.Decides.{nat_tests}
use Rattle.ms_base.specs.Places.{in_here, in_later}

-- a front of a list with one place set
pub take_set : {X : Type 0} (n : ℕ) (xs : List X) (s : ℕ) (x : X) → take n (slice_set xs s x) ≡ slice_set (take n xs) s x
take_set zero [] s x = refl
take_set (suc n) [] s x = refl
take_set zero (y ∷ xs) zero x = refl
take_set zero (y ∷ xs) (suc s) x = refl
take_set (suc n) (y ∷ xs) zero x = refl
take_set (suc n) (y ∷ xs) (suc s) x = ap (λ l. y ∷ l) (take_set n xs s x)

pub take_at : {X : Type 0} (n : ℕ) (xs : List X) (s : ℕ) (d : X) → s < n → slice_index_or (take n xs) s d ≡ slice_index_or xs s d
take_at n xs s d l = get_or-take n xs s d l

pub take_fresh : {X : Type 0} (n : ℕ) (x : X) → n ≤ 16 → take n (replicate 16 x) ≡ replicate n x
take_fresh n x l = take-replicate n 16 x l

-- no flag is set before the first is
pub flag_none : (n s : ℕ) → slice_index_or (replicate n false) s false ≡ false
flag_none zero s = refl
flag_none (suc n) zero = refl
flag_none (suc n) (suc s) = flag_none n s

count_cons : (p : ℕ → Bool) (x : ℕ) (xs : List ℕ) → count_by p (x ∷ xs) ≡ cond (p x) 1 0 + count_by p xs
count_cons p x xs = sum_by-cons (λ s. cond (p s) 1 0) x xs

-- tests that agree at each of the voters count alike
pub count_same : (p q : ℕ → Bool) (voters : List ℕ) → ((s : ℕ) → Contains voters s → p s ≡ q s) → count_by p voters ≡ count_by q voters
count_same p q [] h = refl
count_same p q (x ∷ xs) h =
    count_cons p x xs ∙ (ap (λ (b : Bool). cond b 1 0 + count_by p xs) (h x (in_here x xs))
    ∙ (ap (λ (k : ℕ). cond (q x) 1 0 + k) (count_same p q xs (λ s c. h s (in_later x xs s c))) ∙ sym (count_cons q x xs)))

-- two tests that more than half of the voters pass have a voter in common
meet_step : (p q : ℕ → Bool) (x : ℕ) (xs : List ℕ) (a b : Bool) → p x ≡ a → q x ≡ b
    → (length xs < count_by p xs + count_by q xs → (s : ℕ) × (p s ≡ true) × (q s ≡ true))
    → length (x ∷ xs) < count_by p (x ∷ xs) + count_by q (x ∷ xs) → (s : ℕ) × (p s ≡ true) × (q s ≡ true)
meet_step p q x xs true true pa qb rest h = (x, pa, qb)
meet_step p q x xs true false pa qb rest h = rest (omega (arith, count_cons p x xs ∙ ap (λ (v : Bool). cond v 1 0 + count_by p xs) pa, count_cons q x xs ∙ ap (λ (v : Bool). cond v 1 0 + count_by q xs) qb))
meet_step p q x xs false true pa qb rest h = rest (omega (arith, count_cons p x xs ∙ ap (λ (v : Bool). cond v 1 0 + count_by p xs) pa, count_cons q x xs ∙ ap (λ (v : Bool). cond v 1 0 + count_by q xs) qb))
meet_step p q x xs false false pa qb rest h = rest (omega (arith, count_cons p x xs ∙ ap (λ (v : Bool). cond v 1 0 + count_by p xs) pa, count_cons q x xs ∙ ap (λ (v : Bool). cond v 1 0 + count_by q xs) qb))

parts_meet : (p q : ℕ → Bool) (xs : List ℕ) → length xs < count_by p xs + count_by q xs → (s : ℕ) × (p s ≡ true) × (q s ≡ true)
parts_meet p q [] h = absurd (omega arith)
parts_meet p q (x ∷ xs) h = meet_step p q x xs (p x) (q x) refl refl (parts_meet p q xs) h

pub halves_meet : (p q : ℕ → Bool) (voters : List ℕ) → length voters < 2 * count_by p voters → length voters < 2 * count_by q voters → (s : ℕ) × (p s ≡ true) × (q s ≡ true)
halves_meet p q voters a b = parts_meet p q voters (omega (arith, a, b))

-- membership by a test
pub is_member : (voters : List ℕ) (s : ℕ) → list_any (λ v. v == s) voters ≡ true → Contains voters s
is_member [] s h = absurd cc
is_member (x ∷ xs) s h = by (x == s) refl h (is_member xs s) where
  by : (t : Bool) → (x == s) ≡ t → (t || list_any (λ v. v == s) xs) ≡ true → (list_any (λ v. v == s) xs ≡ true → Contains xs s) → Contains (x ∷ xs) s
  by true e k rest = (zero, omega arith, grind (arith, nat_tests, e))
  by false e k rest = in_later x xs s (rest k)

pub member_is : (voters : List ℕ) (s : ℕ) → Contains voters s → list_any (λ v. v == s) voters ≡ true
member_is [] s h = absurd (omega (arith, h.1))
member_is (x ∷ xs) s (zero, l, e) = ap (λ (t : Bool). t || list_any (λ v. v == s) xs) (let q : (x == s) ≡ true = grind (arith, nat_tests, e) in q)
member_is (x ∷ xs) s (suc k, l, e) = by (x == s) (member_is xs s (k, omega (arith, l), e)) where
  by : (t : Bool) → list_any (λ v. v == s) xs ≡ true → (t || list_any (λ v. v == s) xs) ≡ true
  by true h = refl
  by false h = h
