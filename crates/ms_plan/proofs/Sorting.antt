-- Sorted lists: under a total order in which only equal items tie, a list has one sorted list.
use Rattle.std.proofs.Common.{◌≡◌, ℕ, zero, suc, ◌+◌, ◌<◌, Bool, true, false, cond, List, [], ◌∷◌, length, map, get_or, refl, sym, ap, subst, ◌∙◌, arith}
use Rattle.std.specs.Prelude.{◌&&◌}
use Rattle.std.proofs.lemmas.Bool.{false≢true}
use Rattle.std.specs.declared.cmp.Ordering.{Ordering}
use Rattle.std.specs.declared.cmp.Ordering.TheVariants.{Less, Equal, Greater}
use Rattle.std.specs.Ordering.{is_lt, is_eq, ordering_reverse}
use Rattle.std.specs.Cmp.{IsTotalOrder}
use Rattle.std.specs.List.{filter, sum_by}
use Rattle.std.specs.List.Sorted.{IsPermutation, IsSorted}
use Rattle.std.proofs.lemmas.Cmp.{alike_right, tied_itself}
use Rattle.std.proofs.lemmas.List.Sums.{sum_by-cons}
use Rattle.std.proofs.lemmas.List.Sorted.{IsPermutation-refl, IsPermutation-sym, IsPermutation-cons, IsPermutation-trans, IsPermutation-swap, sum_by-IsPermutation}
use Rattle.ms_plan.specs.Mapping.{put_sorted, sorted}

-- how often a test passes in a list
abbrev pub times : {X : Type 0} → (X → Bool) → List X → ℕ
times test [] = 0
times test (x ∷ xs) = cond (test x) 1 0 + times test xs

times_is_sum : {X : Type 0} (test : X → Bool) (xs : List X) → times test xs ≡ sum_by (λ x. cond (test x) 1 0) xs
times_is_sum test [] = refl
times_is_sum test (x ∷ xs) = ap (λ (n : ℕ). cond (test x) 1 0 + n) (times_is_sum test xs) ∙ sym (sum_by-cons (λ x. cond (test x) 1 0) x xs)

pub times-permutation : {X : Type 0} (test : X → Bool) (xs ys : List X) → IsPermutation xs ys → times test ys ≡ times test xs
times-permutation test xs ys h = times_is_sum test ys ∙ sum_by-IsPermutation (λ x. cond (test x) 1 0) xs ys h ∙ sym (times_is_sum test xs)

-- in a filtered list a test passes where both do
pub times-filter : {X : Type 0} (test keep : X → Bool) (xs : List X) → times test (filter keep xs) ≡ times (λ x. keep x && test x) xs
times-filter test keep [] = refl
times-filter test keep (x ∷ xs) =
    elim (keep x) as (λ (b : Bool). times test (cond b (x ∷ filter keep xs) (filter keep xs)) ≡ cond (b && test x) 1 0 + times (λ y. keep y && test y) xs) [
      | true ↦ ap (λ (n : ℕ). cond (test x) 1 0 + n) (times-filter test keep xs)
      | false ↦ let h = times-filter test keep xs in omega (arith, h)
    ]

-- an item is put in, and nothing else changes
times-put : {X : Type 0} (compare : X → X → Ordering) (test : X → Bool) (x : X) (xs : List X) → times test (put_sorted compare x xs) ≡ cond (test x) 1 0 + times test xs
times-put compare test x [] = refl
times-put compare test x (y ∷ ys) =
    elim (is_lt (compare y x)) as (λ (b : Bool). times test (cond b (y ∷ put_sorted compare x ys) (x ∷ y ∷ ys)) ≡ cond (test x) 1 0 + (cond (test y) 1 0 + times test ys)) [
      | true ↦ let h = times-put compare test x ys in omega (arith, h)
      | false ↦ refl
    ]

pub times-sorted : {X : Type 0} (compare : X → X → Ordering) (test : X → Bool) (xs : List X) → times test (sorted compare xs) ≡ times test xs
times-sorted compare test [] = refl
times-sorted compare test (x ∷ xs) = times-put compare test x (sorted compare xs) ∙ ap (λ (n : ℕ). cond (test x) 1 0 + n) (times-sorted compare test xs)

put_permutes : {X : Type 0} (compare : X → X → Ordering) (x : X) (xs : List X) → IsPermutation (x ∷ xs) (put_sorted compare x xs)
put_permutes compare x [] = IsPermutation-refl (x ∷ [])
put_permutes compare x (y ∷ ys) =
    elim (is_lt (compare y x)) as (λ (b : Bool). IsPermutation (x ∷ y ∷ ys) (cond b (y ∷ put_sorted compare x ys) (x ∷ y ∷ ys))) [
      | true ↦ IsPermutation-trans (x ∷ y ∷ ys) (y ∷ x ∷ ys) (y ∷ put_sorted compare x ys) (IsPermutation-swap (x ∷ y ∷ ys) (y ∷ x ∷ ys) 0 1 (omega arith) (omega arith) refl)
          (IsPermutation-cons y (x ∷ ys) (put_sorted compare x ys) (put_permutes compare x ys))
      | false ↦ IsPermutation-refl (x ∷ y ∷ ys)
    ]

pub sorted_permutes : {X : Type 0} (compare : X → X → Ordering) (xs : List X) → IsPermutation xs (sorted compare xs)
sorted_permutes compare [] = IsPermutation-refl []
sorted_permutes compare (x ∷ xs) =
    IsPermutation-trans (x ∷ xs) (x ∷ sorted compare xs) (sorted compare (x ∷ xs)) (IsPermutation-cons x xs (sorted compare xs) (sorted_permutes compare xs)) (put_permutes compare x (sorted compare xs))

put-map : {X Y : Type 0} (f : X → Y) (compare : Y → Y → Ordering) (x : X) (xs : List X) → put_sorted compare (f x) (map f xs) ≡ map f (put_sorted (λ a b. compare (f a) (f b)) x xs)
put-map f compare x [] = refl
put-map f compare x (y ∷ ys) =
    elim (is_lt (compare (f y) (f x))) as (λ (b : Bool). cond b (f y ∷ put_sorted compare (f x) (map f ys)) (f x ∷ f y ∷ map f ys) ≡ map f (cond b (y ∷ put_sorted (λ a b. compare (f a) (f b)) x ys) (x ∷ y ∷ ys))) [
      | true ↦ ap (λ zs. f y ∷ zs) (put-map f compare x ys)
      | false ↦ refl
    ]

-- items are sorted as what is computed of each is compared
pub sorted-map : {X Y : Type 0} (f : X → Y) (compare : Y → Y → Ordering) (xs : List X) → sorted compare (map f xs) ≡ map f (sorted (λ a b. compare (f a) (f b)) xs)
sorted-map f compare [] = refl
sorted-map f compare (x ∷ xs) = ap (λ zs. put_sorted compare (f x) zs) (sorted-map f compare xs) ∙ put-map f compare x (sorted (λ a b. compare (f a) (f b)) xs)

turned : (r : Ordering) → is_lt r ≡ true → is_lt (ordering_reverse r) ≡ false
turned Less h = refl
turned Equal h = refl
turned Greater h = absurd (false≢true h)

neither : (r : Ordering) → is_lt r ≡ false → is_lt (ordering_reverse r) ≡ false → r ≡ Equal
neither Less h k = absurd (false≢true (sym h))
neither Equal h k = refl
neither Greater h k = absurd (false≢true (sym k))

is_less : (r : Ordering) → is_lt r ≡ true → r ≡ Less
is_less Less h = refl
is_less Equal h = absurd (false≢true h)
is_less Greater h = absurd (false≢true h)

module _ {X : Type 0} {compare : X → X → Ordering} (o : IsTotalOrder compare) where
  -- no item of the list is below this one
  abbrev pub NoneBelow : X → List X → Type 0
  NoneBelow x [] = Unit {0}
  NoneBelow x (y ∷ ys) = (is_lt (compare y x) ≡ false) × NoneBelow x ys

  -- no item is below one before it
  abbrev pub Rises : List X → Type 0
  Rises [] = Unit {0}
  Rises (x ∷ xs) = NoneBelow x xs × Rises xs

  not_above : (x y : X) → is_lt (compare x y) ≡ true → is_lt (compare y x) ≡ false
  not_above x y h = ap is_lt (o.antisymm y x) ∙ turned (compare x y) h

  -- what is not below y is not below what y is not below
  not_below : (x y z : X) → is_lt (compare y x) ≡ false → is_lt (compare z y) ≡ false → is_lt (compare z x) ≡ false
  not_below x y z h k =
      elim (is_lt (compare z x)) as (λ (b : Bool). is_lt (compare z x) ≡ b → b ≡ false) [
        | true ↦ λ e. elim (is_lt (compare x y)) as (λ (b : Bool). is_lt (compare x y) ≡ b → true ≡ false) [
          | true ↦ λ f. sym (ap is_lt (o.trans z x y (is_less (compare z x) e) (is_less (compare x y) f))) ∙ k
          | false ↦ λ f. sym e ∙ ap is_lt (alike_right o x y z (neither (compare x y) f (sym (ap is_lt (o.antisymm y x)) ∙ h))) ∙ k
        ] refl
        | false ↦ λ e. refl
      ] refl

  none_below_none : (x y : X) (ys : List X) → is_lt (compare y x) ≡ false → NoneBelow y ys → NoneBelow x ys
  none_below_none x y [] h all = tt
  none_below_none x y (z ∷ zs) h all = (not_below x y z h all.0, none_below_none x y zs h all.1)

  none_below_put : (x y : X) (ys : List X) → is_lt (compare y x) ≡ false → NoneBelow x ys → NoneBelow x (put_sorted compare y ys)
  none_below_put x y [] h all = (h, tt)
  none_below_put x y (z ∷ zs) h all =
      elim (is_lt (compare z y)) as (λ (b : Bool). NoneBelow x (cond b (z ∷ put_sorted compare y zs) (y ∷ z ∷ zs))) [
        | true ↦ (all.0, none_below_put x y zs h all.1)
        | false ↦ (h, all)
      ]

  rises_put : (x : X) (ys : List X) → Rises ys → Rises (put_sorted compare x ys)
  rises_put x [] h = (tt, tt)
  rises_put x (y ∷ ys) h =
      elim (is_lt (compare y x)) as (λ (b : Bool). is_lt (compare y x) ≡ b → Rises (cond b (y ∷ put_sorted compare x ys) (x ∷ y ∷ ys))) [
        | true ↦ λ e. (none_below_put y x ys (not_above y x e) h.0, rises_put x ys h.1)
        | false ↦ λ e. ((e, none_below_none x y ys e h.0), h)
      ] refl

  pub rises_sorted : (xs : List X) → Rises (sorted compare xs)
  rises_sorted [] = tt
  rises_sorted (x ∷ xs) = rises_put x (sorted compare xs) (rises_sorted xs)

  none_below-filter : (keep : X → Bool) (x : X) (ys : List X) → NoneBelow x ys → NoneBelow x (filter keep ys)
  none_below-filter keep x [] h = tt
  none_below-filter keep x (y ∷ ys) h =
      elim (keep y) as (λ (b : Bool). NoneBelow x (cond b (y ∷ filter keep ys) (filter keep ys))) [
        | true ↦ (h.0, none_below-filter keep x ys h.1)
        | false ↦ none_below-filter keep x ys h.1
      ]

  rises-filter : (keep : X → Bool) (xs : List X) → Rises xs → Rises (filter keep xs)
  rises-filter keep [] h = tt
  rises-filter keep (x ∷ xs) h =
      elim (keep x) as (λ (b : Bool). Rises (cond b (x ∷ filter keep xs) (filter keep xs))) [
        | true ↦ (none_below-filter keep x xs h.0, rises-filter keep xs h.1)
        | false ↦ rises-filter keep xs h.1
      ]

  -- this item, or one that ties with it
  abbrev pub is_at : X → X → Bool
  is_at x y = is_eq (compare x y)

  equal_is : (r : Ordering) → is_eq r ≡ true → r ≡ Equal
  equal_is Less h = absurd (false≢true h)
  equal_is Equal h = refl
  equal_is Greater h = absurd (false≢true h)

  -- what stands in a list of which nothing is below y is not below y
  found_above : (x y : X) (ys : List X) → NoneBelow y ys → 0 < times (is_at x) ys → is_lt (compare x y) ≡ false
  found_above x y [] all h = absurd (omega arith)
  found_above x y (z ∷ zs) all h =
      elim (is_at x z) as (λ (b : Bool). is_at x z ≡ b → 0 < cond b 1 0 + times (is_at x) zs → is_lt (compare x y) ≡ false) [
        | true ↦ λ e k. ap is_lt (o.congr x z y (equal_is (compare x z) e)) ∙ all.0
        | false ↦ λ e k. found_above x y zs all.1 (omega (arith, k))
      ] refl h

  first_above : (x y : X) (ys : List X) → Rises (y ∷ ys) → 0 < times (is_at x) (y ∷ ys) → is_lt (compare x y) ≡ false
  first_above x y ys h k = found_above x y (y ∷ ys) (ap is_lt (tied_itself o y), h.0) k

  at_itself : (x : X) (xs : List X) → 0 < times (is_at x) (x ∷ xs)
  at_itself x xs = subst (λ (r : Ordering). 0 < cond (is_eq r) 1 0 + times (is_at x) xs) (sym (tied_itself o x)) (omega arith)

  module _ (same : (x y : X) → compare x y ≡ Equal → x ≡ y) where
    -- two lists without a fall in which each item stands as often are one
    pub one_sorted : (xs ys : List X) → Rises xs → Rises ys → ((x : X) → times (is_at x) xs ≡ times (is_at x) ys) → xs ≡ ys
    one_sorted [] [] h k count = refl
    one_sorted [] (y ∷ ys) h k count = absurd (let p = at_itself y ys in omega (arith, p, count y))
    one_sorted (x ∷ xs) [] h k count = absurd (let p = at_itself x xs in omega (arith, p, count x))
    one_sorted (x ∷ xs) (y ∷ ys) h k count =
        let a : is_lt (compare x y) ≡ false = first_above x y ys k (subst (λ (n : ℕ). 0 < n) (count x) (at_itself x xs)) in
        let b : is_lt (compare y x) ≡ false = first_above y x xs h (subst (λ (n : ℕ). 0 < n) (sym (count y)) (at_itself y ys)) in
        let e : x ≡ y = same x y (neither (compare x y) a (sym (ap is_lt (o.antisymm y x)) ∙ b)) in
        let rest : (z : X) → times (is_at z) xs ≡ times (is_at z) ys = λ z. let c = count z in let d = ap {B = ℕ} (λ (w : X). cond (is_at z w) 1 0) e in omega (arith, c, d) in
        let others : xs ≡ ys = one_sorted xs ys h.1 k.1 rest in
        λ i. e i ∷ others i

    -- a list that only moves the items and has no fall is the sorted list
    pub sorted_only : (xs ys : List X) → IsPermutation xs ys → Rises ys → ys ≡ sorted compare xs
    sorted_only xs ys moved rises = one_sorted ys (sorted compare xs) rises (rises_sorted xs) (λ x. times-permutation (is_at x) xs ys moved ∙ sym (times-sorted compare (is_at x) xs))

    -- what is left out before sorting can be left out afterwards
    pub sorted-filter : (keep : X → Bool) (xs : List X) → sorted compare (filter keep xs) ≡ filter keep (sorted compare xs)
    sorted-filter keep xs =
        one_sorted (sorted compare (filter keep xs)) (filter keep (sorted compare xs)) (rises_sorted (filter keep xs)) (rises-filter keep (sorted compare xs) (rises_sorted xs))
        (λ x. times-sorted compare (is_at x) (filter keep xs) ∙ times-filter (is_at x) keep xs ∙ sym (times-sorted compare (λ y. keep y && is_at x y) xs) ∙ sym (times-filter (is_at x) keep (sorted compare xs)))

    -- lists in which each item stands as often have the same items
    pub permutation_from_times : (xs ys : List X) → ((x : X) → times (is_at x) xs ≡ times (is_at x) ys) → IsPermutation xs ys
    permutation_from_times xs ys count =
        let one : sorted compare xs ≡ sorted compare ys = one_sorted (sorted compare xs) (sorted compare ys) (rises_sorted xs) (rises_sorted ys) (λ x. times-sorted compare (is_at x) xs ∙ count x ∙ sym (times-sorted compare (is_at x) ys)) in
        IsPermutation-trans xs (sorted compare xs) ys (sorted_permutes compare xs) (subst (λ (zs : List X). IsPermutation zs ys) (sym one) (IsPermutation-sym ys (sorted compare ys) (sorted_permutes compare ys)))

  -- ---- by places, as std says it

  falls_nowhere : (x : X) (xs : List X) (k : ℕ) (d : X) → NoneBelow x xs → k < length xs → is_lt (compare (get_or xs k d) x) ≡ false
  falls_nowhere x [] k d h below = absurd (omega arith)
  falls_nowhere x (y ∷ ys) zero d h below = h.0
  falls_nowhere x (y ∷ ys) (suc k) d h below = falls_nowhere x ys k d h.1 (omega arith)

  at_next : (x : X) (xs : List X) (k : ℕ) (d : X) → get_or (x ∷ xs) (k + 1) d ≡ get_or xs k d
  at_next x xs k d = let e : k + 1 ≡ suc k = omega arith in ap (λ (n : ℕ). get_or (x ∷ xs) n d) e

  pub sorted_from_rises : (xs : List X) → Rises xs → IsSorted compare xs
  sorted_from_rises [] h k d low high = absurd (omega arith)
  sorted_from_rises (x ∷ xs) h zero d low high = ap (λ (y : X). is_lt (compare y x)) (at_next x xs 0 d) ∙ falls_nowhere x xs 0 d h.0 (omega arith)
  sorted_from_rises (x ∷ xs) h (suc k) d low high =
      let e : suc k + 1 ≡ suc (k + 1) = omega arith in
      ap (λ (n : ℕ). is_lt (compare (get_or (x ∷ xs) n d) (get_or xs k d))) e ∙ sorted_from_rises xs h.1 k d (omega arith) (omega arith)

  pub rises_from_sorted : (xs : List X) → IsSorted compare xs → Rises xs
  rises_from_sorted [] h = tt
  rises_from_sorted (x ∷ []) h = (tt, tt)
  rises_from_sorted (x ∷ y ∷ ys) h =
      let first : is_lt (compare y x) ≡ false = h 0 x (omega arith) (omega arith) in
      let others : Rises (y ∷ ys) = rises_from_sorted (y ∷ ys) (λ k d low high. let e : suc (k + 1) ≡ suc k + 1 = omega arith in ap (λ (n : ℕ). is_lt (compare (get_or (x ∷ y ∷ ys) n d) (get_or (y ∷ ys) k d))) e ∙ h (suc k) d (omega arith) (omega arith)) in
      ((first, none_below_none x y ys first others.0), others)
