-- Beginnings of lists, and the longer of two.
use Rattle.std.proofs.Common.{◌≡◌, ℕ, zero, suc, ◌<◌, ◌≤◌, List, [], ◌∷◌, ◌++◌, length, nat_lt, true, false, refl, sym, ap, ◌∙◌, subst, arith, length-append, append_assoc}
use Rattle.std.proofs.lemmas.Bool.Decides.{nat_tests}
use Rattle.std.specs.Prelude.{if◌then◌else◌, Some, slice_get}
use mathlib.Core.List.{IsPrefix}
use mathlib.Core.Logic.{dite}
use native.Mathlib.Decide.{dec_le}
use Rattle.ms_ken.specs.Lists.{longer}

module _ {E : Type 0} where
  pub prefix_self : (xs : List E) → IsPrefix xs xs
  prefix_self [] = ([], refl)
  prefix_self (x ∷ xs) = ((prefix_self xs).0, ap (λ ys. x ∷ ys) (prefix_self xs).1)

  pub prefix_trans : (xs ys zs : List E) → IsPrefix xs ys → IsPrefix ys zs → IsPrefix xs zs
  prefix_trans xs ys zs p q = (p.0 ++ q.0, sym (append_assoc xs p.0 q.0) ∙ (ap (λ w. w ++ q.0) p.1 ∙ q.1))

  pub prefix_item : (xs : List E) (x : E) → IsPrefix xs (xs ++ x ∷ [])
  prefix_item xs x = (x ∷ [], refl)

  pub prefix_of_nil : (ys : List E) → IsPrefix [] ys
  prefix_of_nil ys = (ys, refl)

  pub prefix_is : (xs ys : List E) → xs ≡ ys → IsPrefix xs ys
  prefix_is xs ys e = subst (λ l. IsPrefix xs l) e (prefix_self xs)

  pub prefix_length : (xs ys : List E) → IsPrefix xs ys → length xs ≤ length ys
  prefix_length xs ys p = omega (arith, sym (ap length p.1) ∙ length-append xs p.0)

  -- of two beginnings of one list the shorter begins the longer
  pub prefix_shorter : (xs ys zs : List E) → IsPrefix xs zs → IsPrefix ys zs → length xs ≤ length ys → IsPrefix xs ys
  prefix_shorter [] ys zs p q le = (ys, refl)
  prefix_shorter (x ∷ xs) [] zs p q le = absurd (omega arith)
  prefix_shorter (x ∷ xs) (y ∷ ys) [] p q le = absurd (cc (p.1))
  prefix_shorter (x ∷ xs) (y ∷ ys) (z ∷ zs) p q le =
      let heads : x ≡ y = cc (p.1, q.1) in
      let rest = prefix_shorter xs ys zs (p.0, cc (p.1)) (q.0, cc (q.1)) (omega arith) in
      (rest.0, cc (heads, rest.1))

  -- a beginning as long as the whole is the whole
  pub prefix_whole : (xs ys : List E) → IsPrefix xs ys → length ys ≤ length xs → xs ≡ ys
  prefix_whole [] [] p le = refl
  prefix_whole [] (y ∷ ys) p le = absurd (omega arith)
  prefix_whole (x ∷ xs) [] p le = absurd (cc (p.1))
  prefix_whole (x ∷ xs) (y ∷ ys) p le =
      let rest = prefix_whole xs ys (p.0, cc (p.1)) (omega arith) in cc (p.1, rest)

  -- two lists that begin each other are one
  pub prefix_both : (xs ys : List E) → IsPrefix xs ys → IsPrefix ys xs → xs ≡ ys
  prefix_both xs ys p q = prefix_whole xs ys p (prefix_length ys xs q)

  -- what stands in a beginning stands in the whole, at the same place
  pub prefix_get : (xs ys : List E) (k : ℕ) (x : E) → IsPrefix xs ys → slice_get xs k ≡ Some x → slice_get ys k ≡ Some x
  prefix_get [] ys k x p h = absurd cc
  prefix_get (y ∷ xs) [] k x p h = absurd (cc (p.1))
  prefix_get (y ∷ xs) (z ∷ ys) zero x p h = cc (p.1, h)
  prefix_get (y ∷ xs) (z ∷ ys) (suc k) x p h = prefix_get xs ys k x (p.0, cc (p.1)) h

  -- the item that was put at the end stands there
  pub get_last : (xs : List E) (x : E) → slice_get (xs ++ x ∷ []) (length xs) ≡ Some x
  get_last [] x = refl
  get_last (y ∷ xs) x = get_last xs x

  -- what stands at a place has items before it and behind it
  pub get_splits : (xs : List E) (k : ℕ) (x : E) → slice_get xs k ≡ Some x → (before : List E) × (after : List E) × (length before ≡ k) × (before ++ x ∷ after ≡ xs)
  get_splits [] k x h = absurd (cc h)
  get_splits (y ∷ xs) zero x h = ([], xs, refl, cc h)
  get_splits (y ∷ xs) (suc k) x h = let rest = get_splits xs k x h in (y ∷ rest.0, rest.1, ap suc rest.2, ap (λ l. y ∷ l) rest.3)

  pub longer_first : (xs ys : List E) → length ys ≤ length xs → longer xs ys ≡ xs
  longer_first xs ys le =
      let e : nat_lt (length xs) (length ys) ≡ false = grind (arith, nat_tests) in
      ap (λ b. if b then ys else xs) e

  pub longer_second : (xs ys : List E) → length xs < length ys → longer xs ys ≡ ys
  longer_second xs ys lt =
      let e : nat_lt (length xs) (length ys) ≡ true = grind (arith, nat_tests) in
      ap (λ b. if b then ys else xs) e

  -- a fact of the longer list, by cases
  pub longer_by : (P : List E → Type 0) (xs ys : List E) → (length ys ≤ length xs → P xs) → (length xs < length ys → P ys) → P (longer xs ys)
  longer_by P xs ys first second =
      dite (dec_le (length ys) (length xs))
      (λ le. subst P (sym (longer_first xs ys le)) (first le))
      (λ no. let lt : length xs < length ys = omega arith in subst P (sym (longer_second xs ys lt)) (second lt))

  pub longer_of_nil : (ys : List E) → longer [] ys ≡ ys
  longer_of_nil [] = refl
  longer_of_nil (y ∷ ys) = longer_second [] (y ∷ ys) (omega arith)

  -- the longer of a beginning and the whole is the whole
  pub longer_of_prefix : (xs ys : List E) → IsPrefix xs ys → longer xs ys ≡ ys
  longer_of_prefix xs ys p = longer_by (λ l. l ≡ ys) xs ys (λ le. prefix_whole xs ys p le) (λ _. refl)

  pub longer_to_prefix : (xs ys : List E) → IsPrefix ys xs → longer xs ys ≡ xs
  longer_to_prefix xs ys p = longer_first xs ys (prefix_length ys xs p)

  -- of beginnings of one list, the longer begins that list, and both begin the longer
  pub longer_begins : (xs ys top : List E) → IsPrefix xs top → IsPrefix ys top → IsPrefix (longer xs ys) top
  longer_begins xs ys top p q = longer_by (λ l. IsPrefix l top) xs ys (λ _. p) (λ _. q)

  pub first_begins : (xs ys top : List E) → IsPrefix xs top → IsPrefix ys top → IsPrefix xs (longer xs ys)
  first_begins xs ys top p q = longer_by (λ l. IsPrefix xs l) xs ys (λ _. prefix_self xs) (λ lt. prefix_shorter xs ys top p q (omega arith))

  pub second_begins : (xs ys top : List E) → IsPrefix xs top → IsPrefix ys top → IsPrefix ys (longer xs ys)
  second_begins xs ys top p q = longer_by (λ l. IsPrefix ys l) xs ys (λ le. prefix_shorter ys xs top q p le) (λ _. prefix_self ys)
