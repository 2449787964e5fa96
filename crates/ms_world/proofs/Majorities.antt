-- Counting the services of which something holds.
use Rattle.std.proofs.Common.{◌≡◌, ℕ, zero, suc, ◌+◌, ◌-◌, ◌*◌, ◌<◌, Bool, true, false, cond, nat_lt, List, [], ◌∷◌, ◌++◌, Some, inl, inr, refl, sym, ap, ◌∙◌, subst, slice_get, length, get_or, count_by, Contains, zero-add, arith}
use Rattle.std.specs.List.{range_with_len}
use Rattle.std.proofs.lemmas.Bool.{cases_lt, cases_Bool}
use Rattle.std.proofs.lemmas.Bool.Decides.{nat_tests}
use Rattle.std.proofs.lemmas.List.{get_or_past, get_or_default, length_push}
use Rattle.std.proofs.lemmas.List.FromFn.{length-range_with_len}
use Rattle.std.proofs.lemmas.List.Sums.{sum_by-append}
use Rattle.std.proofs.lemmas.Option.{slice_get-get_or, get_or_from_slice_get}
use Rattle.ms_base.specs.Places.{append_cases, alone}
use Rattle.ms_world.specs.Passes.{HaveMost}
use Rattle.ms_record.specs.declared.ballot.Vote.{Vote}
use Rattle.ms_record.specs.Votes.{IsMajority, services_below}
use Rattle.ms_record.specs.Voters.{below_voter, voter_below}
use Rattle.ms_base.specs.CountLaws.{count_cons, count_le}

-- counting the services is counting the list of their answers
pub count_agree : {X : Type 0} (p : X → Bool) (q : ℕ → Bool) (xs : List X) (a : ℕ) → ((i : ℕ) (x : X) → slice_get xs i ≡ Some x → q (a + i) ≡ p x) → count_by q (range_with_len a (length xs)) ≡ count_by p xs
count_agree p q [] a h = refl
count_agree p q (x ∷ xs) a h =
    let at : q a ≡ p x = ap q (let e : a ≡ a + 0 = omega arith in e) ∙ h zero x refl in
    let rest = count_agree p q xs (a + 1) (λ i y g. ap q (let e : a + 1 + i ≡ a + suc i = omega arith in e) ∙ h (suc i) y g) in
    count_cons q a (range_with_len (a + 1) (length xs)) ∙ ap (λ (b : Bool). cond b 1 0 + count_by q (range_with_len (a + 1) (length xs))) at ∙ ap (λ (n : ℕ). cond (p x) 1 0 + n) rest ∙ sym (count_cons p x xs)

pub count_push : {X : Type 0} (p : X → Bool) (xs : List X) (x : X) → count_by p (xs ++ x ∷ []) ≡ count_by p xs + cond (p x) 1 0
count_push p xs x = sum_by-append (λ y. cond (p y) 1 0) xs (x ∷ []) ∙ ap (λ (n : ℕ). count_by p xs + n) (zero-add (cond (p x) 1 0))

-- the answers, one a service, by whose test the fact holds or not
pub record AreAnswers {X : Type 0} (p : X → Bool) (P : ℕ → Type 0) (xs : List X) : Type 0 where
  pub yes : (s : ℕ) (x : X) → slice_get xs s ≡ Some x → p x ≡ true → P s
  pub none : (s : ℕ) (x : X) → slice_get xs s ≡ Some x → p x ≡ false → P s → ⊥

pub answers_none : {X : Type 0} (p : X → Bool) (P : ℕ → Type 0) → AreAnswers p P []
answers_none p P = record { yes = λ s x h. cc; none = λ s x h. cc }

pub answers_push : {X : Type 0} (p : X → Bool) (P : ℕ → Type 0) (xs : List X) (x : X) → AreAnswers p P xs → (p x ≡ true → P (length xs)) → (p x ≡ false → P (length xs) → ⊥) → AreAnswers p P (xs ++ x ∷ [])
answers_push {X} p P xs x h so none = record {
  yes = λ s y at t. elim (append_cases xs (x ∷ []) s y at) [
    | inl o ↦ h.yes s y o t
    | inr n ↦ (let a = alone x y n.0 n.2 in let e : length xs ≡ s = omega (arith, n.1, a.0) in subst P e (so (ap p a.1 ∙ t)))
  ];
  none = λ s y at f here. elim (append_cases xs (x ∷ []) s y at) [
    | inl o ↦ h.none s y o f here
    | inr n ↦ (let a = alone x y n.0 n.2 in let e : s ≡ length xs = omega (arith, n.1, a.0) in none (ap p a.1 ∙ f) (subst P e here))
  ];
}

module _ {X : Type 0} (p : X → Bool) (d : X) (off : p d ≡ false) (P : ℕ → Type 0) where
  -- the services whose answer passes the test
  abbrev pub part_of : List X → ℕ → Bool
  part_of xs s = p (get_or xs s d)

  pub in_part : (xs : List X) (s : ℕ) → part_of xs s ≡ true → s < length xs
  in_part xs s t = elim (cases_lt s (length xs)) [ inl l ↦ l | inr g ↦ (let q : true ≡ false = sym t ∙ ap p (get_or_past xs s d g) ∙ off in cc) ]

  pub part_yes : (xs : List X) (h : AreAnswers p P xs) (s : ℕ) → part_of xs s ≡ true → P s
  part_yes xs h s t = h.yes s (get_or xs s d) (slice_get-get_or xs s d (in_part xs s t)) t

  pub part_none : (xs : List X) (h : AreAnswers p P xs) (s : ℕ) → s < length xs → part_of xs s ≡ false → P s → ⊥
  part_none xs h s l f = h.none s (get_or xs s d) (slice_get-get_or xs s d l) f

  count_part : (xs : List X) → count_by (part_of xs) (services_below (length xs)) ≡ count_by p xs
  count_part xs = count_agree p (part_of xs) xs 0 (λ i x g. ap (λ (n : ℕ). p (get_or xs n d)) (zero-add i) ∙ ap p (get_or_from_slice_get xs i x d g))

  pub part_majority : (xs : List X) → length xs < 2 * count_by p xs → IsMajority (part_of xs) (services_below (length xs))
  part_majority xs h = record {
    within = λ s t. below_voter (length xs) s (in_part xs s t);
    more_than_half = omega (arith, h, count_part xs, length-range_with_len 0 (length xs));
  }

  -- where the fact holds of a majority, more than half of the answers pass
  pub majority_passes : (xs : List X) (h : AreAnswers p P xs) (part : ℕ → Bool) → IsMajority part (services_below (length xs)) → ((s : ℕ) → part s ≡ true → P s) → length xs < 2 * count_by p xs
  majority_passes xs h part m holds =
      let less = count_le part (part_of xs) (services_below (length xs))
      (λ s t. elim (cases_Bool (part_of xs s)) [ inl so ↦ so | inr none ↦ absurd (part_none xs h s (voter_below (length xs) s (m.within s t)) none (holds s t)) ]) in
      omega (arith, less, m.more_than_half, count_part xs, length-range_with_len 0 (length xs))

-- so many of the first n lists have the vote
pub record IsVoteCount (lists : List (List Vote)) (vote : Vote) (n count : ℕ) : Type 0 where
  pub flags : List Bool
  pub each : length flags ≡ n
  pub are : AreAnswers (λ (flag : Bool). flag) (λ s. Contains (get_or lists s []) vote) flags
  pub count_is : count ≡ count_by (λ (flag : Bool). flag) flags

pub vote_count_none : (lists : List (List Vote)) (vote : Vote) → IsVoteCount lists vote 0 0
vote_count_none lists vote = record { flags = []; each = refl; are = answers_none (λ (flag : Bool). flag) (λ s. Contains (get_or lists s []) vote); count_is = refl }

abbrev pub one_if : Bool → ℕ
one_if b = cond b 1 0

pub vote_count_push : (lists : List (List Vote)) (vote : Vote) (n count next : ℕ) (list votes : List Vote) (flag : Bool) → n < length lists → list ≡ get_or lists n list → votes ≡ list
    → (flag ≡ true → Contains votes vote) × (Contains votes vote → flag ≡ true) → next ≡ count + one_if flag → IsVoteCount lists vote n count → IsVoteCount lists vote (n + 1) next
vote_count_push lists vote n count next list votes flag l at same has is h =
    let here : votes ≡ get_or lists (length h.flags) [] = same ∙ at ∙ get_or_default lists n list [] l ∙ ap (λ (i : ℕ). get_or lists i []) (sym h.each) in
    record {
      flags = h.flags ++ flag ∷ [];
      each = omega (arith, length_push h.flags flag, h.each);
      are = answers_push (λ (b : Bool). b) (λ s. Contains (get_or lists s []) vote) h.flags flag h.are
          (λ t. subst (λ (vs : List Vote). Contains vs vote) here (has.0 t)) (λ f c. let t = has.1 (subst (λ (vs : List Vote). Contains vs vote) (sym here) c) in let q : true ≡ false = sym t ∙ f in cc);
      count_is = omega (arith, is, h.count_is, count_push (λ (b : Bool). b) h.flags flag);
    }

pub vote_count_most : (lists : List (List Vote)) (vote : Vote) (n count : ℕ) → n ≡ length lists → n < 2 * count → IsVoteCount lists vote n count → HaveMost lists vote
vote_count_most lists vote n count all most h =
    let e : length h.flags ≡ length lists = h.each ∙ all in
    record {
      part = part_of (λ (b : Bool). b) false refl (λ s. Contains (get_or lists s []) vote) h.flags;
      majority = subst (λ (m : ℕ). IsMajority (λ s. get_or h.flags s false) (services_below m)) e (part_majority (λ (b : Bool). b) false refl (λ s. Contains (get_or lists s []) vote) h.flags (omega (arith, most, h.each, h.count_is)));
      have = λ s t. part_yes (λ (b : Bool). b) false refl (λ s. Contains (get_or lists s []) vote) h.flags h.are s t;
    }

pub most_vote_count : (lists : List (List Vote)) (vote : Vote) (n count : ℕ) → n ≡ length lists → IsVoteCount lists vote n count → HaveMost lists vote → n < 2 * count
most_vote_count lists vote n count all h m =
    let e : length lists ≡ length h.flags = sym all ∙ sym h.each in
    let passes = majority_passes (λ (b : Bool). b) false refl (λ s. Contains (get_or lists s []) vote) h.flags h.are m.part (subst (λ (k : ℕ). IsMajority m.part (services_below k)) e m.majority) m.have in
    omega (arith, passes, h.each, h.count_is)

-- more than half are more than the others
pub more_than_half : (n count : ℕ) → (nat_lt (n - count) count ≡ true → n < 2 * count) × (n < 2 * count → nat_lt (n - count) count ≡ true)
more_than_half n count = (λ h. let l : n - count < count = grind (arith, nat_tests) in omega arith, λ h. let l : n - count < count = omega arith in grind (arith, nat_tests))
