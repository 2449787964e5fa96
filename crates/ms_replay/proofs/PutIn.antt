-- A vote that is put in among others.
use Rattle.std.proofs.Common.{◌≡◌, ℕ, zero, suc, ◌+◌, ◌-◌, ◌<◌, ◌≤◌, Bool, true, false, List, [], ◌∷◌, ◌++◌, Option, Some, None, ◌⊎◌, inl, inr, refl, sym, ap, ◌∙◌, subst, slice_get, length, take, drop, get_or, arith}
use Rattle.std.specs.Cmp.{IsStrictWeakOrder}
use Rattle.std.specs.List.{insert, remove}
use Rattle.std.specs.List.Sorted.{IsSortedBy, IsPartitionedBy, IsPartitionPoint, IsPermutation}
use Rattle.std.specs.Ordering.{is_lt}
use Rattle.std.proofs.lemmas.Bool.{cases_lt}
use Rattle.std.proofs.lemmas.List.{length-take}
use Rattle.std.proofs.lemmas.List.Edits.{length-insert, get_or-insert_below, get_or-insert_at, get_or-insert_above}
use Rattle.std.proofs.lemmas.List.Sorted.{ranks_by, sorted_far}
use Rattle.std.proofs.lemmas.Option.{slice_get_within}
use Rattle.ms_record.specs.declared.ballot.Ballot.{Ballot}
use Rattle.ms_record.specs.declared.entry.Entry.{Entry}
use Rattle.ms_record.specs.declared.record.Record.TheVariants.{Accept}
use Rattle.ms_record.specs.Reading.{record_at}
use Rattle.ms_replay.specs.declared.voted.Voted.{Voted}
use Rattle.ms_replay.specs.Places.{IsPutIn, without_vote}
use Rattle.ms_replay.specs.Tallies.{vote_cmp, AreSorted, HasVote}
use Rattle.ms_replay.proofs.ListPlaces.{place_left, place_right, place_cases, place_take, take_place, drop_place}
use Rattle.ms_replay.proofs.VoteOrder.{vote_total}

-- ---- places of the longer list

pub insert_cases : {X : Type 0} (xs : List X) (i : ℕ) (y : X) (j : ℕ) (m : X) → slice_get (insert xs i y) j ≡ Some m → ((q : ℕ) × (slice_get xs q ≡ Some m)) ⊎ (y ≡ m)
insert_cases xs i y j m h = elim (place_cases (take i xs) (y ∷ drop i xs) j m h) [
  | inl o ↦ inl (j, (place_take i xs j m o.1).1)
  | inr n ↦ behind n.0 n.2
]
  where
    behind : (q : ℕ) → slice_get (y ∷ drop i xs) q ≡ Some m → ((p : ℕ) × (slice_get xs p ≡ Some m)) ⊎ (y ≡ m)
    behind zero g = inr (let e : Some y ≡ Some m = g in cc)
    behind (suc q) g = inl (i + q, sym (drop_place i xs q) ∙ g)

pub insert_has : {X : Type 0} (xs : List X) (i : ℕ) (y : X) → (j : ℕ) × (slice_get (insert xs i y) j ≡ Some y)
insert_has xs i y = (length (take i xs) + 0, place_right (take i xs) (y ∷ drop i xs) 0)

pub insert_keeps : {X : Type 0} (xs : List X) (i : ℕ) (y : X) (q : ℕ) (m : X) → slice_get xs q ≡ Some m → (j : ℕ) × (slice_get (insert xs i y) j ≡ Some m)
insert_keeps xs i y q m g = elim (cases_lt q i) [
  | inl l ↦
      let t : slice_get (take i xs) q ≡ Some m = take_place i xs q l ∙ g in
      (q, place_left (take i xs) (y ∷ drop i xs) q (slice_get_within (take i xs) q m t) ∙ t)
  | inr l ↦
      let d : slice_get (drop i xs) (q - i) ≡ Some m = drop_place i xs (q - i) ∙ ap (slice_get xs) (let e : i + (q - i) ≡ q = omega (arith, l) in e) ∙ g in
      (length (take i xs) + suc (q - i), place_right (take i xs) (y ∷ drop i xs) (suc (q - i)) ∙ d)
]

-- what was put in, taken out again
pub remove_inserted : {X : Type 0} (xs : List X) (i : ℕ) (y : X) → i ≤ length xs → remove (insert xs i y) i ≡ xs
remove_inserted [] zero y l = refl
remove_inserted [] (suc i) y l = absurd (omega arith)
remove_inserted (x ∷ xs) zero y l = refl
remove_inserted (x ∷ xs) (suc i) y l = ap (λ (ys : List _). x ∷ ys) (remove_inserted xs i y (omega arith))

-- ---- order

pub insert_sorted : {X : Type 0} (lt : X → X → Bool) → IsStrictWeakOrder lt → (xs : List X) (i : ℕ) (y : X) → i ≤ length xs → IsSortedBy lt xs
    → ((k : ℕ) (d : X) → k < i → lt (get_or xs k d) y ≡ true) → ((k : ℕ) (d : X) → i ≤ k → k < length xs → lt (get_or xs k d) y ≡ false) → IsSortedBy lt (insert xs i y)
insert_sorted lt o xs i y le up below above k d from within =
    elim (cases_lt (k + 1) i) [
      | inl l ↦
          subst (λ (b : _). lt b (get_or (insert xs i y) k d) ≡ false) (sym (get_or-insert_below xs i y d (k + 1) l le))
          (subst (λ (a : _). lt (get_or xs (k + 1) d) a ≡ false) (sym (get_or-insert_below xs i y d k (omega arith) le)) (up k d (omega arith) (omega arith)))
      | inr m ↦ elim (cases_lt k i) [
        | inl l ↦
            let e : k + 1 ≡ i = omega arith in
            let at : get_or (insert xs i y) (k + 1) d ≡ y = ap (λ (n : ℕ). get_or (insert xs i y) n d) e ∙ get_or-insert_at xs i y d le in
            subst (λ (b : _). lt b (get_or (insert xs i y) k d) ≡ false) (sym at)
            (subst (λ (a : _). lt y a ≡ false) (sym (get_or-insert_below xs i y d k l le)) (o.one_way (get_or xs k d) y (below k d l)))
        | inr l ↦
            let long = length-insert xs i y le in
            let there : k < length xs = omega arith in
            subst (λ (b : _). lt b (get_or (insert xs i y) k d) ≡ false) (sym (get_or-insert_above xs i y d k l le))
            (behind k l there)
      ]
    ]
  where
    behind : (k : ℕ) → i ≤ k → k < length xs → lt (get_or xs k d) (get_or (insert xs i y) k d) ≡ false
    behind k l there = elim (cases_lt i k) [
      | inl less ↦
          let e : k - 1 + 1 ≡ k = omega arith in
          let at : get_or (insert xs i y) k d ≡ get_or xs (k - 1) d = ap (λ (n : ℕ). get_or (insert xs i y) n d) (sym e) ∙ get_or-insert_above xs i y d (k - 1) (omega arith) le in
          let step : lt (get_or xs (k - 1 + 1) d) (get_or xs (k - 1) d) ≡ false = up (k - 1) d (omega arith) (omega arith) in
          subst (λ (a : _). lt (get_or xs k d) a ≡ false) (sym at) (subst (λ (n : ℕ). lt (get_or xs n d) (get_or xs (k - 1) d) ≡ false) e step)
      | inr more ↦
          let e : k ≡ i = omega arith in
          let at : get_or (insert xs i y) k d ≡ y = ap (λ (n : ℕ). get_or (insert xs i y) n d) e ∙ get_or-insert_at xs i y d le in
          subst (λ (a : _). lt (get_or xs k d) a ≡ false) (sym at) (above k d l there)
    ]

vote_order : IsStrictWeakOrder (λ v w. is_lt (vote_cmp v w))
vote_order = ranks_by vote_total (λ (v : Voted). v)

bool_not_true : (b : Bool) → (b ≡ false → ⊥) → b ≡ true
bool_not_true true n = refl
bool_not_true false n = absurd (n refl)

bool_cases : (b : Bool) → (b ≡ true) ⊎ (b ≡ false)
bool_cases true = inl refl
bool_cases false = inr refl

-- votes in order are parted by whether they stand before a vote
pub parted : (votes : List Voted) (w : Voted) → AreSorted votes → IsPartitionedBy (λ v. is_lt (vote_cmp v w)) votes
parted votes w sorted i j d l within h =
    bool_not_true (is_lt (vote_cmp (get_or votes i d) w)) (λ f.
    let far = sorted_far (λ x y. is_lt (vote_cmp x y)) vote_order votes sorted i j d l within in
    let g : is_lt (vote_cmp (get_or votes j d) w) ≡ false = vote_order.chain (get_or votes j d) (get_or votes i d) w far f in
    let q : true ≡ false = sym h ∙ g in cc)

pub put_in_order : (votes : List Voted) (i : ℕ) (w : Voted) → i ≤ length votes → AreSorted votes
    → IsPartitionPoint (λ v. is_lt (vote_cmp v w) ≡ true) (λ v. is_lt (vote_cmp v w) ≡ false) votes i → AreSorted (insert votes i w)
put_in_order votes i w le sorted point =
    insert_sorted (λ x y. is_lt (vote_cmp x y)) vote_order votes i w le sorted (λ k d l. point.0 k d (omega arith) l) (λ k d l m. point.1 k d l m)

-- ---- votes that a list has

pub has_put : (votes : List Voted) (i : ℕ) (v : Voted) (s k : ℕ) (b : Ballot) (e : Entry) → HasVote votes s k b e → HasVote (insert votes i v) s k b e
has_put votes i v s k b e h = let j = insert_keeps votes i v h.place h.vote h.stands in record { place = j.0; vote = h.vote; stands = j.1; service_is = h.service_is; reads = h.reads }

pub vote_put : (votes : List Voted) (i : ℕ) (v : Voted) (s k : ℕ) (b : Ballot) (e : Entry) → v.service ≡ s → record_at v.text ≡ Some (Accept k b e) → HasVote (insert votes i v) s k b e
vote_put votes i v s k b e of_s reads = let j = insert_has votes i v in record { place = j.0; vote = v; stands = j.1; service_is = of_s; reads = reads }

pub put_cases : (votes : List Voted) (i : ℕ) (v : Voted) (s k : ℕ) (b : Ballot) (e : Entry) → HasVote (insert votes i v) s k b e
    → HasVote votes s k b e ⊎ ((v.service ≡ s) × (record_at v.text ≡ Some (Accept k b e)))
put_cases votes i v s k b e h = elim (insert_cases votes i v h.place h.vote h.stands) [
  | inl o ↦ inl (record { place = o.0; vote = h.vote; stands = o.1; service_is = h.service_is; reads = h.reads })
  | inr same ↦ inr (ap (λ (x : Voted). x.service) same ∙ h.service_is, ap (λ (x : Voted). record_at x.text) same ∙ h.reads)
]

-- ---- what was put in, by its cases

pub put_none : (vote : Option Voted) (at : Option ℕ) (old new : List Voted) → vote ≡ None → IsPutIn vote at old new → (new ≡ old) × (at ≡ None)
put_none None None old new is h = (h, refl)
put_none None (Some i) old new is h = absurd h
put_none (Some v) at old new is h = (let q : Some v ≡ None = is in cc)

pub put_some : (vote : Option Voted) (at : Option ℕ) (old new : List Voted) (v : Voted) → vote ≡ Some v → IsPutIn vote at old new → (i : ℕ) × (at ≡ Some i) × (new ≡ insert old i v)
put_some None at old new v is h = (let q : None ≡ Some v = is in cc)
put_some (Some w) None old new v is h = absurd h
put_some (Some w) (Some i) old new v is h = (i, refl, h.1 ∙ ap (insert old i) (let q : Some w ≡ Some v = is in cc))

pub taken_out : (vote : Option Voted) (at : Option ℕ) (old new : List Voted) → IsPutIn vote at old new → without_vote at new ≡ old
taken_out None None old new h = h
taken_out None (Some i) old new h = absurd h
taken_out (Some v) None old new h = absurd h
taken_out (Some v) (Some i) old new h = ap (λ (vs : List Voted). remove vs i) h.1 ∙ remove_inserted old i v h.0
