-- What one record more changes of what a list of records shows.
use Rattle.std.proofs.Common.{◌≡◌, ℕ, ◌<◌, List, [], ◌∷◌, ◌++◌, Option, Some, None, ◌⊎◌, inl, inr, refl, sym, ap, ◌∙◌, subst, slice_get, length, arith}
use Rattle.std.proofs.lemmas.List.{length_push}
use Rattle.std.proofs.lemmas.Bool.{cases_lt}
use Rattle.std.proofs.lemmas.Option.{slice_get_within}
use Rattle.ms_record.specs.declared.ballot.Ballot.{Ballot}
use Rattle.ms_record.specs.declared.ballot.Vote.{Vote}
use Rattle.ms_record.specs.declared.entry.Entry.{Entry}
use Rattle.ms_record.specs.declared.record.Record.{Record}
use Rattle.ms_record.specs.declared.record.Record.TheVariants.{Prepare, Accept}
use Rattle.ms_record.specs.Acceptors.{IsGreatestBallot, IsTop}
use Rattle.ms_record.specs.Ballots.{IsBelow, IsAtMost}
use Rattle.ms_record.specs.BallotOrder.{at_most_trans, not_above}
use Rattle.ms_record.specs.Growing.{SameBelow, same_grown, same_back, taken_same, none_above_same}
use Rattle.ms_record.specs.Votes.{position_of, ballot_of, NoneAbove, IsTaken, IsPromised, IsBest}

pub slice_get-pushed : (xs : List Record) (r : Record) → slice_get (xs ++ r ∷ []) (length xs) ≡ Some r
slice_get-pushed [] r = refl
slice_get-pushed (x ∷ xs) r = slice_get-pushed xs r

-- a place of the longer list is one of the old list, or the new one
pub push_cases : (xs : List Record) (r : Record) (i : ℕ) (m : Record) → slice_get (xs ++ r ∷ []) i ≡ Some m
    → ((i < length xs) × (slice_get xs i ≡ Some m)) ⊎ ((i ≡ length xs) × (r ≡ m))
push_cases xs r i m h =
    elim (cases_lt i (length xs)) [
      | inl l ↦ inl (l, sym (same_grown xs (xs ++ r ∷ []) (r ∷ []) refl i l) ∙ h)
      | inr g ↦
          let w : i < length (xs ++ r ∷ []) = slice_get_within (xs ++ r ∷ []) i m h in
          let e : i ≡ length xs = omega (arith, length_push xs r) in
          let q : Some r ≡ Some m = sym (slice_get-pushed xs r) ∙ ap (λ n. slice_get (xs ++ r ∷ []) n) (sym e) ∙ h in
          inr (e, cc)
    ]

pub same_pushed : (xs : List Record) (r : Record) → SameBelow xs (xs ++ r ∷ []) (length xs)
same_pushed xs r = same_grown xs (xs ++ r ∷ []) (r ∷ []) refl

-- no greater ballot in the list, nor at the new place
none_above_push : (xs : List Record) (r : Record) (k : ℕ) (b : Ballot) → NoneAbove xs (length xs) k b → (position_of r ≡ k → IsAtMost (ballot_of r) b) → NoneAbove (xs ++ r ∷ []) (length (xs ++ r ∷ [])) k b
none_above_push xs r k b h here i m l g e =
    elim (push_cases xs r i m g) [
      | inl o ↦ h i m o.0 o.1 e
      | inr n ↦ subst (λ (x : Record). IsAtMost (ballot_of x) b) n.1 (here (ap position_of n.1 ∙ e))
    ]

-- the Best stays, where the new record is not taken
pub best_keeps : (xs : List Record) (r : Record) (k : ℕ) (best : Option Vote) → ((b : Ballot) (e : Entry) → IsTaken (xs ++ r ∷ []) (length xs) k b e → ⊥)
    → IsBest xs k (length xs) best → IsBest (xs ++ r ∷ []) k (length (xs ++ r ∷ [])) best
best_keeps xs r k None free h = λ i b e l t.
    elim (push_cases xs r i (Accept k b e) t.stands) [
      | inl o ↦ h i b e o.0 (taken_same (xs ++ r ∷ []) xs (length xs) (same_back xs (xs ++ r ∷ []) (length xs) (same_pushed xs r)) i k b e o.0 t)
      | inr n ↦ free b e (subst (λ (p : ℕ). IsTaken (xs ++ r ∷ []) p k b e) n.0 t)
    ]
best_keeps xs r k (Some v) free h =
    let back = same_back xs (xs ++ r ∷ []) (length xs) (same_pushed xs r) in
    record {
      at = h.at;
      before = omega (arith, length_push xs r, h.before);
      taken = taken_same xs (xs ++ r ∷ []) (length xs) (same_pushed xs r) h.at k v.ballot v.entry h.before h.taken;
      greatest = λ i b e l t. elim (push_cases xs r i (Accept k b e) t.stands) [
        | inl o ↦ h.greatest i b e o.0 (taken_same (xs ++ r ∷ []) xs (length xs) back i k b e o.0 t)
        | inr n ↦ absurd (free b e (subst (λ (p : ℕ). IsTaken (xs ++ r ∷ []) p k b e) n.0 t))
      ];
      last = λ i e l t. elim (push_cases xs r i (Accept k v.ballot e) t.stands) [
        | inl o ↦ h.last i e o.0 (taken_same (xs ++ r ∷ []) xs (length xs) back i k v.ballot e o.0 t)
        | inr n ↦ absurd (free v.ballot e (subst (λ (p : ℕ). IsTaken (xs ++ r ∷ []) p k v.ballot e) n.0 t))
      ];
    }

-- what is taken at the end is the Best
pub best_takes : (xs : List Record) (k : ℕ) (b : Ballot) (e : Entry) (v : Vote) → v ≡ record { ballot = b; entry = e } → NoneAbove xs (length xs) k b
    → IsBest (xs ++ Accept k b e ∷ []) k (length (xs ++ Accept k b e ∷ [])) (Some v)
best_takes xs k b e v is h =
    let r = Accept k b e in
    let eb : v.ballot ≡ b = ap (λ (x : Vote). x.ballot) is in
    let ee : v.entry ≡ e = ap (λ (x : Vote). x.entry) is in
    let none = none_above_push xs r k b h (λ _. (omega arith, λ _. omega arith)) in
    record {
      at = length xs;
      before = omega (arith, length_push xs r);
      taken = record {
        stands = slice_get-pushed xs r ∙ (let q : Accept k b e ≡ Accept k v.ballot v.entry = cc in ap (λ (x : Record). Some x) q);
        none_above = subst (λ (c : Ballot). NoneAbove (xs ++ r ∷ []) (length xs) k c) (sym eb) (λ i m l. none i m (omega (arith, length_push xs r)));
      };
      greatest = λ i c f l t. subst (λ (x : Ballot). IsAtMost c x) (sym eb) (none i (Accept k c f) l t.stands refl);
      last = λ i f l t. omega (arith, length_push xs r);
    }

-- the greatest ballot stays, where the new record is no greater
pub top_keeps : (xs : List Record) (r : Record) (k : ℕ) (top : Option Ballot) → (position_of r ≡ k → (t : Ballot) × (top ≡ Some t) × IsAtMost (ballot_of r) t)
    → IsTop xs k top → IsTop (xs ++ r ∷ []) k top
top_keeps xs r k None low h = λ i m g e.
    elim (push_cases xs r i m g) [
      | inl o ↦ h i m o.1 e
      | inr n ↦ (let t = low (ap position_of n.1 ∙ e) in let q : None ≡ Some t.0 = t.1 in cc)
    ]
top_keeps xs r k (Some b) low h = record {
  place = h.place;
  message = h.message;
  stands = same_pushed xs r h.place (slice_get_within xs h.place _ h.stands) ∙ h.stands;
  here = h.here;
  ballot_is = h.ballot_is;
  greatest = none_above_push xs r k b h.greatest (λ e. let t = low e in let q : b ≡ t.0 = (let w = t.1 in cc) in subst (λ (x : Ballot). IsAtMost (ballot_of r) x) (sym q) t.2);
}

-- what counts is the greatest ballot
pub top_takes : (xs : List Record) (r : Record) (k : ℕ) (b : Ballot) → position_of r ≡ k → ballot_of r ≡ b → NoneAbove xs (length xs) k b → IsTop (xs ++ r ∷ []) k (Some b)
top_takes xs r k b here is h = record {
  place = length xs;
  message = r;
  stands = slice_get-pushed xs r;
  here = here;
  ballot_is = is;
  greatest = none_above_push xs r k b h (λ _. subst (λ (x : Ballot). IsAtMost x b) (sym is) (omega arith, λ _. omega arith));
}

-- a ballot that is not below the top is above nothing
pub none_above_top : (xs : List Record) (k : ℕ) (top : Option Ballot) (b : Ballot) → IsTop xs k top → ((t : Ballot) → top ≡ Some t → IsAtMost t b) → NoneAbove xs (length xs) k b
none_above_top xs k None b h up = λ i m l g e. absurd (h i m g e)
none_above_top xs k (Some t) b h up = λ i m l g e. at_most_trans (ballot_of m) t b (h.greatest i m l g e) (up t refl)

-- what is below a ballot of the list is not the greatest
not_counted : (xs : List Record) (r : Record) (k : ℕ) (t : Ballot) → IsGreatestBallot xs k t → IsBelow (ballot_of r) t → NoneAbove xs (length xs) k (ballot_of r) → ⊥
not_counted xs r k t g low n =
    let m : IsAtMost (ballot_of g.message) (ballot_of r) = n g.place g.message (slice_get_within xs g.place g.message g.stands) g.stands g.here in
    not_above t (ballot_of r) low (subst (λ (x : Ballot). IsAtMost x (ballot_of r)) g.ballot_is m)

-- the new record is taken only where no record before it is above it
pub none_above_taken : (xs : List Record) (r : Record) (k : ℕ) (b : Ballot) (e : Entry) → IsTaken (xs ++ r ∷ []) (length xs) k b e → (r ≡ Accept k b e) × NoneAbove xs (length xs) k b
none_above_taken xs r k b e u =
    let q : Some r ≡ Some (Accept k b e) = sym (slice_get-pushed xs r) ∙ u.stands in
    (cc, none_above_same (xs ++ r ∷ []) xs (length xs) (same_back xs (xs ++ r ∷ []) (length xs) (same_pushed xs r)) (length xs) k b (omega arith) u.none_above)

-- a record below the greatest ballot is not taken
pub outbid_not_taken : (xs : List Record) (r : Record) (k : ℕ) (t : Ballot) → IsGreatestBallot xs k t → IsBelow (ballot_of r) t → (b : Ballot) (e : Entry) → IsTaken (xs ++ r ∷ []) (length xs) k b e → ⊥
outbid_not_taken xs r k t g low b e u =
    let w = none_above_taken xs r k b e u in
    not_counted xs r k t g low (subst (λ (c : Ballot). NoneAbove xs (length xs) k c) (sym (ap ballot_of w.0)) w.1)

-- the new record is promised only where no record before it is above it
pub none_above_promised : (xs : List Record) (r : Record) (k : ℕ) (b : Ballot) → IsPromised (xs ++ r ∷ []) (length xs) k b → (r ≡ Prepare k b) × NoneAbove xs (length xs) k b
none_above_promised xs r k b u =
    let q : Some r ≡ Some (Prepare k b) = sym (slice_get-pushed xs r) ∙ u.stands in
    (cc, none_above_same (xs ++ r ∷ []) xs (length xs) (same_back xs (xs ++ r ∷ []) (length xs) (same_pushed xs r)) (length xs) k b (omega arith) u.none_above)

-- a record below the greatest ballot is not promised
pub outbid_not_promised : (xs : List Record) (r : Record) (k : ℕ) (t : Ballot) → IsGreatestBallot xs k t → IsBelow (ballot_of r) t → (b : Ballot) → IsPromised (xs ++ r ∷ []) (length xs) k b → ⊥
outbid_not_promised xs r k t g low b u =
    let w = none_above_promised xs r k b u in
    not_counted xs r k t g low (subst (λ (c : Ballot). NoneAbove xs (length xs) k c) (sym (ap ballot_of w.0)) w.1)

-- the record of a position stands at the end of the list
pub taken_next : (xs : List Record) (k : ℕ) (b : Ballot) (e : Entry) → NoneAbove xs (length xs) k b → IsTaken (xs ++ Accept k b e ∷ []) (length xs) k b e
taken_next xs k b e h = record {
  stands = slice_get-pushed xs (Accept k b e);
  none_above = none_above_same xs (xs ++ Accept k b e ∷ []) (length xs) (same_pushed xs (Accept k b e)) (length xs) k b (omega arith) h;
}

pub promised_next : (xs : List Record) (k : ℕ) (b : Ballot) → NoneAbove xs (length xs) k b → IsPromised (xs ++ Prepare k b ∷ []) (length xs) k b
promised_next xs k b h = record {
  stands = slice_get-pushed xs (Prepare k b);
  none_above = none_above_same xs (xs ++ Prepare k b ∷ []) (length xs) (same_pushed xs (Prepare k b)) (length xs) k b (omega arith) h;
}
