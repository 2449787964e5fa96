-- A vote list goes on by one record, or by one text.
use Rattle.std.proofs.Common.{◌≡◌, ℕ, ◌+◌, ◌<◌, true, false, List, [], ◌∷◌, ◌++◌, Option, Some, None, ◌⊎◌, inl, inr, refl, sym, ap, ◌∙◌, subst, slice_get, length, take, get_or, append_assoc, arith}
use Rattle.std.specs.Ordering.{nat_cmp}
use Rattle.std.specs.BTreeMap.{is_at}
use Rattle.std.proofs.lemmas.Bool.Decides.{nat_tests}
use Rattle.std.proofs.lemmas.List.{take_more}
use Rattle.std.proofs.lemmas.Option.{slice_get_within}
use Rattle.ms_record.specs.declared.ballot.Ballot.{Ballot}
use Rattle.ms_record.specs.declared.entry.Entry.{Entry}
use Rattle.ms_record.specs.declared.record.Record.{Record}
use Rattle.ms_record.specs.declared.record.Record.TheVariants.{Prepare, Accept}
use Rattle.ms_record.specs.Reading.{record_at, votes_of, with_record}
use Rattle.ms_record.specs.Records.{IsRecord, IsPosition}
use Rattle.ms_record.specs.Votes.{position_of, NoneAbove, IsTaken}
use Rattle.ms_record.specs.Growing.{same_back, taken_same}
use Rattle.ms_record.specs.Pushing.{push_cases, same_pushed, none_above_taken}

-- what is taken in the longer list was taken before, or is the new record
pub taken_cases : (xs : List Record) (r : Record) (p k : ℕ) (b : Ballot) (e : Entry) → IsTaken (xs ++ r ∷ []) p k b e
    → IsTaken xs p k b e ⊎ ((r ≡ Accept k b e) × NoneAbove xs (length xs) k b)
taken_cases xs r p k b e t =
    elim (push_cases xs r p (Accept k b e) t.stands) [
      | inl o ↦ inl (taken_same (xs ++ r ∷ []) xs (length xs) (same_back xs (xs ++ r ∷ []) (length xs) (same_pushed xs r)) p k b e o.0 t)
      | inr n ↦ inr (none_above_taken xs r k b e (subst (λ (i : ℕ). IsTaken (xs ++ r ∷ []) i k b e) n.0 t))
    ]

pub taken_on : (xs : List Record) (r : Record) (k : ℕ) (b : Ballot) (e : Entry) → (p : ℕ) × IsTaken xs p k b e → (p : ℕ) × IsTaken (xs ++ r ∷ []) p k b e
taken_on xs r k b e t = (t.0, taken_same xs (xs ++ r ∷ []) (length xs) (same_pushed xs r) t.0 k b e (slice_get_within xs t.0 (Accept k b e) t.1.stands) t.1)

pub positions_on : (xs : List Record) (r : Record) → IsPosition (position_of r) → ((place : ℕ) (m : Record) → slice_get xs place ≡ Some m → IsPosition (position_of m))
    → (place : ℕ) (m : Record) → slice_get (xs ++ r ∷ []) place ≡ Some m → IsPosition (position_of m)
positions_on xs r ok h place m g = elim (push_cases xs r place m g) [ inl o ↦ h place m o.1 | inr n ↦ subst (λ (x : Record). IsPosition (position_of x)) n.1 ok ]

pub is_at_same : (k q : ℕ) → k ≡ q → is_at (nat_cmp k) q ≡ true
is_at_same k q e = grind (arith, nat_tests)

pub is_at_other : (k q : ℕ) → (k ≡ q → ⊥) → is_at (nat_cmp k) q ≡ false
is_at_other k q n = grind (arith, nat_tests)

-- the records of a longer list of texts
with_record_front : (o : Option Record) (rs qs : List Record) → with_record o rs ++ qs ≡ with_record o (rs ++ qs)
with_record_front None rs qs = refl
with_record_front (Some r) rs qs = refl

pub votes_of-append : (xs ys : List (List ℕ)) → votes_of (xs ++ ys) ≡ votes_of xs ++ votes_of ys
votes_of-append [] ys = refl
votes_of-append (x ∷ xs) ys = ap (with_record (record_at x)) (votes_of-append xs ys) ∙ sym (with_record_front (record_at x) (votes_of xs) (votes_of ys))

pub votes_more : (xs : List (List ℕ)) (i : ℕ) (d : List ℕ) (rs : List Record) → i < length xs → rs ++ votes_of (take (i + 1) xs) ≡ (rs ++ votes_of (take i xs)) ++ with_record (record_at (get_or xs i d)) []
votes_more xs i d rs l =
    ap (λ (vs : List Record). rs ++ vs) (ap votes_of (take_more xs i d l) ∙ votes_of-append (take i xs) (get_or xs i d ∷ [])) ∙ sym (append_assoc rs (votes_of (take i xs)) (with_record (record_at (get_or xs i d)) []))

-- a record in its ranges has a position
pub position_ok : (r : Record) → IsRecord r → IsPosition (position_of r)
position_ok (Prepare k b) h = h.0
position_ok (Accept k b e) h = h.0
