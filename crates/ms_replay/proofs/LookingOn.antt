-- A look at all texts of a list.
use Rattle.std.proofs.Common.{◌≡◌, ◌≢◌, ℕ, ◌+◌, ◌<◌, ◌≤◌, Bool, true, false, List, [], ◌∷◌, ◌++◌, Option, Some, None, inl, inr, sym, ap, ◌∙◌, subst, slice_get, length, take, get_or, arith}
use Rattle.std.specs.Prelude.{IfSome, if◌then◌else◌}
use Rattle.std.proofs.lemmas.List.{take_all}
use Rattle.std.proofs.lemmas.Option.{slice_get_within}
use Rattle.ms_record.specs.declared.acceptor.Acceptor.{Acceptor}
use Rattle.ms_record.specs.declared.acceptor.Verdict.{Verdict}
use Rattle.ms_record.specs.declared.acceptor.Verdict.TheVariants.{Promised, Taken, Outbid, Elsewhere}
use Rattle.ms_record.specs.declared.ballot.Ballot.{Ballot}
use Rattle.ms_record.specs.declared.ballot.Vote.{Vote}
use Rattle.ms_record.specs.declared.entry.Entry.{Entry}
use Rattle.ms_record.specs.declared.record.Record.{Record}
use Rattle.ms_record.specs.declared.record.Record.TheVariants.{Prepare, Accept}
use Rattle.ms_record.specs.declared.sight.Sight.{Sight}
use Rattle.ms_record.specs.Acceptors.{IsAcceptorOf, IsTop, IsVerdict}
use Rattle.ms_record.specs.Entries.{IsEntry}
use Rattle.ms_record.specs.Growing.{same_back, best_same, first_promised_same, promised_same, taken_same}
use Rattle.ms_record.specs.Pushing.{none_above_promised, none_above_taken, outbid_not_promised, outbid_not_taken, push_cases, same_pushed}
use Rattle.ms_record.specs.Reading.{record_at, votes_of, with_record}
use Rattle.ms_record.specs.Records.{IsBallot, IsRecord}
use Rattle.ms_record.specs.Sights.{IsSight, ShowsPromise, ShowsTaken}
use Rattle.ms_record.specs.Votes.{position_of, ballot_of, IsBest, IsPromised, IsTaken}
use Rattle.ms_record.specs.declared.look.Look.{Look}
use Rattle.ms_replay.proofs.ListPlaces.{alone, place_cases}
use Rattle.ms_replay.proofs.ReadingOn.{votes_more}
use Rattle.ms_record.specs.Looks.{HasShown, IsOfBid}
use Rattle.ms_replay.specs.Looks.{IsInRange}

-- a text more of a list
pub text_more : (texts : List (List ℕ)) (i : ℕ) (item text : List ℕ) (look : Look) → i < length texts → item ≡ get_or texts i item → text ≡ item
    → HasShown (votes_of (take i texts) ++ with_record (record_at text) []) look → HasShown (votes_of (take (i + 1) texts)) look
text_more texts i item text look l at is h =
    let same : with_record (record_at text) [] ≡ with_record (record_at (get_or texts i item)) [] = ap (λ (t : List ℕ). with_record (record_at t) []) (is ∙ at) in
    subst (λ (rs : List Record). HasShown rs look) (ap (λ (rs : List Record). votes_of (take i texts) ++ rs) same ∙ sym (votes_more texts i item [] l)) h

-- what a look at all texts of a list shows is what the list shows
pub look_ends : (texts : List (List ℕ)) (i k : ℕ) (b : Ballot) (look : Look) (sight : Sight) → length texts ≤ i → IsOfBid k b look → HasShown (votes_of (take i texts)) look
    → ((records : List Record) → HasShown records look → IsSight records look.acceptor.position look.ballot sight) → IsSight (votes_of texts) k b sight
look_ends texts i k b look sight all of h shows =
    subst (λ (rs : List Record). IsSight rs k b sight) (ap votes_of (take_all i texts all))
    (subst (λ (n : ℕ). IsSight (votes_of (take i texts)) n b sight) of.position_is
    (subst (λ (c : Ballot). IsSight (votes_of (take i texts)) look.acceptor.position c sight) of.ballot_is (shows (votes_of (take i texts)) h)))

-- ---- ranges

-- the records of a list are in their ranges
abbrev pub AreRecords : List Record → Type 0
AreRecords records = (place : ℕ) (r : Record) → slice_get records place ≡ Some r → IsRecord r

pub records_more : (texts : List (List ℕ)) (i : ℕ) (item text : List ℕ) → i < length texts → item ≡ get_or texts i item → text ≡ item
    → IfSome (record_at text) IsRecord → AreRecords (votes_of (take i texts)) → AreRecords (votes_of (take (i + 1) texts))
records_more texts i item text l at is new old =
    subst AreRecords (sym (votes_more texts i item [] l)) (with_one (record_at (get_or texts i item)) (subst (λ (t : List ℕ). IfSome (record_at t) IsRecord) (is ∙ at) new))
  where
    with_one : (o : Option Record) → IfSome o IsRecord → AreRecords (votes_of (take i texts) ++ with_record o [])
    with_one None h place r g = elim (place_cases (votes_of (take i texts)) [] place r g) [
      | inl o ↦ old place r o.1
      | inr n ↦ (let q : None ≡ Some r = n.2 in cc)
    ]
    with_one (Some m) h place r g = elim (place_cases (votes_of (take i texts)) (m ∷ []) place r g) [
      | inl o ↦ old place r o.1
      | inr n ↦ subst IsRecord (alone m r n.0 n.2) h
    ]

ballot_ok : (r : Record) → IsRecord r → IsBallot (ballot_of r)
ballot_ok (Prepare k b) h = h.1
ballot_ok (Accept k b e) h = h.1

top_in_range : (xs : List Record) (k : ℕ) (top : Option Ballot) → AreRecords xs → IsTop xs k top → IfSome top IsBallot
top_in_range xs k None are h = tt
top_in_range xs k (Some b) are h = subst IsBallot h.ballot_is (ballot_ok h.message (are h.place h.message h.stands))

best_in_range : (xs : List Record) (k place : ℕ) (best : Option Vote) → AreRecords xs → IsBest xs k place best → IfSome best (λ vote. IsBallot vote.ballot × IsEntry vote.entry)
best_in_range xs k place None are h = tt
best_in_range xs k place (Some v) are h = let r = are h.at (Accept k v.ballot v.entry) h.taken.stands in (r.1, r.2)

shown_in_range : (xs : List Record) (k : ℕ) (b : Ballot) (p : Bool) (best : Option Vote) → AreRecords xs → ShowsPromise xs k b p best → IfSome best (λ vote. IsBallot vote.ballot × IsEntry vote.entry)
shown_in_range xs k b true best are h = best_in_range xs k h.0 best are h.2
shown_in_range xs k b false best are h = subst (λ (o : Option Vote). IfSome o (λ vote. IsBallot vote.ballot × IsEntry vote.entry)) (sym h.1) tt

pub sight_in_range : (xs : List Record) (k : ℕ) (b : Ballot) (sight : Sight) → AreRecords xs → IsSight xs k b sight → IsInRange sight
sight_in_range xs k b sight are h = record {
  best = shown_in_range xs k b sight.promised sight.best are h.promise;
  top = top_in_range xs k sight.top are h.top;
}

pub look_ranges : (texts : List (List ℕ)) (i k : ℕ) (b : Ballot) (sight : Sight) → length texts ≤ i → AreRecords (votes_of (take i texts)) → IsSight (votes_of texts) k b sight → IsInRange sight
look_ranges texts i k b sight all are h = sight_in_range (votes_of texts) k b sight (subst (λ (ts : List (List ℕ)). AreRecords (votes_of ts)) (take_all i texts all) are) h
