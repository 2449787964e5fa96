-- A list has one Best before a place, and one first promised Prepare of a ballot.
use Rattle.std.proofs.Common.{◌≡◌, ℕ, ◌≤◌, List, Option, Some, None, inl, inr, refl, sym, ap, ◌∙◌, subst, slice_get, arith}
use Rattle.std.proofs.lemmas.Bool.{cases_lt}
use Rattle.ms_record.specs.declared.ballot.Ballot.{Ballot}
use Rattle.ms_record.specs.declared.ballot.Vote.{Vote}
use Rattle.ms_record.specs.declared.entry.Entry.{Entry}
use Rattle.ms_record.specs.declared.record.Record.{Record}
use Rattle.ms_record.specs.declared.record.Record.TheVariants.{Accept}
use Rattle.ms_record.specs.BallotOrder.{one_ballot}
use Rattle.ms_record.specs.Offers.{IsFirstPromised}
use Rattle.ms_record.specs.Votes.{IsBest, IsGreatestTaken, IsTaken}

vote_is : (v w : Vote) → v.ballot ≡ w.ballot → v.entry ≡ w.entry → v ≡ w
vote_is v w e f = λ i. record { ballot = e i; entry = f i }

-- one place has one Accept
one_entry : (records : List Record) (i j k : ℕ) (b c : Ballot) (e f : Entry) → i ≡ j → slice_get records i ≡ Some (Accept k b e) → slice_get records j ≡ Some (Accept k c f) → e ≡ f
one_entry records i j k b c e f at one other =
    let same : slice_get records i ≡ Some (Accept k c f) = ap (λ n. slice_get records n) at ∙ other in
    cc

same_place : (a b : ℕ) → a ≤ b → b ≤ a → a ≡ b
same_place a b p q = omega arith

one_greatest : (records : List Record) (position place : ℕ) (v w : Vote) → IsGreatestTaken records position place v → IsGreatestTaken records position place w → v ≡ w
one_greatest records position place v w h k =
    let ballots : v.ballot ≡ w.ballot = one_ballot v.ballot w.ballot (k.greatest h.at v.ballot v.entry h.before h.taken) (h.greatest k.at w.ballot w.entry k.before k.taken) in
    let before = k.last h.at v.entry h.before (subst (λ (b : Ballot). IsTaken records h.at position b v.entry) ballots h.taken) in
    let behind = h.last k.at w.entry k.before (subst (λ (b : Ballot). IsTaken records k.at position b w.entry) (sym ballots) k.taken) in
    let at : h.at ≡ k.at = same_place h.at k.at before behind in
    vote_is v w ballots (one_entry records h.at k.at position v.ballot w.ballot v.entry w.entry at h.taken.stands k.taken.stands)

pub one_best : (records : List Record) (position place : ℕ) (v w : Option Vote) → IsBest records position place v → IsBest records position place w → v ≡ w
one_best records position place None None h k = refl
one_best records position place None (Some w) h k = absurd (h k.at w.ballot w.entry k.before k.taken)
one_best records position place (Some v) None h k = absurd (k h.at v.ballot v.entry h.before h.taken)
one_best records position place (Some v) (Some w) h k = ap (λ (x : Vote). Some x) (one_greatest records position place v w h k)

-- of two first places neither is before the other
not_before : (records : List Record) (p q position : ℕ) (ballot : Ballot) → IsFirstPromised records p position ballot → IsFirstPromised records q position ballot → p ≤ q
not_before records p q position ballot h k = elim (cases_lt q p) [ inl less ↦ absurd (h.first q less k.promised) | inr fore ↦ fore ]

pub one_first : (records : List Record) (p q position : ℕ) (ballot : Ballot) → IsFirstPromised records p position ballot → IsFirstPromised records q position ballot → p ≡ q
one_first records p q position ballot h k = same_place p q (not_before records p q position ballot h k) (not_before records q p position ballot k h)

-- before the first promised Prepare of a ballot there is one Best
pub one_shown : (records : List Record) (p q position : ℕ) (ballot : Ballot) (v w : Option Vote) → IsFirstPromised records p position ballot → IsFirstPromised records q position ballot
    → IsBest records position p v → IsBest records position q w → v ≡ w
one_shown records p q position ballot v w h k b c =
    one_best records position q v w (subst (λ (place : ℕ). IsBest records position place v) (one_first records p q position ballot h k) b) c
