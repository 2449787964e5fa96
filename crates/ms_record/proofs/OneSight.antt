-- A list shows one sight of a bid.
use Rattle.std.proofs.Common.{◌≡◌, ℕ, ◌<◌, ◌≤◌, Bool, true, false, List, Option, Some, None, refl, sym, ap, ◌∙◌, subst, ◌⊎◌, inl, inr, arith, slice_get}
use Rattle.std.proofs.lemmas.Option.{slice_get_within}
use Rattle.ms_record.specs.declared.ballot.Ballot.{Ballot}
use Rattle.ms_record.specs.declared.ballot.Vote.{Vote}
use Rattle.ms_record.specs.declared.entry.Entry.{Entry}
use Rattle.ms_record.specs.declared.record.Record.{Record}
use Rattle.ms_record.specs.declared.record.Record.TheVariants.{Accept}
use Rattle.ms_record.specs.Acceptors.{IsGreatestBallot, IsTop}
use Rattle.ms_record.specs.Ballots.{IsAtMost}
use Rattle.ms_record.specs.BallotOrder.{one_ballot}
use Rattle.ms_record.specs.OneBest.{one_shown}
use Rattle.ms_record.specs.Offers.{IsFirstPromised}
use Rattle.ms_record.specs.Votes.{IsBest, IsGreatestTaken, IsTaken}
use Rattle.ms_record.specs.declared.sight.Sight.{Sight}
use Rattle.ms_record.specs.Sights.{IsSight, ShowsPromise, ShowsTaken}

record SamePromise (p q : Bool) (v w : Option Vote) : Type 0 where
  promised : p ≡ q
  best : v ≡ w

one_promise : (records : List Record) (position : ℕ) (ballot : Ballot) (p q : Bool) (v w : Option Vote) → ShowsPromise records position ballot p v → ShowsPromise records position ballot q w → SamePromise p q v w
one_promise records position ballot true true v w h k =
    record { promised = refl; best = one_shown records h.0 k.0 position ballot v w h.1 k.1 h.2 k.2 }
one_promise records position ballot true false v w h k = absurd (k.0 h.0 h.1.promised)
one_promise records position ballot false true v w h k = absurd (h.0 k.0 k.1.promised)
one_promise records position ballot false false v w h k = record { promised = refl; best = h.1 ∙ sym k.1 }

one_taken : (records : List Record) (position : ℕ) (ballot : Ballot) (p q : Bool) → ShowsTaken records position ballot p → ShowsTaken records position ballot q → p ≡ q
one_taken records position ballot true true h k = refl
one_taken records position ballot false false h k = refl
one_taken records position ballot true false h k = absurd (k h.0 h.1 h.2)
one_taken records position ballot false true h k = absurd (h k.0 k.1 k.2)

below_top : (records : List Record) (position : ℕ) (b c : Ballot) → IsGreatestBallot records position b → IsGreatestBallot records position c → IsAtMost b c
below_top records position b c h k = subst (λ (x : Ballot). IsAtMost x c) h.ballot_is (k.greatest h.place h.message (slice_get_within records h.place h.message h.stands) h.stands h.here)

one_top : (records : List Record) (position : ℕ) (b c : Option Ballot) → IsTop records position b → IsTop records position c → b ≡ c
one_top records position None None h k = refl
one_top records position None (Some c) h k = absurd (h k.place k.message k.stands k.here)
one_top records position (Some b) None h k = absurd (k h.place h.message h.stands h.here)
one_top records position (Some b) (Some c) h k = ap (λ (x : Ballot). Some x) (one_ballot b c (below_top records position b c h k) (below_top records position c b k h))

sight_is : (s t : Sight) → s.promised ≡ t.promised → s.best ≡ t.best → s.taken ≡ t.taken → s.top ≡ t.top → s ≡ t
sight_is s t a b c d = λ i. record { promised = a i; best = b i; taken = c i; top = d i }

pub one_sight : (records : List Record) (position : ℕ) (ballot : Ballot) (s t : Sight) → IsSight records position ballot s → IsSight records position ballot t → s ≡ t
one_sight records position ballot s t h k =
    let p = one_promise records position ballot s.promised t.promised s.best t.best h.promise k.promise in
    sight_is s t p.promised p.best (one_taken records position ballot s.taken t.taken h.taken k.taken) (one_top records position s.top t.top h.top k.top)
