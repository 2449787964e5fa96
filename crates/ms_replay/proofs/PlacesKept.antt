-- What the places of a tally keep, also where nothing stands.
use Rattle.std.proofs.Common.{◌≡◌, ℕ, ◌<◌, List, [], Option, Some, None, refl, sym, subst, slice_get, arith}
use Rattle.std.specs.Option.{unwrap_or}
use Rattle.ms_replay.specs.declared.voted.Voted.{Voted}
use Rattle.ms_replay.specs.Places.{AreInOrder, AreKept, IsPlace}
use Rattle.ms_replay.specs.Tallies.{PlaceView, TallyView, AreSorted, AreVotes, AreKnown, found_at, nothing_there, place_at}
use Rattle.ms_replay.specs.Winners.{AreHere}
use Rattle.ms_replay.proofs.VoteOrder.{in_order}

none_in : (i : ℕ) (v : Voted) → slice_get [] i ≡ Some v → ⊥
none_in i v g = (let q : None ≡ Some v = g in cc)

-- the votes that stand at a position
pub record HasVotes (services position : ℕ) (part : List Voted) : Type 0 where
  pub votes : AreVotes part
  pub here : (i : ℕ) (v : Voted) → slice_get part i ≡ Some v → v.position ≡ position
  pub known : AreKnown services part

pub kept_at : (t : TallyView) (k : ℕ) → AreKept t → HasVotes t.services k (place_at t.places k).votes
kept_at t k kept = there (found_at t.places k) (kept k)
  where
    there : (o : Option PlaceView) → ((p : PlaceView) → o ≡ Some p → IsPlace t.services k p) → HasVotes t.services k (unwrap_or o nothing_there).votes
    there None h = record { votes = λ i v g. absurd (none_in i v g); here = λ i v g. absurd (none_in i v g); known = λ i v g. absurd (none_in i v g) }
    there (Some p) h = let place = h p refl in record { votes = place.votes; here = place.here; known = place.known }

pub sorted_at : (t : TallyView) (k : ℕ) → AreInOrder t → AreSorted (place_at t.places k).votes
sorted_at t k sorted = there (found_at t.places k) (sorted k)
  where
    there : (o : Option PlaceView) → ((p : PlaceView) → o ≡ Some p → AreSorted p.votes) → AreSorted (unwrap_or o nothing_there).votes
    there None h = λ i d from within. absurd (omega arith)
    there (Some p) h = h p refl

-- the votes of one position, as a standing wants them
pub votes_here : (t : TallyView) (k : ℕ) (part : List Voted) → part ≡ (place_at t.places k).votes → AreKept t → AreInOrder t → AreHere k part
votes_here t k part is kept sorted =
    let place = kept_at t k kept in
    subst (AreHere k) (sym is) (record {
      votes = place.votes;
      here = place.here;
      order = λ i j v w l gv gw. in_order (place_at t.places k).votes i j v w (sorted_at t k sorted) l gv gw;
    })
