-- Places whose votes were brought in order.
use Rattle.std.proofs.Common.{◌≡◌, ℕ, ◌<◌, Bool, true, false, cond, List, [], ◌∷◌, Option, Some, None, refl, sym, ap, ◌∙◌, subst, slice_get, length}
use Rattle.std.specs.List.Sorted.{IsPermutation}
use Rattle.std.specs.Map.Calls.{RetainsPairs}
use Rattle.std.specs.Option.{unwrap_or}
use Rattle.std.proofs.lemmas.List.Sorted.{IsPermutation-sym}
use Rattle.ms_record.specs.declared.ballot.Ballot.{Ballot}
use Rattle.ms_record.specs.declared.entry.Entry.{Entry}
use Rattle.ms_record.specs.declared.record.Record.{Record}
use Rattle.ms_record.specs.Acceptors.{IsTop}
use Rattle.ms_replay.specs.declared.voted.Voted.{Voted}
use Rattle.ms_replay.specs.Places.{AreInOrder, AreKept, IsPlace}
use Rattle.ms_replay.specs.Tallies.{PlaceView, TallyView, AreSorted, HasVote, IsPlaceOf, IsTallyOf, found_at, nothing_there, top_of}
use Rattle.ms_replay.proofs.VoteOrder.{moved}
use Rattle.std.specs.BTreeMap.{is_at}
use Rattle.std.specs.Ordering.{nat_cmp}

-- the same ballots and votes, these in order
pub record IsReordered (old new : PlaceView) : Type 0 where
  pub tops : new.tops ≡ old.tops
  pub votes : IsPermutation old.votes new.votes
  pub sorted : AreSorted new.votes

abbrev pub AreReordered : Option PlaceView → Option PlaceView → Type 0
AreReordered None None = Unit {0}
AreReordered None (Some new) = ⊥
AreReordered (Some old) None = ⊥
AreReordered (Some old) (Some new) = IsReordered old new

-- where each call keeps its entry and reorders its place
pub reordered : {F : Type 0} (T : F → ℕ → PlaceView → Bool → PlaceView → F → Type 0)
    → ((f : F) (k : ℕ) (v : PlaceView) (b : Bool) (w : PlaceView) (g : F) → T f k v b w g → (b ≡ true) × (w.tops ≡ v.tops) × IsPermutation v.votes w.votes × AreSorted w.votes)
    → (f : F) (es kept : List (ℕ × PlaceView)) → RetainsPairs T f es kept → (k : ℕ) → AreReordered (found_at es k) (found_at kept k)
reordered T sorts f [] kept h k = subst (λ (es : List (ℕ × PlaceView)). AreReordered None (found_at es k)) (sym h) tt
reordered T sorts f (e ∷ es) kept h k =
    let made = sorts f e.0 e.1 h.0 h.1 h.2 h.4 in
    let is : kept ≡ (e.0, h.1) ∷ h.3 = h.6 ∙ ap (λ (b : Bool). cond b ((e.0, h.1) ∷ h.3) h.3) made.0 in
    let rest = reordered T sorts h.2 es h.3 h.5 k in
    subst (λ (xs : List (ℕ × PlaceView)). AreReordered (found_at (e ∷ es) k) (found_at xs k)) (sym is)
    (step (is_at (nat_cmp k) e.0) e.1 h.1 (found_at es k) (found_at h.3 k) (record { tops = made.1; votes = made.2; sorted = made.3 }) rest)
  where
    step : (b : Bool) (v w : PlaceView) (o p : Option PlaceView) → IsReordered v w → AreReordered o p → AreReordered (cond b (Some v) o) (cond b (Some w) p)
    step true v w o p one all = one
    step false v w o p one all = all

place_reordered : (n k : ℕ) (v w : PlaceView) → IsReordered v w → IsPlace n k v → IsPlace n k w
place_reordered n k v w h place =
    let back = IsPermutation-sym v.votes w.votes h.votes in
    record {
      wide = ap length h.tops ∙ place.wide;
      votes = λ i x g. let m = moved w.votes v.votes i x back g in place.votes m.0 x m.1;
      here = λ i x g. let m = moved w.votes v.votes i x back g in place.here m.0 x m.1;
      known = λ i x g. let m = moved w.votes v.votes i x back g in place.known m.0 x m.1;
    }

pub kept_reordered : (t u : TallyView) → u.services ≡ t.services → ((k : ℕ) → AreReordered (found_at t.places k) (found_at u.places k)) → AreKept t → AreKept u
kept_reordered t u same each kept k w g = subst (λ (n : ℕ). IsPlace n k w) (sym same) (there (found_at t.places k) (found_at u.places k) (each k) (kept k) g)
  where
    there : (o p : Option PlaceView) → AreReordered o p → ((v : PlaceView) → o ≡ Some v → IsPlace t.services k v) → p ≡ Some w → IsPlace t.services k w
    there None None one all is = (let q : None ≡ Some w = is in cc)
    there None (Some x) one all is = absurd one
    there (Some v) None one all is = absurd one
    there (Some v) (Some x) one all is = subst (IsPlace t.services k) (let q : Some x ≡ Some w = is in cc) (place_reordered t.services k v x one (all v refl))

pub order_reordered : (t u : TallyView) → ((k : ℕ) → AreReordered (found_at t.places k) (found_at u.places k)) → AreInOrder u
order_reordered t u each k w g = there (found_at t.places k) (found_at u.places k) (each k) g
  where
    there : (o p : Option PlaceView) → AreReordered o p → p ≡ Some w → AreSorted w.votes
    there None None one is = (let q : None ≡ Some w = is in cc)
    there None (Some x) one is = absurd one
    there (Some v) None one is = absurd one
    there (Some v) (Some x) one is =
        let q : Some x ≡ Some w = is in
        let same : x ≡ w = cc in
        subst (λ (y : PlaceView). AreSorted y.votes) same one.sorted

has_moved : (old new : List Voted) (s k : ℕ) (b : Ballot) (e : Entry) → IsPermutation old new → HasVote old s k b e → HasVote new s k b e
has_moved old new s k b e p h = let m = moved old new h.place h.vote p h.stands in record { place = m.0; vote = h.vote; stands = m.1; service_is = h.service_is; reads = h.reads }

shows_reordered : (s k : ℕ) (xs : List Record) (o p : Option PlaceView) → AreReordered o p → IsPlaceOf s xs k (unwrap_or o nothing_there) → IsPlaceOf s xs k (unwrap_or p nothing_there)
shows_reordered s k xs None None one h = h
shows_reordered s k xs None (Some w) one h = absurd one
shows_reordered s k xs (Some v) None one h = absurd one
shows_reordered s k xs (Some v) (Some w) one h = record {
  top = subst (λ (o : Option Ballot). IsTop xs k o) (ap (λ (ts : List (Option Ballot)). top_of (record { tops = ts; votes = v.votes }) s) (sym one.tops)) h.top;
  taken = λ b e x. h.taken b e (has_moved w.votes v.votes s k b e (IsPermutation-sym v.votes w.votes one.votes) x);
  kept = λ q b e x. has_moved v.votes w.votes s k b e one.votes (h.kept q b e x);
}

pub tally_reordered : (lists : ℕ → List Record) (t u : TallyView) → u.services ≡ t.services → ((k : ℕ) → AreReordered (found_at t.places k) (found_at u.places k)) → IsTallyOf lists t → IsTallyOf lists u
tally_reordered lists t u same each h = record {
  positions = λ s place r l g. h.positions s place r (subst (λ (n : ℕ). s < n) same l) g;
  places = λ s k l. shows_reordered s k (lists s) (found_at t.places k) (found_at u.places k) (each k) (h.places s k (subst (λ (n : ℕ). s < n) same l));
}
