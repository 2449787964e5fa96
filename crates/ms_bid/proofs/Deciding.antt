-- What the sights that a bidder has say of the lists behind them.
use Rattle.std.proofs.Common.{◌≡◌, ℕ, ◌<◌, Bool, true, false, cond, List, Option, Some, None, ◌⊎◌, inl, inr, refl, sym, ap, ◌∙◌, subst, length}
use Rattle.ms_record.specs.declared.ballot.Ballot.{Ballot}
use Rattle.ms_record.specs.declared.ballot.Vote.{Vote}
use Rattle.ms_record.specs.declared.entry.Entry.{Entry}
use Rattle.ms_record.specs.declared.record.Record.{Record}
use Rattle.ms_record.specs.declared.record.Record.TheVariants.{Accept}
use Rattle.ms_record.specs.Ballots.{IsBelow, IsAtMost}
use Rattle.ms_record.specs.Offers.{IsFirstPromised, Shows, IsOfGreatest, IsOwn, JustifiedBy}
use Rattle.ms_record.specs.Votes.{IsMajority, IsTaken, IsBest, ChosenBy}
use Rattle.ms_bid.specs.declared.act.Act.{Act}
use Rattle.ms_bid.specs.declared.act.Act.TheVariants.{Declare, End}
use Rattle.ms_bid.specs.declared.act.Outcome.TheVariants.{Decided}
use Rattle.ms_bid.specs.declared.bid.Bid.{Bid}
use Rattle.ms_record.specs.declared.sight.Sight.{Sight}
use Rattle.ms_bid.specs.declared.sight.Sought.{Sought}
use Rattle.ms_bid.specs.declared.sight.Sought.TheVariants.{Promise, Taken}
use Rattle.ms_record.specs.Sights.{IsSight, ShowsPromise, ShowsTaken}
use Rattle.ms_bid.specs.Shown.{shows, sight_at, shown_best, Most, GreatestUpTo}
use Rattle.ms_bid.specs.Bids.{IsBid, IsPending, IsOfBest, IsOfferOf, OnlySeen}
use Rattle.ms_bid.specs.Truths.{AreSights, NoneBefore, OneTaken, IsOfferJustified, IsDecidedTaken}
use Rattle.ms_record.specs.BallotOrder.{at_most_cases}
use Rattle.std.proofs.lemmas.Bool.{cases_lt}
use Rattle.std.proofs.lemmas.List.{get_or_past}

-- a service that shows something was seen
seen_by : (sought : Sought) (o : Option Sight) → shows sought o ≡ true → (sight : Sight) × (o ≡ Some sight)
seen_by sought None h = absurd cc
seen_by sought (Some sight) h = (sight, refl)

-- more than half of the voters are a majority
majority_by : (sought : Sought) (sights : List (Option Sight)) (voters : List ℕ) → OnlySeen sights voters → Most sought sights voters → IsMajority (λ s. shows sought (sight_at sights s)) voters
majority_by sought sights voters only most = record {
  within = λ s t. let x = seen_by sought (sight_at sights s) t in only s x.0 x.1;
  more_than_half = most;
}

taken_by : (records : List Record) (k : ℕ) (b : Ballot) (o : Option Sight) → ((sight : Sight) → o ≡ Some sight → IsSight records k b sight) → shows Taken o ≡ true
    → (place : ℕ) × (e : Entry) × IsTaken records place k b e
taken_by records k b None are t = absurd cc
taken_by records k b (Some sight) are t =
    let h : ShowsTaken records k b true = subst (λ (v : Bool). ShowsTaken records k b v) t (are sight refl).taken in h

-- where each taken Accept of the ballot has the entry, the majority that took the offer has it chosen
decided_chosen : (votes : ℕ → List Record) (sights : List (Option Sight)) (voters : List ℕ) (k : ℕ) (b : Ballot) (entry : Entry) → AreSights votes sights k b → OneTaken votes k b entry
    → OnlySeen sights voters → Most Taken sights voters → ChosenBy votes voters k entry
decided_chosen votes sights voters k b entry are one only most = record {
  ballot = b;
  part = λ s. shows Taken (sight_at sights s);
  majority = majority_by Taken sights voters only most;
  taken = λ s m.
      let t = taken_by (votes s) k b (sight_at sights s) (λ sight e. are s sight e) m in
      (t.0, subst (λ (e : Entry). IsTaken (votes s) t.0 k b e) (one s t.0 t.1 t.2) t.2);
}

-- a Best before the first promised Prepare is of a smaller ballot
best_below : (records : List Record) (k : ℕ) (b : Ballot) (place : ℕ) (best : Option Vote) (v : Vote) → IsFirstPromised records place k b
    → ((i : ℕ) (e : Entry) → i < place → IsTaken records i k b e → ⊥) → IsBest records k place best → best ≡ Some v → IsBelow v.ballot b
best_below records k b place best v first fresh is e =
    let g : IsBest records k place (Some v) = subst (λ (o : Option Vote). IsBest records k place o) e is in
    let m : IsAtMost v.ballot b = first.promised.none_above g.at (Accept k v.ballot v.entry) g.before g.taken.stands refl in
    elim (at_most_cases v.ballot b m) [
      | inl l ↦ l
      | inr q ↦ absurd (fresh g.at v.entry g.before (subst (λ (c : Ballot). IsTaken records g.at k c v.entry) q g.taken))
    ]

shown_by : (votes : ℕ → List Record) (sights : List (Option Sight)) (k : ℕ) (b : Ballot) → AreSights votes sights k b → NoneBefore votes k b
    → (s : ℕ) (o : Option Sight) → sight_at sights s ≡ o → shows Promise o ≡ true → Shows (votes s) k b (shown_best o)
shown_by votes sights k b are fresh s None is p = absurd cc
shown_by votes sights k b are fresh s (Some sight) is p =
    let x = are s sight is in
    let h : ShowsPromise (votes s) k b true sight.best = subst (λ (t : Bool). ShowsPromise (votes s) k b t sight.best) p x.promise in
    let same : shown_best (Some sight) ≡ sight.best = ap (λ (t : Bool). cond t sight.best None) p in
    subst (λ (o : Option Vote). Shows (votes s) k b o) (sym same)
    (record { place = h.0; first = h.1; best_is = h.2; below = λ v e. best_below (votes s) k b h.0 sight.best v h.1 (λ i e l t. fresh s h.0 i e h.1 l t) h.2 e })

-- a service with a Best promised
best_promises : (o : Option Sight) (v : Vote) → shown_best o ≡ Some v → shows Promise o ≡ true
best_promises None v h = absurd cc
best_promises (Some sight) v h = go sight.promised h where
  go : (t : Bool) → cond t sight.best None ≡ Some v → t ≡ true
  go true e = refl
  go false e = absurd cc

within_sights : (sights : List (Option Sight)) (s : ℕ) → shows Promise (sight_at sights s) ≡ true → s < length sights
within_sights sights s h =
    elim (cases_lt s (length sights)) [
      | inl l ↦ l
      | inr g ↦ absurd (let q : false ≡ true = ap (λ (o : Option Sight). shows Promise o) (sym (get_or_past sights s None g)) ∙ h in cc)
    ]

none_at : (o : Option Vote) → ((v : Vote) → o ≡ Some v → ⊥) → o ≡ None
none_at None h = refl
none_at (Some v) h = absurd (h v refl)

-- the offer that the rule gives is justified by the lists behind the sights
offer_justified : (votes : ℕ → List Record) (sights : List (Option Sight)) (voters : List ℕ) (k : ℕ) (b : Ballot) (want : Option Entry) (entry : Entry) → AreSights votes sights k b → NoneBefore votes k b
    → OnlySeen sights voters → ((e : Entry) → want ≡ Some e → e.client ≡ b.client) → IsOfferOf sights voters want entry → JustifiedBy votes voters k b entry
offer_justified votes sights voters k b want entry are fresh only own o = record {
  part = λ s. shows Promise (sight_at sights s);
  bests = λ s. shown_best (sight_at sights s);
  majority = majority_by Promise sights voters only o.most;
  shown = λ s m. shown_by votes sights k b are fresh s (sight_at sights s) refl m;
  entry_is = go o.best o.greatest o.entry_is;
} where
  go : (best : Option Vote) → GreatestUpTo sights (length sights) best → IsOfBest best want entry
      → IsOfGreatest (λ s. shows Promise (sight_at sights s)) (λ s. shown_best (sight_at sights s)) entry ⊎ IsOwn (λ s. shows Promise (sight_at sights s)) (λ s. shown_best (sight_at sights s)) b entry
  go (Some v) g e = inl (record {
    service = g.service;
    vote = v;
    member = best_promises (sight_at sights g.service) v g.has;
    has = g.has;
    greatest = λ s u m e. g.greatest s u (within_sights sights s m) e;
    least = λ s u m e q. g.least s u (within_sights sights s m) e q;
    entry_is = e;
  })
  go None g e = inr (record { none = λ s m. none_at (shown_best (sight_at sights s)) (λ v q. g s v (within_sights sights s m) q); client_is = own entry e })

same_accept : (k : ℕ) (b : Ballot) (e f : Entry) → Accept k b e ≡ Accept k b f → f ≡ e
same_accept k b e f h = cc

pub bid_justified : (b : Bid) → IsBid b → IsOfferJustified b
bid_justified b h votes entry are fresh is =
    let d : IsPending b (Declare (Accept b.position b.ballot entry)) = subst (λ (a : Act). IsPending b a) is h.pending in
    let o : IsOfferOf b.first_looks b.voters b.want entry = subst (λ (x : Entry). IsOfferOf b.first_looks b.voters b.want x) (same_accept b.position b.ballot entry d.1 d.2) d.3 in
    offer_justified votes b.first_looks b.voters b.position b.ballot b.want entry are fresh h.framed.first_of h.framed.own o

pub bid_decided : (b : Bid) → IsBid b → IsDecidedTaken b
bid_decided b h votes entry are one is =
    let d : IsPending b (End (Decided entry)) = subst (λ (a : Act). IsPending b a) is h.pending in
    decided_chosen votes b.second_looks b.voters b.position b.ballot entry are one h.framed.second_of d.2
