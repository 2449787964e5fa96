-- The rules of bids in the terms of deeds.
use Rattle.std.proofs.Common.{◌≡◌, ℕ, ◌*◌, ◌≤◌, ◌<◌, Bool, true, false, cond, List, Option, Some, None, ◌⊎◌, inl, inr, refl, sym, ap, ◌∙◌, subst, length, take, arith}
use Rattle.std.specs.Prelude.{Contains, ◌&&◌}
use Rattle.ms_bid.specs.declared.sight.Sought.TheVariants.{Promise, Taken}
use Rattle.ms_bid.specs.Bids.{IsOfBest, IsOfferOf as BidOffers, OnlySeen}
use Rattle.ms_bid.specs.Shown.{shows, shown_best, sight_at, Most, GreatestUpTo}
use Rattle.ms_record.specs.declared.ballot.Vote.{Vote}
use Rattle.ms_record.specs.declared.entry.Entry.{Entry}
use Rattle.ms_record.specs.declared.sight.Sight.{Sight}
use Rattle.ms_record.specs.Offers.{IsOfGreatest}
use Rattle.ms_record.specs.Votes.{IsMajority}
use Rattle.ms_local.specs.Rules.{IsOfferOf, IsWanted, best_in, is_voter, promised_by, promises, taken_by, takes}
use Rattle.ms_propose.proofs.Lists.{count_same, is_member, member_is, take_at}

promises_as : (o : Option Sight) → promises o ≡ shows Promise o
promises_as None = refl
promises_as (Some sight) = refl

takes_as : (o : Option Sight) → takes o ≡ shows Taken o
takes_as None = refl
takes_as (Some sight) = refl

and_left : (a b : Bool) → (a && b) ≡ true → a ≡ true
and_left true b h = refl
and_left false b h = absurd cc

and_right : (a b : Bool) → (a && b) ≡ true → b ≡ true
and_right true b h = h
and_right false b h = absurd cc

and_both : (a b : Bool) → a ≡ true → b ≡ true → (a && b) ≡ true
and_both true b h k = k
and_both false b h k = absurd cc

best_promised : (o : Option Sight) → promises o ≡ true → shown_best o ≡ best_in o
best_promised None h = absurd cc
best_promised (Some sight) h = ap (λ (t : Bool). cond t sight.best None) h

best_promises : (o : Option Sight) (v : Vote) → shown_best o ≡ Some v → promises o ≡ true
best_promises None v h = absurd cc
best_promises (Some sight) v h = go sight.promised h where
  go : (t : Bool) → cond t sight.best None ≡ Some v → t ≡ true
  go true e = refl
  go false e = absurd cc

seen_there : (o : Option Sight) → promises o ≡ true → (sight : Sight) × (o ≡ Some sight)
seen_there None h = absurd cc
seen_there (Some sight) h = (sight, refl)

none_there : (o : Option Vote) → ((v : Vote) → o ≡ Some v → ⊥) → o ≡ None
none_there None h = refl
none_there (Some v) h = absurd (h v refl)

module _ (n : ℕ) (few : n ≤ 16) (voters : List ℕ) (below : (s : ℕ) → Contains voters s → s < n) (sights : List (Option Sight)) (many : length sights ≡ 16) (only : OnlySeen sights voters) where
  -- a voter's sight stands in the front
  front_at : (s : ℕ) → Contains voters s → sight_at (take n sights) s ≡ sight_at sights s
  front_at s c = take_at n sights s None (below s c)

  -- the test of the rules, where a voter promised
  promised_same : (s : ℕ) → Contains voters s → promised_by voters (take n sights) s ≡ shows Promise (sight_at sights s)
  promised_same s c =
      ap (λ (b : Bool). b && promises (sight_at (take n sights) s)) (member_is voters s c)
      ∙ (ap promises (front_at s c) ∙ promises_as (sight_at sights s))

  taken_same : (s : ℕ) → Contains voters s → taken_by voters (take n sights) s ≡ shows Taken (sight_at sights s)
  taken_same s c =
      ap (λ (b : Bool). b && takes (sight_at (take n sights) s)) (member_is voters s c)
      ∙ (ap takes (front_at s c) ∙ takes_as (sight_at sights s))

  voter_of : (s : ℕ) → promised_by voters (take n sights) s ≡ true → Contains voters s
  voter_of s h = is_member voters s (and_left (is_voter voters s) (promises (sight_at (take n sights) s)) h)

  promised_there : (s : ℕ) → promised_by voters (take n sights) s ≡ true → promises (sight_at sights s) ≡ true
  promised_there s h =
      subst (λ (o : Option Sight). promises o ≡ true) (front_at s (voter_of s h)) (and_right (is_voter voters s) (promises (sight_at (take n sights) s)) h)

  -- what was shown of the Best of one that promised
  best_same : (s : ℕ) → promised_by voters (take n sights) s ≡ true → shown_best (sight_at sights s) ≡ best_in (sight_at (take n sights) s)
  best_same s h = best_promised (sight_at sights s) (promised_there s h) ∙ ap best_in (sym (front_at s (voter_of s h)))

  within_all : (s : ℕ) → promised_by voters (take n sights) s ≡ true → s < length sights
  within_all s h = omega (arith, below s (voter_of s h), few, many)

  shown_promised : (s : ℕ) (v : Vote) → shown_best (sight_at sights s) ≡ Some v → promised_by voters (take n sights) s ≡ true
  shown_promised s v h =
      let p = best_promises (sight_at sights s) v h in
      let x = seen_there (sight_at sights s) p in
      let c = only s x.0 x.1 in
      promised_same s c ∙ (sym (promises_as (sight_at sights s)) ∙ p)

  pub promised_majority : Most Promise sights voters → IsMajority (promised_by voters (take n sights)) voters
  promised_majority most = record {
    within = voter_of;
    more_than_half =
        let same = count_same (promised_by voters (take n sights)) (λ s. shows Promise (sight_at sights s)) voters promised_same in
        subst (λ (k : ℕ). length voters < 2 * k) (sym same) most;
  }

  pub taken_majority : Most Taken sights voters → IsMajority (taken_by voters (take n sights)) voters
  taken_majority most = record {
    within = λ s h. is_member voters s (and_left (is_voter voters s) (takes (sight_at (take n sights) s)) h);
    more_than_half =
        let same = count_same (taken_by voters (take n sights)) (λ s. shows Taken (sight_at sights s)) voters taken_same in
        subst (λ (k : ℕ). length voters < 2 * k) (sym same) most;
  }

  -- what may be offered by the machine may be offered by the rules
  pub offer_rule : (want : Option Entry) (position : ℕ) (entry : Entry) → BidOffers sights voters want entry → IsOfferOf (record { want = want; voters = voters; position = position }) (take n sights) entry
  offer_rule want position entry o = record { majority = promised_majority o.most; entry_is = go o.best o.greatest o.entry_is } where
    go : (best : Option Vote) → GreatestUpTo sights (length sights) best → IsOfBest best want entry
        → IsOfGreatest (promised_by voters (take n sights)) (λ s. best_in (sight_at (take n sights) s)) entry ⊎ IsWanted (promised_by voters (take n sights)) (λ s. best_in (sight_at (take n sights) s)) want entry
    go (Some v) g e =
        let member = shown_promised g.service v g.has in
        inl (record {
          service = g.service;
          vote = v;
          member = member;
          has = sym (best_same g.service member) ∙ g.has;
          greatest = λ s u m b. g.greatest s u (within_all s m) (best_same s m ∙ b);
          least = λ s u m b q. g.least s u (within_all s m) (best_same s m ∙ b) q;
          entry_is = e;
        })
    go None g e = inr (record {
      none = λ s m. none_there (best_in (sight_at (take n sights) s)) (λ v q. g s v (within_all s m) (best_same s m ∙ q));
      own = e;
    })
