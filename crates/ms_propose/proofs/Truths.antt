-- What true sights give, where a setting is told.
use Rattle.std.proofs.Common.{◌≡◌, ℕ, ◌+◌, ◌<◌, Bool, true, false, cond, List, [], Option, Some, None, inl, inr, refl, sym, ap, ◌∙◌, subst, length, slice_get, arith}
use Rattle.std.specs.Prelude.{Contains}
use Rattle.std.proofs.lemmas.Bool.{cases_lt}
use Rattle.std.proofs.lemmas.Option.{slice_get_within}
use mathlib.Core.List.{IsPrefix}
use Rattle.ms_base.specs.declared.names.ServiceId.{ServiceId}
use Rattle.ms_base.specs.Places.{at_contains, contains_at}
use Rattle.ms_bid.specs.declared.act.Act.{Act}
use Rattle.ms_bid.specs.declared.act.Act.TheVariants.{Declare, End}
use Rattle.ms_bid.specs.declared.act.Outcome.TheVariants.{Decided, Nothing, Unlisted}
use Rattle.ms_bid.specs.declared.bid.Bid.{Bid}
use Rattle.ms_bid.specs.declared.sight.Sought.TheVariants.{Promise}
use Rattle.ms_bid.specs.Bids.{IsBid, IsFramed, IsPending, IsOfBest, IsOfferOf, message_of, seen_of, sought_of}
use Rattle.ms_bid.specs.Ends.{ShowsGreater}
use Rattle.ms_bid.specs.Shown.{shows, shown_best, sight_at, GreatestUpTo}
use Rattle.ms_bid.specs.Truths.{AreSights, IsDecidedTaken, IsOfferJustified}
use Rattle.ms_core.specs.Views.{View, log_in, offers_told, votes_told, IsNextMaster}
use Rattle.ms_ken.specs.Prefixes.{prefix_get}
use Rattle.ms_record.specs.declared.ballot.Ballot.{Ballot}
use Rattle.ms_record.specs.declared.ballot.Vote.{Vote}
use Rattle.ms_record.specs.declared.entry.Entry.{Entry}
use Rattle.ms_record.specs.declared.record.Record.{Record}
use Rattle.ms_record.specs.declared.record.Record.TheVariants.{Prepare, Accept}
use Rattle.ms_record.specs.declared.setting.Setting.{Setting}
use Rattle.ms_record.specs.declared.sight.Sight.{Sight}
use Rattle.ms_record.specs.Acceptors.{IsTop}
use Rattle.ms_record.specs.BallotOrder.{at_most_cases, at_most_trans, not_above}
use Rattle.ms_record.specs.Ballots.{IsAtMost, IsBelow}
use Rattle.ms_record.specs.Chains.{IsLinked}
use Rattle.ms_record.specs.Growing.{chosen_grows, justified_grows, taken_grows}
use Rattle.ms_record.specs.Offers.{GrowsTo, IsFirstPromised, IsOffered, JustifiedBy}
use Rattle.ms_record.specs.Settings.{origin_of}
use Rattle.ms_record.specs.Sights.{IsSight, ShowsPromise, ShowsTaken}
use Rattle.ms_record.specs.Votes.{ChosenBy, IsBest, IsTaken, NoneAbove, ballot_of, position_of}
use Rattle.ms_propose.specs.TrueBids.{AreListed, AreTrue, HasOffer, IsNewest, IsTrueBid}
use Rattle.ms_local.specs.Truths.{IsTrueSight}
use Rattle.ms_propose.proofs.Lists.{halves_meet}

-- what is known of a view that tells this setting
pub record ViewLaws (setting : Setting) (view : View) : Type 0 where
  pub votes : (service place k : ℕ) (b : Ballot) (e : Entry) → slice_get (votes_told view service) place ≡ Some (Accept k b e) → IsOffered (offers_told view) k b e
  pub one_offer : (k : ℕ) (b : Ballot) (e f : Entry) → IsOffered (offers_told view) k b e → IsOffered (offers_told view) k b f → e ≡ f
  pub voted : (c : List Entry) (service place : ℕ) (b : Ballot) (e : Entry) → IsLinked (votes_told view) (origin_of setting) c
      → slice_get (votes_told view service) place ≡ Some (Accept (length c + 1) b e) → IsNextMaster setting (log_in view) c e

module _ (low lists : View) (k : ℕ) (b : Ballot) where
  -- the list behind what was seen of a service
  abbrev behind : (s : ℕ) (o : Option Sight) → ((sight : Sight) → o ≡ Some sight → IsTrueSight low lists k b s sight) → List Record
  behind s None h = []
  behind s (Some sight) h = (h sight refl).list

  behind_begins : (s : ℕ) (o : Option Sight) (h : (sight : Sight) → o ≡ Some sight → IsTrueSight low lists k b s sight) → IsPrefix (behind s o h) (votes_told lists s)
  behind_begins s None h = (votes_told lists s, refl)
  behind_begins s (Some sight) h = (h sight refl).begins

  behind_seen : (s : ℕ) (o : Option Sight) (h : (sight : Sight) → o ≡ Some sight → IsTrueSight low lists k b s sight) (sight : Sight) → o ≡ Some sight → IsSight (behind s o h) k b sight
  behind_seen s None h sight e = absurd cc
  behind_seen s (Some seen) h sight e = subst (λ (x : Sight). IsSight (h seen refl).list k b x) (let q : seen ≡ sight = cc in q) (h seen refl).seen

  abbrev lists_of : (sights : List (Option Sight)) → AreTrue low lists k b sights → ℕ → List Record
  lists_of sights are s = behind s (sight_at sights s) (are s)

  lists_grow : (sights : List (Option Sight)) (are : AreTrue low lists k b sights) → GrowsTo (lists_of sights are) (votes_told lists)
  lists_grow sights are s = behind_begins s (sight_at sights s) (are s)

  lists_seen : (sights : List (Option Sight)) (are : AreTrue low lists k b sights) → AreSights (lists_of sights are) sights k b
  lists_seen sights are s sight e = behind_seen s (sight_at sights s) (are s) sight e

  -- an Accept of one of these lists stands in the view
  stands_there : (sights : List (Option Sight)) (are : AreTrue low lists k b sights) (s place : ℕ) (c : Ballot) (e : Entry)
      → IsTaken (lists_of sights are s) place k c e → slice_get (votes_told lists s) place ≡ Some (Accept k c e)
  stands_there sights are s place c e t = prefix_get (lists_of sights are s) (votes_told lists s) place (Accept k c e) (lists_grow sights are s) t.stands

-- the offer of a ballot that is newer than each offer of its client was not made
not_offered : (lists : View) (k : ℕ) (b : Ballot) (e : Entry) → IsNewest lists b → IsOffered (offers_told lists) k b e → ⊥
not_offered lists k b e newest o =
    let l = newest k b e (at_contains (offers_told lists b.client.0) o.0 (Accept k b e) o.1) in absurd (omega (arith, l))

-- before the declaration
pub newest_of : (lists : View) (k : ℕ) (b : Ballot) (offer : Option Entry) → HasOffer lists k b offer → offer ≡ None → IsNewest lists b
newest_of lists k b offer h e = subst (λ (o : Option Entry). HasOffer lists k b o) e h

module _ (setting : Setting) (low lists : View) (b : Bid) (laws : ViewLaws setting lists) (t : IsTrueBid setting low lists b) (whole : IsBid b) where
  -- the offer that is pending is justified
  pub true_justified : (entry : Entry) → IsOfferJustified b → b.act ≡ Declare (Accept b.position b.ballot entry) → JustifiedBy (votes_told lists) b.voters b.position b.ballot entry
  true_justified entry law is =
      let pending : IsPending b (Declare (Accept b.position b.ballot entry)) = subst (λ (a : Act). IsPending b a) is whole.pending in
      let newest = newest_of lists b.position b.ballot b.offer t.offer pending.4 in
      let old = lists_of low lists b.position b.ballot b.first_looks t.looks in
      justified_grows old (votes_told lists) b.voters b.position b.ballot entry (lists_grow low lists b.position b.ballot b.first_looks t.looks)
      (law old entry (lists_seen low lists b.position b.ballot b.first_looks t.looks)
      (λ s place i e first before taken. not_offered lists b.position b.ballot e newest (laws.votes s i b.position b.ballot e (stands_there low lists b.position b.ballot b.first_looks t.looks s i b.ballot e taken))) is)

  -- it links on, with a version that is whole
  pub true_next : (entry : Entry) → IsOfferOf b.first_looks b.voters b.want entry → IsNextMaster setting (log_in lists) t.seated.members entry
  true_next entry o = go o.best o.greatest o.entry_is where
    best_taken : (records : List Record) (o : Option Sight) (v : Vote) → ((sight : Sight) → o ≡ Some sight → IsSight records b.position b.ballot sight) → shown_best o ≡ Some v
        → (place : ℕ) × IsTaken records place b.position v.ballot v.entry
    best_taken records None v are e = absurd cc
    best_taken records (Some sight) v are e = by sight.promised refl e where
      by : (p : Bool) → sight.promised ≡ p → cond p sight.best None ≡ Some v → (place : ℕ) × IsTaken records place b.position v.ballot v.entry
      by false q f = absurd cc
      by true q f =
          let h : ShowsPromise records b.position b.ballot true sight.best = subst (λ (x : Bool). ShowsPromise records b.position b.ballot x sight.best) q (are sight refl).promise in
          let g : IsBest records b.position h.0 (Some v) = subst (λ (x : Option Vote). IsBest records b.position h.0 x) f h.2 in
          (g.at, g.taken)

    go : (best : Option Vote) → GreatestUpTo b.first_looks (length b.first_looks) best → IsOfBest best b.want entry → IsNextMaster setting (log_in lists) t.seated.members entry
    go None g e = t.seated.next entry e
    go (Some v) g e =
        let seen = lists_seen low lists b.position b.ballot b.first_looks t.looks g.service in
        let x = best_taken (lists_of low lists b.position b.ballot b.first_looks t.looks g.service) (sight_at b.first_looks g.service) v seen g.has in
        let stands = stands_there low lists b.position b.ballot b.first_looks t.looks g.service x.0 v.ballot v.entry x.1 in
        subst (λ (f : Entry). IsNextMaster setting (log_in lists) t.seated.members f) (sym e)
        (laws.voted t.seated.members g.service x.0 v.ballot v.entry t.seated.linked
        (subst (λ (k : ℕ). slice_get (votes_told lists g.service) x.0 ≡ Some (Accept k v.ballot v.entry)) (sym t.seated.at) stands))

  -- what a bid decided is chosen
  pub true_chosen : (entry : Entry) → IsDecidedTaken b → b.act ≡ End (Decided entry) → ChosenBy (votes_told lists) b.voters b.position entry
  true_chosen entry law is =
      let pending : IsPending b (End (Decided entry)) = subst (λ (a : Act). IsPending b a) is whole.pending in
      let offered : IsOffered (offers_told lists) b.position b.ballot entry = subst (λ (o : Option Entry). HasOffer lists b.position b.ballot o) pending.1 t.offer in
      let old = lists_of low lists b.position b.ballot b.second_looks t.votes in
      chosen_grows old (votes_told lists) b.voters b.position entry (lists_grow low lists b.position b.ballot b.second_looks t.votes)
      (law old entry (lists_seen low lists b.position b.ballot b.second_looks t.votes)
      (λ s place e taken. laws.one_offer b.position b.ballot e entry (laws.votes s place b.position b.ballot e (stands_there low lists b.position b.ballot b.second_looks t.votes s place b.ballot e taken)) offered) is)

  none_there : (o : Option Vote) → ((v : Vote) → o ≡ Some v → ⊥) → o ≡ None
  none_there None h = refl
  none_there (Some v) h = absurd (h v refl)

  -- a promise, behind which an Accept of some ballot is taken, and no greater ballot
  no_other : (list : List Record) (x : Sight) (q p : ℕ) (a : Ballot) (e : Entry) → IsSight list b.position b.ballot x → IsFirstPromised list q b.position b.ballot → IsTaken list p b.position a e → q < p
      → ((top : Ballot) → x.top ≡ Some top → IsBelow b.ballot top → ⊥) → a ≡ b.ballot
  no_other list x q p a e seen first taken behind none = by x.top refl seen.top where
    at_least : IsAtMost b.ballot a
    at_least = taken.none_above q (Prepare b.position b.ballot) behind first.promised.stands refl

    by : (o : Option Ballot) → x.top ≡ o → IsTop list b.position o → a ≡ b.ballot
    by None is top = absurd (top p (Accept b.position a e) taken.stands refl)
    by (Some g) is top =
        let under : IsAtMost a g = top.greatest p (Accept b.position a e) (slice_get_within list p (Accept b.position a e) taken.stands) taken.stands refl in
        elim (at_most_cases b.ballot g (at_most_trans b.ballot a g at_least under)) [
          | inl less ↦ absurd (none g is less)
          | inr same ↦ elim (at_most_cases b.ballot a at_least) [
            | inl less ↦ absurd (not_above a b.ballot less (subst (λ (z : Ballot). IsAtMost a z) (sym same) under))
            | inr is_it ↦ sym is_it
          ]
        ]

  -- where a settling bid finds nothing, nothing was chosen before it
  pub nothing_chosen : (entry : Entry) → b.act ≡ End Nothing → ChosenBy (votes_told low) b.voters b.position entry → ⊥
  nothing_chosen entry is chosen = go (meet.0) (sight_at b.first_looks meet.0) refl meet.1 (chosen.taken meet.0 meet.2) where
    pending : IsPending b (End Nothing)
    pending = subst (λ (a : Act). IsPending b a) is whole.pending

    newest : IsNewest lists b.ballot
    newest = newest_of lists b.position b.ballot b.offer t.offer pending.1.before

    meet : (s : ℕ) × (shows Promise (sight_at b.first_looks s) ≡ true) × (chosen.part s ≡ true)
    meet = halves_meet (λ s. shows Promise (sight_at b.first_looks s)) chosen.part b.voters pending.1.most chosen.majority.more_than_half

    late : (s q p : ℕ) (list : List Record) (x : Sight) → sight_at b.first_looks s ≡ Some x → x.promised ≡ true → IsPrefix list (votes_told lists s) → IsSight list b.position b.ballot x
        → IsFirstPromised list q b.position b.ballot → IsBest list b.position q x.best → IsTaken list p b.position chosen.ballot entry → ⊥
    late s q p list x at promised begins seen first best taken =
        let within : s < length b.first_looks = omega (arith, whole.framed.below s (whole.framed.first_of s x at), whole.framed.first_many) in
        let none : x.best ≡ None = none_there x.best (λ v e. pending.1.no_best s v within (ap shown_best at ∙ (ap (λ (c : Bool). cond c x.best None) promised ∙ e))) in
        let empty : IsBest list b.position q None = subst (λ (o : Option Vote). IsBest list b.position q o) none best in
        elim (cases_lt p q) [
          | inl before ↦ empty p chosen.ballot entry before taken
          | inr after ↦ elim (cases_lt q p) [
            | inl behind ↦ (
                let same = no_other list x q p chosen.ballot entry seen first taken behind (λ top is_top less. pending.2 s top within (subst (λ (o : Option Sight). ShowsGreater b.ballot o top) (sym at) (is_top, less))) in
                let stands : slice_get (votes_told lists s) p ≡ Some (Accept b.position b.ballot entry) = prefix_get list (votes_told lists s) p (Accept b.position b.ballot entry) begins (subst (λ (z : Ballot). slice_get list p ≡ Some (Accept b.position z entry)) same taken.stands) in
                not_offered lists b.position b.ballot entry newest (laws.votes s p b.position b.ballot entry stands)
                )
            | inr not_behind ↦ (
                let here : q ≡ p = omega (arith, after, not_behind) in
                let two : Some (Prepare b.position b.ballot) ≡ Some (Accept b.position chosen.ballot entry) = sym first.promised.stands ∙ (ap (slice_get list) here ∙ taken.stands) in
                absurd (cc two)
                )
          ]
        ]

    go : (s : ℕ) (o : Option Sight) → sight_at b.first_looks s ≡ o → shows Promise o ≡ true → (place : ℕ) × IsTaken (votes_told low s) place b.position chosen.ballot entry → ⊥
    go s None at p taken = absurd cc
    go s (Some x) at p taken =
        let true_sight = t.looks s x at in
        let h : ShowsPromise true_sight.list b.position b.ballot true x.best = subst (λ (v : Bool). ShowsPromise true_sight.list b.position b.ballot v x.best) p true_sight.seen.promise in
        late s h.0 taken.0 true_sight.list x at p true_sight.begins true_sight.seen h.1 h.2
        (taken_grows (votes_told low s) true_sight.list true_sight.low_begins.0 taken.0 b.position chosen.ballot entry true_sight.low_begins.1 taken.1)

seen_many : (b : Bid) (offer : Option Entry) → IsFramed b → length (seen_of offer b.first_looks b.second_looks) ≡ 16
seen_many b None f = f.first_many
seen_many b (Some e) f = f.second_many

-- no voter that was sent the message is found without it
pub never_unlisted : (b : Bid) (service : ServiceId) → IsBid b → AreListed b → b.act ≡ End (Unlisted service) → ⊥
never_unlisted b service whole listed is = go (sight_at (seen_of b.offer b.first_looks b.second_looks) service.0) refl where
  pending : IsPending b (End (Unlisted service))
  pending = subst (λ (a : Act). IsPending b a) is whole.pending

  within : service.0 < 16
  within = whole.framed.below service.0 pending.2.missing.is.votes

  go : (o : Option Sight) → sight_at (seen_of b.offer b.first_looks b.second_looks) service.0 ≡ o → ⊥
  go None at = pending.0.seen service.0 within pending.2.missing.is.votes pending.2.missing.is.free at
  go (Some x) at =
      let miss : shows (sought_of b.offer) (Some x) ≡ false = subst (λ (o : Option Sight). shows (sought_of b.offer) o ≡ false) at pending.2.missing.is.missing in
      let g = listed service.0 x at pending.2.missing.is.sent_to miss in
      pending.2.none_greater service.0 g.0 (omega (arith, within, seen_many b b.offer whole.framed)) (subst (λ (o : Option Sight). ShowsGreater b.ballot o g.0) (sym at) g.1)

-- a list in which the message stands shows it, or a greater ballot
pub shows_or_greater : (list : List Record) (k : ℕ) (b : Ballot) (offer : Option Entry) (x : Sight) → IsSight list k b x → Contains list (message_of k b offer) → shows (sought_of offer) (Some x) ≡ false
    → (top : Ballot) × ShowsGreater b (Some x) top
shows_or_greater list k b offer x seen there missing = by x.top refl seen.top where
  here : (place : ℕ) × (slice_get list place ≡ Some (message_of k b offer))
  here = contains_at list (message_of k b offer) there

  at_position : (o : Option Entry) → position_of (message_of k b o) ≡ k
  at_position None = refl
  at_position (Some e) = refl

  of_ballot : (o : Option Entry) → ballot_of (message_of k b o) ≡ b
  of_ballot None = refl
  of_ballot (Some e) = refl

  shown : (o : Option Entry) → slice_get list here.0 ≡ Some (message_of k b o) → shows (sought_of o) (Some x) ≡ false → NoneAbove list here.0 k b → ⊥
  shown None at miss above =
      let h : ShowsPromise list k b false x.best = subst (λ (v : Bool). ShowsPromise list k b v x.best) miss seen.promise in
      h.0 here.0 (record { stands = at; none_above = above })
  shown (Some e) at miss above =
      let h : ShowsTaken list k b false = subst (λ (v : Bool). ShowsTaken list k b v) miss seen.taken in
      h here.0 e (record { stands = at; none_above = above })

  by : (o : Option Ballot) → x.top ≡ o → IsTop list k o → (top : Ballot) × ShowsGreater b (Some x) top
  by None is top = absurd (top here.0 (message_of k b offer) here.1 (at_position offer))
  by (Some g) is top =
      let under : IsAtMost b g = subst (λ (z : Ballot). IsAtMost z g) (of_ballot offer) (top.greatest here.0 (message_of k b offer) (slice_get_within list here.0 (message_of k b offer) here.1) here.1 (at_position offer)) in
      elim (at_most_cases b g under) [
        | inl less ↦ (g, (is, less))
        | inr same ↦ absurd (shown offer here.1 missing (λ i r before at pos. subst (λ (z : Ballot). IsAtMost (ballot_of r) z) (sym same) (top.greatest i r (slice_get_within list i r at) at pos)))
      ]
