-- The bids of client 0 for positions 1 and 2, where one service has a version of nothing.
use Rattle.std.proofs.Common.{◌≡◌, ℕ, zero, suc, ◌+◌, ◌<◌, ◌≤◌, List, [], ◌∷◌, Option, Some, None, inl, inr, refl, sym, ap, ◌∙◌, subst, slice_get, length, replicate, take, Contains, arith}
use Rattle.ms_base.specs.declared.names.Name.{Name}
use Rattle.ms_core.proofs.EmptyVersion.{directory, root, version, top}
use Rattle.ms_core.proofs.Following.{told_first, event_may_follow}
use Rattle.ms_core.proofs.OneService.{Read, only, only_zero, only_majority, in_majority, some_service, rows_below, row_marked, whole, put_directory, put_version, supports_prepare, supports_accept, tells_event, tells_offer, not_hasty, not_early, ballot_of_round, first_entry, second_plan, second_entry, prepare, accept, reads_prepare, reads_accept, first_fits, plan_fits, second_fits, rows_are, enough, genesis_is, first_voters}
use Rattle.ms_record.specs.InForce.{first_generation}
use Rattle.ms_core.specs.Valid.{judging_plan}
use Rattle.std.proofs.lemmas.Bool.{cases_lt}
use Rattle.ms_base.specs.Places.{in_none, in_cases, some_same}
use Rattle.ms_core.proofs.Telling.{tells, offered, log_supported}
use Rattle.ms_core.specs.FirstBids.{with_put, with_vote, with_offer, with_drop, IsBid, IsCollected, MayNotOffer, MayDrop, MayNotDrop}
use Rattle.ms_core.specs.Placing.{OnEnough}
use Rattle.ms_core.specs.Views.{View, configuration, log_in, offers_told, votes_told, IsWhole, SupportsOffer, SupportsEvent, TellsSetting, IsClosed}
use Rattle.ms_ken.specs.Lists.{with_item}
use Rattle.ms_object.specs.Objects.{object_text}
use Rattle.ms_record.specs.declared.ballot.Ballot.{Ballot}
use Rattle.ms_record.specs.declared.entry.Entry.{Entry}
use Rattle.ms_record.specs.declared.item.Item.TheVariants.{Log, Told}
use Rattle.ms_record.specs.declared.log.LogEvent.TheVariants.{Rec, Put, Drop}
use Rattle.ms_record.specs.declared.record.Record.{Record}
use Rattle.ms_record.specs.declared.record.Record.TheVariants.{Prepare, Accept}
use Rattle.ms_record.specs.declared.setting.Setting.{Setting}
use Rattle.ms_record.specs.Chains.{Origin, IsChain, IsChosen, IsLinked, LinksBehind, generation_in, voters_behind}
use Rattle.ms_record.specs.Entries.{IsEntry}
use Rattle.ms_record.specs.Logs.{HasPut}
use Rattle.ms_record.specs.Offers.{Shows, JustifiedBy}
use Rattle.ms_record.specs.Ballots.{IsAtMost}
use Rattle.ms_record.specs.Plans.{PlanView}
use Rattle.ms_record.specs.Reading.{record_at, with_record}
use Rattle.ms_record.specs.Settings.{IsSetting, genesis_plan, origin_of}
use Rattle.ms_record.specs.Votes.{IsTaken, ChosenBy, position_of, ballot_of}

-- ---- the views, one after the other

abbrev begun : Setting → View
begun setting = with_item (replicate 33 []) configuration (Told setting)

abbrev half_put : Setting → View
half_put setting = with_item (begun setting) 0 (Log (put_directory 1))

abbrev put : Setting → View
put setting = with_item (half_put setting) 0 (Log (put_version 1))

abbrev promised : Setting → View
promised setting = with_vote (put setting) (prepare 1)

abbrev offered_once : Setting → View
offered_once setting = with_offer (promised setting) 1 (ballot_of_round 1) (first_entry setting)

abbrev taken : Setting → View
taken setting = with_vote (offered_once setting) (accept 1 (first_entry setting))

abbrev half_again : Setting → View
half_again setting = with_item (taken setting) 0 (Log (put_directory 2))

abbrev again : Setting → View
again setting = with_item (half_again setting) 0 (Log (put_version 2))

abbrev promised_again : Setting → View
promised_again setting = with_vote (again setting) (prepare 2)

abbrev offered_again : (setting : Setting) → IsSetting setting → View
offered_again setting set = with_offer (promised_again setting) 2 (ballot_of_round 2) (second_entry setting set)

abbrev turned : (setting : Setting) → IsSetting setting → View
turned setting set = with_vote (offered_again setting set) (accept 2 (second_entry setting set))

wide : 0 < 33
wide = omega arith

-- ---- the votes

abbrev promise : ℕ → Record
promise k = Prepare k (ballot_of_round k)

abbrev vote_for : ℕ → Entry → Record
vote_for k e = Accept k (ballot_of_round k) e

-- a Prepare and an Accept
read_both : Read → (k : ℕ) (e : Entry) → 1 ≤ k → k ≤ 2 → IsEntry e → (rest : List Record)
    → with_record (record_at (prepare k)) (with_record (record_at (accept k e)) rest) ≡ promise k ∷ vote_for k e ∷ rest
read_both r k e low high fits rest =
    ap (λ (o : Option Record). with_record o (with_record (record_at (accept k e)) rest)) (reads_prepare r k low high)
    ∙ ap (λ (o : Option Record). promise k ∷ with_record o rest) (reads_accept r k e low high fits)

votes_promised : Read → (setting : Setting) → votes_told (promised setting) 0 ≡ promise 1 ∷ []
votes_promised r setting = ap (λ (o : Option Record). with_record o []) (reads_prepare r 1 (omega arith) (omega arith))

read_first : Read → (setting : Setting) (rest : List Record)
    → with_record (record_at (prepare 1)) (with_record (record_at (accept 1 (first_entry setting))) rest) ≡ promise 1 ∷ vote_for 1 (first_entry setting) ∷ rest
read_first r setting rest = read_both r 1 (first_entry setting) (omega arith) (omega arith) (first_fits setting) rest

read_second : Read → (setting : Setting) (set : IsSetting setting) → with_record (record_at (prepare 2)) (with_record (record_at (accept 2 (second_entry setting set))) []) ≡ promise 2 ∷ vote_for 2 (second_entry setting set) ∷ []
read_second r setting set = read_both r 2 (second_entry setting set) (omega arith) (omega arith) (second_fits setting set) []

votes_again : Read → (setting : Setting) → votes_told (promised_again setting) 0 ≡ promise 1 ∷ vote_for 1 (first_entry setting) ∷ promise 2 ∷ []
votes_again r setting =
    read_first r setting (with_record (record_at (prepare 2)) [])
    ∙ ap (λ (o : Option Record). promise 1 ∷ vote_for 1 (first_entry setting) ∷ with_record o []) (reads_prepare r 2 (omega arith) (omega arith))

votes_turned : Read → (setting : Setting) (set : IsSetting setting)
    → votes_told (turned setting set) 0 ≡ promise 1 ∷ vote_for 1 (first_entry setting) ∷ promise 2 ∷ vote_for 2 (second_entry setting set) ∷ []
votes_turned r setting set =
    read_first r setting (with_record (record_at (prepare 2)) (with_record (record_at (accept 2 (second_entry setting set))) []))
    ∙ ap (λ (l : List Record). promise 1 ∷ vote_for 1 (first_entry setting) ∷ l) (read_second r setting set)

-- the first two are at position 1
first_two : (e : Entry) (rest : List Record) (i : ℕ) (q : Record) → i < 2 → slice_get (promise 1 ∷ vote_for 1 e ∷ rest) i ≡ Some q → 1 ≡ position_of q
first_two e rest zero q before at = ap position_of (some_same (promise 1) q at)
first_two e rest (suc zero) q before at = ap position_of (some_same (vote_for 1 e) q at)
first_two e rest (suc (suc i)) q before at = absurd (omega (arith, before))

shows_first : (records : List Record) → records ≡ promise 1 ∷ [] → Shows records 1 (ballot_of_round 1) None
shows_first records is = subst (λ (l : List Record). Shows l 1 (ballot_of_round 1) None) (sym is) (record {
  place = 0;
  first = record {
    promised = record { stands = refl; none_above = λ i q before at same. absurd (omega (arith, before)) };
    first = λ i before h. absurd (omega (arith, before));
  };
  best_is = λ i b e before h. absurd (omega (arith, before));
  below = λ vote h. absurd (let q : None ≡ Some vote = h in cc);
})

shows_second : (e : Entry) (records : List Record) → records ≡ promise 1 ∷ vote_for 1 e ∷ promise 2 ∷ [] → Shows records 2 (ballot_of_round 2) None
shows_second e records is = subst (λ (l : List Record). Shows l 2 (ballot_of_round 2) None) (sym is) (record {
  place = 2;
  first = record {
    promised = record { stands = refl; none_above = λ i q before at same. absurd (omega (arith, same, first_two e (promise 2 ∷ []) i q before at)) };
    first = λ i before h. absurd (omega (arith, first_two e (promise 2 ∷ []) i (promise 2) before h.stands));
  };
  best_is = λ i b f before h. absurd (omega (arith, first_two e (promise 2 ∷ []) i (Accept 2 b f) before h.stands));
  below = λ vote h. absurd (let q : None ≡ Some vote = h in cc);
})

taken_first : (e : Entry) (rest records : List Record) → records ≡ promise 1 ∷ vote_for 1 e ∷ rest → IsTaken records 1 1 (ballot_of_round 1) e
taken_first e rest records is = subst (λ (l : List Record). IsTaken l 1 1 (ballot_of_round 1) e) (sym is) (record { stands = refl; none_above = above })
  where
    above : (i : ℕ) (q : Record) → i < 1 → slice_get (promise 1 ∷ vote_for 1 e ∷ rest) i ≡ Some q → position_of q ≡ 1 → IsAtMost (ballot_of q) (ballot_of_round 1)
    above zero q before at same = subst (λ (x : Record). IsAtMost (ballot_of x) (ballot_of_round 1)) (some_same (promise 1) q at) (omega arith, λ e. omega arith)
    above (suc i) q before at same = absurd (omega (arith, before))

taken_second : (e f : Entry) (records : List Record) → records ≡ promise 1 ∷ vote_for 1 e ∷ promise 2 ∷ vote_for 2 f ∷ [] → IsTaken records 3 2 (ballot_of_round 2) f
taken_second e f records is = subst (λ (l : List Record). IsTaken l 3 2 (ballot_of_round 2) f) (sym is) (record { stands = refl; none_above = above })
  where
    above : (i : ℕ) (q : Record) → i < 3 → slice_get (promise 1 ∷ vote_for 1 e ∷ promise 2 ∷ vote_for 2 f ∷ []) i ≡ Some q → position_of q ≡ 2 → IsAtMost (ballot_of q) (ballot_of_round 2)
    above zero q before at same = absurd (omega (arith, same, first_two e (promise 2 ∷ vote_for 2 f ∷ []) 0 q (omega arith) at))
    above (suc zero) q before at same = absurd (omega (arith, same, first_two e (promise 2 ∷ vote_for 2 f ∷ []) 1 q (omega arith) at))
    above (suc (suc zero)) q before at same = subst (λ (x : Record). IsAtMost (ballot_of x) (ballot_of_round 2)) (some_same (promise 2) q at) (omega arith, λ e. omega arith)
    above (suc (suc (suc i))) q before at same = absurd (omega (arith, before))

-- the vote of the only service chooses
chooses : (view : View) (voters : List ℕ) (place k : ℕ) (b : Ballot) (e : Entry) → voters ≡ 0 ∷ [] → IsTaken (votes_told view 0) place k b e → ChosenBy (votes_told view) voters k e
chooses view voters place k b e one h = record {
  ballot = b;
  part = only;
  majority = only_majority voters one;
  taken = λ s is. (place, subst (λ n. IsTaken (votes_told view n) place k b e) (sym (only_zero s is)) h);
}

justified : (view : View) (voters : List ℕ) (k : ℕ) (b : Ballot) (e : Entry) → voters ≡ 0 ∷ [] → e.client ≡ b.client → Shows (votes_told view 0) k b None → JustifiedBy (votes_told view) voters k b e
justified view voters k b e one own h = record {
  part = only;
  bests = λ s. None;
  majority = only_majority voters one;
  shown = λ s is. subst (λ n. Shows (votes_told view n) k b None) (sym (only_zero s is)) h;
  entry_is = inr (record { none = λ s is. refl; client_is = own });
}

-- ---- the first bid

tells_put : (setting : Setting) → IsSetting setting → TellsSetting (put setting) setting
tells_put setting set =
    tells_event setting (half_put setting) (put_version 1) set wide
    (tells_event setting (begun setting) (put_directory 1) set wide (tells (begun setting) setting (told_first setting 33 set (omega arith)) refl) refl)
    refl

tells_promised : Read → (setting : Setting) → IsSetting setting → TellsSetting (promised setting) setting
tells_promised r setting set =
    tells_event setting (put setting) (Rec (record { 0 = 0 }) (prepare 1)) set wide (tells_put setting set)
    (supports_prepare setting (log_in (put setting)) (offers_told (put setting)) 1 (ballot_of_round 1) (prepare 1) (reads_prepare r 1 (omega arith) (omega arith)))

first_links : (setting : Setting) → LinksBehind (origin_of setting) [] (first_entry setting)
first_links setting = record { names = refl; plan = tt }

first_whole : Read → (setting : Setting) → IsSetting setting → setting.services ≡ 1 → IsWhole (log_in (promised setting)) (genesis_plan setting) top
first_whole r setting set one =
    let log = log_in (promised setting) 0 in
    let second : 1 < 3 = omega arith in
    let first : 0 < 3 = omega arith in
    subst (λ (p : PlanView). IsWhole (log_in (promised setting)) p top) (sym (genesis_is setting set))
    (whole r (λ s name. HasPut (log_in (promised setting) s) set.plan.generation name) set.plan (enough setting set one) set.first.format
    (subst (λ g. HasPut log g root) (sym set.first.generation) (object_text directory, (0, first, refl)))
    (subst (λ g. HasPut log g top) (sym set.first.generation) (object_text version, (1, second, refl))))

nothing_linked : (setting : Setting) (votes : ℕ → List Record) → IsLinked votes (origin_of setting) []
nothing_linked setting votes = record { chosen = λ i e at. absurd (let q : None ≡ Some e = at in cc); links = λ i e at. absurd (let q : None ≡ Some e = at in cc) }

supports_first : Read → (setting : Setting) → IsSetting setting → setting.services ≡ 1
    → SupportsOffer setting (log_in (promised setting)) 0 (offers_told (promised setting) 0) 1 (ballot_of_round 1) (first_entry setting)
supports_first r setting set one = record {
  declared = record {
    own = refl;
    later = λ k b e has. absurd (in_none (Accept k b e) has);
    justified = record {
      members = [];
      linked = nothing_linked setting (votes_told (promised setting));
      at = refl;
      justified = justified (promised setting) (voters_behind (origin_of setting) []) 1 (ballot_of_round 1) (first_entry setting) (first_voters setting set one) refl
          (shows_first (votes_told (promised setting) 0) (votes_promised r setting));
    };
    valid = record {
      next = record { members = []; linked = nothing_linked setting (votes_told (promised setting)); at = refl; links = first_links setting };
      placed = (first_whole r setting set one).placed;
    };
  };
  whole = first_whole r setting set one;
}

tells_offered : Read → (setting : Setting) → IsSetting setting → setting.services ≡ 1 → TellsSetting (offered_once setting) setting
tells_offered r setting set one =
    let far : 16 < 33 = omega arith in
    tells_offer setting (promised setting) 1 (ballot_of_round 1) (first_entry setting) set far (tells_promised r setting set) (supports_first r setting set one)

supports_first_vote : Read → (setting : Setting) → SupportsEvent setting (log_in (offered_once setting)) (offers_told (offered_once setting)) (Rec (record { 0 = 0 }) (accept 1 (first_entry setting)))
supports_first_vote r setting =
    supports_accept setting (log_in (offered_once setting)) (offers_told (offered_once setting)) 1 (ballot_of_round 1) (first_entry setting) (accept 1 (first_entry setting))
    (reads_accept r 1 (first_entry setting) (omega arith) (omega arith) (first_fits setting)) (0, refl)

nothing_at : (i : ℕ) (q : Record) → slice_get [] i ≡ Some q → ⊥
nothing_at i q h = (let e : None ≡ Some q = h in cc)

first_bid : Read → (setting : Setting) → IsSetting setting → setting.services ≡ 1
    → IsBid setting (put setting) 1 (ballot_of_round 1) (first_entry setting) (prepare 1) (accept 1 (first_entry setting))
first_bid r setting set one = record {
  wide = refl;
  told = refl;
  closed = inr (inr (setting, tells_put setting set));
  prepares = reads_prepare r 1 (omega arith) (omega arith);
  accepts = reads_accept r 1 (first_entry setting) (omega arith) (omega arith) (first_fits setting);
  promise = event_may_follow (put setting) setting 0 (Rec (record { 0 = 0 }) (prepare 1)) refl set (some_service setting set) wide
      (supports_prepare setting (log_in (put setting)) (offers_told (put setting)) 1 (ballot_of_round 1) (prepare 1) (reads_prepare r 1 (omega arith) (omega arith)));
  hasty = not_hasty setting (with_offer (put setting) 1 (ballot_of_round 1) (first_entry setting)) 1 (ballot_of_round 1) (first_entry setting) one refl (0, refl) (λ i h. nothing_at i (promise 1) h);
  offer = inr (inr (setting, tells_offered r setting set one));
  early = not_early setting (with_vote (promised setting) (accept 1 (first_entry setting))) 1 1 (ballot_of_round 1) (first_entry setting) refl
      (ap (λ (l : List Record). slice_get l 1) (read_first r setting [])) (λ i h. nothing_at i (vote_for 1 (first_entry setting)) h);
  takes = event_may_follow (offered_once setting) setting 0 (Rec (record { 0 = 0 }) (accept 1 (first_entry setting))) refl set (some_service setting set) wide (supports_first_vote r setting);
  chosen = record {
    members = [];
    linked = nothing_linked setting (votes_told (taken setting));
    at = refl;
    chosen = chooses (taken setting) (voters_behind (origin_of setting) []) 1 1 (ballot_of_round 1) (first_entry setting) (first_voters setting set one) (taken_first (first_entry setting) [] (votes_told (taken setting) 0) (read_first r setting []));
  };
}

-- without the two texts there is no offer
plan_at_first : (setting : Setting) (set : IsSetting setting) (members : List Entry) → 1 ≡ length members + 1 → set.plan ≡ judging_plan setting members (first_entry setting)
plan_at_first setting set [] at = sym (genesis_is setting set)
plan_at_first setting set (e ∷ members) at = absurd (omega (arith, at))

no_put : (text : List ℕ) (g : ℕ) (name : Name) → HasPut (Rec (record { 0 = 0 }) text ∷ []) g name → ⊥
no_put text g name h = elim (in_cases (Rec (record { 0 = 0 }) text) [] (Put g name h.0) h.1) [
  | inl same ↦ (let q : Rec (record { 0 = 0 }) text ≡ Put g name h.0 = same in cc)
  | inr none ↦ in_none (Put g name h.0) none
]

unplaced : (setting : Setting) → IsSetting setting → setting.services ≡ 1 → IsClosed (with_offer (with_vote (begun setting) (prepare 1)) 1 (ballot_of_round 1) (first_entry setting)) → ⊥
unplaced setting set one closed =
    let view = with_offer (with_vote (begun setting) (prepare 1)) 1 (ballot_of_round 1) (first_entry setting) in
    let valid = (offered view setting (tells view setting closed refl) 1 (ballot_of_round 1) (first_entry setting) (0, refl)).1.supports.declared.valid in
    let same = plan_at_first setting set valid.next.members valid.next.at in
    let there = valid.placed.put top valid.placed.holds.top.text valid.placed.holds.top.is in
    let on : OnEnough (λ s. HasPut (log_in view s) set.plan.generation top) set.plan = subst (λ (p : PlanView). OnEnough (λ s. HasPut (log_in view s) p.generation top) p) (sym same) there in
    let marked = row_marked set.plan.rows on.part (rows_are setting set one) (omega (arith, on.enough, (plan_fits setting set).some_replicas)) in
    no_put (prepare 1) set.plan.generation top (on.have 0 marked)

may_not_offer : Read → (setting : Setting) → IsSetting setting → setting.services ≡ 1 → MayNotOffer (begun setting) 1 (ballot_of_round 1) (first_entry setting) (prepare 1)
may_not_offer r setting set one =
    let closed = tells_event setting (begun setting) (Rec (record { 0 = 0 }) (prepare 1)) set wide (tells (begun setting) setting (told_first setting 33 set (omega arith)) refl)
    (supports_prepare setting (log_in (begun setting)) (offers_told (begun setting)) 1 (ballot_of_round 1) (prepare 1) (reads_prepare r 1 (omega arith) (omega arith))) in
    (inr (inr (setting, closed)), unplaced setting set one)

-- before the bid nothing above generation 1 may be dropped
no_drop : (setting : Setting) → setting.services ≡ 1 → MayNotDrop (put setting) 2
no_drop setting one closed =
    let view = with_item (put setting) 0 (Log (Drop 2)) in
    let third : 2 < 3 = omega arith in
    let h = tells view setting closed refl in
    elim (log_supported view setting h 0 (Drop 2) (2, third, refl)).1 [
      | inl low ↦ omega (arith, low)
      | inr b ↦ unchosen h.ranges b.0 b.1 b.2
    ]
  where
    unchosen : IsSetting setting → (members : List Entry) → IsLinked (votes_told (with_item (put setting) 0 (Log (Drop 2)))) (origin_of setting) members → 2 ≤ generation_in (genesis_plan setting) members → ⊥
    unchosen set [] linked le = omega (arith, le, first_generation setting set)
    unchosen set (e ∷ members) linked le =
        let c = linked.chosen 0 e refl in
        let votes = votes_told (with_item (put setting) 0 (Log (Drop 2))) in
        let t = c.taken 0 (in_majority setting set one votes [] (nothing_linked setting votes) c.part c.majority) in
        nothing_at t.0 (Accept 1 c.ballot e) t.1.stands

-- ---- the second bid, with a plan

tells_again : Read → (setting : Setting) → IsSetting setting → setting.services ≡ 1 → TellsSetting (again setting) setting
tells_again r setting set one =
    tells_event setting (half_again setting) (put_version 2) set wide
    (tells_event setting (taken setting) (put_directory 2) set wide
    (tells_event setting (offered_once setting) (Rec (record { 0 = 0 }) (accept 1 (first_entry setting))) set wide (tells_offered r setting set one) (supports_first_vote r setting)) refl)
    refl

tells_promised_again : Read → (setting : Setting) → IsSetting setting → setting.services ≡ 1 → TellsSetting (promised_again setting) setting
tells_promised_again r setting set one =
    tells_event setting (again setting) (Rec (record { 0 = 0 }) (prepare 2)) set wide (tells_again r setting set one)
    (supports_prepare setting (log_in (again setting)) (offers_told (again setting)) 2 (ballot_of_round 2) (prepare 2) (reads_prepare r 2 (omega arith) (omega arith)))

second_whole : Read → (setting : Setting) (set : IsSetting setting) → setting.services ≡ 1 → IsWhole (log_in (promised_again setting)) (second_plan setting set) top
second_whole r setting set one =
    let fifth : 4 < 7 = omega arith in
    let sixth : 5 < 7 = omega arith in
    whole r (λ s name. HasPut (log_in (promised_again setting) s) 2 name) (second_plan setting set) (enough setting set one) set.first.format
    (object_text directory, (4, fifth, refl))
    (object_text version, (5, sixth, refl))

second_links : (setting : Setting) (set : IsSetting setting) → setting.services ≡ 1 → LinksBehind (origin_of setting) (first_entry setting ∷ []) (second_entry setting set)
second_links setting set one = record {
  names = refl;
  plan = record {
    known = λ i row at. rows_below set.plan.rows setting.services i row (some_service setting set) (rows_are setting set one) at;
    known_format = (plan_fits setting set).last_format;
    format_stays = omega (arith, ap (λ (p : PlanView). p.format) (genesis_is setting set));
    not_below = omega (arith, first_generation setting set);
  };
}

linked_one : (setting : Setting) (votes : ℕ → List Record) → ChosenBy votes (voters_behind (origin_of setting) []) 1 (first_entry setting) → IsLinked votes (origin_of setting) (first_entry setting ∷ [])
linked_one setting votes c = record { chosen = chosen; links = links }
  where
    chosen : (i : ℕ) (e : Entry) → slice_get (first_entry setting ∷ []) i ≡ Some e → ChosenBy votes (voters_behind (origin_of setting) (take i (first_entry setting ∷ []))) (i + 1) e
    chosen zero e at = subst (λ (x : Entry). ChosenBy votes (voters_behind (origin_of setting) []) 1 x) (some_same (first_entry setting) e at) c
    chosen (suc i) e at = absurd (let q : None ≡ Some e = at in cc)

    links : (i : ℕ) (e : Entry) → slice_get (first_entry setting ∷ []) i ≡ Some e → LinksBehind (origin_of setting) (take i (first_entry setting ∷ [])) e
    links zero e at = subst (λ (x : Entry). LinksBehind (origin_of setting) [] x) (some_same (first_entry setting) e at) (first_links setting)
    links (suc i) e at = absurd (let q : None ≡ Some e = at in cc)

linked_two : (setting : Setting) (set : IsSetting setting) (votes : ℕ → List Record) → setting.services ≡ 1 → ChosenBy votes (voters_behind (origin_of setting) []) 1 (first_entry setting)
    → ChosenBy votes (voters_behind (origin_of setting) (first_entry setting ∷ [])) 2 (second_entry setting set)
    → IsLinked votes (origin_of setting) (first_entry setting ∷ second_entry setting set ∷ [])
linked_two setting set votes one c d = record { chosen = chosen; links = links }
  where
    chosen : (i : ℕ) (e : Entry) → slice_get (first_entry setting ∷ second_entry setting set ∷ []) i ≡ Some e
        → ChosenBy votes (voters_behind (origin_of setting) (take i (first_entry setting ∷ second_entry setting set ∷ []))) (i + 1) e
    chosen zero e at = subst (λ (x : Entry). ChosenBy votes (voters_behind (origin_of setting) []) 1 x) (some_same (first_entry setting) e at) c
    chosen (suc zero) e at = subst (λ (x : Entry). ChosenBy votes (voters_behind (origin_of setting) (first_entry setting ∷ [])) 2 x) (some_same (second_entry setting set) e at) d
    chosen (suc (suc i)) e at = absurd (let q : None ≡ Some e = at in cc)

    links : (i : ℕ) (e : Entry) → slice_get (first_entry setting ∷ second_entry setting set ∷ []) i ≡ Some e → LinksBehind (origin_of setting) (take i (first_entry setting ∷ second_entry setting set ∷ [])) e
    links zero e at = subst (λ (x : Entry). LinksBehind (origin_of setting) [] x) (some_same (first_entry setting) e at) (first_links setting)
    links (suc zero) e at = subst (λ (x : Entry). LinksBehind (origin_of setting) (first_entry setting ∷ []) x) (some_same (second_entry setting set) e at) (second_links setting set one)
    links (suc (suc i)) e at = absurd (let q : None ≡ Some e = at in cc)

linked_again : Read → (setting : Setting) → IsSetting setting → setting.services ≡ 1 → IsLinked (votes_told (promised_again setting)) (origin_of setting) (first_entry setting ∷ [])
linked_again r setting set one =
    linked_one setting (votes_told (promised_again setting))
    (chooses (promised_again setting) (voters_behind (origin_of setting) []) 1 1 (ballot_of_round 1) (first_entry setting) (first_voters setting set one)
    (taken_first (first_entry setting) (promise 2 ∷ []) (votes_told (promised_again setting) 0) (votes_again r setting)))

supports_second : Read → (setting : Setting) (set : IsSetting setting) → setting.services ≡ 1
    → SupportsOffer setting (log_in (promised_again setting)) 0 (offers_told (promised_again setting) 0) 2 (ballot_of_round 2) (second_entry setting set)
supports_second r setting set one = record {
  declared = record {
    own = refl;
    later = λ k b e has. elim (in_cases (vote_for 1 (first_entry setting)) [] (Accept k b e) has) [
      | inl same ↦ (let round : 1 ≡ b.round = ap (λ (x : Record). (ballot_of x).round) same in omega (arith, round))
      | inr none ↦ absurd (in_none (Accept k b e) none)
    ];
    justified = record {
      members = first_entry setting ∷ [];
      linked = linked_again r setting set one;
      at = refl;
      justified = justified (promised_again setting) (voters_behind (origin_of setting) []) 2 (ballot_of_round 2) (second_entry setting set) (first_voters setting set one) refl
          (shows_second (first_entry setting) (votes_told (promised_again setting) 0) (votes_again r setting));
    };
    valid = record {
      next = record { members = first_entry setting ∷ []; linked = linked_again r setting set one; at = refl; links = second_links setting set one };
      placed = (second_whole r setting set one).placed;
    };
  };
  whole = second_whole r setting set one;
}

tells_offered_again : Read → (setting : Setting) (set : IsSetting setting) → setting.services ≡ 1 → TellsSetting (offered_again setting set) setting
tells_offered_again r setting set one =
    let far : 16 < 33 = omega arith in
    tells_offer setting (promised_again setting) 2 (ballot_of_round 2) (second_entry setting set) set far (tells_promised_again r setting set one) (supports_second r setting set one)

no_promise : (e : Entry) (records : List Record) → records ≡ promise 1 ∷ vote_for 1 e ∷ [] → (i : ℕ) → slice_get records i ≡ Some (promise 2) → ⊥
no_promise e records is i h = there i (ap (λ (l : List Record). slice_get l i) (sym is) ∙ h)
  where
    there : (i : ℕ) → slice_get (promise 1 ∷ vote_for 1 e ∷ []) i ≡ Some (promise 2) → ⊥
    there zero at = omega (arith, first_two e [] 0 (promise 2) (omega arith) at)
    there (suc zero) at = omega (arith, first_two e [] 1 (promise 2) (omega arith) at)
    there (suc (suc i)) at = nothing_at i (promise 2) at

no_offer : (e f : Entry) (i : ℕ) → slice_get (vote_for 1 e ∷ []) i ≡ Some (vote_for 2 f) → ⊥
no_offer e f zero at = (let p : 1 ≡ 2 = ap position_of (some_same (vote_for 1 e) (vote_for 2 f) at) in omega (arith, p))
no_offer e f (suc i) at = nothing_at i (vote_for 2 f) at

-- the votes of both bids
abbrev HasBoth : (setting : Setting) → IsSetting setting → View → Type 0
HasBoth setting set view = votes_told view 0 ≡ promise 1 ∷ vote_for 1 (first_entry setting) ∷ promise 2 ∷ vote_for 2 (second_entry setting set) ∷ []

first_vote : (setting : Setting) (set : IsSetting setting) (view : View) → setting.services ≡ 1 → HasBoth setting set view → ChosenBy (votes_told view) (voters_behind (origin_of setting) []) 1 (first_entry setting)
first_vote setting set view one votes =
    chooses view (voters_behind (origin_of setting) []) 1 1 (ballot_of_round 1) (first_entry setting) (first_voters setting set one)
    (taken_first (first_entry setting) (promise 2 ∷ vote_for 2 (second_entry setting set) ∷ []) (votes_told view 0) votes)

second_vote : (setting : Setting) (set : IsSetting setting) (view : View) → setting.services ≡ 1 → HasBoth setting set view
    → ChosenBy (votes_told view) (voters_behind (origin_of setting) (first_entry setting ∷ [])) 2 (second_entry setting set)
second_vote setting set view one votes =
    chooses view (voters_behind (origin_of setting) []) 3 2 (ballot_of_round 2) (second_entry setting set) (first_voters setting set one)
    (taken_second (first_entry setting) (second_entry setting set) (votes_told view 0) votes)

second_bid : Read → (setting : Setting) (set : IsSetting setting) → setting.services ≡ 1
    → IsBid setting (again setting) 2 (ballot_of_round 2) (second_entry setting set) (prepare 2) (accept 2 (second_entry setting set))
second_bid r setting set one = record {
  wide = refl;
  told = refl;
  closed = inr (inr (setting, tells_again r setting set one));
  prepares = reads_prepare r 2 (omega arith) (omega arith);
  accepts = reads_accept r 2 (second_entry setting set) (omega arith) (omega arith) (second_fits setting set);
  promise = event_may_follow (again setting) setting 0 (Rec (record { 0 = 0 }) (prepare 2)) refl set (some_service setting set) wide
      (supports_prepare setting (log_in (again setting)) (offers_told (again setting)) 2 (ballot_of_round 2) (prepare 2) (reads_prepare r 2 (omega arith) (omega arith)));
  hasty = not_hasty setting (with_offer (again setting) 2 (ballot_of_round 2) (second_entry setting set)) 2 (ballot_of_round 2) (second_entry setting set) one refl (1, refl)
      (no_promise (first_entry setting) (votes_told (with_offer (again setting) 2 (ballot_of_round 2) (second_entry setting set)) 0) (read_first r setting []));
  offer = inr (inr (setting, tells_offered_again r setting set one));
  early = not_early setting (with_vote (promised_again setting) (accept 2 (second_entry setting set))) 3 2 (ballot_of_round 2) (second_entry setting set) refl
      (ap (λ (l : List Record). slice_get l 3) (votes_turned r setting set)) (no_offer (first_entry setting) (second_entry setting set));
  takes = event_may_follow (offered_again setting set) setting 0 (Rec (record { 0 = 0 }) (accept 2 (second_entry setting set))) refl set (some_service setting set) wide
      (supports_accept setting (log_in (offered_again setting set)) (offers_told (offered_again setting set)) 2 (ballot_of_round 2) (second_entry setting set) (accept 2 (second_entry setting set))
      (reads_accept r 2 (second_entry setting set) (omega arith) (omega arith) (second_fits setting set)) (1, refl));
  chosen = record {
    members = first_entry setting ∷ [];
    linked = linked_one setting (votes_told (turned setting set)) (first_vote setting set (turned setting set) one (votes_turned r setting set));
    at = refl;
    chosen = second_vote setting set (turned setting set) one (votes_turned r setting set);
  };
}

-- ---- the drop behind it

abbrev dropped : (setting : Setting) → IsSetting setting → View
dropped setting set = with_item (turned setting set) 0 (Log (Drop 2))

abbrev both : (setting : Setting) → IsSetting setting → List Entry
both setting set = first_entry setting ∷ second_entry setting set ∷ []

both_linked : (setting : Setting) (set : IsSetting setting) (view : View) → setting.services ≡ 1 → HasBoth setting set view → IsLinked (votes_told view) (origin_of setting) (both setting set)
both_linked setting set view one votes = linked_two setting set (votes_told view) one (first_vote setting set view one votes) (second_vote setting set view one votes)

backs_drop : Read → (setting : Setting) (set : IsSetting setting) → setting.services ≡ 1 → SupportsEvent setting (log_in (turned setting set)) (offers_told (turned setting set)) (Drop 2)
backs_drop r setting set one =
    let two : 2 ≤ 2 = omega arith in
    inr (both setting set, both_linked setting set (turned setting set) one (votes_turned r setting set), two)

-- what lies below generation 2 may be dropped
may_drop : Read → (setting : Setting) (set : IsSetting setting) → setting.services ≡ 1 → MayDrop (turned setting set) 2
may_drop r setting set one = event_may_follow (turned setting set) setting 0 (Drop 2) refl set (some_service setting set) wide (backs_drop r setting set one)

tells_turned : Read → (setting : Setting) (set : IsSetting setting) → setting.services ≡ 1 → TellsSetting (turned setting set) setting
tells_turned r setting set one =
    tells_event setting (offered_again setting set) (Rec (record { 0 = 0 }) (accept 2 (second_entry setting set))) set wide (tells_offered_again r setting set one)
    (supports_accept setting (log_in (offered_again setting set)) (offers_told (offered_again setting set)) 2 (ballot_of_round 2) (second_entry setting set) (accept 2 (second_entry setting set))
    (reads_accept r 2 (second_entry setting set) (omega arith) (omega arith) (second_fits setting set)) (1, refl))

tells_dropped : Read → (setting : Setting) (set : IsSetting setting) → setting.services ≡ 1 → TellsSetting (dropped setting set) setting
tells_dropped r setting set one = tells_event setting (turned setting set) (Drop 2) set wide (tells_turned r setting set one) (backs_drop r setting set one)

-- no vote is behind position 2
votes_end : (e f : Entry) (i : ℕ) (q : Record) → slice_get (promise 1 ∷ vote_for 1 e ∷ promise 2 ∷ vote_for 2 f ∷ []) i ≡ Some q → position_of q ≤ 2
votes_end e f zero q at = omega (arith, first_two e (promise 2 ∷ vote_for 2 f ∷ []) 0 q (omega arith) at)
votes_end e f (suc zero) q at = omega (arith, first_two e (promise 2 ∷ vote_for 2 f ∷ []) 1 q (omega arith) at)
votes_end e f (suc (suc zero)) q at = (let p : 2 ≡ position_of q = ap position_of (some_same (promise 2) q at) in omega (arith, p))
votes_end e f (suc (suc (suc zero))) q at = (let p : 2 ≡ position_of q = ap position_of (some_same (vote_for 2 f) q at) in omega (arith, p))
votes_end e f (suc (suc (suc (suc i)))) q at = absurd (nothing_at i q at)

third_at : (members : List Entry) → 2 < length members → (e : Entry) × (slice_get members 2 ≡ Some e)
third_at [] more = absurd (omega (arith, more))
third_at (a ∷ []) more = absurd (omega (arith, more))
third_at (a ∷ b ∷ []) more = absurd (omega (arith, more))
third_at (a ∷ b ∷ c ∷ members) more = (c, refl)

-- each member of a linked list is chosen
abbrev pub MembersChosen : Type 0
MembersChosen = (votes : ℕ → List Record) (origin : Origin) (c : List Entry) (i : ℕ) (e : Entry) → IsLinked votes origin c → slice_get c i ≡ Some e → IsChosen votes origin (i + 1) e

at_most_two : MembersChosen → Read → (setting : Setting) (set : IsSetting setting) → setting.services ≡ 1 → (other : List Entry) → IsLinked (votes_told (dropped setting set)) (origin_of setting) other → length other ≤ 2
at_most_two chosen r setting set one other linked =
    elim (cases_lt 2 (length other)) [
      | inl more ↦
          let votes = votes_told (dropped setting set) in
          let e = third_at other more in
          let c = chosen votes (origin_of setting) other 2 e.0 linked e.1 in
          let t = c.chosen.taken 0 (in_majority setting set one votes c.members c.linked c.chosen.part c.chosen.majority) in
          let at = ap (λ (l : List Record). slice_get l t.0) (sym (votes_turned r setting set)) ∙ t.1.stands in
          absurd (omega (arith, votes_end (first_entry setting) (second_entry setting set) t.0 (Accept 3 c.chosen.ballot e.0) at))
      | inr few ↦ few
    ]

chain_dropped : MembersChosen → Read → (setting : Setting) (set : IsSetting setting) → setting.services ≡ 1 → IsChain (votes_told (dropped setting set)) (origin_of setting) (both setting set)
chain_dropped chosen r setting set one = record {
  linked = both_linked setting set (dropped setting set) one (votes_turned r setting set);
  longest = λ other linked. at_most_two chosen r setting set one other linked;
}

-- the master of generation 2 is live, and no put of generation 1 stands
collected : MembersChosen → Read → (setting : Setting) (set : IsSetting setting) → setting.services ≡ 1 → IsCollected setting (dropped setting set) (second_entry setting set)
collected chosen r setting set one = record {
  chain = both setting set;
  is = chain_dropped chosen r setting set one;
  live = record { is = refl; current = refl };
  name = root;
  was_put = (object_text directory, (0, first, refl));
  gone = λ s name h.
      let below = (log_supported (dropped setting set) setting (tells_dropped r setting set one) s (Put 1 name h.put.0) h.put.1).0 in
      let only_one : 0 ≡ s = omega (arith, below, one) in
      omega (arith, h.kept 2 (subst (λ k. Contains (log_in (dropped setting set) k) (Drop 2)) only_one (8, last, refl)));
}
  where
    first : 0 < 9
    first = omega arith

    last : 8 < 9
    last = omega arith

pub first_bids : Read → (setting : Setting) → IsSetting setting → setting.services ≡ 1
    → (view : View) × (directory version : List ℕ) × (b : Ballot) × (e : Entry) × (p a : List ℕ) × IsBid setting (with_put (with_put view 1 directory) 1 version) 1 b e p a
    × MayNotOffer view 1 b e p × MayNotDrop (with_put (with_put view 1 directory) 1 version) 2
first_bids r setting set one = (
  begun setting,
  object_text directory,
  object_text version,
  ballot_of_round 1,
  first_entry setting,
  prepare 1,
  accept 1 (first_entry setting),
  first_bid r setting set one,
  may_not_offer r setting set one,
  no_drop setting one,
)

pub second_bids : MembersChosen → Read → (setting : Setting) → IsSetting setting → setting.services ≡ 1
    → (view : View) × (b : Ballot) × (e : Entry) × (p a : List ℕ) × IsBid setting view 2 b e p a × MayDrop (with_vote (with_offer (with_vote view p) 2 b e) a) 2
    × IsCollected setting (with_drop (with_vote (with_offer (with_vote view p) 2 b e) a) 2) e
second_bids chosen r setting set one = (
  again setting,
  ballot_of_round 2,
  second_entry setting set,
  prepare 2,
  accept 2 (second_entry setting set),
  second_bid r setting set one,
  may_drop r setting set one,
  collected chosen r setting set one,
)
