-- Votes by the place of a voter among the voters, and by its number.
use Rattle.std.proofs.Common.{◌≡◌, ℕ, zero, suc, ◌<◌, ◌≤◌, ◌==◌, Bool, true, false, cond, List, [], ◌∷◌, Option, Some, None, Result, Ok, Err, IfOk, IfSome, inl, inr, refl, sym, ap, ◌∙◌, subst, slice_get, length, get_or, count_by, Contains, zero-add, arith}
use Rattle.std.specs.List.{range_with_len}
use Rattle.std.proofs.lemmas.Bool.{cases_lt}
use Rattle.std.proofs.lemmas.Bool.Decides.{nat_tests}
use Rattle.std.proofs.lemmas.List.FromFn.{length-range_with_len}
use Rattle.std.proofs.lemmas.Option.{slice_get-get_or, get_or_from_slice_get, slice_get_within}
use Rattle.ms_world.specs.Rulings.{votes_at, IsRuling, Rises, AreFronts}
use Rattle.ms_world.specs.Steps.{HasPromises, Offers}
use Rattle.ms_world.specs.declared.rule.Ruling.{Ruling}
use Rattle.ms_world.specs.declared.rule.Ruling.TheVariants.{Unpromised, Nothing, Offer}
use Rattle.ms_record.specs.Voters.{below_voter, voter_below}
use Rattle.ms_world.proofs.Majorities.{count_agree}
use Rattle.ms_base.specs.Places.{some_same}
use Rattle.ms_base.specs.declared.bytes.NoMemory.{NoMemory}
use Rattle.ms_world.proofs.Fronts.{plan_rises}
use Rattle.ms_world.specs.Worlds.{services_of}
use Rattle.ms_record.specs.declared.plan.PlanRow.{PlanRow}
use Rattle.ms_record.specs.Chains.{voters_of}
use Rattle.ms_record.specs.Plans.{PlanView, IsPlan}
use Rattle.ms_record.specs.declared.ballot.Ballot.{Ballot}
use Rattle.ms_record.specs.declared.ballot.Vote.{Vote}
use Rattle.ms_record.specs.declared.entry.Entry.{Entry}
use Rattle.ms_record.specs.declared.log.LogEvent.{LogEvent}
use Rattle.ms_record.specs.declared.record.Record.{Record}
use Rattle.ms_record.specs.Offers.{IsFirstPromised}
use Rattle.ms_record.specs.Votes.{ChosenBy, IsBest, IsMajority, IsPromised, IsTaken, services_below}

-- ---- a value by the place of a voter, by its number; and the other way round

abbrev by_number : {X : Type 0} → X → (ℕ → X) → List ℕ → ℕ → X
by_number none f [] s = none
by_number none f (v ∷ vs) s = cond (v == s) (f 0) (by_number none (λ i. f (suc i)) vs s)

abbrev by_place : {X : Type 0} → X → (ℕ → X) → List ℕ → ℕ → X
by_place none p [] i = none
by_place none p (v ∷ vs) zero = p v
by_place none p (v ∷ vs) (suc i) = by_place none p vs i

rises_on : (v : ℕ) (vs : List ℕ) → Rises (v ∷ vs) → Rises vs
rises_on v vs h i j s t less x y = h (suc i) (suc j) s t (omega arith) x y

number_there : {X : Type 0} (none : X) (f : ℕ → X) (vs : List ℕ) → Rises vs → (i s : ℕ) → slice_get vs i ≡ Some s → by_number none f vs s ≡ f i
number_there none f [] h i s at = absurd (let q : None ≡ Some s = at in cc)
number_there none f (v ∷ vs) h zero s at =
    let same : v ≡ s = some_same v s at in
    let is : (v == s) ≡ true = grind (arith, nat_tests) in
    ap (λ (b : Bool). cond b (f 0) (by_number none (λ i. f (suc i)) vs s)) is
number_there none f (v ∷ vs) h (suc i) s at =
    let less : v < s = h zero (suc i) v s (omega arith) refl at in
    let is : (v == s) ≡ false = grind (arith, nat_tests) in
    ap (λ (b : Bool). cond b (f 0) (by_number none (λ i. f (suc i)) vs s)) is ∙ number_there none (λ i. f (suc i)) vs (rises_on v vs h) i s at

number_is : (f : ℕ → Bool) (vs : List ℕ) (s : ℕ) → by_number false f vs s ≡ true → (i : ℕ) × (slice_get vs i ≡ Some s) × (f i ≡ true)
number_is f [] s t = absurd (let q : false ≡ true = t in cc)
number_is f (v ∷ vs) s t = by (v == s) refl (number_is (λ i. f (suc i)) vs s) t
  where
    by : (b : Bool) → (v == s) ≡ b → (by_number false (λ i. f (suc i)) vs s ≡ true → (i : ℕ) × (slice_get vs i ≡ Some s) × (f (suc i) ≡ true))
        → cond b (f 0) (by_number false (λ i. f (suc i)) vs s) ≡ true → (i : ℕ) × (slice_get (v ∷ vs) i ≡ Some s) × (f i ≡ true)
    by true e rest t = (zero, (let same : v ≡ s = grind (arith, nat_tests) in ap (λ (x : ℕ). Some x) same), t)
    by false e rest t = let r = rest t in (suc r.0, r.1, r.2)

place_there : {X : Type 0} (none : X) (p : ℕ → X) (vs : List ℕ) (i s : ℕ) → slice_get vs i ≡ Some s → by_place none p vs i ≡ p s
place_there none p [] i s at = absurd (let q : None ≡ Some s = at in cc)
place_there none p (v ∷ vs) zero s at = ap p (some_same v s at)
place_there none p (v ∷ vs) (suc i) s at = place_there none p vs i s at

place_is : (p : ℕ → Bool) (vs : List ℕ) (i : ℕ) → by_place false p vs i ≡ true → (s : ℕ) × (slice_get vs i ≡ Some s) × (p s ≡ true)
place_is p [] i t = absurd (let q : false ≡ true = t in cc)
place_is p (v ∷ vs) zero t = (v, refl, t)
place_is p (v ∷ vs) (suc i) t = place_is p vs i t

contains_of : (vs : List ℕ) (i s : ℕ) → slice_get vs i ≡ Some s → Contains vs s
contains_of vs i s at = (i, slice_get_within vs i s at, get_or_from_slice_get vs i s s at)

place_of : (vs : List ℕ) (s : ℕ) → Contains vs s → (i : ℕ) × (slice_get vs i ≡ Some s)
place_of [] s h = absurd (omega (arith, h.1))
place_of (v ∷ vs) s (zero, below, here) = (zero, ap (λ (x : ℕ). Some x) here)
place_of (v ∷ vs) s (suc k, below, here) = let r = place_of vs s (k, omega (arith, below), here) in (suc r.0, r.1)

module _ (votes : ℕ → List Record) (voters : List ℕ) (logs : List (List LogEvent)) (rises : Rises voters) (h : AreFronts votes voters logs) where
  majority_by_number : (f : ℕ → Bool) → IsMajority f (services_below (length logs)) → IsMajority (by_number false f voters) voters
  majority_by_number f m = record {
    within = λ s t. let q = number_is f voters s t in contains_of voters q.0 s q.1;
    more_than_half = (let counted = count_agree (by_number false f voters) f voters 0 (λ i x g. ap f (zero-add i) ∙ sym (number_there false f voters rises i x g)) in
        let same : count_by f (services_below (length logs)) ≡ count_by f (range_with_len 0 (length voters)) = ap (λ (n : ℕ). count_by f (range_with_len 0 n)) h.each in
        omega (arith, m.more_than_half, length-range_with_len 0 (length logs), h.each, same, counted));
  }

  majority_by_place : (p : ℕ → Bool) → IsMajority p voters → IsMajority (by_place false p voters) (services_below (length logs))
  majority_by_place p m = record {
    within = λ i t. let q = place_is p voters i t in below_voter (length logs) i (let l = slice_get_within voters i q.0 q.1 in omega (arith, l, h.each));
    more_than_half = (let counted = count_agree p (by_place false p voters) voters 0 (λ i x g. ap (by_place false p voters) (zero-add i) ∙ place_there false p voters i x g) in
        let same : count_by (by_place false p voters) (services_below (length logs)) ≡ count_by (by_place false p voters) (range_with_len 0 (length voters)) = ap (λ (n : ℕ). count_by (by_place false p voters) (range_with_len 0 n)) h.each in
        omega (arith, m.more_than_half, length-range_with_len 0 (length logs), h.each, same, counted));
  }

  -- a place of the logs is that of a voter
  voter_at : (i : ℕ) → Contains (services_below (length logs)) i → (s : ℕ) × (slice_get voters i ≡ Some s)
  voter_at i c = (get_or voters i 0, slice_get-get_or voters i 0 (let l = voter_below (length logs) i c in omega (arith, l, h.each)))

  place_within : (i s : ℕ) → slice_get voters i ≡ Some s → Contains (services_below (length logs)) i
  place_within i s at = below_voter (length logs) i (let l = slice_get_within voters i s at in omega (arith, l, h.each))

  -- ---- what is chosen

  pub chosen_by_number : (k : ℕ) (e : Entry) → ChosenBy (votes_at logs) (services_below (length logs)) k e → ChosenBy votes voters k e
  chosen_by_number k e c = record {
    ballot = c.ballot;
    part = by_number false c.part voters;
    majority = majority_by_number c.part c.majority;
    taken = λ s t. let q = number_is c.part voters s t in let w = c.taken q.0 q.2 in (w.0, subst (λ (l : List Record). IsTaken l w.0 k c.ballot e) (h.are q.0 s q.1) w.1);
  }

  pub chosen_by_place : (k : ℕ) (e : Entry) → ChosenBy votes voters k e → ChosenBy (votes_at logs) (services_below (length logs)) k e
  chosen_by_place k e c = record {
    ballot = c.ballot;
    part = by_place false c.part voters;
    majority = majority_by_place c.part c.majority;
    taken = λ i t. let q = place_is c.part voters i t in let w = c.taken q.0 q.2 in (w.0, subst (λ (l : List Record). IsTaken l w.0 k c.ballot e) (sym (h.are i q.0 q.1)) w.1);
  }

  -- ---- what may be offered

  Showing : List Record → ℕ → Ballot → Option Vote → Type 0
  Showing records k b best = (place : ℕ) × IsFirstPromised records place k b × IsBest records k place best

  abbrev promises_by_number : (k : ℕ) (b : Ballot) → HasPromises (votes_at logs) (services_below (length logs)) k b → HasPromises votes voters k b
  promises_by_number k b p = record {
    part = by_number false p.part voters;
    bests = by_number None p.bests voters;
    majority = majority_by_number p.part p.majority;
    shown = λ s t. let q = number_is p.part voters s t in
        subst (λ (o : Option Vote). (place : ℕ) × IsFirstPromised (votes s) place k b × IsBest (votes s) k place o) (sym (number_there None p.bests voters rises q.0 s q.1))
        (subst (λ (l : List Record). (place : ℕ) × IsFirstPromised l place k b × IsBest l k place (p.bests q.0)) (h.are q.0 s q.1) (p.shown q.0 q.2));
    others = λ s place c f promised. let q = place_of voters s c in
        p.others q.0 place (place_within q.0 s q.1) (sym (number_there false p.part voters rises q.0 s q.1) ∙ f) (subst (λ (l : List Record). IsPromised l place k b) (sym (h.are q.0 s q.1)) promised);
  }

  promises_by_place : (k : ℕ) (b : Ballot) → HasPromises votes voters k b → HasPromises (votes_at logs) (services_below (length logs)) k b
  promises_by_place k b p = record {
    part = by_place false p.part voters;
    bests = by_place None p.bests voters;
    majority = majority_by_place p.part p.majority;
    shown = λ i t. let q = place_is p.part voters i t in
        subst (λ (o : Option Vote). (place : ℕ) × IsFirstPromised (votes_at logs i) place k b × IsBest (votes_at logs i) k place o) (sym (place_there None p.bests voters i q.0 q.1))
        (subst (λ (l : List Record). (place : ℕ) × IsFirstPromised l place k b × IsBest l k place (p.bests q.0)) (sym (h.are i q.0 q.1)) (p.shown q.0 q.2));
    others = λ i place c f promised. let q = voter_at i c in
        p.others q.0 place (contains_of voters i q.0 q.1) (sym (place_there false p.part voters i q.0 q.1) ∙ f) (subst (λ (l : List Record). IsPromised l place k b) (h.are i q.0 q.1) promised);
  }

  not_above : (i j s t : ℕ) → slice_get voters i ≡ Some s → slice_get voters j ≡ Some t → i ≤ j → s ≤ t
  not_above i j s t x y le =
      elim (cases_lt i j) [
        | inl less ↦ (let l = rises i j s t less x y in omega arith)
        | inr past ↦ (let same : i ≡ j = omega arith in let e : s ≡ t = some_same s t (sym x ∙ ap (slice_get voters) same ∙ y) in omega (arith, e))
      ]

  offers_by_number : (k : ℕ) (b : Ballot) (p : HasPromises (votes_at logs) (services_below (length logs)) k b) (want : Option Entry) (e : Entry) → Offers p want e → Offers (promises_by_number k b p) want e
  offers_by_number k b p want e (inl g) =
      let at = voter_at g.service (p.majority.within g.service g.member) in
      inl (record {
        service = at.0;
        vote = g.vote;
        member = number_there false p.part voters rises g.service at.0 at.1 ∙ g.member;
        has = number_there None p.bests voters rises g.service at.0 at.1 ∙ g.has;
        greatest = λ s v t best. let q = number_is p.part voters s t in g.greatest q.0 v q.2 (sym (number_there None p.bests voters rises q.0 s q.1) ∙ best);
        least = λ s v t best same. let q = number_is p.part voters s t in
            not_above g.service q.0 at.0 s at.1 q.1 (g.least q.0 v q.2 (sym (number_there None p.bests voters rises q.0 s q.1) ∙ best) same);
        entry_is = g.entry_is;
      })
  offers_by_number k b p want e (inr o) = inr (o.0, λ s t. let q = number_is p.part voters s t in number_there None p.bests voters rises q.0 s q.1 ∙ o.1 q.0 q.2)

  not_before : (i j s t : ℕ) → slice_get voters i ≡ Some s → slice_get voters j ≡ Some t → s ≤ t → i ≤ j
  not_before i j s t x y le =
      elim (cases_lt j i) [
        | inl less ↦ (let l = rises j i t s less y x in absurd (omega arith))
        | inr past ↦ past
      ]

  offers_by_place : (k : ℕ) (b : Ballot) (p : HasPromises (votes_at logs) (services_below (length logs)) k b) (want : Option Entry) (e : Entry) → Offers (promises_by_number k b p) want e → Offers p want e
  offers_by_place k b p want e (inl g) =
      let q = number_is p.part voters g.service g.member in
      inl (record {
        service = q.0;
        vote = g.vote;
        member = q.2;
        has = sym (number_there None p.bests voters rises q.0 g.service q.1) ∙ g.has;
        greatest = λ i v t best. let at = voter_at i (p.majority.within i t) in
            g.greatest at.0 v (number_there false p.part voters rises i at.0 at.1 ∙ t) (number_there None p.bests voters rises i at.0 at.1 ∙ best);
        least = λ i v t best same. let at = voter_at i (p.majority.within i t) in
            not_before q.0 i g.service at.0 q.1 at.1 (g.least at.0 v (number_there false p.part voters rises i at.0 at.1 ∙ t) (number_there None p.bests voters rises i at.0 at.1 ∙ best) same);
        entry_is = g.entry_is;
      })
  offers_by_place k b p want e (inr o) = inr (
    o.0,
    λ i t. let at = voter_at i (p.majority.within i t) in
        sym (number_there None p.bests voters rises i at.0 at.1) ∙ o.1 at.0 (number_there false p.part voters rises i at.0 at.1 ∙ t),
  )

  pub ruling_by_number : (k : ℕ) (b : Ballot) (want : Option Entry) (r : Ruling) → IsRuling (votes_at logs) (services_below (length logs)) k b want r → IsRuling votes voters k b want r
  ruling_by_number k b want Unpromised none = λ p. none (promises_by_place k b p)
  ruling_by_number k b want Nothing n = (promises_by_number k b n.0, λ e o. n.1 e (offers_by_place k b n.0 want e o))
  ruling_by_number k b want (Offer entry) o = (promises_by_number k b o.0, offers_by_number k b o.0 want entry o.1)

-- ---- what the answer of a search among the logs by place says of the voters

module _ (votes : ℕ → List Record) (plan : PlanView) (rows : List PlanRow) (logs : List (List LogEvent)) (k : ℕ) (r : Result (Option Entry) NoMemory) where
  pub found_by_place : IsPlan plan → rows ≡ plan.rows → AreFronts votes (services_of rows) logs → IfOk r (λ o. IfSome o (ChosenBy (votes_at logs) (services_below (length logs)) k))
      → IfOk r (λ o. IfSome o (ChosenBy votes (voters_of plan) k))
  found_by_place is same are h = by r h
    where
      fronts : AreFronts votes (services_of plan.rows) logs
      fronts = subst (λ (l : List PlanRow). AreFronts votes (services_of l) logs) same are

      by : (x : Result (Option Entry) NoMemory) → IfOk x (λ o. IfSome o (ChosenBy (votes_at logs) (services_below (length logs)) k)) → IfOk x (λ o. IfSome o (ChosenBy votes (voters_of plan) k))
      by (Ok (Some e)) c = chosen_by_number votes (services_of plan.rows) logs (plan_rises plan is) fronts k e c
      by (Ok None) c = tt
      by (Err e) c = tt

  pub none_by_place : IsPlan plan → rows ≡ plan.rows → AreFronts votes (services_of rows) logs → IfOk r (λ o. o ≡ None → (e : Entry) → ChosenBy (votes_at logs) (services_below (length logs)) k e → ⊥)
      → IfOk r (λ o. o ≡ None → (e : Entry) → ChosenBy votes (voters_of plan) k e → ⊥)
  none_by_place is same are h = by r h
    where
      fronts : AreFronts votes (services_of plan.rows) logs
      fronts = subst (λ (l : List PlanRow). AreFronts votes (services_of l) logs) same are

      by : (x : Result (Option Entry) NoMemory) → IfOk x (λ o. o ≡ None → (e : Entry) → ChosenBy (votes_at logs) (services_below (length logs)) k e → ⊥) → IfOk x (λ o. o ≡ None → (e : Entry) → ChosenBy votes (voters_of plan) k e → ⊥)
      by (Ok o) n = λ none e c. n none e (chosen_by_place votes (services_of plan.rows) logs (plan_rises plan is) fronts k e c)
      by (Err e) n = tt
