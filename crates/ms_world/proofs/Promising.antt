-- The promises that logs show, and what they allow to offer.
use Rattle.std.proofs.Common.{◌≡◌, ℕ, zero, suc, ◌+◌, ◌-◌, ◌*◌, ◌<◌, ◌≤◌, Bool, true, false, List, [], ◌∷◌, ◌++◌, Option, Some, None, ◌⊎◌, inl, inr, refl, sym, ap, ◌∙◌, subst, slice_get, length, get_or, Contains, arith}
use Rattle.std.specs.Prelude.{IsSomeAnd}
use Rattle.std.proofs.lemmas.List.{get_or_default, length_push}
use Rattle.std.proofs.lemmas.List.Sums.{count_by-le-length}
use Rattle.std.proofs.lemmas.Option.{slice_get-get_or, slice_get_within, get_or_from_slice_get}
use Rattle.ms_world.specs.Passes.{ShowsBest, IsGreatestSeen, ArePromises}
use Rattle.ms_world.specs.Rulings.{IsRuling}
use Rattle.ms_world.specs.Steps.{HasPromises, Offers}
use Rattle.ms_world.specs.declared.rule.Ruling.TheVariants.{Unpromised, Nothing, Offer}
use Rattle.ms_world.proofs.Majorities.{AreAnswers, one_if, count_push, in_part, part_none, part_majority, majority_passes}
use Rattle.ms_record.specs.Voters.{voter_below}
use Rattle.ms_base.specs.Places.{some_same, append_left, append_cases, at_end, alone}
use Rattle.ms_record.specs.declared.ballot.Ballot.{Ballot}
use Rattle.ms_record.specs.declared.ballot.Vote.{Vote}
use Rattle.ms_record.specs.declared.entry.Entry.{Entry}
use Rattle.ms_record.specs.declared.log.LogEvent.{LogEvent}
use Rattle.ms_record.specs.declared.record.Record.{Record}
use Rattle.ms_record.specs.declared.sight.Sight.{Sight}
use Rattle.ms_record.specs.Ballots.{IsAtMost, IsBelow}
use Rattle.ms_record.specs.BallotOrder.{below_at_most, not_above}
use Rattle.ms_record.specs.Logs.{votes_in}
use Rattle.ms_record.specs.Offers.{IsFirstPromised, IsOfGreatest}
use Rattle.ms_record.specs.Sights.{IsSight, ShowsPromise}
use Rattle.ms_record.specs.Votes.{IsPromised, IsBest, IsMajority, services_below}

-- ---- one log more

-- a Best that is seen was seen before, or is that of the new list
seen_cases : (seen : List Sight) (sight : Sight) (s : ℕ) (v : Vote) → ShowsBest (seen ++ sight ∷ []) s v → ShowsBest seen s v ⊎ ((s ≡ length seen) × (sight.best ≡ Some v))
seen_cases seen sight s v h = elim (append_cases seen (sight ∷ []) s h.0 h.1) [
  | inl old ↦ inl (h.0, old, h.2)
  | inr new ↦ (let a = alone sight h.0 new.0 new.2 in inr (omega (arith, new.1, a.0), ap (λ (x : Sight). x.best) a.1 ∙ h.2))
]

seen_on : (seen : List Sight) (sight : Sight) (s : ℕ) (v : Vote) → ShowsBest seen s v → ShowsBest (seen ++ sight ∷ []) s v
seen_on seen sight s v h = (h.0, append_left seen (sight ∷ []) s h.0 h.1, h.2)

-- a list without a Best leaves the greatest one
pub seen_none : (seen : List Sight) (sight : Sight) (greatest : Option Vote) → sight.best ≡ None → IsGreatestSeen seen greatest → IsGreatestSeen (seen ++ sight ∷ []) greatest
seen_none seen sight None none h = λ s v at. elim (seen_cases seen sight s v at) [ inl old ↦ h s v old | inr new ↦ (let q : None ≡ Some v = sym none ∙ new.1 in cc) ]
seen_none seen sight (Some vote) none h = record {
  service = h.service;
  has = seen_on seen sight h.service vote h.has;
  greatest = λ s v at. elim (seen_cases seen sight s v at) [ inl old ↦ h.greatest s v old | inr new ↦ absurd (let q : None ≡ Some v = sym none ∙ new.1 in cc) ];
  least = λ s v at same. elim (seen_cases seen sight s v at) [ inl old ↦ h.least s v old same | inr new ↦ absurd (let q : None ≡ Some v = sym none ∙ new.1 in cc) ];
}

-- a Best that is not greater does so too
seen_lower : (seen : List Sight) (sight : Sight) (vote best : Vote) → sight.best ≡ Some best → IsAtMost best.ballot vote.ballot → IsGreatestSeen seen (Some vote) → IsGreatestSeen (seen ++ sight ∷ []) (Some vote)
seen_lower seen sight vote best is low h = record {
  service = h.service;
  has = seen_on seen sight h.service vote h.has;
  greatest = λ s v at. elim (seen_cases seen sight s v at) [
    | inl old ↦ h.greatest s v old
    | inr new ↦ subst (λ (x : Vote). IsAtMost x.ballot vote.ballot) (some_same best v (sym is ∙ new.1)) low
  ];
  least = λ s v at same. elim (seen_cases seen sight s v at) [
    | inl old ↦ h.least s v old same
    | inr new ↦ (let l = slice_get_within seen h.service h.has.0 h.has.1 in omega (arith, l, new.0))
  ];
}

pub seen_kept : (seen : List Sight) (sight : Sight) (found : Option Vote) (best : Vote) → sight.best ≡ Some best → IsSomeAnd found (λ vote. IsAtMost best.ballot vote.ballot)
    → IsGreatestSeen seen found → IsGreatestSeen (seen ++ sight ∷ []) found
seen_kept seen sight None best is low h = absurd low
seen_kept seen sight (Some vote) best is low h = seen_lower seen sight vote best is low h

-- a greater one is the greatest
pub seen_greater : (seen : List Sight) (sight : Sight) (found : Option Vote) (best : Vote) → sight.best ≡ Some best → ((v : Vote) → found ≡ Some v → IsBelow v.ballot best.ballot)
    → IsGreatestSeen seen found → IsGreatestSeen (seen ++ sight ∷ []) (Some best)
seen_greater seen sight found best is above h = record {
  service = length seen;
  has = (sight, at_end seen sight, is);
  greatest = λ s v at. elim (seen_cases seen sight s v at) [
    | inl old ↦ below_at_most v.ballot best.ballot (below found h above s v old)
    | inr new ↦ subst (λ (x : Vote). IsAtMost x.ballot best.ballot) (some_same best v (sym is ∙ new.1)) (omega arith, λ _. omega arith)
  ];
  least = λ s v at same. elim (seen_cases seen sight s v at) [
    | inl old ↦ absurd (not_above best.ballot v.ballot (below found h above s v old) (subst (λ (b : Ballot). IsAtMost best.ballot b) (sym same) (omega arith, λ _. omega arith)))
    | inr new ↦ omega (arith, new.0)
  ];
}
  where
    below : (o : Option Vote) → IsGreatestSeen seen o → ((v : Vote) → o ≡ Some v → IsBelow v.ballot best.ballot) → (s : ℕ) (v : Vote) → ShowsBest seen s v → IsBelow v.ballot best.ballot
    below None none up s v at = absurd (none s v at)
    below (Some vote) g up s v at = (let top = up vote refl in let low = g.greatest s v at in grind arith)

pub promises_start : (votes : ℕ → List Record) (k : ℕ) (b : Ballot) → ArePromises votes k b 0 0 None
promises_start votes k b = record { seen = []; each = refl; shown = λ s sight at. cc; count_is = refl; greatest_is = λ s v at. (let q = at.1 in cc) }

pub promises_push : (votes : ℕ → List Record) (k : ℕ) (b : Ballot) (n count next : ℕ) (old new : Option Vote) (sight : Sight) → IsSight (votes n) k b sight → next ≡ count + one_if sight.promised
    → ((seen : List Sight) → IsGreatestSeen seen old → IsGreatestSeen (seen ++ sight ∷ []) new) → ArePromises votes k b n count old → ArePromises votes k b (n + 1) next new
promises_push votes k b n count next old new sight shows is goes h = record {
  seen = h.seen ++ sight ∷ [];
  each = omega (arith, length_push h.seen sight, h.each);
  shown = λ s p at. elim (append_cases h.seen (sight ∷ []) s p at) [
    | inl before ↦ h.shown s p before
    | inr after ↦
        let a = alone sight p after.0 after.2 in
        let e : n ≡ s = omega (arith, after.1, a.0, h.each) in
        subst (λ (q : Sight). IsSight (votes s) k b q) a.1 (subst (λ (i : ℕ). IsSight (votes i) k b sight) e shows)
  ];
  count_is = omega (arith, is, h.count_is, count_push (λ (x : Sight). x.promised) h.seen sight);
  greatest_is = goes h.seen h.greatest_is;
}

pub promises_few : (votes : ℕ → List Record) (k : ℕ) (b : Ballot) (n count : ℕ) (greatest : Option Vote) → ArePromises votes k b n count greatest → count ≤ n
promises_few votes k b n count greatest h = omega (arith, h.count_is, count_by-le-length (λ (x : Sight). x.promised) h.seen, h.each)

-- what the log at a place shows
pub shown_at : (logs : List (List LogEvent)) (k : ℕ) (b : Ballot) (n : ℕ) (log events : List LogEvent) (sight : Sight) → n < length logs → log ≡ get_or logs n log → events ≡ log → IsSight (votes_in events) k b sight
    → IsSight (votes_in (get_or logs n [])) k b sight
shown_at logs k b n log events sight l at same h = subst (λ (es : List LogEvent). IsSight (votes_in es) k b sight) (same ∙ at ∙ get_or_default logs n log [] l) h

-- ---- what the promises allow

abbrev Promised : (ℕ → List Record) → ℕ → Ballot → ℕ → Type 0
Promised votes k b s = (place : ℕ) × IsPromised (votes s) place k b

promise_there : (xs : List Record) (k : ℕ) (b : Ballot) (p : Bool) (best : Option Vote) → ShowsPromise xs k b p best → p ≡ true → (place : ℕ) × IsFirstPromised xs place k b × IsBest xs k place best
promise_there xs k b true best h t = h
promise_there xs k b false best h t = absurd (let q : false ≡ true = t in cc)

none_there : (xs : List Record) (k : ℕ) (b : Ballot) (p : Bool) (best : Option Vote) → ShowsPromise xs k b p best → p ≡ false → (place : ℕ) × IsPromised xs place k b → ⊥
none_there xs k b true best h f made = (let q : true ≡ false = f in cc)
none_there xs k b false best h f made = h.0 made.0 made.1

-- a list that shows a Best shows a promise
best_promised : (xs : List Record) (k : ℕ) (b : Ballot) (p : Bool) (best : Option Vote) (v : Vote) → ShowsPromise xs k b p best → best ≡ Some v → p ≡ true
best_promised xs k b true best v h is = refl
best_promised xs k b false best v h is = absurd (let q : None ≡ Some v = sym h.1 ∙ is in cc)

abbrev is_promised : Sight → Bool
is_promised sight = sight.promised

-- what is shown where there is no list
abbrev nothing_shown : Sight
nothing_shown = record { promised = false; best = None; taken = false; top = None }

answers : (votes : ℕ → List Record) (k : ℕ) (b : Ballot) (seen : List Sight) → ((s : ℕ) (sight : Sight) → slice_get seen s ≡ Some sight → IsSight (votes s) k b sight) → AreAnswers is_promised (Promised votes k b) seen
answers votes k b seen h = record {
  yes = λ s sight at t. let w = promise_there (votes s) k b sight.promised sight.best (h s sight at).promise t in (w.0, w.1.promised);
  none = λ s sight at f. none_there (votes s) k b sight.promised sight.best (h s sight at).promise f;
}

none_at : (o : Option Vote) → ((v : Vote) → o ≡ Some v → ⊥) → o ≡ None
none_at None h = refl
none_at (Some v) h = absurd (h v refl)

-- a Best at a place is that of the list there
best_there : (seen : List Sight) (s : ℕ) (v : Vote) → (get_or seen s nothing_shown).best ≡ Some v → ShowsBest seen s v
best_there [] s v e = absurd (let q : None ≡ Some v = e in cc)
best_there (sight ∷ seen) zero v e = (sight, refl, e)
best_there (sight ∷ seen) (suc s) v e = let r = best_there seen s v e in (r.0, r.1, r.2)

module _ (votes : ℕ → List Record) (k : ℕ) (b : Ballot) (n count : ℕ) (greatest : Option Vote) (h : ArePromises votes k b n count greatest) where
  -- the logs that show a promise
  abbrev promising : ℕ → Bool
  promising s = is_promised (get_or h.seen s nothing_shown)

  abbrev best_in : ℕ → Option Vote
  best_in s = (get_or h.seen s nothing_shown).best

  majority_at : n < 2 * count → IsMajority promising (services_below n)
  majority_at most = subst (λ (m : ℕ). IsMajority promising (services_below m)) h.each (part_majority is_promised nothing_shown refl (Promised votes k b) h.seen (omega (arith, most, h.each, h.count_is)))

  shown_in : (s : ℕ) → promising s ≡ true → (place : ℕ) × IsFirstPromised (votes s) place k b × IsBest (votes s) k place (best_in s)
  shown_in s t =
      let sight = get_or h.seen s nothing_shown in
      promise_there (votes s) k b sight.promised sight.best (h.shown s sight (slice_get-get_or h.seen s nothing_shown (in_part is_promised nothing_shown refl (Promised votes k b) h.seen s t))).promise t

  others_in : (s place : ℕ) → Contains (services_below n) s → promising s ≡ false → IsPromised (votes s) place k b → ⊥
  others_in s place c f p =
      part_none is_promised nothing_shown refl (Promised votes k b) h.seen (answers votes k b h.seen h.shown) s (let l = voter_below n s c in omega (arith, l, h.each)) f (place, p)

  abbrev promises_of : n < 2 * count → HasPromises votes (services_below n) k b
  promises_of most = record { part = promising; bests = best_in; majority = majority_at most; shown = shown_in; others = others_in }

  -- no majority has promised where they are half or less
  no_majority : count ≤ n - count → HasPromises votes (services_below n) k b → ⊥
  no_majority half p =
      let passes = majority_passes is_promised nothing_shown refl (Promised votes k b) h.seen (answers votes k b h.seen h.shown) p.part (subst (λ (m : ℕ). IsMajority p.part (services_below m)) (sym h.each) p.majority)
      (λ s t. let w = p.shown s t in (w.0, w.1.promised)) in
      omega (arith, passes, h.each, h.count_is, half)

  greatest_offered : (vote : Vote) → greatest ≡ Some vote → IsOfGreatest promising best_in vote.entry
  greatest_offered vote is =
      let g : IsGreatestSeen h.seen (Some vote) = subst (λ (o : Option Vote). IsGreatestSeen h.seen o) is h.greatest_is in
      let sight = g.has.0 in
      let here : get_or h.seen g.service nothing_shown ≡ sight = get_or_from_slice_get h.seen g.service sight nothing_shown g.has.1 in
      record {
        service = g.service;
        vote = vote;
        member = ap is_promised here ∙ best_promised (votes g.service) k b sight.promised sight.best vote (h.shown g.service sight g.has.1).promise g.has.2;
        has = ap (λ (x : Sight). x.best) here ∙ g.has.2;
        greatest = λ s v t e. g.greatest s v (best_there h.seen s v e);
        least = λ s v t e same. g.least s v (best_there h.seen s v e) same;
        entry_is = refl;
      }

  none_seen : greatest ≡ None → (s : ℕ) → best_in s ≡ None
  none_seen is s =
      let g : IsGreatestSeen h.seen None = subst (λ (o : Option Vote). IsGreatestSeen h.seen o) is h.greatest_is in
      none_at (best_in s) (λ v e. g s v (best_there h.seen s v e))

  none_offered : (want : Option Entry) (most : n < 2 * count) → greatest ≡ None → want ≡ None → (entry : Entry) → Offers (promises_of most) want entry → ⊥
  none_offered want most is own entry (inl g) = (let q : Some g.vote ≡ None = sym g.has ∙ none_seen is g.service in cc)
  none_offered want most is own entry (inr w) = (let q : None ≡ Some entry = sym own ∙ w.0 in cc)

  -- each ruling, of all logs
  pub rules_unpromised : (m : ℕ) (want : Option Entry) → n ≡ m → count ≤ m - count → IsRuling votes (services_below m) k b want Unpromised
  rules_unpromised m want all half = subst (λ (l : ℕ). IsRuling votes (services_below l) k b want Unpromised) all (no_majority (omega (arith, all, half)))

  pub rules_greatest : (m : ℕ) (want : Option Entry) (vote : Vote) → n ≡ m → m - count < count → greatest ≡ Some vote → IsRuling votes (services_below m) k b want (Offer vote.entry)
  rules_greatest m want vote all most is = subst (λ (l : ℕ). IsRuling votes (services_below l) k b want (Offer vote.entry)) all (promises_of (omega (arith, all, most)), inl (greatest_offered vote is))

  pub rules_own : (m : ℕ) (want : Option Entry) (entry : Entry) → n ≡ m → m - count < count → greatest ≡ None → want ≡ Some entry → IsRuling votes (services_below m) k b want (Offer entry)
  rules_own m want entry all most is own = subst (λ (l : ℕ). IsRuling votes (services_below l) k b want (Offer entry)) all (promises_of (omega (arith, all, most)), inr (own, λ s _. none_seen is s))

  pub rules_nothing : (m : ℕ) (want : Option Entry) → n ≡ m → m - count < count → greatest ≡ None → want ≡ None → IsRuling votes (services_below m) k b want Nothing
  rules_nothing m want all most is own =
      let enough : n < 2 * count = omega (arith, all, most) in
      subst (λ (l : ℕ). IsRuling votes (services_below l) k b want Nothing) all (promises_of enough, none_offered want enough is own)
