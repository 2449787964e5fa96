use Rattle.std.proofs.Common.{◌≡◌, ℕ, false, List, Some, sym, ap, ◌∙◌, refl, subst}
use Rattle.std.specs.Prelude.{IsSome}
use Rattle.std.specs.BTreeMap.{is_at}
use Rattle.std.specs.Map.{set_value}
use Rattle.std.specs.Ordering.{nat_cmp}
use Rattle.std.proofs.lemmas.Map.Steps.{set_value_same}
use Rattle.ms_replay.specs.Places.{AreInOrder, AreKept, IsVoteAt}
use Rattle.ms_replay.specs.Tallies.{PlaceView, TallyView, AreSorted, found_at}
use Rattle.ms_replay.proofs.Writing.{Writes, back_at, kept_written, on_err, order_written, place_put}
use Rattle.ms_replay.proofs.places.Places.raise.Goals as goal

-- the places before
abbrev before : goal.In_ok-vote → TallyView
before c = record { services = c.self.inside.services; places = c.self.inside.places.entries }

abbrev after : goal.In_ok-vote → TallyView
after c = record { services = c.self.inside.services; places = (c.get_mut.follows.lender c.put.new.self).entries }

found : (c : goal.In_ok-vote) → found_at c.self.inside.places.entries c.args.position ≡ Some c.in-Some.place.now
found c = sym c.in-Some.ensures.value

writes : (c : goal.In_ok-vote) → Writes c.args.position c.put.new.self c.self.inside.places.entries (c.get_mut.follows.lender c.put.new.self).entries
writes c = ((c.get_mut.follows.holds c.put.new.self).3 (subst (λ (t : TallyView). IsSome (found_at t.places c.args.position)) (sym c.self.view_is) c.requires.present)).0

pub returns-clause-back : goal.returns-clause-back
returns-clause-back c =
    back_at c.args.position c.args.service (record { position = c.args.position; begun = false; before = c.top-before.result; vote = c.in_ok-vote.vote }) (Some c.args.ballot) c.args.vote c.in-Some.place.now c.put.new.self
    c.self.inside.places.entries (c.get_mut.follows.lender c.put.new.self).entries (found c) (c.get_mut.follows.holds c.put.new.self).0 (writes c) c.top-before.ensures c.in_ok-vote.ensures.tops c.in_ok-vote.ensures.votes
    ∙ ap (λ (t : TallyView). t.places) c.self.view_is

pub returns-clause-keeps : goal.returns-clause-keeps
returns-clause-keeps c =
    let kept : AreKept (before c) = subst AreKept (sym c.self.view_is) c.requires.kept in
    let vote : IsVoteAt c.self.inside.services c.args.position c.args.vote = subst (λ (t : TallyView). IsVoteAt t.services c.args.position c.args.vote) (sym c.self.view_is) c.requires.vote in
    kept_written c.args.position c.put.new.self (before c) (after c) refl (writes c)
    (place_put c.self.inside.services c.args.position c.args.service (Some c.args.ballot) c.args.vote c.in_ok-vote.vote c.in-Some.place.now c.put.new.self (kept c.args.position c.in-Some.place.now (found c)) vote
    c.in_ok-vote.ensures.tops c.in_ok-vote.ensures.votes) kept

pub returns-clause-order : goal.returns-clause-order
returns-clause-order c = λ filed sorted.
    let old : AreInOrder (before c) = subst AreInOrder (sym c.self.view_is) sorted in
    order_written c.args.position c.put.new.self (before c) (after c) (writes c) (c.in_ok-vote.ensures.sorted filed (old c.args.position c.in-Some.place.now (found c))) old

-- what a refused put leaves
same : (c : goal.After-from_residual) → (c.get_mut.follows.lender c.put.new.self).entries ≡ c.self.inside.places.entries
same c =
    (c.get_mut.follows.holds c.put.new.self).0
    ∙ set_value_same (is_at (nat_cmp c.args.position)) c.self.inside.places.entries c.put.new.self (sym c.in-Some.ensures.value ∙ ap (λ (p : PlaceView). Some p) (sym c.in_err-vote.ensures.err))

pub returns-in_err-vote-clause-keeps : goal.returns-in_err-vote-clause-keeps
returns-in_err-vote-clause-keeps c = λ q p g.
    (subst AreKept (sym c.self.view_is) c.requires.kept) q p (ap (λ (es : List (ℕ × PlaceView)). found_at es q) (sym (same c)) ∙ g)

pub returns-in_err-vote-clause-err : goal.returns-in_err-vote-clause-err
returns-in_err-vote-clause-err c = on_err c.from_residual.result _ ((λ i. record { services = c.self.inside.services; places = same c i }) ∙ c.self.view_is)
