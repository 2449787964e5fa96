use Rattle.std.proofs.Common.{◌≡◌, ℕ, List, Some, None, sym, ap, ◌∙◌, refl, subst}
use Rattle.std.specs.BTreeMap.{is_at}
use Rattle.std.specs.Map.{remove_entry}
use Rattle.std.specs.Ordering.{nat_cmp}
use Rattle.ms_replay.specs.Places.{AreInOrder, AreKept, IsPlace, IsVoteAt}
use Rattle.ms_replay.specs.Tallies.{PlaceView, TallyView, AreSorted, found_at}
use Rattle.ms_replay.proofs.Writing.{back_begun, blank_place, blank_sorted, kept_written, order_written, place_put}
use Rattle.ms_replay.proofs.places.Places.begin.Goals as goal

pub returns-in_err-insert-clause-keeps : goal.returns-in_err-insert-clause-keeps
returns-in_err-insert-clause-keeps c = λ q p g.
    (subst AreKept (sym c.self.view_is) c.requires.kept) q p (ap (λ (es : List (ℕ × PlaceView)). found_at es q) (sym c.in_err-insert.ensures.err) ∙ g)

pub returns-clause-back : goal.returns-clause-back
returns-clause-back c =
    ap (remove_entry (is_at (nat_cmp c.args.position))) c.in_ok-insert.ensures.entries
    ∙ back_begun c.args.position c.put.new.self c.self.inside.places.entries (ap (λ (t : TallyView). found_at t.places c.args.position) c.self.view_is ∙ c.requires.absent)
    ∙ ap (λ (t : TallyView). t.places) c.self.view_is

pub returns-clause-keeps : goal.returns-clause-keeps
returns-clause-keeps c =
    let n = c.self.inside.services in
    let k = c.args.position in
    let vote : IsVoteAt n k c.args.vote = subst (λ (t : TallyView). IsVoteAt t.services k c.args.vote) (sym c.self.view_is) c.requires.vote in
    let first = subst (IsPlace n k) (sym c.in_ok-place.ensures) (blank_place n k) in
    kept_written k c.put.new.self (record { services = n; places = c.self.inside.places.entries }) (record { services = n; places = c.insert.new.self.entries }) refl c.in_ok-insert.ensures.updates.0
    (place_put n k c.args.service (Some c.args.ballot) c.args.vote c.in_ok-vote.vote c.in_ok-place.place c.put.new.self first vote c.in_ok-vote.ensures.tops c.in_ok-vote.ensures.votes)
    (subst AreKept (sym c.self.view_is) c.requires.kept)

pub returns-clause-order : goal.returns-clause-order
returns-clause-order c = λ sorted.
    let n = c.self.inside.services in
    order_written c.args.position c.put.new.self (record { services = n; places = c.self.inside.places.entries }) (record { services = n; places = c.insert.new.self.entries }) c.in_ok-insert.ensures.updates.0
    (c.in_ok-vote.ensures.sorted refl (subst (λ (p : PlaceView). AreSorted p.votes) (sym c.in_ok-place.ensures) (blank_sorted n))) (subst AreInOrder (sym c.self.view_is) sorted)
