use Rattle.std.proofs.Common.{ℕ, refl, sym, subst, rules}
use Rattle.ms_replay.specs.Places.{AreKept}
use Rattle.ms_replay.specs.Tallies.{TallyView, IsTallyOf}
use Rattle.ms_replay.proofs.Sorting.{reordered, kept_reordered, order_reordered, tally_reordered}
use Rattle.ms_replay.proofs.places.Places.sort.Goals as goal

pub returns-clause-order : goal.returns-clause-order
returns-clause-order c =
    order_reordered (record { services = c.self.inside.services; places = c.self.inside.places.entries }) (record { services = c.self.inside.services; places = c.retain.new.self.entries })
    (reordered _ (λ f k v b w g t. search rules) _ c.self.inside.places.entries c.retain.new.self.entries c.retain.ensures.filtered)

pub returns-clause-keeps : goal.returns-clause-keeps
returns-clause-keeps c = λ kept.
    kept_reordered (record { services = c.self.inside.services; places = c.self.inside.places.entries }) (record { services = c.self.inside.services; places = c.retain.new.self.entries }) refl
    (reordered _ (λ f k v b w g t. search rules) _ c.self.inside.places.entries c.retain.new.self.entries c.retain.ensures.filtered) (subst AreKept (sym c.self.view_is) kept)

pub returns-clause-read : goal.returns-clause-read
returns-clause-read c = λ lists h.
    tally_reordered lists (record { services = c.self.inside.services; places = c.self.inside.places.entries }) (record { services = c.self.inside.services; places = c.retain.new.self.entries }) refl
    (reordered _ (λ f k v b w g t. search rules) _ c.self.inside.places.entries c.retain.new.self.entries c.retain.ensures.filtered) (subst (λ (t : TallyView). IsTallyOf lists t) (sym c.self.view_is) h)
