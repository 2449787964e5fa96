use Rattle.std.proofs.Common.{◌≡◌, ℕ, ◌<◌, Some, sym, ap, subst, length, arith}
use Rattle.ms_replay.specs.Places.{AreKept}
use Rattle.ms_replay.specs.Tallies.{TallyView, found_at}
use Rattle.ms_replay.proofs.places.Places.top.Goals as goal

pub top-requires : goal.top-requires
top-requires c =
    let place = c.in_ok-get.field-0.now in
    let found : found_at c.self.inside.places.entries c.args.position ≡ Some place = sym c.in_ok-get.ensures.value in
    let kept = subst AreKept (sym c.self.view_is) c.requires.kept in
    let within : c.args.service < c.self.inside.services = subst (λ (t : TallyView). c.args.service < t.services) (sym c.self.view_is) c.requires.within in
    let wide : length place.tops ≡ c.self.inside.services = (kept c.args.position place found).wide in
    omega (arith, within, wide)
