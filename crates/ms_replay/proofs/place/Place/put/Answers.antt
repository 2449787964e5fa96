use Rattle.std.proofs.Common.{sym, subst}
use Rattle.ms_replay.specs.Tallies.{PlaceView, AreSorted}
use Rattle.ms_replay.proofs.place.Place.put.Goals as goal

pub returns-in_err-at-clause-sorted : goal.returns-in_err-at-clause-sorted
returns-in_err-at-clause-sorted c = λ filed sorted. c.in_err-at.ensures.sorted filed (subst (λ (p : PlaceView). AreSorted p.votes) (sym c.self.view_is) sorted)

pub returns-clause-sorted : goal.returns-clause-sorted
returns-clause-sorted c = λ filed sorted. c.in_ok-at.ensures.sorted filed (subst (λ (p : PlaceView). AreSorted p.votes) (sym c.self.view_is) sorted)
