-- A tally's fields: places whose votes are of their position and in order.
use Rattle.std.specs.Prelude.{◌≡◌, ℕ, length, Some, slice_get}
use Rattle.ms_replay.specs.declared.voted.Voted.{Voted}
use Rattle.ms_replay.specs.declared.tally.Tally.TheInside.{Inside}
use Rattle.ms_replay.specs.Tallies.{PlaceView, TallyView}
use Rattle.ms_replay.specs.Places.{AreKept, AreInOrder}

abbrev pub view_of : Inside → TallyView
view_of t = t.places

pub record IsKept (t : Inside) : Type 0 where
  pub kept : AreKept t.places
  pub sorted : AreInOrder t.places
