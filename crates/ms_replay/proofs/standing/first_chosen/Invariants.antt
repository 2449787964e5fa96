use Rattle.std.proofs.Common.{◌≡◌, ◌≢◌, ℕ, ◌-◌, ◌<◌, ◌≤◌, Some, slice_get, length}
use Rattle.ms_record.specs.declared.ballot.Ballot.{Ballot}
use Rattle.ms_record.specs.declared.entry.Entry.{Entry}
use Rattle.ms_record.specs.declared.record.Record.TheVariants.{Accept}
use Rattle.ms_record.specs.Reading.{record_at}
use Rattle.ms_replay.specs.declared.voted.Voted.{Voted}
use Rattle.ms_replay.specs.Standings.{IsGiven}
use Rattle.ms_replay.specs.Winners.{HasMajority}
use Rattle.ms_replay.proofs.standing.first_chosen.Given as goal

abbrev pub invariant-loop-from : goal.invariant-loop-from
invariant-loop-from l = record {
  within : l.from ≤ length l.part;
  starts : (v w : Voted) → 0 < l.from → slice_get l.part (l.from - 1) ≡ Some v → slice_get l.part l.from ≡ Some w → v.text ≢ w.text;
  none : (i : ℕ) (v : Voted) (b : Ballot) (e : Entry) → i < l.from → slice_get l.part i ≡ Some v → record_at v.text ≡ Some (Accept l.position b e)
      → HasMajority l.part l.voters v.text → IsGiven l.but e;
}

abbrev pub decreases-loop-from : goal.decreases-loop-from
decreases-loop-from l = length l.part - l.from
