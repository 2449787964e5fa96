use Rattle.std.proofs.Common.{take}
use Rattle.ms_record.specs.Reading.{votes_of}
use Rattle.ms_record.specs.Looks.{HasShown, IsOfBid}
use Rattle.ms_replay.proofs.LookingOn.{AreRecords}
use Rattle.ms_replay.proofs.looking.sight.Given as goal

abbrev pub invariant-loop-text : goal.invariant-loop-text
invariant-loop-text l = record {
  bid : IsOfBid l.fn.position l.fn.ballot l.look;
  shown : HasShown (votes_of (take l.text-index l.list)) l.look;
  ranges : AreRecords (votes_of (take l.text-index l.list));
}
