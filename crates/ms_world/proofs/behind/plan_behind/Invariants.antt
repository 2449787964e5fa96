use Rattle.std.proofs.Common.{◌≡◌, take}
use Rattle.ms_record.specs.Chains.{plan_in}
use Rattle.ms_world.proofs.behind.plan_behind.Given as goal

abbrev pub invariant-loop-entry : goal.invariant-loop-entry
invariant-loop-entry l = l.plan ≡ plan_in l.fn.first (take l.entry-index l.members)
