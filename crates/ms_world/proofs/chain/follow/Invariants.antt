use Rattle.std.proofs.Common.{◌≡◌, ◌+◌, length}
use Rattle.ms_world.specs.Worlds.{votes_of_world}
use Rattle.ms_record.specs.Chains.{IsLinked, plan_in}
use Rattle.ms_record.specs.Settings.{genesis_plan, origin_of}
use Rattle.ms_world.proofs.chain.follow.Given as goal

abbrev pub invariant-loop-position : goal.invariant-loop-position
invariant-loop-position l = record {
  next : l.position ≡ length l.chain + 1;
  linked : IsLinked (votes_of_world l.state) (origin_of l.setting) l.chain;
  plan : l.plan ≡ plan_in (genesis_plan l.setting) l.chain;
}
