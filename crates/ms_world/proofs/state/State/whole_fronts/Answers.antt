use Rattle.std.proofs.Common.{ap, length, arith}
use Rattle.ms_world.proofs.Fronts.{one_front_more, all_fronts}
use Rattle.ms_world.specs.Worlds.{votes_of_world}
use Rattle.ms_record.specs.Logs.{votes_in}
use Rattle.ms_world.proofs.state.State.whole_fronts.Goals as goal

pub loop-i-init : goal.loop-i-init
loop-i-init c = record {
  count = ap length c.new-fronts.ensures.items;
  are = λ i row below. absurd (omega (arith, below));
}

pub loop-i-preserved : goal.loop-i-preserved
loop-i-preserved c =
    one_front_more (votes_of_world c.args.self.now) c.args.voters.now c.loop-i.fronts.items c.push.new.self.items c.loop-i.i c.voter-row.result.now c.whole_front.result
    c.voter-row.ensures (ap votes_in c.whole_front.ensures) c.in_ok-push.ensures.items c.loop-i.invariant

pub returns : goal.returns
returns c =
    all_fronts (votes_of_world c.args.self.now) c.args.voters.now c.loop-i.fronts.items c.loop-i.i (omega (arith, c.loop-i-test.false, c.loop-i.auto.i-end)) c.loop-i.invariant
