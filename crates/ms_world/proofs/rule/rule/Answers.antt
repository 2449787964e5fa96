use Rattle.std.proofs.Common.{length, arith}
use Rattle.ms_world.specs.Rulings.{votes_at}
use Rattle.ms_world.proofs.Promising.{promises_few, shown_at, rules_unpromised, rules_greatest, rules_own, rules_nothing}
use Rattle.ms_world.proofs.rule.rule.Goals as goal

pub loop-log-preserved : goal.loop-log-preserved
loop-log-preserved c =
    let logs = c.args.logs.now in
    let are = c.add.ensures (votes_at logs) c.args.position c.args.ballot c.loop-log.log-index
    (shown_at logs c.args.position c.args.ballot c.loop-log.log-index c.log-item.result c.as_slice.result.now c.shown.result c.loop-log-test.true c.log-item.is c.as_slice.ensures c.shown.ensures) c.loop-log.invariant.are in
    record { few = promises_few (votes_at logs) c.args.position c.args.ballot _ _ _ are; are = are }

pub returns-then-promises-logs : goal.returns-then-promises-logs
returns-then-promises-logs c =
    rules_unpromised (votes_at c.args.logs.now) c.args.position c.args.ballot _ _ _ c.loop-log.invariant.are (length c.args.logs.now) c.args.want.now (omega arith) c.if-promises-logs.true

pub returns-in-Some-default : goal.returns-in-Some-default
returns-in-Some-default c =
    rules_greatest (votes_at c.args.logs.now) c.args.position c.args.ballot _ _ _ c.loop-log.invariant.are (length c.args.logs.now) c.args.want.now c.in-Some-default.vote (omega arith) c.if-promises-logs.false
    c.in-Some-default.is-0

pub returns-in-None-Some : goal.returns-in-None-Some
returns-in-None-Some c =
    rules_own (votes_at c.args.logs.now) c.args.position c.args.ballot _ _ _ c.loop-log.invariant.are (length c.args.logs.now) c.args.want.now c.in-None-Some.entry (omega arith) c.if-promises-logs.false c.in-None-Some.is-0
    c.in-None-Some.is-1

pub returns-in-None-None : goal.returns-in-None-None
returns-in-None-None c =
    rules_nothing (votes_at c.args.logs.now) c.args.position c.args.ballot _ _ _ c.loop-log.invariant.are (length c.args.logs.now) c.args.want.now (omega arith) c.if-promises-logs.false c.in-None-None.is-0 c.in-None-None.is-1
