use Rattle.std.proofs.Common.{ℕ, ◌<◌, ◌≡◌, inl, arith}
use Rattle.link_tests.proofs.Following.{member_may_ask, member_stays}
use Rattle.ms_record.specs.declared.log.LogEvent.TheVariants.{Drop}
use Rattle.link_tests.proofs.told.drop_first.Goals as goal

pub drop_below-requires-clause-closed : goal.drop_below-requires-clause-closed
drop_below-requires-clause-closed g c =
    member_may_ask c.may_follow.ensures.supported (g.L.Link.sees c.args.link.now) c.args.setting.now c.args.pass.now (Drop 1) c.requires.member c.recall.ensures.closed c.recall.ensures.owners (inl (omega arith))

pub returns-clause-member : goal.returns-clause-member
returns-clause-member g c = member_stays (g.L.Link.sees c.args.link.now) (g.L.Link.sees c.drop_below.new.self) c.args.setting.now c.args.pass.now c.drop_below.new.pass c.requires.member c.drop_below.ensures.link c.drop_below.ensures.pass
