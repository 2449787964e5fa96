use Rattle.std.proofs.Common.{ℕ, ◌<◌, ◌≡◌, inl, arith}
use Rattle.link_tests.proofs.Following.{member_may_ask, member_stays}
use Rattle.ms_record.specs.declared.log.LogEvent.TheVariants.{Put}
use Rattle.link_tests.proofs.told.put.Goals as goal

pub put-requires-clause-closed : goal.put-requires-clause-closed
put-requires-clause-closed g c =
    member_may_ask c.may_follow.ensures.supported (g.L.Link.sees c.args.link.now) c.args.setting.now c.args.pass.now (Put 1 c.name_of-name.result c.args.text.now) c.requires.member c.recall.ensures.closed c.recall.ensures.owners (c.name_of-name.ensures)

pub returns-clause-member : goal.returns-clause-member
returns-clause-member g c = member_stays (g.L.Link.sees c.args.link.now) (g.L.Link.sees c.put.new.self) c.args.setting.now c.args.pass.now c.put.new.pass c.requires.member c.put.ensures.link c.put.ensures.pass
