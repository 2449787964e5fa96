use Rattle.std.proofs.Common.{ℕ, ◌<◌, ◌≡◌, inl, arith, rules, true}
use Rattle.link_tests.proofs.Following.{member_may_ask, member_stays}
use Rattle.ms_record.specs.declared.log.LogEvent.TheVariants.{Rec}
use Rattle.link_tests.proofs.told.prepare.Goals as goal

pub append-requires-clause-closed : goal.append-requires-clause-closed
append-requires-clause-closed g c =
    let yes : c.is_prepare.result ≡ true = search rules in
    member_may_ask c.may_follow.ensures.supported (g.L.Link.sees c.args.link.now) c.args.setting.now c.args.pass.now (Rec (record { 0 = 0 }) c.args.text.now) c.requires.member c.recall.ensures.closed c.recall.ensures.owners (λ _ k b e is. absurd (c.is_prepare.ensures yes k b e is))

pub returns-clause-member : goal.returns-clause-member
returns-clause-member g c = member_stays (g.L.Link.sees c.args.link.now) (g.L.Link.sees c.append.new.self) c.args.setting.now c.args.pass.now c.append.new.pass c.requires.member c.append.ensures.link c.append.ensures.pass
