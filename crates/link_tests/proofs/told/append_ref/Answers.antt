use Rattle.std.proofs.Common.{ℕ, ◌<◌, ◌≡◌, inl, arith}
use Rattle.link_tests.proofs.Following.{member_may_ask, member_stays}
use Rattle.std.specs.Prelude.{[], ◌∷◌}
use Rattle.ms_record.specs.declared.log.LogEvent.TheVariants.{Rec}
use Rattle.link_tests.proofs.told.append_ref.Goals as goal

pub append-requires-clause-closed : goal.append-requires-clause-closed
append-requires-clause-closed g c =
    member_may_ask c.may_follow.ensures.supported (g.L.Link.sees c.args.link.now) c.args.setting.now c.args.pass.now (Rec (record { 0 = 1 }) (c.args.byte ∷ [])) c.requires.member c.recall.ensures.closed c.recall.ensures.owners (λ is. absurd (omega (arith, is)))

pub returns-clause-member : goal.returns-clause-member
returns-clause-member g c = member_stays (g.L.Link.sees c.args.link.now) (g.L.Link.sees c.append.new.self) c.args.setting.now c.args.pass.now c.append.new.pass c.requires.member c.append.ensures.link c.append.ensures.pass
