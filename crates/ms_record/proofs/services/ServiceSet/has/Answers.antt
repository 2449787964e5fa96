use Rattle.std.proofs.Common.{refl}
use Rattle.ms_record.proofs.ServicesFilled.{none_more, is_there, not_there}
use Rattle.ms_record.proofs.services.ServiceSet.has.Goals as goal

pub loop-own-preserved : goal.loop-own-preserved
loop-own-preserved c = none_more c.as_slice-own-items.result.now c.loop-own.own-index c.args.service.0 c.loop-own.invariant c.if-own-service.false

pub returns-then-own-service : goal.returns-then-own-service
returns-then-own-service c =
    (λ h. is_there c.as_slice-own-items.result.now c.args.self.now c.loop-own.own-index c.args.service.0 c.as_slice-own-items.ensures.are c.loop-own-test.true c.if-own-service.true, λ h. refl)

pub returns : goal.returns
returns c =
    (λ h. absurd cc, λ h. absurd (not_there c.as_slice-own-items.result.now c.args.self.now c.loop-own.own-index c.args.service.0 c.as_slice-own-items.ensures.are c.loop-own-test.false c.loop-own.invariant h))
