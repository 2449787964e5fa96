use Rattle.std.proofs.Common.{◌+◌, ap, ◌∙◌, refl, arith}
use Rattle.ms_world.proofs.Majorities.{one_if}
use Rattle.ms_world.proofs.Promising.{promises_push}
use Rattle.ms_world.proofs.rule.Promises.add.Goals as goal

pub returns-then-seen : goal.returns-then-seen
returns-then-seen c = λ votes k b n shows h.
    promises_push votes k b n c.args.self.now.count (c.args.self.now.count + 1) _ _ c.args.seen.now shows (omega (arith, ap one_if c.if-seen.true)) (λ seen g. c.greater-self.ensures seen c.args.seen.now refl g) h

pub returns-else-seen : goal.returns-else-seen
returns-else-seen c = λ votes k b n shows h.
    promises_push votes k b n c.args.self.now.count c.args.self.now.count _ _ c.args.seen.now shows (omega (arith, ap one_if c.if-seen.false)) (λ seen g. c.greater-self.ensures seen c.args.seen.now refl g) h
