use Rattle.std.proofs.Common.{◌<◌, sym, subst, arith}
use Rattle.ms_core.specs.Views.{IsClosed, configuration}
use Rattle.ms_ken.specs.Known.{Known}
use Rattle.ms_ken.specs.Lists.{with_told}
use Rattle.ms_record.specs.declared.item.Item.{Item}
use Rattle.ms_record.specs.declared.item.Item.TheVariants.{Told}
use Rattle.link_tests.proofs.told.tell_setting.Goals as goal

pub tell-requires-clause-closed : goal.tell-requires-clause-closed
tell-requires-clause-closed c =
    let enough : configuration < 33 = omega arith in
    subst (λ (k : Known Item). IsClosed (with_told k.lists k.word (Told c.args.setting))) (sym c.requires.first) (c.may_follow.ensures.first c.args.setting 33 c.requires.ranges enough)
