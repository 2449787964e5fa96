use Rattle.std.proofs.Common.{List, ap, ◌∙◌, subst}
use mathlib.Core.List.{IsPrefix}
use Rattle.ms_core.specs.Views.{configuration}
use Rattle.ms_ken.specs.Known.{Known}
use Rattle.ms_ken.specs.Lists.{list_at}
use Rattle.ms_record.specs.declared.item.Item.{Item}
use Rattle.link_tests.proofs.told.begun.Goals as goal

pub returns-clause-told : goal.returns-clause-told
returns-clause-told c =
    subst (λ (items : List Item). IsPrefix items (list_at c.take.new.pass.lists configuration)) (ap (λ (k : Known Item). list_at k.lists configuration) c.note.ensures.note ∙ c.tell_setting.ensures.told) (c.take.ensures.learns configuration)
