use Rattle.ms_core.proofs.Following.{alone_later, something_told, told_wide}
use Rattle.ms_core.specs.Closing.{one_item, told_same}
use Rattle.ms_record.specs.declared.item.Item.TheVariants.{Told}
use Rattle.ms_core.proofs.item_law.configuration_stays.Goals as goal

pub returns-clause-stays : goal.returns-clause-stays
returns-clause-stays c = λ old new item closed begins alone. alone_later old new item alone begins closed

pub returns-clause-known : goal.returns-clause-known
returns-clause-known c = something_told

pub returns-clause-wide : goal.returns-clause-wide
returns-clause-wide c = told_wide

pub returns-clause-one : goal.returns-clause-one
returns-clause-one c = λ one other s t agree x y. told_same s t (one_item one other (Told s) (Told t) agree x y)
