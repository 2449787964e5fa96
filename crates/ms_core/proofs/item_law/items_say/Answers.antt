use Rattle.std.proofs.Common.{refl}
use Rattle.ms_record.specs.ListTexts.{record_there, text_there}
use Rattle.ms_base.specs.Places.{at_contains, contains_at}
use Rattle.ms_core.proofs.Telling.{in_log, into_item}
use Rattle.ms_core.specs.Views.{log_in, owner_of_client}
use Rattle.ms_ken.specs.Lists.{list_at}
use Rattle.ms_record.specs.declared.item.Item.TheVariants.{Log, Offer}
use Rattle.ms_record.specs.declared.log.LogEvent.TheVariants.{Rec}
use Rattle.ms_record.specs.declared.record.Record.TheVariants.{Accept}
use Rattle.ms_record.specs.Items.{event_in, offer_in}
use Rattle.ms_record.specs.Logs.{texts_in}
use Rattle.ms_core.proofs.item_law.items_say.Goals as goal

pub returns-clause-event : goal.returns-clause-event
returns-clause-event c = λ view service place event at.
    let there = into_item event_in (list_at view service) place (Log event) event at refl in
    at_contains (log_in view service) there.0 event there.1

pub returns-clause-item : goal.returns-clause-item
returns-clause-item c = λ view service event has.
    let at = contains_at (log_in view service) event has in
    in_log view service at.0 event at.1

pub returns-clause-offer : goal.returns-clause-offer
returns-clause-offer c = λ view place k b e at. into_item offer_in (list_at view (owner_of_client b.client.0)) place (Offer (Accept k b e)) (Accept k b e) at refl

pub returns-clause-vote : goal.returns-clause-vote
returns-clause-vote c = λ view service number text r has votes reads.
    let at = contains_at (log_in view service) (Rec number text) has in
    let there = text_there 0 (log_in view service) at.0 number text at.1 votes in
    record_there (texts_in 0 (log_in view service)) there.0 text r there.1 reads
