use Rattle.std.proofs.Common.{◌∷◌, [], List, ap, ◌∙◌, length, slice_get}
use Rattle.std.specs.List.{filter_map}
use Rattle.std.proofs.lemmas.List.Elements.{filter_map-append}
use Rattle.ms_base.specs.Places.{at_end}
use Rattle.ms_core.specs.Views.{offers_told, owner_of_client}
use Rattle.ms_ken.specs.Lists.{list_at}
use Rattle.ms_ken.specs.Rows.{item_else, item_here}
use Rattle.ms_record.specs.declared.item.Item.TheVariants.{Log, Offer}
use Rattle.ms_record.specs.declared.record.Record.{Record}
use Rattle.ms_record.specs.declared.record.Record.TheVariants.{Accept}
use Rattle.ms_record.specs.Items.{event_in, offer_in}
use Rattle.ms_core.proofs.item_law.items_add.Goals as goal

pub returns-clause-event : goal.returns-clause-event
returns-clause-event c = λ view service event lt.
    ap (filter_map event_in) (item_here view service (Log event) lt) ∙ filter_map-append event_in (list_at view service) (Log event ∷ [])

pub returns-clause-offer : goal.returns-clause-offer
returns-clause-offer c = λ view client offer lt.
    ap (filter_map offer_in) (item_here view (owner_of_client client) (Offer offer) lt) ∙ filter_map-append offer_in (list_at view (owner_of_client client)) (Offer offer ∷ [])

pub returns-clause-offered : goal.returns-clause-offered
returns-clause-offered c = λ view k b e lt.
    let client = b.client.0 in
    let more = returns-clause-offer c view client (Accept k b e) lt in
    (length (offers_told view client), ap (λ (l : List Record). slice_get l (length (offers_told view client))) more ∙ at_end (offers_told view client) (Accept k b e))

pub returns-clause-others : goal.returns-clause-others
returns-clause-others c = λ view owner other item apart. item_else view owner item other apart
