-- What the items of an owner's list say.
use Rattle.std.specs.Prelude.{List, Option, Some, None}
use Rattle.std.specs.List.{filter_map}
use Rattle.ms_record.specs.declared.item.Item.{Item}
use Rattle.ms_record.specs.declared.item.Item.TheVariants.{Log, Offer, Told, Untold}
use Rattle.ms_record.specs.declared.log.LogEvent.{LogEvent}
use Rattle.ms_record.specs.declared.record.Record.{Record}

abbrev pub event_in : Item → Option LogEvent
event_in (Log event) = Some event
event_in (Offer offer) = None
event_in (Told setting) = None
event_in Untold = None

abbrev pub offer_in : Item → Option Record
offer_in (Log event) = None
offer_in (Offer offer) = Some offer
offer_in (Told setting) = None
offer_in Untold = None

-- the events of a service's log, and the offers of a client
abbrev pub events_of : List Item → List LogEvent
events_of items = filter_map event_in items

abbrev pub offers_of_items : List Item → List Record
offers_of_items items = filter_map offer_in items
