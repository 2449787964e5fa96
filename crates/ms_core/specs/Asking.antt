-- What may be told next: where a setting is told the view supports it, and where nothing is claimed it is free.
use Rattle.std.specs.Prelude.{◌≡◌, ◌≢◌, ℕ, ◌<◌, [], ◌∷◌}
use Rattle.ms_base.specs.declared.limits.TheConstants.{CLIENTS, SERVICES}
use Rattle.ms_core.specs.Views.{View, configuration, log_in, offers_told, SupportsEvent, SupportsOffer, IsClosed}
use Rattle.ms_ken.specs.Lists.{list_at}
use Rattle.ms_record.specs.declared.ballot.Ballot.{Ballot}
use Rattle.ms_record.specs.declared.entry.Entry.{Entry}
use Rattle.ms_record.specs.declared.item.Item.TheVariants.{Told}
use Rattle.ms_record.specs.declared.log.LogEvent.{LogEvent}
use Rattle.ms_record.specs.declared.setting.Setting.{Setting}

-- an event of a service's log
pub record MayAsk (view : View) (service : ℕ) (event : LogEvent) : Type 0 where
  pub closed : IsClosed view
  pub begun : list_at view configuration ≢ []
  pub service_is : service < SERVICES
  pub supported : (setting : Setting) → list_at view configuration ≡ Told setting ∷ [] → (service < setting.services) × SupportsEvent setting (log_in view) (offers_told view) event

-- an offer of a client
pub record MayOffer (view : View) (client position : ℕ) (ballot : Ballot) (entry : Entry) : Type 0 where
  pub closed : IsClosed view
  pub begun : list_at view configuration ≢ []
  pub client_is : client < CLIENTS
  pub supported : (setting : Setting) → list_at view configuration ≡ Told setting ∷ []
      → (client < setting.clients) × SupportsOffer setting (log_in view) client (offers_told view client) position ballot entry
