-- What a configuration's fields show.
use Rattle.ms_plan.specs.declared.config.Config.TheInside.{Inside}
use Rattle.ms_plan.specs.Configuration.{ConfigView, IsConfig}
use Rattle.ms_plan.specs.Drafts.{labels_of}

abbrev pub seen : Inside → ConfigView
seen c = record { setting = c.setting; services = labels_of c.services.items; clients = c.clients.items }

abbrev pub IsKept : Inside → Type 0
IsKept c = IsConfig (seen c)
