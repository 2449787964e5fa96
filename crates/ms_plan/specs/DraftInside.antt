-- What a draft's fields show.
use Rattle.ms_plan.specs.declared.draft.Draft.TheInside.{Inside}
use Rattle.ms_plan.specs.Drafts.{AreNumbers, DraftView, IsDraft}

abbrev pub seen : Inside → DraftView
seen d = record { replicas = d.replicas; unit = d.unit; services = d.services.items; clients = d.clients.items }

pub record IsKept (d : Inside) : Type 0 where
  pub rules : IsDraft (seen d)
  pub numbers : AreNumbers (seen d)
