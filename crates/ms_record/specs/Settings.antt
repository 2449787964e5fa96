-- What all clients agree on from the start.
use Rattle.std.specs.Prelude.{◌≡◌, ℕ, ◌≤◌, Some, map}
use Rattle.ms_base.specs.declared.limits.TheConstants.{CLIENTS, SERVICES}
use Rattle.ms_base.specs.declared.names.Name.{Name}
use Rattle.ms_record.specs.declared.plan.PlanRow.{PlanRow}
use Rattle.ms_record.specs.declared.setting.Setting.{Setting}
use Rattle.ms_record.specs.Chains.{Origin, plan_after, voters_of}
use Rattle.ms_record.specs.Entries.{IsEntry, name_of}
use Rattle.ms_record.specs.Plans.{PlanView, plan_of, no_plan}
use Rattle.ms_record.specs.Votes.{services_below}

-- the first plan: of generation 1 and format 1, over all services in order
pub record IsFirstPlan (services : ℕ) (plan : PlanView) : Type 0 where
  pub generation : plan.generation ≡ 1
  pub format : plan.format ≡ 1
  pub rows : voters_of plan ≡ services_below services

-- the row of this service with a capacity of 1
abbrev pub even_row : ℕ → PlanRow
even_row service = record { service = record { 0 = service }; capacity = 1 }

-- the first plan over so many services where each has a capacity of one copy
abbrev pub even_plan : ℕ → ℕ → PlanView
even_plan services replicas = plan_of 1 1 replicas 1 (map even_row (services_below services))

-- the numbers are in their ranges, and the genesis is a plan entry over all services
pub record IsSetting (setting : Setting) : Type 0 where
  pub some_services : 1 ≤ setting.services
  pub few_services : setting.services ≤ SERVICES
  pub some_clients : 1 ≤ setting.clients
  pub few_clients : setting.clients ≤ CLIENTS
  pub genesis : IsEntry setting.genesis
  pub plan : PlanView
  pub plan_is : setting.genesis.plan ≡ Some plan
  pub first : IsFirstPlan setting.services plan

-- the setting of a first plan, whose genesis names what is before it and its version
abbrev pub first_setting : ℕ → ℕ → Name → Name → PlanView → Setting
first_setting services clients before version plan =
    record { services = services; clients = clients; genesis = record { before = before; client = record { 0 = 0 }; number = 0; version = version; plan = Some plan } }

-- the plan of its genesis
abbrev pub genesis_plan : Setting → PlanView
genesis_plan setting = plan_after no_plan setting.genesis.plan

-- where its chain begins
abbrev pub origin_of : Setting → Origin
origin_of setting = record { name = name_of setting.genesis; plan = genesis_plan setting; services = setting.services }
