-- The world: a log per service, all requests ever sent, and the clients.
use Rattle.std.specs.Prelude.{ℕ, ◌+◌, Bool, false, List, [], ◌∷◌, ◌++◌, Option, Some, None, length, map, slice_get, slice_set, slice_index_or, take, replicate}
use Rattle.ms_world.specs.declared.client.Bidding.{Bidding}
use Rattle.ms_world.specs.declared.client.Request.{Request}
use Rattle.ms_core.specs.Valid.{votes_of_logs}
use Rattle.ms_record.specs.declared.ballot.Ballot.{Ballot}
use Rattle.ms_record.specs.declared.entry.Entry.{Entry}
use Rattle.ms_record.specs.declared.log.LogEvent.{LogEvent}
use Rattle.ms_record.specs.declared.plan.PlanRow.{PlanRow}
use Rattle.ms_record.specs.declared.record.Record.{Record}
use Rattle.ms_record.specs.declared.setting.Setting.{Setting}
use Rattle.ms_record.specs.Chains.{last_name, plan_in, voters_behind}
use Rattle.ms_record.specs.Entries.{name_of}
use Rattle.ms_record.specs.Logs.{votes_in}
use Rattle.ms_record.specs.Plans.{PlanView}
use Rattle.ms_record.specs.Settings.{genesis_plan, origin_of}

-- a client: on or off, the round that it kept, its declared offers, how much of each log it knows, its chain behind the
-- genesis, and its bid
pub record ClientView : Type 0 where
  pub on : Bool
  pub kept : ℕ
  pub offers : List Record
  pub known : List ℕ
  pub chain : List Entry
  pub bid : Option Bidding

abbrev pub RequestView : Type 0
RequestView = Request

pub record WorldView : Type 0 where
  pub logs : List (List LogEvent)
  pub requests : List RequestView
  pub clients : List ClientView

abbrev pub log_of : WorldView → ℕ → List LogEvent
log_of w s = slice_index_or w.logs s []

-- the vote list of each service
abbrev pub votes_of_world : WorldView → ℕ → List Record
votes_of_world w = votes_of_logs (log_of w)

-- the votes in the part of each log that a client knows
abbrev pub known_votes : WorldView → ClientView → ℕ → List Record
known_votes w c s = votes_in (take (slice_index_or c.known s 0) (log_of w s))

abbrev pub offers_of : Option ClientView → List Record
offers_of None = []
offers_of (Some c) = c.offers

-- the offers of each client
abbrev pub offers_in : WorldView → ℕ → List Record
offers_in w c = offers_of (slice_get w.clients c)

-- the services of rows
abbrev pub services_of : List PlanRow → List ℕ
services_of rows = map (λ (row : PlanRow). row.service.0) rows

-- one request to each of these services, in their order
abbrev pub to_all : List ℕ → Record → List RequestView
to_all voters message = map (λ s. let r : RequestView = record { service = s; message = message } in r) voters

-- one client becomes another, and requests are sent
abbrev pub changed : WorldView → ℕ → ClientView → List RequestView → WorldView
changed w client c sent = record { logs = w.logs; requests = w.requests ++ sent; clients = slice_set w.clients client c }

-- an event more in the log of a service
abbrev pub logged : WorldView → ℕ → LogEvent → WorldView
logged w s event = record w { logs = slice_set w.logs s (log_of w s ++ event ∷ []) }

abbrev pub ballot_of_round : ℕ → ℕ → Ballot
ballot_of_round client round = record { round = round; client = record { 0 = client } }

-- the position behind a client's chain
abbrev pub next_of : ClientView → ℕ
next_of c = length c.chain + 1

-- the name of the last member of a client's chain, and the plan in force there
abbrev pub last_of : Setting → ClientView → List ℕ
last_of setting c = last_name (name_of setting.genesis) c.chain

abbrev pub plan_of_client : Setting → ClientView → PlanView
plan_of_client setting c = plan_in (genesis_plan setting) c.chain

-- who votes at the position behind a client's chain
abbrev pub voters_of_client : Setting → ClientView → List ℕ
voters_of_client setting c = voters_behind (origin_of setting) c.chain

-- a client that never ran
abbrev pub new_client : ClientView
new_client = record { on = false; kept = 0; offers = []; known = []; chain = []; bid = None }

-- all logs are empty, nothing was sent, and all clients are off
abbrev pub start_world : Setting → WorldView
start_world setting = record { logs = replicate setting.services []; requests = []; clients = replicate setting.clients new_client }
