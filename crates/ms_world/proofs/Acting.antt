-- What the methods of a state leave is what the events say.
use Rattle.std.proofs.Common.{◌≡◌, ℕ, ◌<◌, ◌≤◌, true, false, List, [], ◌∷◌, ◌++◌, map, Some, None, get_or, refl, sym, ap, ◌∙◌, slice_get, slice_set, slice_index_or, length, replicate, arith}
use Rattle.std.proofs.lemmas.List.{append-nil, get_or_read}
use Rattle.std.proofs.lemmas.Option.{slice_get_read, slice_get_within}
use Rattle.ms_base.specs.Places.{some_same}
use Rattle.ms_world.specs.Steps.{IsUp, StartStep, StopStep, ReadStep}
use Rattle.ms_world.specs.Worlds.{ClientView, RequestView, WorldView, changed, log_of, services_of, to_all}
use Rattle.ms_record.specs.declared.plan.PlanRow.{PlanRow}
use Rattle.ms_record.specs.declared.record.Record.{Record}
use Rattle.ms_record.specs.declared.log.LogEvent.{LogEvent}
use Rattle.ms_record.specs.declared.setting.Setting.{Setting}

-- the client that was found at a place is the one there
pub found : (inside w : WorldView) (i : ℕ) (c m : ClientView) → inside ≡ w → slice_get w.clients i ≡ Some c → m ≡ get_or inside.clients i m → m ≡ c
found inside w i c m e is read =
    let is' : slice_get inside.clients i ≡ Some c = ap (λ (v : WorldView). slice_get v.clients i) e ∙ is in
    let at = slice_get_read inside.clients (length inside.clients) i m refl (slice_get_within inside.clients i c is') read in
    some_same m c (sym at ∙ is')

-- one client is written, and nothing is sent
pub quiet : (inside w : WorldView) (i : ℕ) (d c : ClientView) → inside ≡ w → d ≡ c
    → (let v : WorldView = record { logs = inside.logs; requests = inside.requests; clients = slice_set inside.clients i d } in v) ≡ changed w i c []
quiet inside w i d c e is =
    ap (λ (rs : List RequestView). let v : WorldView = record { logs = inside.logs; requests = rs; clients = slice_set inside.clients i d } in v) (sym (append-nil inside.requests))
    ∙ ap (λ (x : ClientView). changed inside i x []) is ∙ ap (λ (v : WorldView). changed v i c []) e

pub started : (setting : Setting) (inside w : WorldView) (i : ℕ) (m d : ClientView) → inside ≡ w → i < length inside.clients → m ≡ get_or inside.clients i m → m.on ≡ false
    → d ≡ (let v : ClientView = record { on = true; kept = m.kept; offers = m.offers; known = replicate setting.services 0; chain = []; bid = None } in v)
    → StartStep setting w i (record { logs = inside.logs; requests = inside.requests; clients = slice_set inside.clients i d })
started setting inside w i m d e less read off is = record {
  c = m;
  is = ap (λ (v : WorldView). slice_get v.clients i) (sym e) ∙ slice_get_read inside.clients (length inside.clients) i m refl less read;
  off = off;
  becomes = quiet inside w i d _ e is;
}

pub stopped : (inside w : WorldView) (i : ℕ) (c m d : ClientView) → inside ≡ w → IsUp w i c → m ≡ get_or inside.clients i m → d ≡ record m { on = false }
    → StopStep w i (record { logs = inside.logs; requests = inside.requests; clients = slice_set inside.clients i d })
stopped inside w i c m d e up read is = record {
  c = c;
  up = up;
  becomes = quiet inside w i d (record c { on = false }) e (is ∙ ap (λ (x : ClientView). let v : ClientView = record x { on = false } in v) (found inside w i c m e up.is read));
}

pub read_to : (setting : Setting) (inside w : WorldView) (i service upto : ℕ) (c m d : ClientView) (log : List LogEvent) → inside ≡ w → IsUp w i c → service < setting.services
    → slice_index_or c.known service 0 ≤ upto → service < length inside.logs → log ≡ get_or inside.logs service log → upto ≤ length log
    → m ≡ get_or inside.clients i m → d ≡ record m { known = slice_set m.known service upto }
    → ReadStep setting w i service upto (record { logs = inside.logs; requests = inside.requests; clients = slice_set inside.clients i d })
read_to setting inside w i service upto c m d log e up there longer within is_log most read is = record {
  c = c;
  up = up;
  service_is = there;
  longer = longer;
  within = (let same : log ≡ log_of w service = get_or_read inside.logs service log within is_log [] ∙ ap (λ (v : WorldView). log_of v service) e in omega (arith, ap length same));
  becomes = quiet inside w i d (record c { known = slice_set c.known service upto }) e
      (is ∙ ap (λ (x : ClientView). let v : ClientView = record x { known = slice_set x.known service upto } in v) (found inside w i c m e up.is read));
}

-- a request to each row is one to each of their services
all_asked : (rows : List PlanRow) (m : Record) → map (λ (row : PlanRow). let r : RequestView = record { service = row.service.0; message = m } in r) rows ≡ to_all (services_of rows) m
all_asked [] m = refl
all_asked (row ∷ rows) m = ap (λ (l : List RequestView). (let r : RequestView = record { service = row.service.0; message = m } in r) ∷ l) (all_asked rows m)

abbrev requests_of : List PlanRow → Record → List RequestView
requests_of rows m = map (λ (row : PlanRow). let r : RequestView = record { service = row.service.0; message = m } in r) rows

-- the requests stand behind those before
pub sent_more : (inside old : WorldView) (rows : List PlanRow) (m : Record) (sent requests : List RequestView) → inside ≡ old → sent ≡ requests_of rows m → requests ≡ inside.requests ++ sent
    → (let v : WorldView = record { logs = inside.logs; requests = requests; clients = inside.clients } in v) ≡ record old { requests = old.requests ++ to_all (services_of rows) m }
sent_more inside old rows m sent requests same are behind =
    ap (λ (rs : List RequestView). let v : WorldView = record { logs = inside.logs; requests = rs; clients = inside.clients } in v) (behind ∙ ap (λ (l : List RequestView). inside.requests ++ l) (are ∙ all_asked rows m))
    ∙ ap (λ (w : WorldView). let v : WorldView = record { logs = w.logs; requests = w.requests ++ to_all (services_of rows) m; clients = w.clients } in v) same
