-- Whether what a bid wants is placed.
use Rattle.std.proofs.Common.{◌≡◌, ◌↔◌, Bool, List, Option, Some, Result, Ok, Err, IfOk, sym, subst}
use Rattle.std.specs.Bool.{IsTrue}
use Rattle.ms_base.specs.declared.bytes.NoMemory.{NoMemory}
use Rattle.ms_world.specs.declared.event.Push.{Push}
use Rattle.ms_world.specs.PutTexts.{IsPlacedInLogs}
use Rattle.ms_world.specs.Steps.{WantIsPlaced}
use Rattle.ms_world.specs.Worlds.{ClientView, WorldView, plan_of_client}
use Rattle.ms_record.specs.declared.log.LogEvent.{LogEvent}
use Rattle.ms_record.specs.declared.setting.Setting.{Setting}
use Rattle.ms_record.specs.Plans.{PlanView}

pub want_placed : (setting : Setting) (w : WorldView) (c : ClientView) (want : Option Push) (push : Push) (plan : PlanView) (logs : List (List LogEvent)) (r : Result Bool NoMemory)
    → want ≡ Some push → logs ≡ w.logs → plan ≡ plan_of_client setting c → IfOk r (λ is. IsTrue is ↔ IsPlacedInLogs logs plan push.version)
    → IfOk r (λ is. IsTrue is ↔ WantIsPlaced setting w c want)
want_placed setting w c want push plan logs (Err e) is same in_force h = h
want_placed setting w c want push plan logs (Ok b) is same in_force h =
    subst (λ (o : Option Push). IsTrue b ↔ WantIsPlaced setting w c o) (sym is)
    (subst (λ (p : PlanView). IsTrue b ↔ IsPlacedInLogs w.logs p push.version) in_force
    (subst (λ (ls : List (List LogEvent)). IsTrue b ↔ IsPlacedInLogs ls plan push.version) same h))
