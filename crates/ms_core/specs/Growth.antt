-- What holds of logs stays when they grow.
use Rattle.std.proofs.Common.{ℕ, List, inl, inr, subst, Contains}
use Rattle.std.proofs.lemmas.List.Elements.{Contains-append_left}
use Rattle.ms_base.specs.declared.names.Name.{Name}
use Rattle.ms_core.specs.Placing.{PlacedBy, IsPlaced}
use Rattle.ms_core.specs.Valid.{IsValid, IsBacked, judging_plan, votes_of_logs}
use Rattle.ms_record.specs.declared.entry.Entry.{Entry}
use Rattle.ms_record.specs.declared.log.LogEvent.{LogEvent}
use Rattle.ms_record.specs.declared.log.LogEvent.TheVariants.{Put}
use Rattle.ms_record.specs.declared.setting.Setting.{Setting}
use Rattle.ms_record.specs.Chains.{IsLinked}
use Rattle.ms_record.specs.Growing.{LogsGrow, votes_grow, linked_grows as linked_stays}
use Rattle.ms_record.specs.Logs.{HasPut}
use Rattle.ms_record.specs.Plans.{PlanView}
use Rattle.ms_record.specs.Settings.{origin_of}

-- what was put stays put
pub put_stays : (old new : ℕ → List LogEvent) (s generation : ℕ) (name : Name) → LogsGrow old new → HasPut (old s) generation name → HasPut (new s) generation name
put_stays old new s generation name g h =
    (h.0, subst (λ (l : List LogEvent). Contains l (Put generation name h.0)) (g s).1 (Contains-append_left (old s) (g s).0 (Put generation name h.0) h.1))

-- what is placed by some stays placed by more
pub placed_more : (has more : ℕ → Name → Type 0) (plan : PlanView) (version : Name) → ((s : ℕ) (name : Name) → has s name → more s name) → PlacedBy has plan version → PlacedBy more plan version
placed_more has more plan version goes h = record {
  store = h.store;
  holds = h.holds;
  put = λ name text there. let e = h.put name text there in record { part = e.part; have = λ s is. goes s name (e.have s is); enough = e.enough };
}

pub placed_grows : (old new : ℕ → List LogEvent) (plan : PlanView) (version : Name) → LogsGrow old new → IsPlaced old plan version → IsPlaced new plan version
placed_grows old new plan version g h =
    placed_more (λ s name. HasPut (old s) plan.generation name) (λ s name. HasPut (new s) plan.generation name) plan version (λ s name there. put_stays old new s plan.generation name g there) h

pub linked_grows : (setting : Setting) (old new : ℕ → List LogEvent) (c : List Entry) → LogsGrow old new
    → IsLinked (votes_of_logs old) (origin_of setting) c → IsLinked (votes_of_logs new) (origin_of setting) c
linked_grows setting old new c g h = linked_stays (votes_of_logs old) (votes_of_logs new) (origin_of setting) c (votes_grow old new g) h

unfoldable pub valid_grows : (setting : Setting) (old new : ℕ → List LogEvent) (k : ℕ) (e : Entry) → LogsGrow old new → IsValid setting old k e → IsValid setting new k e
valid_grows setting old new k e g h = record {
  next = record { members = h.next.members; linked = linked_grows setting old new h.next.members g h.next.linked; at = h.next.at; links = h.next.links };
  placed = placed_grows old new (judging_plan setting h.next.members e) e.version g h.placed;
}

pub backed_grows : (setting : Setting) (old new : ℕ → List LogEvent) (floor : ℕ) → LogsGrow old new → IsBacked setting old floor → IsBacked setting new floor
backed_grows setting old new floor g (inl low) = inl low
backed_grows setting old new floor g (inr h) = inr (h.0, linked_grows setting old new h.0 g h.1, h.2)
