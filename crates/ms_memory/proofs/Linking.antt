-- What the rules of links ask, from what a service's state says.
use Rattle.std.proofs.Common.{◌≡◌, ℕ, ◌<◌, ◌≤◌, Bool, true, false, List, [], ◌∷◌, ◌++◌, length, Option, Some, None, inl, inr, refl, sym, ap, ◌∙◌, subst, arith, slice_get, Contains}
use Rattle.std.proofs.lemmas.List.Elements.{Contains-push_cases}
use Rattle.std.specs.Prelude.{IsTrue, ◌↔◌, Result, Ok, Err}
use Rattle.ms_base.specs.declared.names.Name.{Name}
use Rattle.ms_record.specs.Floors.{IsFloor}
use Rattle.ms_core.specs.Views.{log_in}
use Rattle.ms_ken.specs.Known.{Known}
use Rattle.ms_ken.specs.Lists.{list_at}
use Rattle.ms_ken.specs.Prefixes.{get_last, prefix_length}
use Rattle.ms_link.specs.Links.{LinkView, IsAdded, IsStale, Tells, Puts, Has, Gets, log_known}
use Rattle.ms_link.specs.declared.fault.LinkError.{LinkError}
use Rattle.ms_link.specs.declared.fault.LinkError.TheVariants as errors
use Rattle.ms_memory.proofs.Holding.{first_has}
use Rattle.ms_memory.proofs.Serving.{log_more}
use Rattle.ms_memory.specs.Served.{Served, LearnsEvent, Changes}
use Rattle.ms_memory.specs.Shelves.{IsFirstPut}
use Rattle.ms_record.specs.declared.item.Item.{Item}
use Rattle.ms_record.specs.declared.item.Item.TheVariants.{Log}
use Rattle.ms_record.specs.declared.log.ListId.{ListId}
use Rattle.ms_record.specs.declared.log.LogEvent.{LogEvent}
use Rattle.ms_record.specs.declared.log.LogEvent.TheVariants.{Rec, Put, Drop}
use Rattle.ms_record.specs.Items.{events_of}
use Rattle.ms_record.specs.Logs.{HasPut, NoDropAbove}

-- the event stands in the service's list
added : (link : LinkView) (state : Served) (old new : Known Item) (event : LogEvent) → state.service ≡ link.service → LearnsEvent state old new event → IsAdded link old new event
added link state old new event same h = record {
  place = length h.before;
  behind = subst (λ (s : ℕ). length (list_at old.lists s) ≤ length h.before) same (prefix_length (list_at old.lists state.service) h.before h.knew);
  stands = ap (λ l. slice_get l (length h.before)) (ap (λ (s : ℕ). list_at new.lists s) (sym same) ∙ h.stands) ∙ get_last h.before (Log event);
}

-- the log that the caller then knows has the event at its end
log_then : (link : LinkView) (state : Served) (old new : Known Item) (event : LogEvent) → state.service ≡ link.service → LearnsEvent state old new event → log_known link new ≡ state.log ++ event ∷ []
log_then link state old new event same h =
    ap (λ (s : ℕ). log_in new.lists s) (sym same) ∙ (ap events_of h.stands ∙ (log_more h.before event ∙ ap (λ l. l ++ event ∷ []) h.log))

pub stale_says : (link : LinkView) (new : Known Item) (log : List LogEvent) (generation floor : ℕ) → generation < floor → IsFloor log floor → log_known link new ≡ log → IsStale link new generation floor
stale_says link new log generation floor lt h is = record {
  below = lt;
  dropped = λ _. subst (λ l. Contains l (Drop floor)) (sym is) (elim h.there [ inl none ↦ absurd (omega arith) | inr there ↦ there ]);
  greatest = λ _. subst (λ l. NoDropAbove l floor) (sym is) h.greatest;
}

put_above : (log : List LogEvent) (generation g : ℕ) (name : Name) (text : List ℕ) → NoDropAbove log generation → NoDropAbove (log ++ Put g name text ∷ []) generation
put_above log generation g name text above floor there = elim (Contains-push_cases log (Put g name text) (Drop floor) there) [ inl old ↦ above floor old | inr new ↦ absurd (cc new) ]

pub append_tells : (link after : LinkView) (old new : Known Item) (list : ListId) (text : List ℕ) (answer : Result Unit LinkError) → Changes link.service old new (Rec list text) answer
    → Tells link after old new (Rec list text) answer
append_tells link after old new list text (Ok u) h = λ _. added link h.state old new (Rec list text) h.number h.adds.2
append_tells link after old new list text (Err errors.Failed) h = absurd h.adds
append_tells link after old new list text (Err (errors.Stale floor)) h = h.adds.0
append_tells link after old new list text (Err errors.NoMemory) h = tt

pub drop_tells : (link after : LinkView) (old new : Known Item) (floor : ℕ) (answer : Result Unit LinkError) → Changes link.service old new (Drop floor) answer
    → Tells link after old new (Drop floor) answer
drop_tells link after old new below (Ok u) h = λ _. added link h.state old new (Drop below) h.number h.adds.2
drop_tells link after old new below (Err errors.Failed) h = absurd h.adds
drop_tells link after old new below (Err (errors.Stale floor)) h = h.adds.0
drop_tells link after old new below (Err errors.NoMemory) h = tt

pub put_puts : (link after : LinkView) (old new : Known Item) (generation : ℕ) (name : Name) (text : List ℕ) (answer : Result Unit LinkError)
    → Changes link.service old new (Put generation name text) answer → Puts link after old new generation (Put generation name text) answer
put_puts link after old new generation name text (Ok u) h =
    let event = Put generation name text in (
      λ _. added link h.state old new event h.number h.adds.2,
      λ _ _. subst (λ l. NoDropAbove l generation) (sym (log_then link h.state old new event h.number h.adds.2)) (put_above h.state.log generation generation name text h.adds.0),
    )
put_puts link after old new generation name text (Err errors.Failed) h = absurd h.adds
put_puts link after old new generation name text (Err (errors.Stale floor)) h =
    stale_says link new h.state.log generation floor h.adds.0.0 h.adds.0.1 (ap (λ (s : ℕ). log_in new.lists s) (sym h.number) ∙ h.adds.2)
put_puts link after old new generation name text (Err errors.NoMemory) h = tt

pub has_says : (link after : LinkView) (new : Known Item) (log : List LogEvent) (generation : ℕ) (name : Name) (kept : Bool) → log_known link new ≡ log → NoDropAbove log generation
    → IsTrue kept ↔ HasPut log generation name → Has link after new generation name (Ok kept)
has_says link after new log generation name true is above h =
    λ _. record { put = subst (λ l. HasPut l generation name) (sym is) (h.0 refl); kept = subst (λ l. NoDropAbove l generation) (sym is) above }
has_says link after new log generation name false is above h =
    λ _ _. record { above = subst (λ l. NoDropAbove l generation) (sym is) above; none = λ has. let no : IsTrue false = h.1 (subst (λ l. HasPut l generation name) is has) in cc no }

pub gets_says : (link after : LinkView) (new : Known Item) (log : List LogEvent) (generation : ℕ) (name : Name) (found : Option (List ℕ)) → log_known link new ≡ log → NoDropAbove log generation
    → IsFirstPut log generation name found → Gets link after new generation name (Ok found)
gets_says link after new log generation name None is above h =
    λ _ _. record { above = subst (λ l. NoDropAbove l generation) (sym is) above; none = λ has. h (subst (λ l. HasPut l generation name) is has) }
gets_says link after new log generation name (Some text) is above h =
    λ _ _. record { above = subst (λ l. NoDropAbove l generation) (sym is) above; put = subst (λ l. Contains l (Put generation name text)) (sym is) (first_has log generation name text h) }
