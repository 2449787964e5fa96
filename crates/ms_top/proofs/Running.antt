-- Events carried out one after another.
use Rattle.std.proofs.Common.{◌≡◌, ℕ, ◌+◌, ◌<◌, ◌≤◌, List, [], ◌∷◌, ◌++◌, Some, None, ◌⊎◌, inl, inr, Result, Ok, Err, refl, sym, ap, ◌∙◌, subst, length, take, drop, map, slice_get, get_or, arith}
use Rattle.std.specs.Option.{option_map}
use Rattle.std.proofs.lemmas.List.{take_more, drop_more, length-take-le, take-append-drop}
use Rattle.std.proofs.lemmas.Option.{slice_get-map, slice_get_within, slice_get_cases, get_or_from_slice_get}
use Rattle.ms_world.specs.declared.event.Event.{Event}
use Rattle.ms_world.specs.Held.{HeldView, StepsTo}
use Rattle.ms_world.specs.Refusals.{IsRefused}
use Rattle.ms_world.specs.Steps.{IsRun, Step, Steps}
use Rattle.ms_world.specs.Worlds.{ClientView, WorldView, start_world}
use Rattle.ms_drill.specs.declared.drill.Drill.{Drill}
use Rattle.ms_record.specs.declared.refusal.Refusal.{Refusal}
use Rattle.ms_record.specs.declared.refusal.Refusal.TheVariants as refusals
use Rattle.ms_record.specs.declared.setting.Setting.{Setting}
use Rattle.ms_top.specs.Drills.{IsInRange, RunsEvents}

pub steps_more : (setting : Setting) (w next last : WorldView) (xs : List Event) (event : Event) → Steps setting w xs next → Step setting next event last → Steps setting w (xs ++ event ∷ []) last
steps_more setting w next last [] event same step = (last, subst (λ (v : WorldView). Step setting v event last) same step, refl)
steps_more setting w next last (x ∷ xs) event run step = (run.0, run.1, steps_more setting run.0 next last xs event run.2 step)

-- how far the events were carried out
abbrev pub Carried : Setting → List Event → ℕ → HeldView → Type 0
Carried setting events count held = (held.setting ≡ setting) × (held.steps ≡ count) × IsRun setting (take count events) held.world

-- one event more
pub carries : (setting : Setting) (events : List Event) (i : ℕ) (event : Event) (old new : HeldView) (given : Result Unit Refusal) (u : Unit {0}) → i < length events → event ≡ get_or events i event
    → Carried setting events i old → StepsTo old event new given → given ≡ Ok u → Carried setting events (i + 1) new
carries setting events i event old new given u within at so_far steps is =
    let s = subst (StepsTo old event new) is steps in
    let step = subst (λ (held : Setting). Step held old.world event new.world) so_far.0 s.2 in
    let run = steps_more setting (start_world setting) old.world new.world (take i events) event so_far.2 step in
    let upto : take (i + 1) events ≡ take i events ++ event ∷ [] = take_more events i event within ∙ ap (λ (e : Event). take i events ++ e ∷ []) (sym at) in
    (s.0 ∙ so_far.0, s.1 ∙ ap (λ (n : ℕ). n + 1) so_far.1, subst (λ (xs : List Event). IsRun setting xs new.world) (sym upto) run)

-- the event and those around it
around : (xs : List Event) (i : ℕ) (event : Event) → i < length xs → event ≡ get_or xs i event → xs ≡ take i xs ++ event ∷ drop (i + 1) xs
around xs i event within at =
    sym (take-append-drop i xs) ∙ ap (λ (ys : List Event). take i xs ++ ys) (drop_more xs i event within) ∙ ap (λ (e : Event). take i xs ++ e ∷ drop (i + 1) xs) (sym at)

-- the first event that can't happen
pub stops : (drill : Drill) (events : List Event) (i : ℕ) (event : Event) (old new : HeldView) (given : Result Unit Refusal) (refusal : Refusal) → IsInRange drill → events ≡ drill.events → i < length events
    → event ≡ get_or events i event → Carried drill.setting events i old → StepsTo old event new given → given ≡ Err refusal → RunsEvents drill (Err refusal)
stops drill events i event old new given refusal ranges same within at so_far steps is = by refusal (subst (StepsTo old event new) is steps)
  where
    by : (refusal : Refusal) → StepsTo old event new (Err refusal) → RunsEvents drill (Err refusal)
    by refusals.NoMemory s = tt
    by (refusals.NotEnabled number why) s = record {
      ranges = ranges;
      before = take i events;
      event = event;
      rest = drop (i + 1) events;
      all = sym same ∙ around events i event within at;
      world = old.world;
      run = so_far.2;
      number_is = s.0 ∙ ap (λ (n : ℕ). n + 1) (so_far.1 ∙ sym (length-take-le i events (omega (arith, within))));
      refused = subst (λ (setting : Setting). IsRefused setting old.world event why) so_far.0 s.1;
    }
    by refusals.Usage s = absurd s
    by (refusals.BadInput place line) s = absurd s
    by (refusals.OutsideFault place) s = absurd s
    by (refusals.Split position first second) s = absurd s
    by (refusals.Limit what value) s = absurd s
    by (refusals.NoMajority failed) s = absurd s
    by (refusals.Contended rivals) s = absurd s
    by (refusals.Unlisted service ballot) s = absurd s
    by (refusals.LostObject name rows) s = absurd s
    by (refusals.LocalDamaged key) s = absurd s
    by (refusals.Collected floor) s = absurd s
    by (refusals.TooFew name failed) s = absurd s
    by (refusals.Broken name) s = absurd s

client_there : (clients : List ClientView) (i : ℕ) → i < length clients → (c : ClientView) × (slice_get clients i ≡ Some c)
client_there clients i within = by (slice_get_cases clients i).1
  where
    by : (((c : ClientView) × (i < length clients) × (slice_get clients i ≡ Some c) × (get_or clients i c ≡ c)) ⊎ ((length clients ≤ i) × (slice_get clients i ≡ None))) → (c : ClientView) × (slice_get clients i ≡ Some c)
    by (inl (x, lt, is, at)) = (x, is)
    by (inr (past, none)) = absurd (omega (arith, within, past))

-- the last positions of one client more
pub known_more : (clients : List ClientView) (i position : ℕ) (now new : List ℕ) → i < length clients → ((c : ClientView) → slice_get clients i ≡ Some c → position ≡ length c.chain)
    → now ≡ take i (map (λ (c : ClientView). length c.chain) clients) → new ≡ now ++ position ∷ [] → new ≡ take (i + 1) (map (λ (c : ClientView). length c.chain) clients)
known_more clients i position now new within is so_far more =
    let known = map (λ (c : ClientView). length c.chain) clients in
    let client = client_there clients i within in
    let at : slice_get known i ≡ Some position =
    slice_get-map (λ (c : ClientView). length c.chain) clients i ∙ ap (option_map (λ (c : ClientView). length c.chain)) client.1 ∙ ap (λ (n : ℕ). Some n) (sym (is client.0 client.1)) in
    let next : take (i + 1) known ≡ take i known ++ position ∷ [] =
    take_more known i 0 (slice_get_within known i position at) ∙ ap (λ (n : ℕ). take i known ++ n ∷ []) (get_or_from_slice_get known i position 0 at) in
    more ∙ ap (λ (ks : List ℕ). ks ++ position ∷ []) so_far ∙ sym next
