-- The line that is named is the first wrong one.
use Rattle.std.proofs.Common.{◌≡◌, ◌≢◌, ℕ, zero, suc, ◌+◌, ◌≤◌, Bool, true, false, cond, List, [], ◌∷◌, ◌++◌, ◌⊎◌, inl, inr, refl, sym, ap, ◌∙◌, subst, length, slice_get, nat_lt, IsSome, Option, Some, None, Result, Ok, Err, arith}
use Rattle.std.specs.Option.{option_map}
use Rattle.std.proofs.lemmas.Bool.{le-ltb}
use Rattle.ms_world.specs.declared.event.Event.{Event}
use Rattle.ms_base.specs.declared.names.Quantity.{Quantity}
use Rattle.ms_base.specs.declared.names.Quantity.TheVariants as quantities
use Rattle.ms_drill.specs.declared.drill.Drill.{Drill}
use Rattle.ms_drill.specs.declared.head.Head.{Head}
use Rattle.ms_drill.specs.Drills.{event_line, whole, events_at, with_events, with_head, drill_of, setting_of, most_events, IsFirstWrongEvent, IsWrongLine, ReadsDrill, ReadsEvents}
use Rattle.ms_drill.specs.Lines.{event_at, head_at}
use Rattle.ms_record.specs.declared.refusal.Place.TheVariants as places
use Rattle.ms_record.specs.declared.refusal.Refusal.{Refusal}
use Rattle.ms_record.specs.declared.refusal.Refusal.TheVariants as refusals
use Rattle.ms_record.specs.declared.setting.Setting.{Setting}
use Rattle.ms_text.specs.Lines.{read_lines, on_or_wrong}

-- the first wrong line of lines that are counted from some number on
record IsFirst (from : ℕ) (lines : List (List ℕ)) (line : ℕ) : Type 0 where
  front : List (List ℕ)
  text : List ℕ
  rest : List (List ℕ)
  all : lines ≡ front ++ text ∷ rest
  events : (i : ℕ) (before : List ℕ) → slice_get front i ≡ Some before → IsSome (event_at before)
  wrong : event_at text ≡ None
  line_is : line ≡ from + length front

same_line : (a b : ℕ) → Err a ≡ (let r : Result (List Event) ℕ = Err b in r) → a ≡ b
same_line a b e = cc

is_there : (o : Option Event) (event : Event) → o ≡ Some event → IsSome o
is_there o event e = subst (λ (p : Option Event). IsSome p) (sym e) refl

one_before : (text : List ℕ) (front : List (List ℕ)) (event : Event) → event_at text ≡ Some event → ((i : ℕ) (before : List ℕ) → slice_get front i ≡ Some before → IsSome (event_at before))
    → (i : ℕ) (before : List ℕ) → slice_get (text ∷ front) i ≡ Some before → IsSome (event_at before)
one_before text front event is others zero before at = (let q : Some text ≡ Some before = at in let same : text ≡ before = cc in subst (λ (l : List ℕ). IsSome (event_at l)) same (is_there (event_at text) event is))
one_before text front event is others (suc i) before at = others i before at

first_of : (from : ℕ) (events : List Event) (lines : List (List ℕ)) (line : ℕ) → read_lines event_line whole from events lines ≡ Err line → IsFirst from lines line
first_of from events [] line e = absurd (let q : Ok events ≡ (let r : Result (List Event) ℕ = Err line in r) = e in cc)
first_of from events (text ∷ lines) line e = by (event_at text) refl (λ event next. first_of (from + 1) (events ++ event ∷ []) lines line next) e
  where
    by : (o : Option Event) → event_at text ≡ o → ((event : Event) → read_lines event_line whole (from + 1) (events ++ event ∷ []) lines ≡ Err line → IsFirst (from + 1) lines line)
        → on_or_wrong from (λ next. read_lines event_line whole (from + 1) next lines) (option_map (λ event. events ++ event ∷ []) o) ≡ Err line → IsFirst from (text ∷ lines) line
    by None is on e = record {
      front = [];
      text = text;
      rest = lines;
      all = refl;
      events = λ i before at. absurd (let q : None ≡ Some before = at in cc);
      wrong = is;
      line_is = (let q : from ≡ line = same_line from line e in omega (arith, q));
    }
    by (Some event) is on e =
        let r = on event e in record {
          front = text ∷ r.front;
          text = r.text;
          rest = r.rest;
          all = ap (λ (ls : List (List ℕ)). text ∷ ls) r.all;
          events = one_before text r.front event is r.events;
          wrong = r.wrong;
          line_is = omega (arith, r.line_is);
        }

wrong_event : (lines : List (List ℕ)) (line : ℕ) → events_at lines ≡ Err line → IsFirstWrongEvent lines line
wrong_event lines line e = let r = first_of 2 [] lines line e in record { front = r.front; text = r.text; rest = r.rest; all = r.all; events = r.events; wrong = r.wrong; line_is = r.line_is }

bad_line : (a b : ℕ) → Err (refusals.BadInput places.Input a) ≡ (let r : Result Drill Refusal = Err (refusals.BadInput places.Input b) in r) → a ≡ b
bad_line a b e = cc

with_wrong : (setting : Setting) (lines : List (List ℕ)) (line : ℕ) → with_events setting (events_at lines) ≡ Err (refusals.BadInput places.Input line) → IsFirstWrongEvent lines line
with_wrong setting lines line e = by (events_at lines) refl e
  where
    by : (r : Result (List Event) ℕ) → events_at lines ≡ r → with_events setting r ≡ Err (refusals.BadInput places.Input line) → IsFirstWrongEvent lines line
    by (Ok events) is e = absurd (let q : Ok (let d : Drill = record { setting = setting; events = events } in d) ≡ (let r : Result Drill Refusal = Err (refusals.BadInput places.Input line) in r) = e in cc)
    by (Err other) is e = wrong_event lines line (is ∙ ap (λ (l : ℕ). let r : Result (List Event) ℕ = Err l in r) (bad_line other line e))

pub wrong_line_is : (lines : List (List ℕ)) (line : ℕ) → drill_of lines ≡ Err (refusals.BadInput places.Input line) → IsWrongLine lines line
wrong_line_is [] line e = sym (bad_line 1 line e)
wrong_line_is (first ∷ lines) line e = by (head_at first) refl e
  where
    few : (b : Bool) (head : Head) → cond b (Err (refusals.Limit quantities.Events (length lines))) (with_events (setting_of first head) (events_at lines)) ≡ (let r : Result Drill Refusal = Err (refusals.BadInput places.Input line) in r) → IsFirstWrongEvent lines line
    few true head e = absurd (let q : Err (refusals.Limit quantities.Events (length lines)) ≡ (let r : Result Drill Refusal = Err (refusals.BadInput places.Input line) in r) = e in cc)
    few false head e = with_wrong (setting_of first head) lines line e

    by : (o : Option Head) → head_at first ≡ o → with_head first lines o ≡ Err (refusals.BadInput places.Input line) → ((line ≡ 1) × (head_at first ≡ None)) ⊎ (IsSome (head_at first) × IsFirstWrongEvent lines line)
    by None is e = inl (sym (bad_line 1 line e), is)
    by (Some head) is e = inr (subst (λ (o : Option Head). IsSome o) (sym is) refl, few (nat_lt most_events (length lines)) head e)

-- ---- behind a head

-- where the head is right and the events are not too many, the events decide
with_few : (first : List ℕ) (lines : List (List ℕ)) (head : Head) → Some head ≡ head_at first → length lines ≤ most_events → drill_of (first ∷ lines) ≡ with_events (setting_of first head) (events_at lines)
with_few first lines head is few =
    let off : nat_lt most_events (length lines) ≡ false = le-ltb most_events (length lines) few in
    ap (with_head first lines) (sym is) ∙ ap (λ (b : Bool). cond b (Err (refusals.Limit quantities.Events (length lines))) (with_events (setting_of first head) (events_at lines))) off

no_limit : (setting : Setting) (given : Result (List Event) ℕ) (what : Quantity) (value : ℕ) → with_events setting given ≢ Err (refusals.Limit what value)
no_limit setting (Ok events) what value e = cc
no_limit setting (Err line) what value e = cc

pub behind_head : (first : List ℕ) (lines : List (List ℕ)) (head : Head) (refusal : Refusal) → Some head ≡ head_at first → length lines ≤ most_events → ReadsEvents (events_at lines) (Err refusal)
    → ReadsDrill (drill_of (first ∷ lines)) (Err refusal)
behind_head first lines head (refusals.BadInput places.Input line) is few e = with_few first lines head is few ∙ ap (with_events (setting_of first head)) e
behind_head first lines head refusals.NoMemory is few e =
    let same = with_few first lines head is few in (
      λ wrong. let w = with_wrong (setting_of first head) lines 1 (sym same ∙ wrong) in omega (arith, w.line_is),
      λ what value limit. no_limit (setting_of first head) (events_at lines) what value (sym same ∙ limit),
    )
behind_head first lines head refusal is few e = absurd e
