-- What was reached so far, and that a version is placed exactly where all that is reached is there.
use Rattle.std.proofs.Common.{◌≡◌, ℕ, ◌+◌, ◌<◌, ◌≤◌, ◌&&◌, ◌||◌, Bool, true, false, cond, ltb, List, [], ◌∷◌, Option, Some, None, inl, inr, refl, sym, ap, ◌∙◌, subst, slice_get, slice_index_or, length, All, Contains, count_by, arith}
use Rattle.std.specs.Prelude.{bytes_eq}
use Rattle.std.specs.List.{list_any}
use Rattle.std.proofs.lemmas.Bool.{cases_lt, true≢false, ltb-true, lt-ltb}
use Rattle.std.proofs.lemmas.List.Elements.{All-append, All-weaker, All-contains, All-head, All-nil, All-cons, Contains-append_left}
use Rattle.std.proofs.lemmas.List.Sums.{sum_by-cons}
use Rattle.std.proofs.lemmas.Map.Keys.{any_passes_from_place}
use Rattle.std.proofs.lemmas.Option.{slice_get_within, slice_get-get_or, get_or_from_slice_get}
use Rattle.std.proofs.lemmas.Slice.Eq.{bytes_eq-Decides}
use Rattle.ms_base.specs.declared.limits.TheConstants.{SERVICES}
use Rattle.ms_base.specs.declared.names.Name.{Name}
use Rattle.ms_core.specs.declared.want.Want.{Want}
use Rattle.ms_core.specs.declared.want.Wanted.TheVariants.{Version}
use Rattle.ms_core.specs.Placing.{HasObject, OnEnough, want_of, wanted_in, IsOfFormat}
use Rattle.ms_world.specs.PutTexts.{ArePutsNamed, IsPlacedInLogs, text_of_puts}
use Rattle.ms_world.specs.Puts.{PutsView, Knows, found_at, text_found, is_on}
use Rattle.ms_world.specs.Reaching.{IsThere, Meets, Reaches}
use Rattle.ms_base.specs.Options.{both}
use Rattle.ms_base.specs.Places.{some_same, append_left, append_cases, in_here, in_later}
use Rattle.ms_world.proofs.MeetLaws.{stays_met}
use Rattle.ms_world.proofs.PutLaws.{name_is, put_where_text, text_from_put, text_is_named}
use Rattle.ms_world.proofs.ReachLaws.{OneValue}
use Rattle.ms_object.specs.declared.object.Object.{Object}
use Rattle.ms_object.specs.Objects.{Spells, format_of, numbered}
use Rattle.ms_object.specs.Trees.{Texts}
use Rattle.ms_record.specs.declared.log.LogEvent.{LogEvent}
use Rattle.ms_record.specs.declared.plan.PlanRow.{PlanRow}
use Rattle.ms_record.specs.Logs.{HasPut}
use Rattle.ms_record.specs.Plans.{PlanView, IsPlan}

-- what is wanted is there, and what it names was met
pub record Done (puts : PutsView) (plan : PlanView) (wants : List Want) (want : Want) : Type 0 where
  pub rules : IsPlan plan
  pub there : IsThere puts plan want
  pub met : All (Contains wants) (wanted_in there.read.object)

-- the version was met; what was met before this place is done; and all that was met is needed
pub record Walked (logs : List (List LogEvent)) (plan : PlanView) (version : Name) (puts : PutsView) (wants : List Want) (place : ℕ) : Type 0 where
  pub first : Contains wants (want_of Version version)
  pub done : (i : ℕ) (want : Want) → i < place → slice_get wants i ≡ Some want → Done puts plan wants want
  pub needed : (p : IsPlacedInLogs logs plan version) → All (λ (want : Want). HasObject p.placed.store want.name want.wanted) wants

-- ---- a count of rows

count_one : (p q : PlanRow → Bool) (row : PlanRow) → (p row ≡ true → q row ≡ true) → cond (p row) 1 0 ≤ cond (q row) 1 0
count_one p q row h = by (p row) (q row) h
  where
    by : (a b : Bool) → (a ≡ true → b ≡ true) → cond a 1 0 ≤ cond b 1 0
    by true true h = omega arith
    by true false h = absurd (true≢false (sym (h refl)))
    by false b h = omega arith

count_more : (p q : PlanRow → Bool) (rows : List PlanRow) → ((row : PlanRow) → Contains rows row → p row ≡ true → q row ≡ true) → count_by p rows ≤ count_by q rows
count_more p q [] h = omega arith
count_more p q (row ∷ rows) h =
    omega (
      arith,
      sum_by-cons (λ (r : PlanRow). cond (p r) 1 0) row rows,
      sum_by-cons (λ (r : PlanRow). cond (q r) 1 0) row rows,
      count_one p q row (h row (in_here row rows)),
      count_more p q rows (λ r there. h r (in_later row rows r there)),
    )

-- a place of what a list has
place_of : {X : Type 0} (xs : List X) (x : X) → Contains xs x → (i : ℕ) × (slice_get xs i ≡ Some x)
place_of xs x h = (h.0, slice_get-get_or xs h.0 x h.1 ∙ ap Some h.2)

has_at : {X : Type 0} (xs : List X) (i : ℕ) (x : X) → slice_get xs i ≡ Some x → Contains xs x
has_at xs i x h = (i, slice_get_within xs i x h, get_or_from_slice_get xs i x x h)

few_services : (plan : PlanView) (row : PlanRow) → IsPlan plan → Contains plan.rows row → row.service.0 < SERVICES
few_services plan row rules h = let at = place_of plan.rows row h in (rules.rows at.0 row at.1).service

-- ---- the store of what was met: the first text that was put under each name

abbrev store_of : List Want → List (List LogEvent) → ℕ → Texts
store_of wants logs g name = cond (list_any (λ (w : Want). bytes_eq w.name.0 name) wants) (text_of_puts logs g (record { 0 = name })) None

record IsStored (wants : List Want) (logs : List (List LogEvent)) (g : ℕ) (name : Name) (text : List ℕ) : Type 0 where
  pub want : Want
  pub met : Contains wants want
  pub same : want.name ≡ name
  pub text_is : text_of_puts logs g name ≡ Some text

cond_is : (b : Bool) (o : Option (List ℕ)) (text : List ℕ) → cond b o None ≡ Some text → (b ≡ true) × (o ≡ Some text)
cond_is true o text e = (refl, e)
cond_is false o text e = cc

met_under : (wants : List Want) (name : Name) → list_any (λ (w : Want). bytes_eq w.name.0 name.0) wants ≡ true → (want : Want) × Contains wants want × (want.name ≡ name)
met_under [] name e = cc
met_under (w ∷ wants) name e = by (bytes_eq w.name.0 name.0) refl e (met_under wants name)
  where
    by : (b : Bool) → bytes_eq w.name.0 name.0 ≡ b → (b || list_any (λ (x : Want). bytes_eq x.name.0 name.0) wants) ≡ true
        → (list_any (λ (x : Want). bytes_eq x.name.0 name.0) wants ≡ true → (want : Want) × Contains wants want × (want.name ≡ name))
        → (want : Want) × Contains (w ∷ wants) want × (want.name ≡ name)
    by true is e later = (w, in_here w wants, name_is w.name name is)
    by false is e later = let l = later e in (l.0, in_later w wants l.0 l.1, l.2)

any_named : (wants : List Want) (want : Want) → Contains wants want → list_any (λ (w : Want). bytes_eq w.name.0 want.name.0) wants ≡ true
any_named wants want met = let at = place_of wants want met in
    any_passes_from_place (λ (w : Want). bytes_eq w.name.0 want.name.0) wants at.0 want at.1 ((bytes_eq-Decides want.name.0 want.name.0).1 refl)

stored : (wants : List Want) (logs : List (List LogEvent)) (g : ℕ) (name : Name) (text : List ℕ) → store_of wants logs g name.0 ≡ Some text → IsStored wants logs g name text
stored wants logs g name text e =
    let c = cond_is (list_any (λ (w : Want). bytes_eq w.name.0 name.0) wants) (text_of_puts logs g name) text e in
    let m = met_under wants name c.0 in
    record { want = m.0; met = m.1; same = m.2; text_is = c.1 }

-- ---- what the puts say

module _ (logs : List (List LogEvent)) (plan : PlanView) (version : Name) (puts : PutsView) (knows : Knows logs plan.generation puts) (one : OneValue) where
  text_known : (name : Name) (text : List ℕ) → text_found (found_at puts name) ≡ Some text → text_of_puts logs plan.generation name ≡ Some text
  text_known name text e = sym (knows.texts name) ∙ e

  -- what the store has is of the plan's format
  format_there : (p : IsPlacedInLogs logs plan version) (want : Want) (has : HasObject p.placed.store want.name want.wanted) → numbered plan.format ≡ Some (format_of has.object)
  format_there p want has =
      let is = p.placed.holds.formats want.name has.text has.is in
      is.format_is ∙ ap (λ (o : Object). Some (format_of o)) (one has.text is.object has.object is.spells has.spells)

  -- what is needed is there
  there_if_needed : IsPlan plan → (p : IsPlacedInLogs logs plan version) (want : Want) → HasObject p.placed.store want.name want.wanted → IsThere puts plan want
  there_if_needed rules p want has =
      let on = p.placed.put want.name has.text has.is in
      record {
        text = has.text;
        is = knows.texts want.name ∙ p.texts want.name has.text has.is;
        read = record { object = has.object; spells = has.spells; format_is = format_there p want has; kind = has.kind };
        enough = omega (
          arith,
          on.enough,
          count_more (λ (row : PlanRow). on.part row.service.0) (λ (row : PlanRow). is_on (found_at puts want.name) row.service.0) plan.rows
              (λ row in' yes. let put = on.have row.service.0 yes in
              knows.services want.name row.service.0 (few_services plan row rules in') ∙ text_from_put plan.generation want.name (slice_index_or logs row.service.0 []) put.0 put.1),
        );
      }

  -- what is needed names only what is needed
  names_needed : (p : IsPlacedInLogs logs plan version) (want : Want) (there : IsThere puts plan want) → HasObject p.placed.store want.name want.wanted
      → All (λ (w : Want). HasObject p.placed.store w.name w.wanted) (wanted_in there.read.object)
  names_needed p want there has =
      let text_is : Some has.text ≡ Some there.text = sym (p.texts want.name has.text has.is) ∙ text_known want.name there.text there.is in
      p.placed.holds.below want.name there.text there.read.object (has.is ∙ text_is) there.read.spells

  pub walked_fails : (wants : List Want) (place : ℕ) (want : Want) → IsPlan plan → Walked logs plan version puts wants place → slice_get wants place ≡ Some want
      → (IsThere puts plan want → ⊥) → IsPlacedInLogs logs plan version → ⊥
  walked_fails wants place want rules walked at missing p =
      missing (there_if_needed rules p want (All-contains (λ (w : Want). HasObject p.placed.store w.name w.wanted) wants want (walked.needed p) (has_at wants place want at)))

  pub walked_next : (wants news : List Want) (place : ℕ) (want : Want) → IsPlan plan → Walked logs plan version puts wants place → slice_get wants place ≡ Some want
      → Reaches puts plan want wants news true → Walked logs plan version puts news (place + 1)
  walked_next wants news place want rules walked at (there, meets) = record {
    first = subst (λ (l : List Want). Contains l (want_of Version version)) (sym meets.behind) (Contains-append_left wants meets.more (want_of Version version) walked.first);
    done = λ i w below is. elim (cases_lt i place) [
      | inl before ↦ earlier i w before is
      | inr after ↦ (
          let same : i ≡ place = omega arith in
          let here : slice_get news i ≡ Some want = ap (slice_get news) same ∙ ap (λ (l : List Want). slice_get l place) meets.behind ∙ append_left wants meets.more place want at in
          subst (Done puts plan news) (some_same want w (sym here ∙ is)) (record { rules = rules; there = there; met = meets.all })
          )
    ];
    needed = λ p. let H : Want → Type 0 = λ w. HasObject p.placed.store w.name w.wanted in
        let named : All H (wanted_in there.read.object) = names_needed p want there (All-contains H wants want (walked.needed p) (has_at wants place want at)) in
        subst (All H) (sym meets.behind) (All-append H wants meets.more (walked.needed p) (All-weaker (Contains (wanted_in there.read.object)) H (λ w. All-contains H (wanted_in there.read.object) w named) meets.more meets.only));
  }
    where
      stays_done : (w : Want) → Done puts plan wants w → Done puts plan news w
      stays_done w d = record {
        rules = d.rules;
        there = d.there;
        met = subst (λ (l : List Want). All (Contains l) (wanted_in d.there.read.object)) (sym meets.behind) (stays_met wants meets.more (wanted_in d.there.read.object) d.met);
      }

      earlier : (i : ℕ) (w : Want) → i < place → slice_get news i ≡ Some w → Done puts plan news w
      earlier i w before is = elim (append_cases wants meets.more i w (ap (λ (l : List Want). slice_get l i) (sym meets.behind) ∙ is)) [
        | inl old ↦ stays_done w (walked.done i w before old)
        | inr new ↦ absurd (omega (arith, new.1, slice_get_within wants place want at))
      ]

  pub walked_whole : (wants : List Want) (place : ℕ) → All ArePutsNamed logs → length wants ≤ place → Walked logs plan version puts wants place → IsPlacedInLogs logs plan version
  walked_whole wants place named whole walked = record {
    placed = record {
      store = store_of wants logs plan.generation;
      holds = record {
        top = has_object (want_of Version version) walked.first;
        formats = of_format;
        below = below_object;
        named = λ name text is. text_is_named logs plan.generation name text named (found name text is).text_is;
      };
      put = λ name text is. let f = found name text is in
          subst (λ (n : Name). OnEnough (λ s. HasPut (slice_index_or logs s []) plan.generation n) plan) f.same (on_enough f.want (done_of f.want f.met));
    };
    texts = λ name text is. (found name text is).text_is;
  }
    where
      found : (name : Name) (text : List ℕ) → store_of wants logs plan.generation name.0 ≡ Some text → IsStored wants logs plan.generation name text
      found name text is = stored wants logs plan.generation name text is

      done_of : (w : Want) → Contains wants w → Done puts plan wants w
      done_of w met = let at = place_of wants w met in walked.done at.0 w (omega (arith, whole, slice_get_within wants at.0 w at.1)) at.1

      has_object : (w : Want) → Contains wants w → HasObject (store_of wants logs plan.generation) w.name w.wanted
      has_object w met = let d = done_of w met in record {
        text = d.there.text;
        is = ap (λ (b : Bool). cond b (text_of_puts logs plan.generation w.name) None) (any_named wants w met) ∙ text_known w.name d.there.text d.there.is;
        object = d.there.read.object;
        spells = d.there.read.spells;
        kind = d.there.read.kind;
      }

      text_there : (name : Name) (text : List ℕ) (f : IsStored wants logs plan.generation name text) (d : Done puts plan wants f.want) → d.there.text ≡ text
      text_there name text f d =
          some_same d.there.text text (sym (text_known f.want.name d.there.text d.there.is) ∙ ap (λ (n : Name). text_of_puts logs plan.generation n) f.same ∙ f.text_is)

      of_format : (name : Name) (text : List ℕ) → store_of wants logs plan.generation name.0 ≡ Some text → IsOfFormat plan.format text
      of_format name text is =
          let f = found name text is in
          let d = done_of f.want f.met in
          let read = d.there.read in
          record { object = read.object; spells = subst (λ (t : List ℕ). Spells t read.object) (text_there name text f d) read.spells; format_is = read.format_is }

      below_object : (name : Name) (text : List ℕ) (object : Object) → store_of wants logs plan.generation name.0 ≡ Some text → Spells text object
          → All (λ (w : Want). HasObject (store_of wants logs plan.generation) w.name w.wanted) (wanted_in object)
      below_object name text object is spells =
          let f = found name text is in
          let d = done_of f.want f.met in
          let read : Spells text d.there.read.object = subst (λ (t : List ℕ). Spells t d.there.read.object) (text_there name text f d) d.there.read.spells in
          subst (λ (o : Object). All (λ (w : Want). HasObject (store_of wants logs plan.generation) w.name w.wanted) (wanted_in o)) (one text d.there.read.object object read spells)
          (All-weaker (Contains wants) (λ (w : Want). HasObject (store_of wants logs plan.generation) w.name w.wanted) has_object (wanted_in d.there.read.object) d.met)

      on_enough : (w : Want) → Done puts plan wants w → OnEnough (λ s. HasPut (slice_index_or logs s []) plan.generation w.name) plan
      on_enough w d = record {
        part = λ s. ltb s SERVICES && is_on (found_at puts w.name) s;
        have = λ s yes. let found = both (ltb s SERVICES) (is_on (found_at puts w.name) s) yes in
            put_where_text plan.generation w.name (slice_index_or logs s []) (sym (knows.services w.name s (ltb-true s SERVICES found.0)) ∙ found.1);
        enough = omega (
          arith,
          d.there.enough,
          count_more (λ (row : PlanRow). is_on (found_at puts w.name) row.service.0)
              (λ (row : PlanRow). ltb row.service.0 SERVICES && is_on (found_at puts w.name) row.service.0) plan.rows
              (λ row there yes. ap (λ (b : Bool). b && is_on (found_at puts w.name) row.service.0) (lt-ltb row.service.0 SERVICES (few_services plan row d.rules there)) ∙ yes),
        );
      }

-- nothing was read yet
pub walked_first : (logs : List (List LogEvent)) (plan : PlanView) (version : Name) (puts : PutsView) (wants : List Want) → Meets (want_of Version version ∷ []) [] wants → Walked logs plan version puts wants 0
walked_first logs plan version puts wants meets = record {
  first = All-head (Contains wants) (want_of Version version) [] meets.all;
  done = λ i w below is. absurd (omega arith);
  needed = λ p. let H : Want → Type 0 = λ w. HasObject p.placed.store w.name w.wanted in
      let top : All H (want_of Version version ∷ []) = All-cons H (want_of Version version) [] p.placed.holds.top (All-nil H) in
      subst (All H) (sym meets.behind) (All-weaker (Contains (want_of Version version ∷ [])) H (λ w. All-contains H (want_of Version version ∷ []) w top) meets.more meets.only);
}
