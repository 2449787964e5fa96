-- A command over the same inputs has one answer.
use Rattle.std.proofs.Common.{◌≡◌, ◌≢◌, ℕ, ◌+◌, ◌<◌, ◌≤◌, All, List, [], ◌∷◌, ◌++◌, Option, Some, None, IfSome, Result, Ok, Err, ◌⊎◌, inl, inr, refl, sym, ap, ◌∙◌, subst, length, arith}
use Rattle.std.proofs.lemmas.List.Elements.{All-nil, All-cons, All-append, All-head, All-tail}
use Rattle.ms_base.specs.Outside.{InputsView, OutsideView, SinkView, HasText, text_named}
use Rattle.ms_base.specs.Reading.{HasLongText}
use Rattle.ms_base.specs.declared.limits.TheConstants.{INPUT_BYTES}
use Rattle.ms_base.specs.declared.names.Name.{Name}
use Rattle.ms_base.specs.declared.names.Quantity.TheVariants as quantities
use Rattle.ms_drill.specs.Drills.{drill_at}
use Rattle.ms_drill.specs.declared.drill.Drill.{Drill as DrillOf}
use Rattle.ms_object.specs.declared.format.Format.TheVariants as formats
use Rattle.ms_record.specs.Chains.{Agrees, IsChain, IsLinked, Origin}
use Rattle.ms_record.specs.Entries.{name_of}
use Rattle.ms_record.specs.Settings.{IsSetting, origin_of}
use Rattle.ms_record.specs.declared.entry.Entry.{Entry}
use Rattle.ms_record.specs.declared.record.Record.{Record}
use Rattle.ms_record.specs.declared.refusal.Refusal.{Refusal}
use Rattle.ms_record.specs.declared.refusal.Refusal.TheVariants as refusals
use Rattle.ms_record.specs.declared.refusal.Why.{Why}
use Rattle.ms_record.specs.declared.setting.Setting.{Setting}
use Rattle.ms_replay.specs.Audits.{IsAudit}
use Rattle.ms_replay.specs.declared.audit.Audit.{Audit as AuditOf}
use Rattle.ms_replay.specs.declared.dump.Dump.{Dump}
use Rattle.ms_tree.specs.Files.{FileList}
use Rattle.ms_tree.specs.Listings.{listing_at}
use Rattle.ms_tree.specs.Planting.{Collide, object_texts, first_large}
use Rattle.ms_words.specs.declared.command.Command.{Command}
use Rattle.ms_words.specs.declared.command.Command.TheVariants.{Audit, Drill, Hash}
use Rattle.ms_words.specs.declared.report.Report.{Report}
use Rattle.ms_words.specs.declared.report.Report.TheVariants as reports
use Rattle.ms_words.specs.Texts.{status_of}
use Rattle.ms_world.specs.declared.event.Event.{Event}
use Rattle.ms_world.specs.Held.{IsReached}
use Rattle.ms_world.specs.Refusals.{IsRefused}
use Rattle.ms_world.specs.Steps.{IsEvent, IsRun, Step, Steps}
use Rattle.ms_world.specs.Worlds.{WorldView, start_world, votes_of_world}
use Rattle.ms_top.specs.Alike.{AreAlike, HashesCollision, IsJudged}
use Rattle.ms_top.specs.Answers.{Answers, ByCommand}
use Rattle.ms_top.specs.Audits.{DumpSays, MayLackDump, spelled_dump, told_audit}
use Rattle.ms_top.specs.Drills.{IsInRange, MayLackDrill, RunSays, RunsWhole, StopsAt, known_of}
use Rattle.ms_top.specs.Hashes.{FilesSay, HashIs, IsTooLarge, MayLackListing}
use Rattle.ms_top.specs.Inputs.{InputGives, OnInput, TextSays}
use Rattle.ms_top.specs.Runs.{Runs}
use Rattle.ms_top.specs.Steps.{OfValue}
use Rattle.ms_top.specs.Telling.{Tells, Writes, report_of}
use Rattle.ms_top.proofs.Running.{steps_more}

abbrev answered : Report → Result Report Refusal
answered report = Ok report

abbrev refused : Refusal → Result Report Refusal
refused refusal = Err refusal

some_one : {A : Type 0} (a b : A) → Some a ≡ Some b → a ≡ b
some_one a b e = cc

ok_one : {A B : Type 0} (a b : A) (r : Result A B) → r ≡ Ok a → r ≡ Ok b → a ≡ b
ok_one a b r e f = let q : Ok a ≡ Ok b = sym e ∙ f in cc

err_one : {A B : Type 0} (a b : B) (r : Result A B) → r ≡ Err a → r ≡ Err b → a ≡ b
err_one a b r e f = let q : Err a ≡ Err b = sym e ∙ f in cc

not_both : {A B C : Type 0} (a : A) (b : B) (r : Result A B) → r ≡ Ok a → r ≡ Err b → C
not_both a b r e f = let q : Ok a ≡ Err b = sym e ∙ f in absurd (cc q)

-- ---- events in turn

first_of : {A : Type 0} (x y : A) (xs ys : List A) → x ∷ xs ≡ y ∷ ys → x ≡ y
first_of x y xs ys e = cc

rest_of : {A : Type 0} (x y : A) (xs ys : List A) → x ∷ xs ≡ y ∷ ys → xs ≡ ys
rest_of x y xs ys e = cc

module _
    (one_step : (setting : Setting) (w : WorldView) (event : Event) (a b : WorldView) → IsSetting setting → IsReached setting w → Step setting w event a → Step setting w event b → a ≡ b)
    (one_refusal : (setting : Setting) (w : WorldView) (event : Event) (x y : Why) → IsRefused setting w event x → IsRefused setting w event y → x ≡ y)
    (apart : (setting : Setting) (w next : WorldView) (event : Event) (why : Why) → Step setting w event next → IsRefused setting w event why → ⊥)
    (setting : Setting) (set : IsSetting setting) where
  goes_on : (w next : WorldView) (event : Event) → IsReached setting w → IsEvent event → Step setting w event next → IsReached setting next
  goes_on w next event r fits step = record {
    events = r.events ++ event ∷ [];
    fit = All-append IsEvent r.events (event ∷ []) r.fit (All-cons IsEvent event [] fits (All-nil IsEvent));
    run = steps_more setting (start_world setting) w next r.events event r.run step;
  }

  -- one world is led to
  one_world : (events : List Event) (w a b : WorldView) → All IsEvent events → IsReached setting w → Steps setting w events a → Steps setting w events b → a ≡ b
  one_world [] w a b fit r one other = one ∙ sym other
  one_world (event ∷ events) w a b fit r (next, step, rest) (then, step_too, rest_too) =
      let same = one_step setting w event next then set r step step_too in
      one_world events next a b (All-tail IsEvent event events fit) (goes_on w next event r (All-head IsEvent event events fit) step) rest
      (subst (λ (v : WorldView). Steps setting v events b) (sym same) rest_too)

  -- what runs whole does not stop
  whole_or_stops : (events before rest : List Event) (event : Event) (w end at : WorldView) (why : Why) → All IsEvent events → IsReached setting w → events ≡ before ++ event ∷ rest
      → Steps setting w events end → Steps setting w before at → IsRefused setting at event why → ⊥
  whole_or_stops [] [] rest event w end at why fit r e run front refused = absurd (cc e)
  whole_or_stops [] (x ∷ before) rest event w end at why fit r e run front refused = absurd (cc e)
  whole_or_stops (first ∷ events) [] rest event w end at why fit r e (next, step, later) front refused =
      apart setting w next event why (subst (λ (x : Event). Step setting w x next) (first_of first event events rest e) step) (subst (λ (v : WorldView). IsRefused setting v event why) front refused)
  whole_or_stops (first ∷ events) (x ∷ before) rest event w end at why fit r e (next, step, later) (then, step_too, front) refused =
      let head = first_of first x events (before ++ event ∷ rest) e in
      let same = one_step setting w first next then set r step (subst (λ (y : Event). Step setting w y then) (sym head) step_too) in
      whole_or_stops events before rest event next end at why (All-tail IsEvent first events fit) (goes_on w next first r (All-head IsEvent first events fit) step)
      (rest_of first x events (before ++ event ∷ rest) e) later (subst (λ (v : WorldView). Steps setting v before at) (sym same) front) refused

  -- it stops at one event, for one reason
  pub record StopsAlike (one other : List Event) (why again : Why) : Type 0 where
    pub long : length one ≡ length other
    pub why_is : why ≡ again

  longer : (x y : Event) (one other : List Event) (why again : Why) → StopsAlike one other why again → StopsAlike (x ∷ one) (y ∷ other) why again
  longer x y one other why again h = record { long = let long = h.long in omega (arith, long); why_is = h.why_is }

  one_stop : (one other rest more : List Event) (event last : Event) (w at there : WorldView) (why again : Why) → All IsEvent (one ++ event ∷ rest) → IsReached setting w → one ++ event ∷ rest ≡ other ++ last ∷ more
      → Steps setting w one at → IsRefused setting at event why → Steps setting w other there → IsRefused setting there last again → StopsAlike one other why again
  one_stop [] [] rest more event last w at there why again fit r e front refused front_too refused_too = record {
    long = refl;
    why_is = one_refusal setting w event why again (subst (λ (v : WorldView). IsRefused setting v event why) front refused)
        (subst (λ (x : Event). IsRefused setting w x again) (sym (first_of event last rest more e)) (subst (λ (v : WorldView). IsRefused setting v last again) front_too refused_too));
  }
  one_stop [] (y ∷ other) rest more event last w at there why again fit r e front refused (next, step, front_too) refused_too =
      absurd (apart setting w next event why (subst (λ (x : Event). Step setting w x next) (sym (first_of event y rest (other ++ last ∷ more) e)) step) (subst (λ (v : WorldView). IsRefused setting v event why) front refused))
  one_stop (x ∷ one) [] rest more event last w at there why again fit r e (next, step, front) refused front_too refused_too =
      absurd (apart setting w next last again (subst (λ (y : Event). Step setting w y next) (first_of x last (one ++ event ∷ rest) more e) step) (subst (λ (v : WorldView). IsRefused setting v last again) front_too refused_too))
  one_stop (x ∷ one) (y ∷ other) rest more event last w at there why again fit r e (next, step, front) refused (then, step_too, front_too) refused_too =
      let head = first_of x y (one ++ event ∷ rest) (other ++ last ∷ more) e in
      let same = one_step setting w x next then set r step (subst (λ (z : Event). Step setting w z then) (sym head) step_too) in
      longer x y one other why again
      (one_stop one other rest more event last next at there why again (All-tail IsEvent x (one ++ event ∷ rest) fit) (goes_on w next x r (All-head IsEvent x (one ++ event ∷ rest) fit) step)
      (rest_of x y (one ++ event ∷ rest) (other ++ last ∷ more) e) front refused (subst (λ (v : WorldView). Steps setting v other there) (sym same) front_too) refused_too)

-- ---- what a drill is answered with

name_one : (g h : Name) → g.0 ≡ h.0 → g ≡ h
name_one g h e = ap (λ (x : List ℕ). let n : Name = record { 0 = x } in n) e

drill_one : (g h : Name) (es fs : List Entry) (ks ls : List ℕ) → g ≡ h → es ≡ fs → ks ≡ ls → answered (reports.Drill g es ks) ≡ answered (reports.Drill h fs ls)
drill_one g h es fs ks ls a b c = cc

stop_one : (m n : ℕ) (x y : Why) → m ≡ n → x ≡ y → refused (refusals.NotEnabled m x) ≡ refused (refusals.NotEnabled n y)
stop_one m n x y a b = cc

-- one list is the longest
longest_one : (votes : ℕ → List Record) (origin : Origin) (c d : List Entry) → ((c d : List Entry) → IsLinked votes origin c → IsLinked votes origin d → length c ≡ length d → c ≡ d)
    → IsChain votes origin c → IsChain votes origin d → c ≡ d
longest_one votes origin c d one a b = one c d a.linked b.linked (let p = a.longest d b.linked in let q = b.longest c a.linked in omega (arith, p, q))

-- laws of events and of worlds
pub record Outcomes : Type 0 where
  pub step : (setting : Setting) (w : WorldView) (event : Event) (a b : WorldView) → IsSetting setting → IsReached setting w → Step setting w event a → Step setting w event b → a ≡ b
  pub refusal : (setting : Setting) (w : WorldView) (event : Event) (x y : Why) → IsRefused setting w event x → IsRefused setting w event y → x ≡ y
  pub apart : (setting : Setting) (w next : WorldView) (event : Event) (why : Why) → Step setting w event next → IsRefused setting w event why → ⊥
  pub agrees : (setting : Setting) (w : WorldView) → IsSetting setting → IsReached setting w → Agrees (votes_of_world w) (origin_of setting)
  pub one_list : (votes : ℕ → List Record) (origin : Origin) (c d : List Entry) → Agrees votes origin → IsLinked votes origin c → IsLinked votes origin d → length c ≡ length d → c ≡ d

module _ (laws : Outcomes) (drill : DrillOf) where
  begun : IsReached drill.setting (start_world drill.setting)
  begun = record { events = []; fit = All-nil IsEvent; run = refl }

  wholes : (g h : Name) (es fs : List Entry) (ks ls : List ℕ) → RunsWhole drill g es ks → RunsWhole drill h fs ls → answered (reports.Drill g es ks) ≡ answered (reports.Drill h fs ls)
  wholes g h es fs ks ls a b =
      let set = a.ranges.setting in
      let fit = a.ranges.events in
      let same : a.world ≡ b.world = one_world laws.step laws.refusal laws.apart drill.setting set drill.events (start_world drill.setting) a.world b.world fit begun a.run b.run in
      let agrees = laws.agrees drill.setting b.world set (record { events = drill.events; fit = fit; run = b.run }) in
      let chain : IsChain (votes_of_world b.world) (origin_of drill.setting) es = subst (λ (w : WorldView). IsChain (votes_of_world w) (origin_of drill.setting) es) same a.chain in
      drill_one g h es fs ks ls (name_one g h (a.genesis_is ∙ sym b.genesis_is))
      (longest_one (votes_of_world b.world) (origin_of drill.setting) es fs (λ c d. laws.one_list (votes_of_world b.world) (origin_of drill.setting) c d agrees) chain b.chain)
      (a.known_is ∙ ap known_of same ∙ sym b.known_is)

  whole_stops : (g : Name) (es : List Entry) (ks : List ℕ) (number : ℕ) (why : Why) → RunsWhole drill g es ks → StopsAt drill number why → ⊥
  whole_stops g es ks number why a b =
      whole_or_stops laws.step laws.refusal laws.apart drill.setting a.ranges.setting drill.events b.before b.rest b.event (start_world drill.setting) a.world b.world why a.ranges.events begun b.all a.run b.run b.refused

  stops_one : (number again : ℕ) (why other : Why) → StopsAt drill number why → StopsAt drill again other → refused (refusals.NotEnabled number why) ≡ refused (refusals.NotEnabled again other)
  stops_one number again why other a b =
      let fit = subst (λ (xs : List Event). All IsEvent xs) a.all a.ranges.events in
      let h = one_stop laws.step laws.refusal laws.apart drill.setting a.ranges.setting a.before b.before a.rest b.rest a.event b.event (start_world drill.setting) a.world b.world why other fit begun
      (sym a.all ∙ b.all) a.run a.refused b.run b.refused in
      stop_one number again why other (a.number_is ∙ ap (λ (n : ℕ). n + 1) h.long ∙ sym b.number_is) h.why_is

  drill_alike : (r s : Result Report Refusal) → RunSays drill r → RunSays drill s → r ≡ s
  drill_alike r s (inl (g, es, ks, a, e)) (inl (h, fs, ls, b, f)) = e ∙ wholes g h es fs ks ls a b ∙ sym f
  drill_alike r s (inl (g, es, ks, a, e)) (inr (number, why, b, f)) = absurd (whole_stops g es ks number why a b)
  drill_alike r s (inr (number, why, a, e)) (inl (h, fs, ls, b, f)) = absurd (whole_stops h fs ls number why b a)
  drill_alike r s (inr (number, why, a, e)) (inr (again, other, b, f)) = e ∙ stops_one number again why other a b ∙ sym f

-- ---- what a listing is answered with

hash_one : (m n objects different : ℕ) (root other : Name) → m ≡ n → objects ≡ different → root ≡ other → answered (reports.Hash m objects root) ≡ answered (reports.Hash n different other)
hash_one m n objects different root other a b c = cc

module _ (files : FileList) where
  abbrev Collides : Type 0
  Collides = Collide (object_texts formats.One 64 files)

  large_one : (r s : Result Report Refusal) → IsTooLarge files r → IsTooLarge files s → r ≡ s
  large_one r s a b =
      a.is ∙ ap (λ (n : ℕ). refused (refusals.Limit quantities.File n)) (some_one a.bytes b.bytes (sym a.first ∙ b.first)) ∙ sym b.is

  small_or_large : (r s : Result Report Refusal) → HashIs files r → IsTooLarge files s → ⊥
  small_or_large r s a b = let q : None ≡ Some b.bytes = sym a.3.small ∙ b.first in absurd (cc q)

  hashes_alike : (r s : Result Report Refusal) → HashIs files r → HashIs files s → (r ≡ s) ⊎ Collides
  hashes_alike r s (m, objects, root, a, e) (n, others, other, b, f) =
      elim a.objects_is [
        | inl c ↦ inr c
        | inr same ↦ elim b.objects_is [
          | inl c ↦ inr c
          | inr too ↦ inl (e ∙ hash_one m n objects others root other (a.count_is ∙ sym b.count_is) (same ∙ sym too) (a.planted.root_is ∙ sym b.planted.root_is) ∙ sym f)
        ]
      ]

  files_alike : (r s : Result Report Refusal) → FilesSay files r → FilesSay files s → (r ≡ s) ⊎ Collides
  files_alike r s (inl a) (inl b) = hashes_alike r s a b
  files_alike r s (inl a) (inr b) = absurd (small_or_large r s a b)
  files_alike r s (inr a) (inl b) = absurd (small_or_large s r b a)
  files_alike r s (inr a) (inr b) = inl (large_one r s a b)

-- ---- what an input is answered with

abbrev Judged : Result Report Refusal → Type 0
Judged result = IsJudged (status_of (report_of result))

judged_as : (r s : Result Report Refusal) → r ≡ s → Judged r → Judged s
judged_as r s e h = subst Judged e h

module _ {A : Type 0} (C : Type 0) (spelled : List ℕ → Result A Refusal) (Says : A → Result Report Refusal → Type 0) (MayLack : List ℕ → Type 0) (old : OutsideView) (texts : List (List ℕ × List ℕ)) (told : old.inputs.texts ≡ Some texts)
    (file : List ℕ) (one : (text : List ℕ) (x : A) (r s : Result Report Refusal) → HasText old.inputs file text → spelled text ≡ Ok x → Says x r → Says x s → (r ≡ s) ⊎ C) where
  found : (text : List ℕ) → HasText old.inputs file text → text_named texts file ≡ Some text
  found text h = subst (λ (o : Option (List (List ℕ × List ℕ))). IfSome o (λ ts. text_named ts file ≡ Some text)) told h

  found_long : HasLongText old.inputs file INPUT_BYTES → (text : List ℕ) × (text_named texts file ≡ Some text) × (INPUT_BYTES < length text)
  found_long h = subst (λ (o : Option (List (List ℕ × List ℕ))). IfSome o (λ ts. (text : List ℕ) × (text_named ts file ≡ Some text) × (INPUT_BYTES < length text))) told h

  text_one : (a b : List ℕ) → HasText old.inputs file a → HasText old.inputs file b → a ≡ b
  text_one a b h k = some_one a b (sym (found a h) ∙ found b k)

  long_or_short : (text : List ℕ) → HasLongText old.inputs file INPUT_BYTES → HasText old.inputs file text → length text ≤ INPUT_BYTES → ⊥
  long_or_short text long h short =
      let l = found_long long in
      let same : l.0 ≡ text = some_one l.0 text (sym l.1 ∙ found text h) in
      let size : length l.0 ≡ length text = ap length same in
      let past = l.2 in omega (arith, size, past, short)

  pub record IsLong (refusal : Refusal) : Type 0 where
    pub is : refusal ≡ refusals.Limit quantities.Input (INPUT_BYTES + 1)
    pub long : HasLongText old.inputs file INPUT_BYTES

  refused_long : (mid : InputsView) (refusal : Refusal) → Judged (Err refusal) → InputGives file old.inputs mid (Err refusal) → IsLong refusal
  refused_long mid refusal judged (inl h) = absurd (judged.no_fault (ap (λ (f : Refusal). status_of (reports.Refused f)) h.0))
  refused_long mid refusal judged (inr (inl h)) = record { is = h.0; long = h.1 }
  refused_long mid refusal judged (inr (inr h)) = absurd (judged.memory (ap (λ (f : Refusal). status_of (reports.Refused f)) h.0))

  value_alike : (text : List ℕ) (r s : Result Report Refusal) → HasText old.inputs file text → Judged r → Judged s → TextSays spelled Says MayLack text r → TextSays spelled Says MayLack text s → (r ≡ s) ⊎ C
  value_alike text r s h jr js (inl e) b = absurd (jr.memory (ap (λ (x : Result Report Refusal). status_of (report_of x)) e.0))
  value_alike text r s h jr js a (inl e) = absurd (js.memory (ap (λ (x : Result Report Refusal). status_of (report_of x)) e.0))
  value_alike text r s h jr js (inr (inl (f, spells, e))) (inr (inl (g, also, k))) =
      inl (e ∙ ap refused (err_one f g (spelled text) spells also) ∙ sym k)
  value_alike text r s h jr js (inr (inl (f, spells, e))) (inr (inr (x, also, says))) = not_both x f (spelled text) also spells
  value_alike text r s h jr js (inr (inr (x, spells, says))) (inr (inl (g, also, k))) = not_both x g (spelled text) spells also
  value_alike text r s h jr js (inr (inr (x, spells, says))) (inr (inr (y, also, too))) =
      one text x r s h spells says (subst (λ (z : A). Says z s) (ok_one y x (spelled text) also spells) too)

  input_alike : (new other : OutsideView) (r s : Result Report Refusal) → Judged r → Judged s → OnInput (TextSays spelled Says MayLack) file old new r → OnInput (TextSays spelled Says MayLack) file old other s → (r ≡ s) ⊎ C
  input_alike new other r s jr js (inl (f, reads, e)) (inl (g, also, k)) =
      let a = refused_long new.inputs f (judged_as r (Err f) e jr) reads.gives in
      let b = refused_long other.inputs g (judged_as s (Err g) k js) also.gives in
      inl (e ∙ ap refused (a.is ∙ sym b.is) ∙ sym k)
  input_alike new other r s jr js (inl (f, reads, e)) (inr (text, mid, also, says)) =
      absurd (long_or_short text (refused_long new.inputs f (judged_as r (Err f) e jr) reads.gives).long also.gives.text_of also.gives.short)
  input_alike new other r s jr js (inr (text, mid, reads, says)) (inl (g, also, k)) =
      absurd (long_or_short text (refused_long other.inputs g (judged_as s (Err g) k js) also.gives).long reads.gives.text_of reads.gives.short)
  input_alike new other r s jr js (inr (text, mid, reads, (same, says))) (inr (words, there, also, (equal, too))) =
      let one_text = text_one words text also.gives.text_of reads.gives.text_of in
      value_alike text r s reads.gives.text_of jr js says (subst (λ (t : List ℕ). TextSays spelled Says MayLack t s) one_text too)

-- ---- the answer of a command

module _ (one_audit : (dump : Dump) (a b : AuditOf) → IsAudit dump a → IsAudit dump b → a ≡ b) (laws : Outcomes) (command : Option Command) (old : OutsideView)
    (texts : List (List ℕ × List ℕ)) (told : old.inputs.texts ≡ Some texts) where
  dump_alike : (dump : Dump) (r s : Result Report Refusal) → DumpSays dump r → DumpSays dump s → r ≡ s
  dump_alike dump r s (a, is, e) (b, also, f) = e ∙ ap (told_audit dump) (one_audit dump a b is also) ∙ sym f

  command_alike : (asked : Option Command) (new other : OutsideView) (r s : Result Report Refusal) → command ≡ asked → Judged r → Judged s → ByCommand asked old new r → ByCommand asked old other s
      → (r ≡ s) ⊎ HashesCollision command old.inputs
  command_alike None new other r s q jr js a b = inl (a.1 ∙ sym b.1)
  command_alike (Some (Audit file)) new other r s q jr js a b =
      input_alike (HashesCollision command old.inputs) spelled_dump DumpSays MayLackDump old texts told file (λ text x r s h spells says too. inl (dump_alike x r s says too)) new other r s jr js a b
  command_alike (Some (Drill file)) new other r s q jr js a b =
      input_alike (HashesCollision command old.inputs) drill_at RunSays MayLackDrill old texts told file (λ text x r s h spells says too. inl (drill_alike laws x r s says too)) new other r s jr js a b
  command_alike (Some (Hash file)) new other r s q jr js a b =
      input_alike (HashesCollision command old.inputs) listing_at FilesSay MayLackListing old texts told file
      (λ text x r s h spells says too. elim (files_alike x r s says too) [
        | inl e ↦ inl e
        | inr c ↦ inr (record { file = file; is = q; text = text; text_of = h; files = x; spells = spells; collide = c })
      ]) new other r s jr js a b

  judged_of : (report : Report) (before after : SinkView) (status : ℕ) → Tells report before after status → IsJudged status → (status ≡ status_of report) × Writes report before after
  judged_of report before after status (inl t) judged = (t.0, t.1)
  judged_of report before after status (inr t) judged = absurd (judged.no_fault t.0)

  of_command : (new : OutsideView) (r : Result Report Refusal) → Judged r → Answers command old new r → ByCommand command old new r
  of_command new r judged (inl h) = absurd (judged.memory (ap (λ (x : Result Report Refusal). status_of (report_of x)) h.none_left))
  of_command new r judged (inr (inl h)) = absurd (judged.memory (ap (λ (x : Result Report Refusal). status_of (report_of x)) h.1))
  of_command new r judged (inr (inr h)) = h

  pub alike : (new other : OutsideView) (before after first last : SinkView) (status again : ℕ) → Runs command old new before after status → Runs command old other first last again → IsJudged status → IsJudged again
      → AreAlike before after status first last again ⊎ HashesCollision command old.inputs
  alike new other before after first last status again a b judged also =
      let x = judged_of (report_of a.result) before after status a.tells judged in
      let y = judged_of (report_of b.result) first last again b.tells also in
      let jr : Judged a.result = subst IsJudged x.0 judged in
      let js : Judged b.result = subst IsJudged y.0 also in
      elim (command_alike command new other a.result b.result refl jr js (of_command new a.result jr a.answers) (of_command other b.result js b.answers)) [
        | inl e ↦
            let same : report_of b.result ≡ report_of a.result = ap (λ (r : Result Report Refusal). report_of r) (sym e) in
            inl (record {
              report = report_of a.result;
              status_is = x.0;
              again_is = y.0 ∙ ap status_of same;
              writes = x.1;
              writes_again = subst (λ (report : Report). Writes report first last) same y.1;
            })
        | inr c ↦ inr c
      ]
