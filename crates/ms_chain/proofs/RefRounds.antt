-- Rounds of refs, one service after another.
use Rattle.std.proofs.Common.{◌≡◌, ℕ, zero, suc, ◌+◌, ◌<◌, ◌≤◌, ◌==◌, Bool, true, false, List, [], ◌∷◌, ◌++◌, Option, Some, None, Result, Ok, Err, ◌⊎◌, inl, inr, refl, sym, ap, ◌∙◌, subst, slice_get, length, length-append, append_assoc, count_by, arith, Contains, eq-eqb}
use mathlib.Core.List.{IsPrefix}
use Rattle.std.specs.List.{list_any}
use Rattle.std.specs.Prelude.{IsSomeAnd}
use Rattle.std.proofs.lemmas.Bool.{cases_lt}
use Rattle.std.proofs.lemmas.List.{append-nil}
use Rattle.std.proofs.lemmas.List.Elements.{Contains-append_left, Contains-append_right, filter_map-append}
use Rattle.std.proofs.lemmas.Map.Keys.{any_passes_from_place}
use Rattle.std.proofs.lemmas.Option.{slice_get_within}
use Rattle.ms_base.specs.CountLaws.{count_known}
use Rattle.ms_base.specs.Places.{contains_at, in_none, some_or_past}
use Rattle.ms_base.specs.declared.bytes.NoMemory.{NoMemory}
use Rattle.ms_base.specs.declared.names.ServiceId.{ServiceId}
use Rattle.ms_core.specs.Views.{log_in}
use Rattle.ms_ken.specs.Prefixes.{prefix_self, prefix_trans}
use Rattle.ms_link.specs.Composing.{added_text, learns_on, learns_self}
use Rattle.ms_link.specs.Links.{LinkView, Learns as PassLearns}
use Rattle.ms_local.specs.Calls.{AppendsNoted, DeskCalls, ListsNoted}
use Rattle.ms_local.specs.declared.deed.Deed.{Deed}
use Rattle.ms_local.specs.declared.deed.Deed.TheVariants.{Appended, Listed}
use Rattle.ms_local.specs.declared.deed.Message.{Message}
use Rattle.ms_local.specs.declared.deed.Message.TheVariants.{Ref}
use Rattle.ms_local.specs.Desks.{DeskView, IsDesk, KnowsTold, LanesStay, with_deed}
use Rattle.ms_record.specs.declared.log.ListId.{ListId}
use Rattle.ms_record.specs.declared.mark.RefMark.{RefMark}
use Rattle.ms_record.specs.declared.setting.Setting.{Setting}
use Rattle.ms_record.specs.Logs.{texts_in}
use Rattle.ms_record.specs.Marks.{mark_at, mark_text}
use Rattle.ms_record.specs.Voters.{voter_below}
use Rattle.ms_record.specs.Votes.{services_below}
use Rattle.ms_chain.specs.Readings.{DeskGoes}
use Rattle.ms_chain.specs.Refs.{IsFirstGreatest, IsLook, IsRound, IsUnanswered, IsWrite, KnownByMost, Looks, LooksAll, LooksOne, HasFailed, TellsOn, Writes, WritesOne, marks_from, marks_of, ref_texts}
use Rattle.ms_chain.proofs.Faults.{fault_before, fault_on}
use Rattle.ms_chain.proofs.Marking.{at_most}
use Rattle.ms_chain.proofs.Rounds.{each_more, failed_no, failed_yes, none_failed}
use Rattle.ms_chain.proofs.Telling.{TextsOn}

prefix_in : (xs ys : List (List ℕ)) (text : List ℕ) → IsPrefix xs ys → Contains xs text → Contains ys text
prefix_in xs ys text p h = subst (λ (l : List (List ℕ)). Contains l text) p.1 (Contains-append_left xs p.0 text h)

-- ---- rounds

pub round_start : (P : ℕ → Deed → Type 0) (desk : DeskView) → IsRound P desk desk 0 []
round_start P desk = record { more = []; noted = sym (append-nil desk.deeds); all = refl; each = λ s d got. absurd cc; failed_are = none_failed IsUnanswered }

-- nothing more was noted
pub round_same : (P Q : ℕ → Deed → Type 0) (first now new : DeskView) (n : ℕ) (failed : List ℕ) → ((s : ℕ) (d : Deed) → s < n → P s d → Q s d) → new.deeds ≡ now.deeds → IsRound P first now n failed → IsRound Q first new n failed
round_same P Q first now new n failed on same h = record {
  more = h.more;
  noted = same ∙ h.noted;
  all = h.all;
  each = λ s d got. on s d (omega (arith, slice_get_within h.more s d got, h.all)) (h.each s d got);
  failed_are = h.failed_are;
}

module _ (P Q : ℕ → Deed → Type 0) (first now new : DeskView) (n : ℕ) (failed : List ℕ) (deed : Deed) (h : IsRound P first now n failed) (is : new.deeds ≡ now.deeds ++ deed ∷ [])
    (on : (s : ℕ) (d : Deed) → s < n → P s d → Q s d) (last : Q n deed) where
  more_noted : new.deeds ≡ first.deeds ++ (h.more ++ deed ∷ [])
  more_noted = is ∙ (ap (λ (xs : List Deed). xs ++ deed ∷ []) h.noted ∙ append_assoc first.deeds h.more (deed ∷ []))

  more_all : length (h.more ++ deed ∷ []) ≡ n + 1
  more_all = length-append h.more (deed ∷ []) ∙ ap (λ (k : ℕ). k + 1) h.all

  pub round_failed : IsUnanswered deed → IsRound Q first new (n + 1) (failed ++ n ∷ [])
  round_failed f = record {
    more = h.more ++ deed ∷ [];
    noted = more_noted;
    all = more_all;
    each = each_more P Q h.more n deed h.all h.each on last;
    failed_are = failed_yes IsUnanswered h.more deed n failed f h.all h.failed_are;
  }

  pub round_came : (IsUnanswered deed → ⊥) → IsRound Q first new (n + 1) failed
  round_came f = record {
    more = h.more ++ deed ∷ [];
    noted = more_noted;
    all = more_all;
    each = each_more P Q h.more n deed h.all h.each on last;
    failed_are = failed_no IsUnanswered h.more deed failed f h.failed_are;
  }

-- ---- from service to service

abbrev pub LanesOn : Type 0
LanesOn = (old mid new : List (List LinkView)) → LanesStay old mid → LanesStay mid new → LanesStay old new

pub goes_self : (desk : DeskView) → LanesStay desk.lanes desk.lanes → DeskGoes desk desk
goes_self desk lanes = record { same = refl; pass = learns_self desk.pass; lanes = lanes }

goes_on : (a b c : DeskView) → LanesOn → DeskGoes a b → DeskGoes b c → DeskGoes a c
goes_on a b c lanes h k = record {
  same = k.same ∙ ap (λ (d : DeskView). record d { pass = c.pass; lanes = c.lanes; deeds = c.deeds }) h.same;
  pass = learns_on a.pass b.pass c.pass h.pass k.pass;
  lanes = lanes a.lanes b.lanes c.lanes h.lanes k.lanes;
}

-- what the desk knew at first it knows now, and then
pub record Onward (first now new : DeskView) : Type 0 where
  pub before : LanesStay first.lanes now.lanes
  pub behind : LanesStay now.lanes new.lanes
  pub client : now.client ≡ first.client
  pub told : TellsOn first now
  pub earlier : (s list : ℕ) → IsPrefix (texts_in list (log_in first.pass.lists s)) (texts_in list (log_in now.pass.lists s))
  pub later : (s list : ℕ) → IsPrefix (texts_in list (log_in now.pass.lists s)) (texts_in list (log_in new.pass.lists s))

onward : (first now new : DeskView) → TextsOn → DeskGoes first now → TellsOn first now → DeskGoes now new → Onward first now new
onward first now new texts h told k = record {
  before = h.lanes;
  behind = k.lanes;
  client = ap (λ (d : DeskView). d.client) h.same;
  told = told;
  earlier = λ s list. texts first.pass.lists now.pass.lists s list h.pass.more;
  later = λ s list. texts now.pass.lists new.pass.lists s list k.pass.more;
}

below_more : (failed : List ℕ) (n : ℕ) → ((s : ℕ) → Contains failed s → s < n) → (s : ℕ) → Contains failed s → s < n + 1
below_more failed n h s c = (let lt = h s c in omega (arith, lt))

below_next : (failed : List ℕ) (n : ℕ) → ((s : ℕ) → Contains failed s → s < n) → (s : ℕ) → Contains (failed ++ n ∷ []) s → s < n + 1
below_next failed n h s c = by failed n h s c where
  by : (failed : List ℕ) (n : ℕ) → ((s : ℕ) → Contains failed s → s < n) → (s : ℕ) → Contains (failed ++ n ∷ []) s → s < n + 1
  by [] n h s (zero, lt, e) = let same : n ≡ s = e in omega (arith, same)
  by [] n h s (suc k, lt, e) = absurd (omega (arith, lt))
  by (x ∷ xs) n h s (zero, lt, e) = (let l = h s (zero, omega arith, e) in omega (arith, l))
  by (x ∷ xs) n h s (suc k, lt, e) = by xs n (λ t c. h t (suc c.0, omega (arith, c.1), c.2)) s (k, omega (arith, lt), e)

-- ---- writing

module _ (first now new : DeskView) (o : Onward first now new) (mark : RefMark) where
  write_on : (s : ℕ) (d : Deed) → IsWrite first now mark s d → IsWrite first new mark s d
  write_on s (Appended service list (Ref text) true) h = (
    h.0,
    h.1,
    h.2,
    λ setting told. prefix_in (ref_texts now first.client s) (ref_texts new first.client s) text (o.later s (1 + first.client)) (h.3 setting told),
  )
  write_on s (Appended service list (Ref text) false) h = (h.0, h.1, h.2, fault_on first now new s o.behind h.3)
  write_on s d h = absurd h

  write_last : (s : ℕ) (d : Deed) → IsWrite now new mark s d → IsWrite first new mark s d
  write_last s (Appended service list (Ref text) true) h = (
    h.0,
    h.1 ∙ ap (λ (c : ℕ). 1 + c) o.client,
    h.2,
    λ setting told. subst (λ (c : ℕ). Contains (ref_texts new c s) text) o.client (h.3 setting (o.told setting told)),
  )
  write_last s (Appended service list (Ref text) false) h = (h.0, h.1 ∙ ap (λ (c : ℕ). 1 + c) o.client, h.2, fault_before first now new s o.before h.3)
  write_last s d h = absurd h

-- a round of writing goes on
pub record WritesOn (first now : DeskView) (mark : RefMark) (n : ℕ) (failed : List ℕ) : Type 0 where
  pub desk : IsDesk now
  pub goes : DeskGoes first now
  pub told : TellsOn first now
  pub writes : Writes first now mark n failed
  pub below : (s : ℕ) → Contains failed s → s < n

pub writes_start : (first : DeskView) (mark : RefMark) → IsDesk first → LanesStay first.lanes first.lanes → WritesOn first first mark 0 []
writes_start first mark desk lanes = record { desk = desk; goes = goes_self first lanes; told = λ setting h. h; writes = round_start (IsWrite first first mark) first; below = λ s c. absurd (in_none s c) }

module _ (first now new : DeskView) (mark : RefMark) (n : ℕ) (failed : List ℕ) (texts : TextsOn) (lanes : LanesOn) (h : WritesOn first now mark n failed) (desk : IsDesk new) (goes : DeskGoes now new) (told : TellsOn now new) where
  on : Onward first now new
  on = onward first now new texts h.goes h.told goes

  pub writes_failed : WritesOne now new mark n (Ok false) → WritesOn first new mark (n + 1) (failed ++ n ∷ [])
  writes_failed w = record {
    desk = desk;
    goes = goes_on first now new lanes h.goes goes;
    told = λ setting t. told setting (h.told setting t);
    writes = round_failed (IsWrite first now mark) (IsWrite first new mark) first now new n failed w.0 h.writes w.1 (λ s d lt. write_on first now new on mark s d) (write_last first now new on mark n w.0 w.2) (w.3.1 refl);
    below = below_next failed n h.below;
  }

  pub writes_came : WritesOne now new mark n (Ok true) → WritesOn first new mark (n + 1) failed
  writes_came w = record {
    desk = desk;
    goes = goes_on first now new lanes h.goes goes;
    told = λ setting t. told setting (h.told setting t);
    writes = round_came (IsWrite first now mark) (IsWrite first new mark) first now new n failed w.0 h.writes w.1 (λ s d lt. write_on first now new on mark s d) (write_last first now new on mark n w.0 w.2)
        (λ f. let q : true ≡ false = w.3.0 f in cc);
    below = below_more failed n h.below;
  }

  pub writes_halt : new.deeds ≡ now.deeds → (DeskGoes first new) × (Writes first new mark n failed)
  writes_halt same = (goes_on first now new lanes h.goes goes, round_same (IsWrite first now mark) (IsWrite first new mark) first now new n failed (λ s d lt. write_on first now new on mark s d) same h.writes)

-- ---- reading

-- the texts of the services below n, and these of the service n
abbrev pick : {X A B : Type 0} → A ⊎ B → X → X → X
pick (inl a) x y = x
pick (inr b) x y = y

abbrev with_came : (ℕ → List (List ℕ)) → ℕ → List (List ℕ) → ℕ → List (List ℕ)
with_came texts n came s = pick (cases_lt s n) (texts s) came

came_below : (texts : ℕ → List (List ℕ)) (n : ℕ) (came : List (List ℕ)) (s : ℕ) → s < n → with_came texts n came s ≡ texts s
came_below texts n came s lt = by (cases_lt s n) where
  by : (c : (s < n) ⊎ (n ≤ s)) → pick c (texts s) came ≡ texts s
  by (inl l) = refl
  by (inr g) = absurd (omega (arith, lt, g))

came_here : (texts : ℕ → List (List ℕ)) (n : ℕ) (came : List (List ℕ)) → with_came texts n came n ≡ came
came_here texts n came = by (cases_lt n n) where
  by : (c : (n < n) ⊎ (n ≤ n)) → pick c (texts n) came ≡ came
  by (inl l) = absurd (omega (arith, l))
  by (inr g) = refl

marks_same : (texts other : ℕ → List (List ℕ)) (n : ℕ) → ((s : ℕ) → s < n → other s ≡ texts s) → marks_from other n ≡ marks_from texts n
marks_same texts other zero h = refl
marks_same texts other (suc n) h =
    ap (λ (ms : List RefMark). ms ++ marks_of (other n)) (marks_same texts other n (λ s lt. h s (omega (arith, lt)))) ∙ ap (λ (t : List (List ℕ)). marks_from texts n ++ marks_of t) (h n (omega arith))

marks_next : (texts : ℕ → List (List ℕ)) (n : ℕ) (came : List (List ℕ)) → marks_from (with_came texts n came) (n + 1) ≡ marks_from texts n ++ marks_of came
marks_next texts n came =
    ap (marks_from (with_came texts n came)) (let e : n + 1 ≡ suc n = omega arith in e)
    ∙ (ap (λ (ms : List RefMark). ms ++ marks_of (with_came texts n came n)) (marks_same texts (with_came texts n came) n (came_below texts n came))
    ∙ ap (λ (t : List (List ℕ)). marks_from texts n ++ marks_of t) (came_here texts n came))

module _ (first now new : DeskView) (o : Onward first now new) (client : ℕ) where
  look_on : (texts : List (List ℕ)) (s : ℕ) (d : Deed) → IsLook first now client texts s d → IsLook first new client texts s d
  look_on texts s (Listed service list from count true) h = (
    h.0,
    h.1,
    h.2,
    h.3,
    λ setting told. let p = h.4 setting told in (p.0, prefix_trans texts (ref_texts now client s) (ref_texts new client s) p.1 (o.later s (1 + client))),
  )
  look_on texts s (Listed service list from count false) h = (h.0, h.1, h.2, h.3, h.4, fault_on first now new s o.behind h.5)
  look_on texts s d h = absurd h

  look_last : (texts : List (List ℕ)) (s : ℕ) (d : Deed) → IsLook now new client texts s d → IsLook first new client texts s d
  look_last texts s (Listed service list from count true) h = (
    h.0,
    h.1,
    h.2,
    h.3,
    λ setting told. let p = h.4 setting (o.told setting told) in (prefix_trans (ref_texts first client s) (ref_texts now client s) texts (o.earlier s (1 + client)) p.0, p.1),
  )
  look_last texts s (Listed service list from count false) h = (h.0, h.1, h.2, h.3, h.4, fault_before first now new s o.before h.5)
  look_last texts s d h = absurd h

-- a round of reading goes on
pub record LooksOn (first now : DeskView) (client n : ℕ) (failed : List ℕ) (best : Option RefMark) : Type 0 where
  pub desk : IsDesk now
  pub goes : DeskGoes first now
  pub told : TellsOn first now
  pub texts : ℕ → List (List ℕ)
  pub looks : Looks first now client texts n failed
  pub best_is : IsFirstGreatest (marks_from texts n) best
  pub below : (s : ℕ) → Contains failed s → s < n

pub looks_start : (first : DeskView) (client : ℕ) → IsDesk first → LanesStay first.lanes first.lanes → LooksOn first first client 0 [] None
looks_start first client desk lanes = record {
  desk = desk;
  goes = goes_self first lanes;
  told = λ setting h. h;
  texts = λ s. [];
  looks = round_start (λ s. IsLook first first client [] s) first;
  best_is = refl;
  below = λ s c. absurd (in_none s c);
}

module _ (first now new : DeskView) (client n : ℕ) (failed : List ℕ) (best : Option RefMark) (texts : TextsOn) (lanes : LanesOn) (h : LooksOn first now client n failed best) (desk : IsDesk new) (goes : DeskGoes now new)
    (told : TellsOn now new) where
  reading_on : Onward first now new
  reading_on = onward first now new texts h.goes h.told goes

  looks_then : (came : List (List ℕ)) (s : ℕ) (d : Deed) → s < n → IsLook first now client (h.texts s) s d → IsLook first new client (with_came h.texts n came s) s d
  looks_then came s d lt l = subst (λ (t : List (List ℕ)). IsLook first new client t s d) (sym (came_below h.texts n came s lt)) (look_on first now new reading_on client (h.texts s) s d l)

  looks_at : (came : List (List ℕ)) (d : Deed) → IsLook now new client came n d → IsLook first new client (with_came h.texts n came n) n d
  looks_at came d l = subst (λ (t : List (List ℕ)). IsLook first new client t n d) (sym (came_here h.texts n came)) (look_last first now new reading_on client came n d l)

  pub looks_came : (came : List (List ℕ)) (better : Option RefMark) → LooksOne now new client n (Ok (Some came)) → ((before : List RefMark) → IsFirstGreatest before best → IsFirstGreatest (before ++ marks_of came) better)
      → LooksOn first new client (n + 1) failed better
  looks_came came better w is = record {
    desk = desk;
    goes = goes_on first now new lanes h.goes goes;
    told = λ setting t. told setting (h.told setting t);
    texts = with_came h.texts n came;
    looks = round_came (λ s. IsLook first now client (h.texts s) s) (λ s. IsLook first new client (with_came h.texts n came s) s) first now new n failed w.0 h.looks w.1 (looks_then came) (looks_at came w.0 w.2) w.3;
    best_is = subst (λ (ms : List RefMark). IsFirstGreatest ms better) (sym (marks_next h.texts n came)) (is (marks_from h.texts n) h.best_is);
    below = below_more failed n h.below;
  }

  pub looks_failed : LooksOne now new client n (Ok None) → LooksOn first new client (n + 1) (failed ++ n ∷ []) best
  looks_failed w = record {
    desk = desk;
    goes = goes_on first now new lanes h.goes goes;
    told = λ setting t. told setting (h.told setting t);
    texts = with_came h.texts n [];
    looks = round_failed (λ s. IsLook first now client (h.texts s) s) (λ s. IsLook first new client (with_came h.texts n [] s) s) first now new n failed w.0 h.looks w.1 (looks_then []) (looks_at [] w.0 w.2) w.3;
    best_is = subst (λ (ms : List RefMark). IsFirstGreatest ms best) (sym (marks_next h.texts n [] ∙ append-nil (marks_from h.texts n))) h.best_is;
    below = below_next failed n h.below;
  }

  pub looks_halt : new.deeds ≡ now.deeds → (DeskGoes first new) × (Looks first new client h.texts n failed)
  looks_halt same = (
    goes_on first now new lanes h.goes goes,
    round_same (λ s. IsLook first now client (h.texts s) s) (λ s. IsLook first new client (h.texts s) s) first now new n failed (λ s d lt l. look_on first now new reading_on client (h.texts s) s d l) same h.looks,
  )

-- ---- one service

deeds_of : (s : ℕ) (old new : DeskView) (deed : Deed) → DeskCalls s (with_deed old deed) new → new.deeds ≡ old.deeds ++ deed ∷ []
deeds_of s old new deed calls = ap (λ (d : DeskView). d.deeds) calls.same

-- a link that leads to the service
abbrev to_link : DeskView → ℕ → LinkView
to_link desk s = record { board = desk.board; service = s; faults = 0; lists = true; objects = true }

pub appends_learn : (old new : DeskView) (service : ServiceId) (list : ListId) (message : Message) (r : Result Bool NoMemory) → AppendsNoted old new service list message r → PassLearns old.pass new.pass
appends_learn old new service list message (Ok true) h = h.1.pass
appends_learn old new service list message (Ok false) h = h.1.pass
appends_learn old new service list message (Err error) h = h.pass

pub lists_learn : (old new : DeskView) (service : ServiceId) (list : ListId) (from : ℕ) (r : Result (Option (List (List ℕ))) NoMemory) → ListsNoted old new service list from r → PassLearns old.pass new.pass
lists_learn old new service list from (Ok (Some texts)) h = h.1.pass
lists_learn old new service list from (Ok None) h = h.1.pass
lists_learn old new service list from (Err error) h = h.pass

pub wrote : (old new : DeskView) (mark : RefMark) (service : ServiceId) (list : ListId) (text : List ℕ) (r : Result Bool NoMemory) → list.0 ≡ 1 + old.client → text ≡ mark_text mark → AppendsNoted old new service list (Ref text) r
    → WritesOne old new mark service.0 r
wrote old new mark service list text (Ok true) own is h = (
  Appended service list (Ref text) true,
  deeds_of service.0 old new (Appended service list (Ref text) true) h.1,
  (
    refl,
    own,
    is,
    λ setting told.
        let a = h.0 setting told in
        subst (λ (l : ℕ). Contains (texts_in l (log_in new.pass.lists service.0)) text) own
        (added_text (to_link old service.0) old.pass new.pass list text (record { place = a.0; behind = a.1; stands = a.2 })),
  ),
  (λ f. absurd (let q : true ≡ false = f in cc), λ e. e),
)
wrote old new mark service list text (Ok false) own is h =
    (Appended service list (Ref text) false, deeds_of service.0 old new (Appended service list (Ref text) false) h.1, (refl, own, is, h.0), (λ f. refl, λ e. refl))
wrote old new mark service list text (Err error) own is h = ap (λ (d : DeskView). d.deeds) h.same

pub looked : (old new : DeskView) (client : ℕ) (service : ServiceId) (list : ListId) (r : Result (Option (List (List ℕ))) NoMemory) → TextsOn → PassLearns old.pass new.pass → list.0 ≡ 1 + client → ListsNoted old new service list 0 r
    → LooksOne old new client service.0 r
looked old new client service list (Ok (Some texts)) on learns own h = (
  Listed service list 0 (length texts) true,
  deeds_of service.0 old new (Listed service list 0 (length texts) true) h.1,
  (
    refl,
    own,
    refl,
    refl,
    λ setting told.
        let is : texts ≡ ref_texts new client service.0 = h.0 setting told ∙ ap (λ (l : ℕ). texts_in l (log_in new.pass.lists service.0)) own in (
          subst (IsPrefix (ref_texts old client service.0)) (sym is) (on old.pass.lists new.pass.lists service.0 (1 + client) learns.more),
          subst (λ (t : List (List ℕ)). IsPrefix t (ref_texts new client service.0)) (sym is) (prefix_self (ref_texts new client service.0)),
        ),
  ),
  λ f. (let q : true ≡ false = f in cc),
)
looked old new client service list (Ok None) on learns own h =
    (Listed service list 0 0 false, deeds_of service.0 old new (Listed service list 0 0 false) h.1, (refl, own, refl, refl, refl, h.0), refl)
looked old new client service list (Err error) on learns own h = ap (λ (d : DeskView). d.deeds) h.same

-- ---- freshness

mark_in : (texts : ℕ → List (List ℕ)) (n s : ℕ) (mark : RefMark) → s < n → Contains (marks_of (texts s)) mark → Contains (marks_from texts n) mark
mark_in texts zero s mark lt c = absurd (omega (arith, lt))
mark_in texts (suc n) s mark lt c =
    elim (cases_lt s n) [
      | inl l ↦ Contains-append_left (marks_from texts n) (marks_of (texts n)) mark (mark_in texts n s mark l c)
      | inr g ↦ Contains-append_right (marks_from texts n) (marks_of (texts n)) mark (subst (λ (k : ℕ). Contains (marks_of (texts k)) mark) (let e : s ≡ n = omega (arith, lt, g) in e) c)
    ]

marks_grow : (xs ys : List (List ℕ)) (mark : RefMark) → IsPrefix xs ys → Contains (marks_of xs) mark → Contains (marks_of ys) mark
marks_grow xs ys mark p c = subst (λ (l : List (List ℕ)). Contains (marks_of l) mark) p.1 (subst (λ (ms : List RefMark). Contains ms mark) (sym (filter_map-append mark_at xs p.0)) (Contains-append_left (marks_of xs) (marks_of p.0) mark c))

-- more pass the one test than the other: one passes that alone
abbrev OneApart : (ℕ → Bool) → (ℕ → Bool) → List ℕ → Type 0
OneApart p f xs = (s : ℕ) × Contains xs s × (p s ≡ true) × (f s ≡ false)

apart_later : (p f : ℕ → Bool) (x : ℕ) (xs : List ℕ) → OneApart p f xs → OneApart p f (x ∷ xs)
apart_later p f x xs r = (r.0, (suc r.1.0, omega (arith, r.1.1), r.1.2), r.2, r.3)

apart_step : (p f : ℕ → Bool) (x : ℕ) (xs : List ℕ) (a b : Bool) → p x ≡ a → f x ≡ b → (count_by f xs < count_by p xs → OneApart p f xs) → count_by f (x ∷ xs) < count_by p (x ∷ xs) → OneApart p f (x ∷ xs)
apart_step p f x xs true false e g rest h = (x, (zero, omega arith, refl), e, g)
apart_step p f x xs true true e g rest h = apart_later p f x xs (rest (omega (arith, h, count_known p x xs true e, count_known f x xs true g)))
apart_step p f x xs false true e g rest h = apart_later p f x xs (rest (omega (arith, h, count_known p x xs false e, count_known f x xs true g)))
apart_step p f x xs false false e g rest h = apart_later p f x xs (rest (omega (arith, h, count_known p x xs false e, count_known f x xs false g)))

one_apart : (p f : ℕ → Bool) (xs : List ℕ) → count_by f xs < count_by p xs → OneApart p f xs
one_apart p f [] h = absurd (omega (arith, h))
one_apart p f (x ∷ xs) h = apart_step p f x xs (p x) (f x) refl refl (λ l. one_apart p f xs l) h

among : (failed : List ℕ) (v : ℕ) → Contains failed v → list_any (λ s. s == v) failed ≡ true
among failed v c = let a = contains_at failed v c in any_passes_from_place (λ s. s == v) failed a.0 v a.1 (eq-eqb v v refl)

-- a mark that a majority was known to have is no greater than the one that is answered
module _ (first new : DeskView) (client : ℕ) (failed : List ℕ) (best : Option RefMark) (all : LooksAll first new client failed best) (few : HasFailed first failed → ⊥) (setting : Setting) (told : KnowsTold first setting)
    (mark : RefMark) (known : KnownByMost first client mark) where
  someone : (s : ℕ) × Contains (services_below first.services) s × (known.part s ≡ true) × (list_any (λ x. x == s) failed ≡ false)
  someone =
      elim (cases_lt (count_by (λ v. list_any (λ x. x == v) failed) (services_below first.services)) (count_by known.part (services_below first.services))) [
        | inl l ↦ one_apart known.part (λ v. list_any (λ x. x == v) failed) (services_below first.services) l
        | inr g ↦ absurd (few (omega (arith, g, known.majority.more_than_half)))
      ]

  mark_seen : (s : ℕ) (d : Deed) → known.part s ≡ true → IsLook first new client (all.0 s) s d → (IsUnanswered d → ⊥) → Contains (marks_of (all.0 s)) mark
  mark_seen s (Listed service list from count true) part h f = marks_grow (ref_texts first client s) (all.0 s) mark (h.4 setting told).0 (known.has s part)
  mark_seen s (Listed service list from count false) part h f = absurd (f refl)
  mark_seen s d part h f = absurd h

  answered : (s : ℕ) (d : Deed) → slice_get all.1.more s ≡ Some d → list_any (λ x. x == s) failed ≡ false → IsUnanswered d → ⊥
  answered s d got free f = (let q : false ≡ true = sym free ∙ among failed s ((all.1.failed_are s).1 (d, got, f)) in cc)

  came : Contains (marks_from all.0 first.services) mark
  came =
      let w = someone in
      let lt = voter_below first.services w.0 w.1 in
      elim (some_or_past all.1.more w.0) [
        | inl d ↦ mark_in all.0 first.services w.0 mark lt (mark_seen w.0 d.0 w.2 (all.1.each w.0 d.0 d.1) (answered w.0 d.0 d.1 w.3))
        | inr past ↦ absurd (omega (arith, lt, past, all.1.all))
      ]

  pub fresh : IsSomeAnd best (λ (o : RefMark). mark.number ≤ o.number)
  fresh = by best all.2 where
    by : (o : Option RefMark) → IsFirstGreatest (marks_from all.0 first.services) o → IsSomeAnd o (λ (b : RefMark). mark.number ≤ b.number)
    by None is = absurd (in_none mark (subst (λ (ms : List RefMark). Contains ms mark) is came))
    by (Some b) is = at_most (marks_from all.0 first.services) b mark is came
