-- What the logs have of a generation, as one event more comes in.
use Rattle.std.proofs.Common.{◌≡◌, ◌≢◌, ℕ, zero, suc, ◌+◌, ◌<◌, ◌==◌, ◌&&◌, ◌||◌, Bool, true, false, cond, List, [], ◌∷◌, ◌++◌, Option, Some, None, inl, inr, refl, sym, ap, ◌∙◌, subst, slice_index_or, get_or, length, take, replicate, Contains, All, eq-eqb, arith}
use Rattle.std.specs.Prelude.{bytes_eq, is_some, unwrap_or}
use Rattle.std.specs.Ordering.{is_eq}
use Rattle.sha2.specs.Sha256.{sha256}
use Rattle.std.proofs.Math.Bool.{or-false, or-true, and-true, and-false}
use Rattle.std.proofs.lemmas.Bool.{cases_Bool, eqb-true, true≢false}
use Rattle.std.proofs.lemmas.List.{get_or-replicate, take_more}
use Rattle.std.proofs.lemmas.List.Elements.{All-head, All-tail, Contains-push_cases}
use Rattle.std.proofs.lemmas.Map.Text.{is_eq-slice_cmp}
use Rattle.std.proofs.lemmas.Slice.Eq.{bytes_eq-Decides}
use Rattle.std.specs.Option.{option_or}
use Rattle.ms_base.specs.declared.limits.TheConstants.{SERVICES}
use Rattle.ms_base.specs.declared.names.Name.{Name}
use Rattle.ms_world.specs.declared.puts.Found.{Found}
use Rattle.ms_world.specs.PutTexts.{ArePutsNamed, text_put, text_put_by, text_of_puts}
use Rattle.ms_world.specs.Puts.{PutsView, AddsTexts, Knows, found_at, text_found, is_on, text_under}
use Rattle.ms_base.specs.Options.{both}
use Rattle.ms_base.specs.Places.{some_same, in_none, in_cases, in_here, in_later}
use Rattle.ms_object.specs.Stores.{name_cmp}
use Rattle.ms_record.specs.declared.log.LogEvent.{LogEvent}
use Rattle.ms_record.specs.declared.log.LogEvent.TheVariants.{Rec, Put, Drop}
use Rattle.ms_record.specs.Logs.{HasPut}

-- ---- the first of some

or_none : (o : Option (List ℕ)) → option_or o None ≡ o
or_none None = refl
or_none (Some text) = refl

or_assoc : (a b c : Option (List ℕ)) → option_or (option_or a b) c ≡ option_or a (option_or b c)
or_assoc None b c = refl
or_assoc (Some text) b c = refl

some_or : (a b : Option (List ℕ)) → is_some (option_or a b) ≡ (is_some a || is_some b)
some_or None b = refl
some_or (Some text) b = refl

text_put_push : (g : ℕ) (name : Name) (log : List LogEvent) (e : LogEvent) → text_put g name (log ++ e ∷ []) ≡ option_or (text_put g name log) (text_put_by g name e)
text_put_push g name [] e = or_none (text_put_by g name e)
text_put_push g name (x ∷ log) e = ap (option_or (text_put_by g name x)) (text_put_push g name log e) ∙ sym (or_assoc (text_put_by g name x) (text_put g name log) (text_put_by g name e))

text_of_puts_push : (logs : List (List LogEvent)) (log : List LogEvent) (g : ℕ) (name : Name) → text_of_puts (logs ++ log ∷ []) g name ≡ option_or (text_of_puts logs g name) (text_put g name log)
text_of_puts_push [] log g name = or_none (text_put g name log)
text_of_puts_push (x ∷ logs) log g name = ap (option_or (text_put g name x)) (text_of_puts_push logs log g name) ∙ sym (or_assoc (text_put g name x) (text_of_puts logs g name) (text_put g name log))

-- ---- one event more

not_one : (i j : ℕ) → i ≢ j → (i == j) ≡ false
not_one i j n = elim (cases_Bool (i == j)) [ inl t ↦ absurd (n (eqb-true i j t)) | inr f ↦ f ]

same_next : (i j : ℕ) → (suc i == suc j) ≡ (i == j)
same_next i j = elim (cases_Bool (i == j)) [
  | inl t ↦ eq-eqb (suc i) (suc j) (ap suc (eqb-true i j t)) ∙ sym t
  | inr f ↦ not_one (suc i) (suc j) (λ h. true≢false (sym (eq-eqb i j (omega (arith, h))) ∙ f)) ∙ sym f
]

no_event : (logs : List (List LogEvent)) (s : ℕ) → slice_index_or (logs ++ [] ∷ []) s [] ≡ slice_index_or logs s []
no_event [] zero = refl
no_event [] (suc s) = refl
no_event (x ∷ logs) zero = refl
no_event (x ∷ logs) (suc s) = no_event logs s

pub knows_begin : (logs : List (List LogEvent)) (g : ℕ) (puts : PutsView) → Knows logs g puts → Knows (logs ++ [] ∷ []) g puts
knows_begin logs g puts k = record {
  texts = λ name. k.texts name ∙ sym (text_of_puts_push logs [] g name ∙ or_none (text_of_puts logs g name));
  services = λ name s few. k.services name s few ∙ ap (λ (log : List LogEvent). is_some (text_put g name log)) (sym (no_event logs s));
}

here_or_not : (g : ℕ) (name : Name) (logs : List (List LogEvent)) (log : List LogEvent) (e : LogEvent) (s : ℕ)
    → (is_some (text_put g name (slice_index_or (logs ++ log ∷ []) s [])) || ((s == length logs) && is_some (text_put_by g name e)))
    ≡ is_some (text_put g name (slice_index_or (logs ++ (log ++ e ∷ []) ∷ []) s []))
here_or_not g name [] log e zero = sym (some_or (text_put g name log) (text_put_by g name e)) ∙ ap is_some (sym (text_put_push g name log e))
here_or_not g name [] log e (suc s) = ap (λ (b : Bool). b && is_some (text_put_by g name e)) (not_one (suc s) zero (λ h. absurd (omega (arith, h))))
here_or_not g name (x ∷ logs) log e zero =
    ap (λ (b : Bool). is_some (text_put g name x) || (b && is_some (text_put_by g name e))) (not_one zero (length (x ∷ logs)) (λ h. absurd (omega (arith, h)))) ∙ or-false (is_some (text_put g name x))
here_or_not g name (x ∷ logs) log e (suc s) =
    ap (λ (b : Bool). is_some (text_put g name (slice_index_or (logs ++ log ∷ []) s [])) || (b && is_some (text_put_by g name e))) (same_next s (length logs)) ∙ here_or_not g name logs log e s

pub knows_more : (logs : List (List LogEvent)) (log : List LogEvent) (e : LogEvent) (g service : ℕ) (old new : PutsView) → length logs ≡ service
    → AddsTexts (λ name. text_put_by g name e) service old new → Knows (logs ++ log ∷ []) g old → Knows (logs ++ (log ++ e ∷ []) ∷ []) g new
knows_more logs log e g service old new at adds k = record {
  texts = λ name. let t = text_put_by g name e in
      adds.texts name ∙ ap (λ (o : Option (List ℕ)). option_or o t) (k.texts name ∙ text_of_puts_push logs log g name)
      ∙ or_assoc (text_of_puts logs g name) (text_put g name log) t
      ∙ ap (option_or (text_of_puts logs g name)) (sym (text_put_push g name log e)) ∙ sym (text_of_puts_push logs (log ++ e ∷ []) g name);
  services = λ name s few. let t = is_some (text_put_by g name e) in
      adds.services name s few ∙ ap (λ (b : Bool). b || ((s == service) && t)) (k.services name s few)
      ∙ ap (λ (n : ℕ). is_some (text_put g name (slice_index_or (logs ++ log ∷ []) s [])) || ((s == n) && t)) (sym at)
      ∙ here_or_not g name logs log e s;
}

-- an event of a log that is read in order
pub knows_next : (logs : List (List LogEvent)) (log : List LogEvent) (i : ℕ) (e : LogEvent) (g service : ℕ) (old new : PutsView) → i < length log → e ≡ get_or log i e → length logs ≡ service
    → AddsTexts (λ name. text_put_by g name e) service old new → Knows (logs ++ take i log ∷ []) g old → Knows (logs ++ take (i + 1) log ∷ []) g new
knows_next logs log i e g service old new below is at adds k =
    let more : take i log ++ e ∷ [] ≡ take (i + 1) log = ap (λ (x : LogEvent). take i log ++ x ∷ []) is ∙ sym (take_more log i e below) in
    subst (λ (l : List LogEvent). Knows (logs ++ l ∷ []) g new) more (knows_more logs (take i log) e g service old new at adds k)

pub knows_none : (g : ℕ) → Knows [] g []
knows_none g = record {
  texts = λ name. refl;
  services = λ name s few. refl;
}

-- ---- one text more under a name

pub first_text : (o : Option Found) (fresh found : Found) (text : List ℕ) → fresh.text.now ≡ text → found ≡ unwrap_or o fresh → Some found.text.now ≡ option_or (text_found o) (Some text)
first_text None fresh found text e h = ap (λ (x : Found). Some x.text.now) h ∙ ap (λ (t : List ℕ). Some t) e
first_text (Some x) fresh found text e h = ap (λ (y : Found). Some y.text.now) h

pub first_marks : (o : Option Found) (fresh found : Found) → fresh.services ≡ replicate SERVICES false → found ≡ unwrap_or o fresh → (s : ℕ) → s < SERVICES → slice_index_or found.services s false ≡ is_on o s
first_marks None fresh found e h s few = ap (λ (x : Found). slice_index_or x.services s false) h ∙ ap (λ (l : List Bool). slice_index_or l s false) e ∙ get_or-replicate SERVICES s false false few
first_marks (Some x) fresh found e h s few = ap (λ (y : Found). slice_index_or y.services s false) h

pub name_is : (a b : Name) → bytes_eq a.0 b.0 ≡ true → a ≡ b
name_is a b e = let is = (bytes_eq-Decides a.0 b.0).0 e in λ i. record { 0 = is i }

pub text_added : (old new : PutsView) (name : Name) (text : List ℕ) (service : ℕ) (found : Found) → Some found.text.now ≡ option_or (text_found (found_at old name)) (Some text)
    → ((s : ℕ) → s < SERVICES → slice_index_or found.services s false ≡ (is_on (found_at old name) s || (s == service)))
    → ((q : Name) → found_at new q ≡ cond (is_eq (name_cmp name q)) (Some found) (found_at old q)) → AddsTexts (text_under name text) service old new
text_added old new name text service found first marks is = record {
  texts = λ q. ap text_found (now_at q) ∙ text_at q (bytes_eq name.0 q.0) refl;
  services = λ q s few. ap (λ (o : Option Found). is_on o s) (now_at q) ∙ mark_at q s few (bytes_eq name.0 q.0) refl;
}
  where
    now_at : (q : Name) → found_at new q ≡ cond (bytes_eq name.0 q.0) (Some found) (found_at old q)
    now_at q = is q ∙ ap (λ (b : Bool). cond b (Some found) (found_at old q)) (is_eq-slice_cmp name.0 q.0)

    text_at : (q : Name) (b : Bool) → bytes_eq name.0 q.0 ≡ b → text_found (cond b (Some found) (found_at old q)) ≡ option_or (text_found (found_at old q)) (cond b (Some text) None)
    text_at q true e = first ∙ ap (λ (n : Name). option_or (text_found (found_at old n)) (Some text)) (name_is name q e)
    text_at q false e = sym (or_none (text_found (found_at old q)))

    mark_at : (q : Name) (s : ℕ) → s < SERVICES → (b : Bool) → bytes_eq name.0 q.0 ≡ b
        → is_on (cond b (Some found) (found_at old q)) s ≡ (is_on (found_at old q) s || ((s == service) && is_some (cond b (Some text) None)))
    mark_at q s few true e =
        marks s few ∙ ap (λ (n : Name). is_on (found_at old n) s || (s == service)) (name_is name q e) ∙ ap (λ (b : Bool). is_on (found_at old q) s || b) (sym (and-true (s == service)))
    mark_at q s few false e = sym (ap (λ (b : Bool). is_on (found_at old q) s || b) (and-false (s == service)) ∙ or-false (is_on (found_at old q) s))

put_given : (g : ℕ) (x : Name) (text : List ℕ) (name : Name) → text_under x text name ≡ text_put_by g name (Put g x text)
put_given g x text name = ap (λ (b : Bool). cond (b && bytes_eq x.0 name.0) (Some text) None) (sym (eq-eqb g g refl))

-- ---- what is known of a log

one_put : (h g : ℕ) (x name : Name) (t text : List ℕ) → h ≡ g → x ≡ name → Some t ≡ Some text → Put h x t ≡ Put g name text
one_put h g x name t text a b e = let is = some_same t text e in λ i. Put (a i) (b i) (is i)

pub put_from_text : (g : ℕ) (name : Name) (log : List LogEvent) (text : List ℕ) → text_put g name log ≡ Some text → Contains log (Put g name text)
put_from_text g name [] text e = cc
put_from_text g name (Rec list record_text ∷ log) text e = in_later (Rec list record_text) log (Put g name text) (put_from_text g name log text e)
put_from_text g name (Drop floor ∷ log) text e = in_later (Drop floor) log (Put g name text) (put_from_text g name log text e)
put_from_text g name (Put h x t ∷ log) text e = by ((h == g) && bytes_eq x.0 name.0) refl (put_from_text g name log text) e
  where
    by : (b : Bool) → ((h == g) && bytes_eq x.0 name.0) ≡ b → (text_put g name log ≡ Some text → Contains log (Put g name text))
        → option_or (cond b (Some t) None) (text_put g name log) ≡ Some text → Contains (Put h x t ∷ log) (Put g name text)
    by true is later e = let same = both (h == g) (bytes_eq x.0 name.0) is in
        subst (λ (p : LogEvent). Contains (Put h x t ∷ log) p) (one_put h g x name t text (eqb-true h g same.0) (name_is x name same.1) e) (in_here (Put h x t) log)
    by false is later e = in_later (Put h x t) log (Put g name text) (later e)

put_is_found : (g : ℕ) (name : Name) (text : List ℕ) → text_put_by g name (Put g name text) ≡ Some text
put_is_found g name text = sym (put_given g name text name) ∙ ap (λ (b : Bool). cond b (Some text) None) ((bytes_eq-Decides name.0 name.0).1 refl)

pub text_from_put : (g : ℕ) (name : Name) (log : List LogEvent) (text : List ℕ) → Contains log (Put g name text) → is_some (text_put g name log) ≡ true
text_from_put g name [] text h = absurd (in_none (Put g name text) h)
text_from_put g name (x ∷ log) text h =
    some_or (text_put_by g name x) (text_put g name log) ∙ elim (in_cases x log (Put g name text) h) [
      | inl e ↦ ap (λ (o : Option (List ℕ)). is_some o || is_some (text_put g name log)) (ap (text_put_by g name) e ∙ put_is_found g name text)
      | inr later ↦ ap (λ (b : Bool). is_some (text_put_by g name x) || b) (text_from_put g name log text later) ∙ or-true (is_some (text_put_by g name x))
    ]

some_is : (o : Option (List ℕ)) → is_some o ≡ true → (text : List ℕ) × (o ≡ Some text)
some_is None e = cc
some_is (Some text) e = (text, refl)

-- a log has a first text of a name where it has a put of it
pub put_where_text : (g : ℕ) (name : Name) (log : List LogEvent) → is_some (text_put g name log) ≡ true → HasPut log g name
put_where_text g name log e = let is = some_is (text_put g name log) e in (is.0, put_from_text g name log is.0 is.1)

-- the first text of a name stands under its SHA-256
pub text_is_named : (logs : List (List LogEvent)) (g : ℕ) (name : Name) (text : List ℕ) → All ArePutsNamed logs → text_of_puts logs g name ≡ Some text → name.0 ≡ sha256 text
text_is_named [] g name text named e = cc
text_is_named (log ∷ logs) g name text named e = by (text_put g name log) refl (text_is_named logs g name text (All-tail ArePutsNamed log logs named)) e
  where
    by : (o : Option (List ℕ)) → text_put g name log ≡ o → (text_of_puts logs g name ≡ Some text → name.0 ≡ sha256 text) → option_or o (text_of_puts logs g name) ≡ Some text → name.0 ≡ sha256 text
    by None is later e = later e
    by (Some t) is later e = All-head ArePutsNamed log logs named g name text (put_from_text g name log text (is ∙ e))

-- one text more under its SHA-256
pub named_more : (log : List LogEvent) (g : ℕ) (name : Name) (text : List ℕ) → name.0 ≡ sha256 text → ArePutsNamed log → ArePutsNamed (log ++ Put g name text ∷ [])
named_more log g name text is named h x t there = elim (Contains-push_cases log (Put g name text) (Put h x t) there) [
  | inl old ↦ named h x t old
  | inr new ↦ put_named g h name x text t new is
]
  where
    put_named : (g h : ℕ) (name x : Name) (text t : List ℕ) → Put g name text ≡ Put h x t → name.0 ≡ sha256 text → x.0 ≡ sha256 t
    put_named g h name x text t e is = let a : name ≡ x = cc in let b : text ≡ t = cc in ap (λ (n : Name). n.0) (sym a) ∙ is ∙ ap sha256 b
