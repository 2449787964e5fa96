-- What is read of a line has one JSON value.
use Rattle.std.proofs.Common.{◌≡◌, ℕ, ◌<◌, List, Option, Some, None, option_and_then, refl, ap, ◌∙◌, subst, eqb-true, arith}
use Rattle.std.specs.Prelude.{◌&&◌, ◌==◌, codes}
use Rattle.std.specs.Str.{is_utf8}
use Rattle.json.specs.Json as json
use Rattle.json.specs.Lex.{tokens}
use Rattle.ms_base.specs.Places.{some_same}
use Rattle.ms_base.specs.Options.{◌>>=◌, both}
use Rattle.serde_json.specs.Data.{unsigned, negative, float, Data, null, boolean, number, string, array, object, Members, no_members, member}
use Rattle.serde_json.specs.Events.{members_len}
use Rattle.serde_json.specs.Find.{get, as_number, as_str, as_u64}
use Rattle.serde_json.specs.Read.{max_depth, of_json, read}
use Rattle.ms_plan.specs.ConfigLines.{HasLabel, client_in, data_of, first_of, head_in, json_of, key_count, label_in, line_at, line_in, number_in, service_in}
use Rattle.ms_text.specs.Labels.{IsClientLabel, is_label, label_if}
use Rattle.ms_plan.specs.declared.config_line.Line.{Line}
use Rattle.ms_plan.specs.declared.config_line.Line.TheVariants as forms
use Rattle.ms_plan.specs.declared.config_line.ServiceLine.{ServiceLine}
use Rattle.ms_plan.proofs.Keys.{Found, Rise, all_found, rise_object}
use Rattle.ms_text.specs.LabelLaws.{label_keeps, label_passes}
use Rattle.ms_plan.proofs.Tests.{where_true}

-- ---- from the value to the line

spelled : (line : Line) → HasLabel line → line_in (data_of line) ≡ Some line
unfolding head_in service_in client_in
spelled (forms.Head replicas unit) h = refl
spelled (forms.Service service) h = rw (label_keeps service.label h) refl
spelled (forms.Client label) h = rw (label_keeps label h) refl

pub read_again : (text : List ℕ) (line : Line) → HasLabel line → json_of text ≡ Some (data_of line) → line_at text ≡ Some line
read_again text line h e = ap (option_and_then line_in) e ∙ spelled line h

-- ---- from the line to the value

then_some : {A B : Type 0} (o : Option A) (f : A → Option B) (b : B) → (o >>= f) ≡ Some b → (a : A) × (o ≡ Some a) × (f a ≡ Some b)
then_some None f b e = absurd (cc)
then_some (Some a) f b e = (a, refl, e)

and_some : {A B : Type 0} (f : A → Option B) (o : Option A) (b : B) → option_and_then f o ≡ Some b → (a : A) × (o ≡ Some a) × (f a ≡ Some b)
and_some f None b e = absurd (cc)
and_some f (Some a) b e = (a, refl, e)

number_there : (o : Option Data) (n : ℕ) → option_and_then as_u64 (option_and_then as_number o) ≡ Some n → o ≡ Some (number (unsigned n))
number_there None n e = absurd (cc)
number_there (Some null) n e = absurd (cc)
number_there (Some (boolean b)) n e = absurd (cc)
number_there (Some (number (unsigned m))) n e = ap (λ (k : ℕ). Some (number (unsigned k))) (some_same m n e)
number_there (Some (number (negative z))) n e = absurd (cc)
number_there (Some (number (float x))) n e = absurd (cc)
number_there (Some (string s)) n e = absurd (cc)
number_there (Some (array ds)) n e = absurd (cc)
number_there (Some (object ms)) n e = absurd (cc)

text_there : (o : Option Data) (s : List ℕ) → option_and_then as_str o ≡ Some s → o ≡ Some (string s)
text_there None s e = absurd (cc)
text_there (Some null) s e = absurd (cc)
text_there (Some (boolean b)) s e = absurd (cc)
text_there (Some (number n)) s e = absurd (cc)
text_there (Some (string t)) s e = ap (λ (x : List ℕ). Some (string x)) (some_same t s e)
text_there (Some (array ds)) s e = absurd (cc)
text_there (Some (object ms)) s e = absurd (cc)

label_there : (o : Option Data) (l : List ℕ) → option_and_then label_if (option_and_then as_str o) ≡ Some l → (o ≡ Some (string l)) × IsClientLabel l
label_there o l e =
    let s = and_some label_if (option_and_then as_str o) l e in
    let t = where_true (is_label s.0) (Some s.0) l s.2 in
    let same : s.0 ≡ l = some_same s.0 l t.1 in
    (text_there o l (s.1 ∙ ap (λ (x : List ℕ). Some x) same), subst IsClientLabel same (label_passes s.0 t.0))

-- each of these is a value of it
FoundAt : Members → Data → Type 0
FoundAt no_members d = Unit {0}
FoundAt (member m a wanted) d = (get m d ≡ Some a) × FoundAt wanted d

found_in : (wanted ms : Members) → FoundAt wanted (object ms) → Found wanted ms
unfolding FoundAt
found_in no_members ms h = tt
found_in (member m a wanted) ms h = (h.0, found_in wanted ms h.1)

-- a value that was read, with so many keys and these values, is that object
is_that : (j : json.Json) (d : Data) (wanted : Members) → of_json j ≡ Some d → 0 < members_len wanted → key_count d ≡ members_len wanted → Rise wanted → FoundAt wanted d → d ≡ object wanted
is_that j null wanted e some count r h = absurd (omega arith)
is_that j (boolean b) wanted e some count r h = absurd (omega arith)
is_that j (number n) wanted e some count r h = absurd (omega arith)
is_that j (string s) wanted e some count r h = absurd (omega arith)
is_that j (array ds) wanted e some count r h = absurd (omega arith)
is_that j (object ms) wanted e some count r h = ap object (all_found ms wanted r (rise_object j ms e) (found_in wanted ms h) count)

-- a line that is read, with its value
IsSaid : Data → Line → Type 0
IsSaid d line = HasLabel line × (d ≡ data_of line)

head_said : (j : json.Json) (d : Data) (line : Line) → of_json j ≡ Some d → head_in d ≡ Some line → IsSaid d line
unfolding head_in IsSaid FoundAt
head_said j d line e h =
    let v = then_some (number_in d (codes "metasync")) _ line h in
    let r = then_some (number_in d (codes "replicas")) _ line v.2 in
    let u = then_some (number_in d (codes "unit")) _ line r.2 in
    let t = where_true ((key_count d == 3) && (v.0 == 1)) (Some (forms.Head r.0 u.0)) line u.2 in
    let b = both (key_count d == 3) (v.0 == 1) t.0 in
    let one : v.0 ≡ 1 = eqb-true v.0 1 b.1 in
    let same : forms.Head r.0 u.0 ≡ line = some_same (forms.Head r.0 u.0) line t.1 in
    let wanted : Members = member (codes "metasync") (number (unsigned 1)) (member (codes "replicas") (number (unsigned r.0)) (member (codes "unit") (number (unsigned u.0)) no_members)) in
    let said : d ≡ object wanted = is_that j d wanted e (omega arith) (eqb-true (key_count d) 3 b.0) (((refl, (refl, tt)), ((refl, tt), (tt, tt))))
    (number_there (get (codes "metasync") d) 1 (v.1 ∙ ap (λ (n : ℕ). Some n) one), (number_there (get (codes "replicas") d) r.0 r.1, (number_there (get (codes "unit") d) u.0 u.1, tt))) in
    subst (λ (l : Line). HasLabel l × (d ≡ data_of l)) same (tt, said)

service_said : (j : json.Json) (d : Data) (line : Line) → of_json j ≡ Some d → service_in d ≡ Some line → IsSaid d line
unfolding service_in IsSaid FoundAt
service_said j d line e h =
    let l = then_some (label_in d (codes "service")) _ line h in
    let c = then_some (number_in d (codes "capacity")) _ line l.2 in
    let service : ServiceLine = record { label = l.0; capacity = c.0 } in
    let t = where_true (key_count d == 2) (Some (forms.Service service)) line c.2 in
    let same : forms.Service service ≡ line = some_same (forms.Service service) line t.1 in
    let label = label_there (get (codes "service") d) l.0 l.1 in
    let wanted : Members = member (codes "capacity") (number (unsigned c.0)) (member (codes "service") (string l.0) no_members) in
    let said : d ≡ object wanted = is_that j d wanted e (omega arith) (eqb-true (key_count d) 2 t.0) (((refl, tt), (tt, tt)))
    (number_there (get (codes "capacity") d) c.0 c.1, (label.0, tt)) in
    subst (λ (l : Line). HasLabel l × (d ≡ data_of l)) same (label.1, said)

client_said : (j : json.Json) (d : Data) (line : Line) → of_json j ≡ Some d → client_in d ≡ Some line → IsSaid d line
unfolding client_in IsSaid FoundAt
client_said j d line e h =
    let l = then_some (label_in d (codes "client")) _ line h in
    let t = where_true (key_count d == 1) (Some (forms.Client l.0)) line l.2 in
    let same : forms.Client l.0 ≡ line = some_same (forms.Client l.0) line t.1 in
    let label = label_there (get (codes "client") d) l.0 l.1 in
    let wanted : Members = member (codes "client") (string l.0) no_members in
    let said : d ≡ object wanted = is_that j d wanted e (omega arith) (eqb-true (key_count d) 1 t.0) ((tt, tt)) (label.0, tt) in
    subst (λ (l : Line). HasLabel l × (d ≡ data_of l)) same (label.1, said)

either : (a b : Option Line) (line : Line) (P : Type 0) → (a ≡ Some line → P) → (b ≡ Some line → P) → first_of a b ≡ Some line → P
either None b line P f g e = g e
either (Some a) b line P f g e = f e

said_of : (j : json.Json) (d : Data) (line : Line) → of_json j ≡ Some d → line_in d ≡ Some line → IsSaid d line
said_of j d line e h =
    either (head_in d) (first_of (service_in d) (client_in d)) line (IsSaid d line) (head_said j d line e)
    (λ k. either (service_in d) (client_in d) line (IsSaid d line) (service_said j d line e) (client_said j d line e) k) h

pub one_value : (text : List ℕ) (line : Line) → line_at text ≡ Some line → HasLabel line × (json_of text ≡ Some (data_of line))
unfolding IsSaid
one_value text line h =
    let d = and_some line_in (json_of text) line h in
    let t = where_true (is_utf8 text) (read text) d.0 d.1 in
    let j = and_some of_json (option_and_then (λ p. json.if_last p.0 p.1) (json.value max_depth (tokens text))) d.0 t.1 in
    let said = said_of j.0 d.0 line j.2 d.2 in
    (said.0, d.1 ∙ ap (λ (x : Data). Some x) said.1)
