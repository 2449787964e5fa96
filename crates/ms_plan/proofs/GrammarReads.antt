-- A text of the grammar is read.
use Rattle.std.proofs.Common.{◌≡◌, ℕ, suc, zero, ◌+◌, ◌/◌, ◌<◌, ◌≤◌, Bool, true, false, List, [], ◌∷◌, ◌++◌, Option, Some, None, Ok, option_map, option_and_then, refl, sym, ap, ◌∙◌, cond, length, map, slice_get, append_assoc, nat_lt, nat_le, bytes_eq, length-append, arith}
use Rattle.std.specs.Prelude.{◌||◌, not}
use Rattle.std.specs.List.{list_any}
use Rattle.std.proofs.lemmas.Bool.{le-leb, lt-ltb}
use Rattle.std.proofs.lemmas.List.{append-nil}
use Rattle.std.proofs.lemmas.Option.{slice_get_within}
use Rattle.std.proofs.lemmas.Slice.Eq.{bytes_eq-Decides}
use Rattle.ms_text.specs.Lines.{lines_of, on_or_wrong, or_wrong, read_lines}
use Rattle.ms_plan.specs.ConfigLines.{line_at}
use Rattle.ms_plan.specs.Configuration.{config_at, config_if, config_line, config_of, whole}
use Rattle.ms_plan.specs.Drafts.{AreLabels, DraftView, IsDraft, begun, has_copies, labels_of, with_client, with_line, with_service}
use Rattle.ms_plan.specs.Grammar.{Says, said_lines}
use Rattle.ms_plan.specs.declared.config_line.Line.{Line}
use Rattle.ms_plan.specs.declared.config_line.Line.TheVariants as forms
use Rattle.ms_plan.specs.declared.config_line.ServiceLine.{ServiceLine}
use Rattle.ms_plan.proofs.LabelLists.{used_labels}
use Rattle.ms_plan.proofs.Tests.{joined}

abbrev some : Line → Option Line
some line = Some line

abbrev services_said : List ServiceLine → List Line
services_said services = map (λ (service : ServiceLine). forms.Service service) services

abbrev clients_said : List (List ℕ) → List Line
clients_said clients = map (λ (label : List ℕ). forms.Client label) clients

at_seam : {X : Type 0} (xs ys : List X) (y : X) → slice_get (xs ++ y ∷ ys) (length xs) ≡ Some y
at_seam [] ys y = refl
at_seam (x ∷ xs) ys y = at_seam xs ys y

before_seam : {X : Type 0} (xs ys : List X) (i : ℕ) (x : X) → slice_get xs i ≡ Some x → slice_get (xs ++ ys) i ≡ Some x
before_seam [] ys i x e = absurd (cc)
before_seam (y ∷ xs) ys zero x e = e
before_seam (y ∷ xs) ys (suc i) x e = before_seam xs ys i x e

-- a label that is used stands somewhere
used_at : (labels : List (List ℕ)) (label : List ℕ) → list_any (λ l. bytes_eq l label) labels ≡ true → (i : ℕ) × (slice_get labels i ≡ Some label)
used_at [] label e = absurd (cc)
used_at (l ∷ labels) label e = by (λ there. used_at labels label there) (bytes_eq l label) refl e
  where
    by : (list_any (λ l. bytes_eq l label) labels ≡ true → (i : ℕ) × (slice_get labels i ≡ Some label)) → (b : Bool) → bytes_eq l label ≡ b → (b || list_any (λ l. bytes_eq l label) labels) ≡ true → (i : ℕ) × (slice_get (l ∷ labels) i ≡ Some label)
    by later true is e = (0, ap (λ (x : List ℕ). Some x) ((bytes_eq-Decides l label).0 is))
    by later false is e = let r = later e in (suc r.0, r.1)

-- no label before it is the same
free_before : (labels done rest : List (List ℕ)) (label : List ℕ) → AreLabels labels → labels ≡ done ++ label ∷ rest → list_any (λ l. bytes_eq l label) done ≡ false
free_before labels done rest label h is = by (list_any (λ l. bytes_eq l label) done) refl
  where
    by : (b : Bool) → list_any (λ l. bytes_eq l label) done ≡ b → b ≡ false
    by false e = refl
    by true e =
        let u = used_at done label e in
        let within : u.0 < length done = slice_get_within done u.0 label u.1 in
        let first : slice_get labels u.0 ≡ Some label = ap (λ (ls : List (List ℕ)). slice_get ls u.0) is ∙ before_seam done (label ∷ rest) u.0 label u.1 in
        let second : slice_get labels (length done) ≡ Some label = ap (λ (ls : List (List ℕ)). slice_get ls (length done)) is ∙ at_seam done rest label in
        absurd (omega (arith, h.differ u.0 (length done) label first second))

labels-append : (services more : List ServiceLine) → labels_of (services ++ more) ≡ labels_of services ++ labels_of more
labels-append [] more = refl
labels-append (s ∷ services) more = ap (λ (ls : List (List ℕ)). s.label ∷ ls) (labels-append services more)

denied : (b : Bool) → b ≡ false → not b ≡ true
denied b e = ap not e

chosen : {X : Type 0} (t : Bool) (x : X) → t ≡ true → cond t (Some x) None ≡ Some x
chosen t x e = ap (λ (b : Bool). cond b (Some x) None) e

-- a draft of some services and clients
abbrev part : DraftView → List ServiceLine → List (List ℕ) → DraftView
part draft services clients = record { replicas = draft.replicas; unit = draft.unit; services = services; clients = clients }

service_right : (draft : DraftView) (done rest : List ServiceLine) (service : ServiceLine) → IsDraft draft → draft.services ≡ done ++ service ∷ rest → with_service (part draft done []) service ≡ Some (part draft (done ++ service ∷ []) [])
service_right draft done rest service h is =
    let count : length draft.services ≡ length done + length (service ∷ rest) = ap length is ∙ length-append done (service ∷ rest) in
    let at : slice_get draft.services (length done) ≡ Some service = ap (λ (ss : List ServiceLine). slice_get ss (length done)) is ∙ at_seam done rest service in
    let c = h.capacities (length done) service at in
    let labels : labels_of draft.services ≡ labels_of done ++ service.label ∷ labels_of rest = ap labels_of is ∙ labels-append done (service ∷ rest) in
    let free : list_any (λ (s : ServiceLine). bytes_eq s.label service.label) done ≡ false =
    used_labels done service.label ∙ free_before (labels_of draft.services) (labels_of done) (labels_of rest) service.label h.service_labels labels in
    let copies : has_copies draft.unit service.capacity ≡ true = joined _ _ (le-leb 1 (service.capacity / draft.unit) c.some_copies) (le-leb (service.capacity / draft.unit) 16 c.few_copies) in
    chosen _ (part draft (done ++ service ∷ []) [])
    (joined _ _ (joined _ (has_copies draft.unit service.capacity) (joined true (nat_lt (length done) 16) refl (lt-ltb (length done) 16 (omega (arith, h.few_services)))) copies) (denied _ free))

client_right : (draft : DraftView) (done rest : List (List ℕ)) (label : List ℕ) → IsDraft draft → draft.clients ≡ done ++ label ∷ rest → with_client (part draft draft.services done) label ≡ Some (part draft draft.services (done ++ label ∷ []))
client_right draft done rest label h is =
    let count : length draft.clients ≡ length done + length (label ∷ rest) = ap length is ∙ length-append done (label ∷ rest) in
    let enough : draft.replicas ≤ length draft.services = h.enough (omega arith) in
    chosen _ (part draft draft.services (done ++ label ∷ []))
    (joined _ _ (joined (nat_le draft.replicas (length draft.services)) (nat_lt (length done) 16) (le-leb draft.replicas (length draft.services) enough) (lt-ltb (length done) 16 (omega (arith, h.few_clients))))
    (denied _ (free_before draft.clients done rest label h.client_labels is)))

-- on with a line that is right
goes : (text t : List ℕ) (texts : List (List ℕ)) (n : ℕ) (so_far : Option DraftView) (line : Line) (next : DraftView) → line_at t ≡ Some line → with_line so_far line ≡ Some next
    → read_lines config_line (whole text) n so_far (t ∷ texts) ≡ read_lines config_line (whole text) (n + 1) (Some next) texts
goes text t texts n so_far line next is right =
    ap (λ (o : Option Line). on_or_wrong n (λ (s : Option DraftView). read_lines config_line (whole text) (n + 1) s texts) (option_map (λ (d : DraftView). Some d) (option_and_then (with_line so_far) o))) is
    ∙ ap (λ (o : Option DraftView). on_or_wrong n (λ (s : Option DraftView). read_lines config_line (whole text) (n + 1) s texts) (option_map (λ (d : DraftView). Some d) o)) right

first_line : (t : List ℕ) (texts : List (List ℕ)) (line : Line) (lines : List Line) → map line_at (t ∷ texts) ≡ map some (line ∷ lines) → (line_at t ≡ Some line) × (map line_at texts ≡ map some lines)
first_line t texts line lines e = (cc, cc)

no_text : (t : List ℕ) (texts : List (List ℕ)) {X : Type 0} → map line_at (t ∷ texts) ≡ [] → X
no_text t texts e = absurd (cc)

no_line : (line : Line) (lines : List Line) {X : Type 0} → [] ≡ map some (line ∷ lines) → X
no_line line lines e = absurd (cc)

clients_read : (text : List ℕ) (texts : List (List ℕ)) (n : ℕ) (draft : DraftView) (done todo : List (List ℕ)) → map line_at texts ≡ map some (clients_said todo) → draft.clients ≡ done ++ todo → IsDraft draft → 1 ≤ length draft.clients
    → read_lines config_line (whole text) n (Some (part draft draft.services done)) texts ≡ Ok (config_of text draft)
clients_read text [] n draft done [] e is h some =
    let all : done ≡ draft.clients = sym (append-nil done) ∙ sym is in
    ap (λ (cs : List (List ℕ)). or_wrong n (config_if text (part draft draft.services cs))) all
    ∙ ap (λ (b : Bool). or_wrong n (cond b (Some (config_of text draft)) None)) (lt-ltb 0 (length draft.clients) some)
clients_read text (t ∷ texts) n draft done [] e is h some = no_text t texts e
clients_read text [] n draft done (label ∷ todo) e is h some = no_line (forms.Client label) (clients_said todo) e
clients_read text (t ∷ texts) n draft done (label ∷ todo) e is h some =
    let first = first_line t texts (forms.Client label) (clients_said todo) e in
    goes text t texts n (Some (part draft draft.services done)) (forms.Client label) (part draft draft.services (done ++ label ∷ [])) first.0 (client_right draft done todo label h is)
    ∙ clients_read text texts (n + 1) draft (done ++ label ∷ []) todo first.1 (is ∙ sym (append_assoc done (label ∷ []) todo)) h some

services_read : (text : List ℕ) (texts : List (List ℕ)) (n : ℕ) (draft : DraftView) (done todo : List ServiceLine) → map line_at texts ≡ map some (services_said todo ++ clients_said draft.clients) → draft.services ≡ done ++ todo → IsDraft draft → 1 ≤ length draft.clients
    → read_lines config_line (whole text) n (Some (part draft done [])) texts ≡ Ok (config_of text draft)
services_read text texts n draft done [] e is h some =
    let all : done ≡ draft.services = sym (append-nil done) ∙ sym is in
    ap (λ (ss : List ServiceLine). read_lines config_line (whole text) n (Some (part draft ss [])) texts) all ∙ clients_read text texts n draft [] draft.clients e refl h some
services_read text [] n draft done (service ∷ todo) e is h some = no_line (forms.Service service) (services_said todo ++ clients_said draft.clients) e
services_read text (t ∷ texts) n draft done (service ∷ todo) e is h some =
    let first = first_line t texts (forms.Service service) (services_said todo ++ clients_said draft.clients) e in
    goes text t texts n (Some (part draft done [])) (forms.Service service) (part draft (done ++ service ∷ []) []) first.0 (service_right draft done todo service h is)
    ∙ services_read text texts (n + 1) draft (done ++ service ∷ []) todo first.1 (is ∙ sym (append_assoc done (service ∷ []) todo)) h some

head_right : (draft : DraftView) → IsDraft draft → begun draft.replicas draft.unit ≡ Some (part draft [] [])
head_right draft h =
    chosen _ (part draft [] [])
    (joined _ (nat_le 1 draft.unit) (joined (nat_le 1 draft.replicas) (nat_le draft.replicas 16) (le-leb 1 draft.replicas h.some_replicas) (le-leb draft.replicas 16 h.few_replicas)) (le-leb 1 draft.unit h.some_unit))

reads_all : (text : List ℕ) (texts : List (List ℕ)) (draft : DraftView) → map line_at texts ≡ map some (said_lines draft) → IsDraft draft → 1 ≤ length draft.clients → read_lines config_line (whole text) 1 None texts ≡ Ok (config_of text draft)
reads_all text [] draft e h some = no_line (forms.Head draft.replicas draft.unit) (services_said draft.services ++ clients_said draft.clients) e
reads_all text (t ∷ texts) draft e h some =
    let first = first_line t texts (forms.Head draft.replicas draft.unit) (services_said draft.services ++ clients_said draft.clients) e in
    goes text t texts 1 None (forms.Head draft.replicas draft.unit) (part draft [] []) first.0 (head_right draft h) ∙ services_read text texts 2 draft [] draft.services first.1 refl h some

pub reads : (text : List ℕ) (draft : DraftView) → Says text draft → config_at text ≡ Ok (config_of text draft)
reads text draft h = reads_all text (lines_of text) draft h.lines h.rules h.some_clients
