-- The configuration that is read line by line is that of the grammar.
use Rattle.std.proofs.Common.{◌≡◌, ℕ, ◌+◌, ◌≤◌, Bool, true, false, List, [], ◌∷◌, ◌++◌, Option, Some, None, Result, Ok, Err, option_map, option_and_then, refl, sym, ap, ◌∙◌, subst, cond, length, map, append_assoc, nat_lt, nat_le, eqb-true, bytes_eq, arith}
use Rattle.std.specs.Prelude.{◌&&◌, ◌==◌, not}
use Rattle.std.specs.List.{list_any}
use Rattle.std.proofs.lemmas.Bool.{leb-true, ltb-true}
use Rattle.std.proofs.lemmas.List.{append-nil}
use Rattle.ms_base.specs.Places.{some_same}
use Rattle.ms_base.specs.Options.{both}
use Rattle.ms_text.specs.Lines.{lines_of, on_or_wrong, or_wrong, read_lines}
use Rattle.ms_plan.specs.ConfigLines.{HasLabel, line_at}
use Rattle.ms_plan.specs.Configuration.{ConfigView, config_at, config_line, config_of, whole}
use Rattle.ms_plan.specs.Drafts.{DraftView, IsDraft, begun, has_copies, with_line}
use Rattle.ms_plan.specs.Grammar.{Says, said_lines}
use Rattle.ms_plan.specs.declared.config_line.Line.{Line}
use Rattle.ms_plan.specs.declared.config_line.Line.TheVariants as forms
use Rattle.ms_plan.specs.declared.config_line.ServiceLine.{ServiceLine}
use Rattle.ms_plan.proofs.DraftLaws.{client_kept, service_kept}
use Rattle.ms_plan.proofs.LabelLists.{no_labels}
use Rattle.ms_plan.proofs.LineForms.{one_value}
use Rattle.ms_plan.proofs.Tests.{where_true}

abbrev some : Line → Option Line
some line = Some line

abbrev services_said : List ServiceLine → List Line
services_said services = map (λ (service : ServiceLine). forms.Service service) services

abbrev clients_said : List (List ℕ) → List Line
clients_said clients = map (λ (label : List ℕ). forms.Client label) clients

not_so : (b : Bool) → not b ≡ true → b ≡ false
not_so true h = absurd cc
not_so false h = refl

one_service : (services : List ServiceLine) (clients : List (List ℕ)) (service : ServiceLine) → length clients ≡ 0
    → (services_said services ++ clients_said clients) ++ forms.Service service ∷ [] ≡ services_said (services ++ service ∷ []) ++ clients_said clients
one_service services (c ∷ clients) service none = absurd (omega arith)
one_service [] [] service none = refl
one_service (s ∷ services) [] service none = ap (λ (ls : List Line). forms.Service s ∷ ls) (one_service services [] service none)

one_client : (services : List ServiceLine) (clients : List (List ℕ)) (label : List ℕ) → (services_said services ++ clients_said clients) ++ forms.Client label ∷ [] ≡ services_said services ++ clients_said (clients ++ label ∷ [])
one_client [] [] label = refl
one_client [] (c ∷ clients) label = ap (λ (ls : List Line). forms.Client c ∷ ls) (one_client [] clients label)
one_client (s ∷ services) clients label = ap (λ (ls : List Line). forms.Service s ∷ ls) (one_client services clients label)

-- a line that goes on keeps the rules
goes_on : (draft next : DraftView) (line : Line) → HasLabel line → IsDraft draft → with_line (Some draft) line ≡ Some next → IsDraft next × (said_lines draft ++ line ∷ [] ≡ said_lines next)
goes_on draft next (forms.Head replicas unit) form h e = absurd (cc)
goes_on draft next (forms.Service service) form h e =
    let used : Bool = list_any (λ (s : ServiceLine). bytes_eq s.label service.label) draft.services in
    let more : DraftView = record draft { services = draft.services ++ service ∷ [] } in
    let t = where_true ((length draft.clients == 0) && nat_lt (length draft.services) 16 && has_copies draft.unit service.capacity && not used) (Some more) next e in
    let a = both _ (not used) t.0 in
    let b = both _ (has_copies draft.unit service.capacity) a.0 in
    let c = both (length draft.clients == 0) (nat_lt (length draft.services) 16) b.0 in
    let none : length draft.clients ≡ 0 = eqb-true (length draft.clients) 0 c.0 in
    let kept : IsDraft more = service_kept draft (draft.services ++ service ∷ []) service h refl none (ltb-true (length draft.services) 16 c.1) b.1 form (not_so used a.1) in
    subst (λ (d : DraftView). IsDraft d × (said_lines draft ++ forms.Service service ∷ [] ≡ said_lines d)) (some_same more next t.1)
    (kept, ap (λ (ls : List Line). forms.Head draft.replicas draft.unit ∷ ls) (one_service draft.services draft.clients service none))
goes_on draft next (forms.Client label) form h e =
    let used : Bool = list_any (λ l. bytes_eq l label) draft.clients in
    let more : DraftView = record draft { clients = draft.clients ++ label ∷ [] } in
    let t = where_true (nat_le draft.replicas (length draft.services) && nat_lt (length draft.clients) 16 && not used) (Some more) next e in
    let a = both _ (not used) t.0 in
    let b = both (nat_le draft.replicas (length draft.services)) (nat_lt (length draft.clients) 16) a.0 in
    let kept : IsDraft more = client_kept draft (draft.clients ++ label ∷ []) label h refl (leb-true draft.replicas (length draft.services) b.0) (ltb-true (length draft.clients) 16 b.1) form (not_so used a.1) in
    subst (λ (d : DraftView). IsDraft d × (said_lines draft ++ forms.Client label ∷ [] ≡ said_lines d)) (some_same more next t.1)
    (kept, ap (λ (ls : List Line). forms.Head draft.replicas draft.unit ∷ ls) (one_client draft.services draft.clients label))

-- what the lines from some draft on come to
record Ends (text : List ℕ) (draft : DraftView) (texts : List (List ℕ)) (config : ConfigView) : Type 0 where
  final : DraftView
  more : List Line
  lines : map line_at texts ≡ map some more
  joined : said_lines draft ++ more ≡ said_lines final
  rules : IsDraft final
  some_clients : 1 ≤ length final.clients
  config_is : config ≡ config_of text final

wrong_ok : {V X : Type 0} (line : ℕ) (v : V) → (let r : Result V ℕ = Err line in r) ≡ Ok v → X
wrong_ok line v e = absurd (cc)

same_ok : {V : Type 0} (v w : V) → (let r : Result V ℕ = Ok v in r) ≡ Ok w → v ≡ w
same_ok v w e = cc

at_end : (text : List ℕ) (n : ℕ) (draft : DraftView) (config : ConfigView) (b : Bool) → nat_lt 0 (length draft.clients) ≡ b → IsDraft draft → or_wrong n (cond b (Some (config_of text draft)) None) ≡ Ok config → Ends text draft [] config
at_end text n draft config true is h e = record {
  final = draft;
  more = [];
  lines = refl;
  joined = append-nil (said_lines draft);
  rules = h;
  some_clients = ltb-true 0 (length draft.clients) is;
  config_is = sym (same_ok (config_of text draft) config e);
}
at_end text n draft config false is h e = wrong_ok n config e

more_lines : (text t : List ℕ) (texts : List (List ℕ)) (draft next : DraftView) (line : Line) (config : ConfigView) → line_at t ≡ Some line → said_lines draft ++ line ∷ [] ≡ said_lines next → Ends text next texts config → Ends text draft (t ∷ texts) config
more_lines text t texts draft next line config is said r = record {
  final = r.final;
  more = line ∷ r.more;
  lines = λ i. is i ∷ r.lines i;
  joined = sym (append_assoc (said_lines draft) (line ∷ []) r.more) ∙ ap (λ (ls : List Line). ls ++ r.more) said ∙ r.joined;
  rules = r.rules;
  some_clients = r.some_clients;
  config_is = r.config_is;
}

ends : (text : List ℕ) (texts : List (List ℕ)) (n : ℕ) (draft : DraftView) (config : ConfigView) → IsDraft draft → read_lines config_line (whole text) n (Some draft) texts ≡ Ok config → Ends text draft texts config
ends text [] n draft config h e = at_end text n draft config (nat_lt 0 (length draft.clients)) refl h e
ends text (t ∷ texts) n draft config h e = by (λ next h e. ends text texts (n + 1) next config h e) (line_at t) refl e
  where
    going : ((next : DraftView) → IsDraft next → read_lines config_line (whole text) (n + 1) (Some next) texts ≡ Ok config → Ends text next texts config) → (line : Line) → line_at t ≡ Some line → (o : Option DraftView) → with_line (Some draft) line ≡ o
        → on_or_wrong n (λ so_far. read_lines config_line (whole text) (n + 1) so_far texts) (option_map (λ (d : DraftView). Some d) o) ≡ Ok config → Ends text draft (t ∷ texts) config
    going on line is None w e = wrong_ok n config e
    going on line is (Some next) w e =
        let g = goes_on draft next line (one_value t line is).0 h w in
        more_lines text t texts draft next line config is g.1 (on next g.0 e)

    by : ((next : DraftView) → IsDraft next → read_lines config_line (whole text) (n + 1) (Some next) texts ≡ Ok config → Ends text next texts config) → (o : Option Line) → line_at t ≡ o
        → on_or_wrong n (λ so_far. read_lines config_line (whole text) (n + 1) so_far texts) (option_map (λ (d : DraftView). Some d) (option_and_then (with_line (Some draft)) o)) ≡ Ok config → Ends text draft (t ∷ texts) config
    by on None is e = wrong_ok n config e
    by on (Some line) is e = going on line is (with_line (Some draft) line) refl e

-- the first draft keeps the rules
first_draft : ℕ → ℕ → DraftView
first_draft replicas unit = record { replicas = replicas; unit = unit; services = []; clients = [] }

first_kept : (replicas unit : ℕ) (draft : DraftView) → begun replicas unit ≡ Some draft → IsDraft draft × (said_lines draft ≡ forms.Head replicas unit ∷ [])
unfolding first_draft
first_kept replicas unit draft e =
    let t = where_true (nat_le 1 replicas && nat_le replicas 16 && nat_le 1 unit) (Some (first_draft replicas unit)) draft e in
    let a = both _ (nat_le 1 unit) t.0 in
    let b = both (nat_le 1 replicas) (nat_le replicas 16) a.0 in
    let kept : IsDraft (first_draft replicas unit) = record {
      some_replicas = leb-true 1 replicas b.0;
      few_replicas = leb-true replicas 16 b.1;
      some_unit = leb-true 1 unit a.1;
      few_services = omega arith;
      few_clients = omega arith;
      capacities = λ i s at. absurd (let q : None ≡ Some s = at in cc);
      service_labels = no_labels;
      client_labels = no_labels;
      enough = λ h. absurd (omega arith);
    } in
    subst (λ (d : DraftView). IsDraft d × (said_lines d ≡ forms.Head replicas unit ∷ [])) (some_same (first_draft replicas unit) draft t.1) (kept, refl)

abbrev Reads : List ℕ → List (List ℕ) → ConfigView → Type 0
Reads text texts config = (draft : DraftView) × (map line_at texts ≡ map some (said_lines draft)) × IsDraft draft × (1 ≤ length draft.clients) × (config ≡ config_of text draft)

starts : (text : List ℕ) (texts : List (List ℕ)) (config : ConfigView) → read_lines config_line (whole text) 1 None texts ≡ Ok config → Reads text texts config
starts text [] config e = wrong_ok 1 config e
starts text (t ∷ texts) config e = by (line_at t) refl e
  where
    going : (replicas unit : ℕ) → line_at t ≡ Some (forms.Head replicas unit) → (o : Option DraftView) → begun replicas unit ≡ o
        → on_or_wrong 1 (λ so_far. read_lines config_line (whole text) 2 so_far texts) (option_map (λ (d : DraftView). Some d) o) ≡ Ok config → Reads text (t ∷ texts) config
    going replicas unit is None w e = wrong_ok 1 config e
    going replicas unit is (Some draft) w e =
        let first = first_kept replicas unit draft w in
        let r = ends text texts 2 draft config first.0 e in
        let all : forms.Head replicas unit ∷ r.more ≡ said_lines r.final = ap (λ (ls : List Line). ls ++ r.more) (sym first.1) ∙ r.joined in
        let lines : map line_at (t ∷ texts) ≡ map some (forms.Head replicas unit ∷ r.more) = λ i. is i ∷ r.lines i in
        (r.final, lines ∙ ap (map some) all, r.rules, r.some_clients, r.config_is)

    by : (o : Option Line) → line_at t ≡ o → on_or_wrong 1 (λ so_far. read_lines config_line (whole text) 2 so_far texts) (option_map (λ (d : DraftView). Some d) (option_and_then (with_line None) o)) ≡ Ok config → Reads text (t ∷ texts) config
    by None is e = wrong_ok 1 config e
    by (Some (forms.Head replicas unit)) is e = going replicas unit is (begun replicas unit) refl e
    by (Some (forms.Service service)) is e = wrong_ok 1 config e
    by (Some (forms.Client label)) is e = wrong_ok 1 config e

pub says : (text : List ℕ) (config : ConfigView) → config_at text ≡ Ok config → (draft : DraftView) × Says text draft × (config ≡ config_of text draft)
says text config e =
    let r = starts text (lines_of text) config e in
    (r.0, record { lines = r.1; rules = r.2; some_clients = r.3 }, r.4)
