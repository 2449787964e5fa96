-- A whole configuration: a head, the services and the clients, a line each.
use Rattle.std.specs.Prelude.{◌≡◌, ℕ, ◌≤◌, List, ◌∷◌, ◌++◌, length, map, Some}
use Rattle.ms_text.specs.Lines.{lines_of}
use Rattle.ms_plan.specs.ConfigLines.{line_at}
use Rattle.ms_plan.specs.Drafts.{DraftView, IsDraft}
use Rattle.ms_plan.specs.declared.config_line.Line.{Line}
use Rattle.ms_plan.specs.declared.config_line.Line.TheVariants as forms
use Rattle.ms_plan.specs.declared.config_line.ServiceLine.{ServiceLine}

-- the head, then the services, then the clients
abbrev pub said_lines : DraftView → List Line
said_lines draft =
    forms.Head draft.replicas draft.unit ∷ (map (λ (service : ServiceLine). forms.Service service) draft.services ++ map (λ (label : List ℕ). forms.Client label) draft.clients)

-- the text says these lines and no others, and they keep the rules
pub record Says (text : List ℕ) (draft : DraftView) : Type 0 where
  pub lines : map line_at (lines_of text) ≡ map (λ (line : Line). Some line) (said_lines draft)
  pub rules : IsDraft draft
  pub some_clients : 1 ≤ length draft.clients
