-- The kept state: its ranges, its one spelling, and what a text is read as.
use Rattle.std.specs.Prelude.{◌≡◌, ℕ, ◌≤◌, ◌==◌, List, [], ◌∷◌, ◌++◌, length, Option, Some, None, IfSome, if◌then◌else◌}
use Rattle.std.specs.Int.{w32, to_be_bytes}
use Rattle.ms_base.specs.Options.{◌>>=◌}
use Rattle.ms_base.specs.declared.limits.TheConstants.{LAST_NUMBER}
use Rattle.ms_base.specs.Fields.{Field, byte_at, number_within, name_at, at_end}
use Rattle.ms_local.specs.declared.kept.Base.{Base}
use Rattle.ms_local.specs.declared.kept.Todo.{Todo}
use Rattle.ms_local.specs.declared.kept.Kept.{Kept}

-- the position is in its range, and names have 32 bytes
pub record IsBase (base : Base) : Type 0 where
  pub position : base.position ≤ LAST_NUMBER
  pub entry : length base.entry.0 ≡ 32
  pub version : length base.version.0 ≡ 32

pub record IsTodo (todo : Todo) : Type 0 where
  pub target : IsBase todo.target
  pub before : length todo.before.0 ≡ 32
  pub after : length todo.after.0 ≡ 32

pub record IsState (kept : Kept) : Type 0 where
  pub round : kept.round ≤ LAST_NUMBER
  pub number : kept.number ≤ LAST_NUMBER
  pub base : IsBase kept.base
  pub head : length kept.head.0 ≡ 32
  pub todo : IfSome kept.todo IsTodo

-- the position, the name of the member, its version
abbrev pub base_text : Base → List ℕ
base_text base = to_be_bytes w32 base.position ++ base.entry.0 ++ base.version.0

-- the target, and the two roots
abbrev pub todo_text : Todo → List ℕ
todo_text todo = base_text todo.target ++ todo.before.0 ++ todo.after.0

-- 0, or 1 and the todo
abbrev pub todo_part : Option Todo → List ℕ
todo_part None = 0 ∷ []
todo_part (Some todo) = 1 ∷ [] ++ todo_text todo

-- `K`, the round, the number
abbrev pub numbers_text : Kept → List ℕ
numbers_text kept = 75 ∷ [] ++ to_be_bytes w32 kept.round ++ to_be_bytes w32 kept.number

-- those, the base, the head, and the flag with what follows it
abbrev pub kept_text : Kept → List ℕ
kept_text kept = numbers_text kept ++ base_text kept.base ++ kept.head.0 ++ todo_part kept.todo

unfoldable pub base_at : List ℕ → Field Base
base_at text = do
  position ← number_within 0 LAST_NUMBER text
  entry ← name_at position.1
  version ← name_at entry.1
  Some (record { position = position.0; entry = entry.0; version = version.0 }, version.1)

unfoldable pub todo_at : List ℕ → Field Todo
todo_at text = do
  target ← base_at text
  before ← name_at target.1
  after ← name_at before.1
  Some (record { target = target.0; before = before.0; after = after.0 }, after.1)

-- what this flag and the rest of the text say: no todo, or one
unfoldable pub todo_in : ℕ → List ℕ → Option (Option Todo)
todo_in flag text =
    if flag == 0 then at_end (None, text)
    else if flag == 1 then (todo_at text >>= λ todo. at_end (Some todo.0, todo.1))
    else None

-- the state, without its tag
unfoldable pub state_at : List ℕ → Option Kept
state_at text = do
  round ← number_within 0 LAST_NUMBER text
  number ← number_within 0 LAST_NUMBER round.1
  base ← base_at number.1
  head ← name_at base.1
  flag ← byte_at head.1
  todo ← todo_in flag.0 flag.1
  Some (record { round = round.0; number = number.0; base = base.0; head = head.0; todo = todo })

-- the state that the text is
unfoldable pub kept_at : List ℕ → Option Kept
kept_at text = do
  tag ← byte_at text
  if tag.0 == 75 then state_at tag.1 else None
