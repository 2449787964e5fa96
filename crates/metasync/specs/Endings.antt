-- With what the program ends.
use Rattle.std.specs.Prelude.{◌≡◌, ◌⊎◌, ℕ, List}
use Rattle.std.specs.Process.{exit_status}
use Rattle.std.specs.declared.process.ExitCode.{ExitCode}
use Rattle.ms_base.specs.Outside.{OutsideView, SinkView}
use Rattle.ms_words.specs.Commands.{command_of}
use Rattle.ms_top.specs.Runs.{Runs}

-- the status of a run of these words, whose faults are counted from 0
pub record EndsOnWords (words : List (List ℕ)) (code : ExitCode) : Type 0 where
  pub old : OutsideView
  pub new : OutsideView
  pub before : SinkView
  pub after : SinkView
  pub first : old.inputs.faults ≡ 0
  pub none_written : before.faults ≡ 0
  pub runs : Runs (command_of words) old new before after (exit_status code)

-- memory runs out for the words, or the program ends on words
abbrev pub Ends : ExitCode → Type 0
Ends code = (exit_status code ≡ 8) ⊎ ((words : List (List ℕ)) × EndsOnWords words code)
