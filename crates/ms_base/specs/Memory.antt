-- The outside in memory: what is held, and the numbers of the calls that fail, counted from 0.
use Rattle.std.specs.Prelude.{◌≡◌, ◌⊎◌, ℕ, ◌+◌, ◌==◌, Bool, true, false, List, length, map, nat_lt, Option, Some, None, Result, Ok, Err, if◌then◌else◌}
use Rattle.std.specs.List.{list_any}
use Rattle.ms_base.specs.Counts.{one_more}
use Rattle.ms_base.specs.declared.outside.ReadError.{ReadError}
use Rattle.ms_base.specs.declared.outside.ReadError.TheVariants as errors
use Rattle.ms_base.specs.declared.memory.InputText.{InputText}
use Rattle.ms_base.specs.Outside.{SourceView, SinkView, InputsView, text_named}

-- which calls fail, how many were made, and how many failed
pub record Calls : Type 0 where
  pub fails : List ℕ
  pub made : ℕ
  pub faults : ℕ

-- the next call is to fail
abbrev pub is_due : Calls → Bool
is_due calls = list_any (λ n. n == calls.made) calls.fails

-- a call more, which failed or not
abbrev pub after_call : Bool → Calls → Calls
after_call failed calls = record { fails = calls.fails; made = one_more calls.made; faults = if failed then one_more calls.faults else calls.faults }

-- the texts by their names
abbrev pub pairs_of : List InputText → List (List ℕ × List ℕ)
pairs_of inputs = map (λ i. (i.name, i.text)) inputs

-- a text that is given in steps: what is left of it, the greatest step, whether the last read showed the end
pub record Feed : Type 0 where
  pub left : List ℕ
  pub step : ℕ
  pub ended : Bool
  pub calls : Calls

-- what was written, and the greatest step
pub record Taken : Type 0 where
  pub text : List ℕ
  pub step : ℕ
  pub calls : Calls

-- texts by their names, and whether the last one was read to its end
pub record Named : Type 0 where
  pub texts : List (List ℕ × List ℕ)
  pub ended : Bool
  pub calls : Calls

-- a source, a sink and inputs in memory tell what they hold
abbrev pub source_of : Feed → SourceView
source_of feed = record { left = Some feed.left; ended = feed.ended; faults = feed.calls.faults }

abbrev pub sink_of : Taken → SinkView
sink_of taken = record { contents = Some taken.text; faults = taken.calls.faults }

abbrev pub inputs_of : Named → InputsView
inputs_of named = record { texts = Some named.texts; reads = named.calls.made; ended = named.ended; faults = named.calls.faults }

-- a text that is read, where it is short enough
abbrev pub short_text : ℕ → Option (List ℕ) → Result (List ℕ) ReadError
short_text limit None = Err errors.Failed
short_text limit (Some text) = if nat_lt limit (length text) then Err (errors.TooLong (limit + 1)) else Ok text

-- what a call gives: it fails where it is due or no text has that name
abbrev pub given_input : ℕ → Named → List ℕ → Result (List ℕ) ReadError
given_input limit named name = if is_due named.calls then Err errors.Failed else short_text limit (text_named named.texts name)

-- this answer, or want of memory in place of a text
abbrev pub OrWant : Result (List ℕ) ReadError → Result (List ℕ) ReadError → Type 0
OrWant (Ok text) result = (result ≡ Ok text) ⊎ (result ≡ Err errors.NoMemory)
OrWant (Err error) result = result ≡ Err error

-- the outside failed
abbrev pub has_failed : Result (List ℕ) ReadError → Bool
has_failed (Ok text) = false
has_failed (Err errors.Failed) = true
has_failed (Err errors.NoMemory) = false
has_failed (Err (errors.TooLong bytes)) = false

-- no call was made
abbrev pub first_calls : List ℕ → Calls
first_calls fails = record { fails = fails; made = 0; faults = 0 }
