-- What contracts see of the objects of the outside: told content, and a count of faults.
use Rattle.std.specs.Prelude.{◌≡◌, ℕ, Bool, false, ◌&&◌, ◌==◌, nat_lt, List, [], ◌∷◌, Option, Some, None, Result, Ok, Err, IfSome, IsSome, bytes_eq, if◌then◌else◌}
use Rattle.ms_base.specs.declared.outside.Failed.{Failed}

-- a source: the bytes that are left, where they are told; whether the last read showed the end
pub record SourceView : Type 0 where
  pub left : Option (List ℕ)
  pub ended : Bool
  pub faults : ℕ

-- a sink: the bytes that were written, where they are told
pub record SinkView : Type 0 where
  pub contents : Option (List ℕ)
  pub faults : ℕ

-- inputs: the texts by their names, where they are told; how often one was asked for; whether the last text was read to its end
pub record InputsView : Type 0 where
  pub texts : Option (List (List ℕ × List ℕ))
  pub reads : ℕ
  pub ended : Bool
  pub faults : ℕ

-- a read into so much room shows the end where it gives no byte
abbrev pub shows_end : ℕ → Result ℕ Failed → Bool
shows_end room (Ok count) = (count == 0) && nat_lt 0 room
shows_end room (Err e) = false

-- what was told stays told
abbrev pub StaysTold : {X : Type 0} → Option X → Option X → Type 0
StaysTold old new = IsSome old → IsSome new

-- the first text of that name
abbrev pub text_named : List (List ℕ × List ℕ) → List ℕ → Option (List ℕ)
text_named [] name = None
text_named (pair ∷ pairs) name = if bytes_eq pair.0 name then Some pair.1 else text_named pairs name

-- where the texts are told, this is the text of that name
abbrev pub HasText : InputsView → List ℕ → List ℕ → Type 0
HasText view name text = IfSome view.texts (λ texts. text_named texts name ≡ Some text)

-- what a run sees of the outside
pub record OutsideView : Type 0 where
  pub inputs : InputsView

abbrev pub outside : {I : Type 0} → (I → InputsView) → I → OutsideView
outside seen inputs = record { inputs = seen inputs }
