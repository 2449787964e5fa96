-- The first text of a name, along a list of inputs.
use Rattle.std.proofs.Common.{◌≡◌, ℕ, ◌+◌, ◌<◌, List, true, false, refl, length, drop, get_or, slice_get, add-one, drop-cons}
use Rattle.std.specs.Prelude.{bytes_eq}
use Rattle.std.specs.Option.{option_map}
use Rattle.std.proofs.lemmas.Option.{slice_get-get_or}
use Rattle.ms_base.specs.declared.memory.InputText.{InputText}
use Rattle.ms_base.specs.Memory.{pairs_of}
use Rattle.ms_base.specs.Outside.{text_named}

pub named_here : (inputs : List InputText) (i : ℕ) (name : List ℕ) (x : InputText) → i < length inputs → bytes_eq (get_or inputs i x).name name ≡ true
    → text_named (pairs_of (drop i inputs)) name ≡ option_map (λ input. input.text) (slice_get inputs i)
named_here inputs i name x within is =
    rw (drop-cons inputs i x within, is, slice_get-get_or inputs i x within) refl

pub named_on : (inputs : List InputText) (i : ℕ) (name : List ℕ) (x : InputText) → i < length inputs → bytes_eq (get_or inputs i x).name name ≡ false
    → text_named (pairs_of (drop (i + 1) inputs)) name ≡ text_named (pairs_of (drop i inputs)) name
named_on inputs i name x within is = rw (add-one, drop-cons inputs i x within, is) refl
