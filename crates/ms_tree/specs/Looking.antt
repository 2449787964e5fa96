-- Looking at single objects of a tree.
use Rattle.std.specs.Prelude.{◌≡◌, ℕ, List, length, IsSome, None, Result, Ok}
use Rattle.ms_base.specs.declared.names.Name.{Name}
use Rattle.ms_object.specs.declared.fault.GatherError.{GatherError}
use Rattle.ms_object.specs.declared.fault.GatherError.TheVariants as faults
use Rattle.ms_object.specs.declared.format.Format.{Format}
use Rattle.ms_object.specs.declared.object.Object.{Object}
use Rattle.ms_object.specs.declared.object.SizedRow.{SizedRow}
use Rattle.ms_object.specs.Trees.{Texts, object_or_fault, rows_in, blobs_joined}

-- the rows of a directory, which may have none
abbrev pub root_rows_of : Format → Name → Object → Result (List SizedRow) GatherError
root_rows_of format name object = object_or_fault name (rows_in format object)

-- nothing stands under the name, or not what is wanted, or memory ran out
abbrev pub IsUnfound : Texts → Name → GatherError → Type 0
IsUnfound store name (faults.Missing missing) = (missing ≡ name) × (store name.0 ≡ None)
IsUnfound store name (faults.WrongKind wrong) = (wrong ≡ name) × IsSome (store name.0)
IsUnfound store name faults.NoMemory = Unit {0}
IsUnfound store name (faults.Limit what value) = ⊥

-- the blobs have so many bytes together
abbrev pub HaveBytes : Format → Texts → ℕ → List Name → Type 0
HaveBytes format store size blobs = (bytes : List ℕ) × (blobs_joined format store size blobs ≡ Ok bytes) × (length bytes ≡ size)
