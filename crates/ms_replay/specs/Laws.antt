-- What the laws of this crate take as given.
use Rattle.std.specs.Prelude.{◌≡◌, ℕ, List, Some, Contains, slice_get}
use Rattle.ms_record.specs.declared.record.Record.{Record}
use Rattle.ms_base.specs.Fields.{IsBytes}
use Rattle.ms_record.specs.Records.{IsRecord}

-- the numbers of each record are in their ranges
abbrev pub AreInRange : (ℕ → List Record) → Type 0
AreInRange lists = (s place : ℕ) (r : Record) → slice_get (lists s) place ≡ Some r → IsRecord r

-- each text of each list is of bytes
abbrev pub AreOfBytes : (ℕ → List (List ℕ)) → Type 0
AreOfBytes texts = (s place : ℕ) (text : List ℕ) → slice_get (texts s) place ≡ Some text → IsBytes text

-- each voter is one of these services
abbrev pub AreAmong : List ℕ → List ℕ → Type 0
AreAmong services voters = (s : ℕ) → Contains voters s → Contains services s
