-- The first file that is too large.
use Rattle.std.proofs.Common.{◌≡◌, ℕ, ◌<◌, ◌≤◌, true, false, ltb, List, ◌∷◌, length, map, Option, Some, refl}
use Rattle.std.specs.Prelude.{find, nat_lt}
use Rattle.std.proofs.lemmas.Bool.{lt-ltb, le-ltb}
use Rattle.ms_object.specs.Trees.{FileText}

-- the size of the first file above so many bytes
abbrev pub first_of : ℕ → List FileText → Option ℕ
first_of most files = find (nat_lt most) (map (λ file. length file.1) files)

pub large_here : (most : ℕ) (file : FileText) (files : List FileText) → most < length file.1 → first_of most (file ∷ files) ≡ Some (length file.1)
large_here most file files large = let test : ltb most (length file.1) ≡ true = lt-ltb _ _ large in rw test refl

pub large_later : (most : ℕ) (file : FileText) (files : List FileText) → length file.1 ≤ most → first_of most (file ∷ files) ≡ first_of most files
large_later most file files small = let test : ltb most (length file.1) ≡ false = le-ltb _ _ small in rw test refl
