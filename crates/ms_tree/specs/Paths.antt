-- Paths: parts with slashes between them.
use Rattle.std.specs.Prelude.{◌≡◌, ◌≢◌, ℕ, ◌==◌, ◌&&◌, Bool, not, nat_eq, nat_lt, bytes_eq, codes, List, [], ◌∷◌, ◌++◌, length, All, Contains, find}
use Rattle.std.specs.List.{slice_split, starts_with, list_any, list_all}
use Rattle.std.specs.Option.{option_map_or}
use Rattle.std.specs.Str.{IsUtf8, is_utf8}
use Rattle.ms_base.specs.declared.limits.TheConstants.{PART_BYTES}

-- the parts between the slashes
abbrev pub parts_of : List ℕ → List (List ℕ)
parts_of path = slice_split (λ b. b == 47) path

-- not empty, not `.`, not `..`, and without NUL
pub record IsPart (part : List ℕ) : Type 0 where
  pub filled : part ≢ []
  pub not_here : part ≢ codes "."
  pub not_above : part ≢ codes ".."
  pub no_nul : ¬ Contains part 0

-- UTF-8, and between its slashes there are parts
pub record IsPath (path : List ℕ) : Type 0 where
  pub utf8 : IsUtf8 path
  pub parts : All IsPart (parts_of path)

-- the path begins with the directory and a slash
abbrev pub IsDirectoryOf : List ℕ → List ℕ → Type 0
IsDirectoryOf dir path = (rest : List ℕ) × (path ≡ dir ++ 47 ∷ rest)

-- the same rules as tests
abbrev pub is_part : List ℕ → Bool
is_part part = not (length part == 0) && not (bytes_eq part (codes ".")) && not (bytes_eq part (codes "..")) && not (list_any (λ b. b == 0) part)

abbrev pub is_path : List ℕ → Bool
is_path path = is_utf8 path && list_all is_part (parts_of path)

abbrev pub is_directory_of : List ℕ → List ℕ → Bool
is_directory_of dir path = starts_with nat_eq path (dir ++ 47 ∷ [])

-- the length of the first part that is too long, or 0
abbrev pub long_part : List (List ℕ) → ℕ
long_part parts = option_map_or length (find (λ part. nat_lt PART_BYTES (length part)) parts) 0
