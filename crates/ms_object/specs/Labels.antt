-- Labels: the parts of paths, and their order.
use Rattle.std.specs.Prelude.{◌≡◌, ◌≢◌, ℕ, ◌≤◌, ◌==◌, ◌&&◌, ◌||◌, not, nat_le, Bool, List, [], ◌∷◌, length, Contains, bytes_eq}
use Rattle.std.specs.Str.{IsUtf8, is_utf8}
use Rattle.std.specs.List.{list_any}
use Rattle.std.specs.Ordering.{nat_cmp}
use Rattle.std.specs.Cmp.Lexicographic.{slice_cmp}
use Rattle.std.specs.declared.cmp.Ordering.TheVariants.{Less}
use Rattle.ms_base.specs.declared.limits.TheConstants.{PART_BYTES}

-- the bytes of a label: `.` is 46, `/` is 47, NUL is 0
pub record IsLabel (label : List ℕ) : Type 0 where
  pub text : IsUtf8 label
  pub some : 1 ≤ length label
  pub few : length label ≤ PART_BYTES
  pub not_here : label ≢ 46 ∷ []
  pub not_above : label ≢ 46 ∷ 46 ∷ []
  pub no_slash : Contains label 47 → ⊥
  pub no_nul : Contains label 0 → ⊥

-- by bytes: the first that differs decides, and else the shorter one comes first
abbrev pub IsBefore : List ℕ → List ℕ → Type 0
IsBefore label next = slice_cmp nat_cmp label next ≡ Less

-- `.` or `..`
abbrev pub is_dots : List ℕ → Bool
is_dots label = bytes_eq label (46 ∷ []) || bytes_eq label (46 ∷ 46 ∷ [])

-- `/` or NUL
abbrev pub has_separator : List ℕ → Bool
has_separator label = list_any (λ b. b == 47) label || list_any (λ b. b == 0) label

-- the same as a test
unfoldable pub is_label : List ℕ → Bool
is_label label = is_utf8 label && nat_le 1 (length label) && nat_le (length label) PART_BYTES && not (is_dots label) && not (has_separator label)
