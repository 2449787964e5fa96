-- Labels of services and clients.
use Rattle.std.specs.Prelude.{◌≢◌, ℕ, ◌≤◌, ◌==◌, ◌&&◌, ◌||◌, not, nat_le, Bool, List, length, slice_index, Option, Some, None, if◌then◌else◌}
use Rattle.std.specs.Char.{is_ascii_digit, is_ascii_lowercase}
use Rattle.std.specs.List.{AllPass, list_all}
use Rattle.ms_base.specs.declared.limits.TheConstants.{CLIENT_LABEL_BYTES}

-- `a` to `z`, `0` to `9`, `_` (95) or `-` (45)
abbrev pub is_label_byte : ℕ → Bool
is_label_byte b = is_ascii_lowercase b || is_ascii_digit b || (b == 95) || (b == 45)

-- 1 to 24 of these bytes, and the first is not `-`
pub record IsClientLabel (text : List ℕ) : Type 0 where
  pub some : 1 ≤ length text
  pub few : length text ≤ CLIENT_LABEL_BYTES
  pub first : slice_index text 0 ≢ 45
  pub bytes : AllPass is_label_byte text

-- the same as a test
unfoldable pub is_label : List ℕ → Bool
is_label text = nat_le 1 (length text) && nat_le (length text) CLIENT_LABEL_BYTES && not (slice_index text 0 == 45) && list_all is_label_byte text

-- the text, where it is a label
abbrev pub label_if : List ℕ → Option (List ℕ)
label_if text = if is_label text then Some text else None
