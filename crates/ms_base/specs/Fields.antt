-- Fields of bytes: what is read from the front of a text, and the bytes after it.
use Rattle.std.specs.Prelude.{◌≡◌, ℕ, zero, suc, ◌<◌, ◌-◌, ◌&&◌, nat_lt, nat_le, List, [], ◌∷◌, ◌++◌, length, take, drop, slice_index, Option, Some, None, if◌then◌else◌}
use Rattle.std.specs.Int.{Width, w32, byte_len, from_be_bytes}
use Rattle.ms_base.specs.Options.{◌>>=◌}
use Rattle.ms_base.specs.declared.limits.TheConstants.{CLIENTS}
use Rattle.ms_base.specs.declared.names.Name.{Name}
use Rattle.ms_base.specs.declared.names.ClientId.{ClientId}

-- a text is of bytes
abbrev pub IsBytes : List ℕ → Type 0
IsBytes text = (i : ℕ) → slice_index text i < 256

-- a field, and the bytes after it
abbrev pub Field : Type 0 → Type 0
Field A = Option (A × List ℕ)

abbrev pub byte_at : List ℕ → Field ℕ
byte_at [] = None
byte_at (b ∷ rest) = Some (b, rest)

-- so many bytes
abbrev pub bytes_at : ℕ → List ℕ → Field (List ℕ)
bytes_at count text = if nat_lt (length text) count then None else Some (take count text, drop count text)

-- a number of this width, big-endian
abbrev pub number_at : Width → List ℕ → Field ℕ
number_at w text = if nat_lt (length text) (byte_len w) then None else Some (from_be_bytes w (take (byte_len w) text), drop (byte_len w) text)

abbrev pub in_range : ℕ → ℕ → ℕ × List ℕ → Field ℕ
in_range low high field = if nat_le low field.0 && nat_le field.0 high then Some field else None

-- a number of four bytes, from low to high
abbrev pub number_within : ℕ → ℕ → List ℕ → Field ℕ
number_within low high text = number_at w32 text >>= in_range low high

-- 32 bytes
abbrev pub name_at : List ℕ → Field Name
name_at text = if nat_lt (length text) 32 then None else Some (record { 0 = take 32 text }, drop 32 text)

-- a client's number, in four bytes
unfoldable pub client_at : List ℕ → Field ClientId
client_at text = do
  client ← number_within 0 (CLIENTS - 1) text
  Some (record { 0 = client.0 }, client.1)

-- so many in turn, each by what the one before it left
unfoldable pub many_at : {A S : Type 0} → (S → Option (A × S)) → ℕ → S → Option (List A × S)
many_at one zero left = Some ([], left)
many_at one (suc count) left = do
  first ← one left
  others ← many_at one count first.1
  Some (first.0 ∷ others.0, others.1)

-- the value, where no byte is left
abbrev pub at_end : {A : Type 0} → A × List ℕ → Option A
at_end (a, []) = Some a
at_end (a, b ∷ rest) = None

-- what was there stays, and more may follow
abbrev pub Grows : List ℕ → List ℕ → Type 0
Grows old new = (more : List ℕ) × (new ≡ old ++ more)
