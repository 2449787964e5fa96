-- The grammar of a dump.
use Rattle.std.specs.Prelude.{◌≡◌, ◌≢◌, ℕ, ◌&&◌, nat_lt, nat_le, bytes_eq, codes, List, [], ◌∷◌, ◌++◌, Option, Some, None, Result, Ok, Err, if◌then◌else◌, slice_set, slice_index_or, replicate}
use Rattle.std.specs.Option.{option_map}
use Rattle.ms_record.specs.declared.refusal.Refusal.{Refusal}
use Rattle.ms_record.specs.declared.refusal.Refusal.TheVariants as refusals
use Rattle.ms_record.specs.declared.refusal.Place.TheVariants as places
use Rattle.ms_base.specs.declared.names.Name.{Name}
use Rattle.ms_text.specs.Lines.{lines_of, read_lines}
use Rattle.ms_base.specs.Options.{◌>>=◌}
use Rattle.ms_text.specs.Words.{two_words, number_at, bytes_at, name_at}
use Rattle.ms_replay.specs.declared.dump.Dump.{Dump}

-- `metasync-dump 1 N HEX64`: 1 to 16 services, and the name of the genesis
unfoldable pub head_at : List ℕ → Option (ℕ × List ℕ)
head_at line = do
  a ← two_words line
  b ← two_words a.1
  c ← two_words b.1
  n ← number_at 16 c.0
  g ← name_at c.1
  if bytes_eq a.0 (codes "metasync-dump") && bytes_eq b.0 (codes "1") && nat_le 1 n then Some (n, g) else None

-- `S HEX` or `S -`: the next text of the list of service S
unfoldable pub row_at : ℕ → List ℕ → Option (ℕ × List ℕ)
row_at services line = do
  w ← two_words line
  s ← number_at 4294967295 w.0
  b ← bytes_at w.1
  if nat_lt s services then Some (s, b) else None

-- the list of a service goes on by a text
abbrev pub push_at : List (List (List ℕ)) → ℕ → List ℕ → List (List (List ℕ))
push_at lists s text = slice_set lists s (slice_index_or lists s [] ++ text ∷ [])

abbrev pub dump_of : ℕ → Name → List (List (List ℕ)) → Dump
dump_of services genesis lists = record { services = services; genesis = genesis; lists = lists }

-- the head, and nothing in the lists
abbrev pub with_head : ℕ × List ℕ → Dump
with_head h = dump_of h.0 (record { 0 = h.1 }) (replicate h.0 [])

abbrev pub with_row : Dump → ℕ × List ℕ → Dump
with_row d r = record d { lists = push_at d.lists r.0 r.1 }

-- the first line is the head, and each further line is a row
abbrev pub dump_line : Option Dump → List ℕ → Option (Option Dump)
dump_line None line = option_map (λ h. Some (with_head h)) (head_at line)
dump_line (Some d) line = option_map (λ r. Some (with_row d r)) (row_at d.services line)

-- the end is wrong where there was no head
abbrev pub whole : Option Dump → Option Dump
whole d = d

-- the dump that the text spells, or its first wrong line
abbrev pub dump_at : List ℕ → Result Dump ℕ
dump_at text = read_lines dump_line whole 1 None (lines_of text)

-- the value that is spelled, the first wrong line, or no memory, which hides no wrong head; no other answer comes
abbrev pub ReadsDump : Result Dump ℕ → Result Dump Refusal → Type 0
ReadsDump spelled (Ok d) = spelled ≡ Ok d
ReadsDump spelled (Err (refusals.BadInput places.Input line)) = spelled ≡ Err line
ReadsDump spelled (Err refusals.NoMemory) = spelled ≢ Err 1
ReadsDump spelled (Err other) = ⊥
