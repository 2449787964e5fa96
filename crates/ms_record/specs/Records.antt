-- Records of vote lists: their ranges and their one spelling; which records the texts of a list are.
use Rattle.std.specs.Prelude.{ℕ, ◌<◌, ◌≤◌, List, [], ◌∷◌, ◌++◌}
use Rattle.std.specs.Int.{w32, to_be_bytes}
use Rattle.ms_base.specs.declared.limits.TheConstants.{CLIENTS, LAST_NUMBER}
use Rattle.ms_record.specs.declared.ballot.Ballot.{Ballot}
use Rattle.ms_record.specs.declared.record.Record.{Record}
use Rattle.ms_record.specs.declared.record.Record.TheVariants.{Prepare, Accept}
use Rattle.ms_record.specs.Entries.{IsEntry, entry_text}

pub record IsBallot (b : Ballot) : Type 0 where
  pub some_round : 1 ≤ b.round
  pub last_round : b.round ≤ LAST_NUMBER
  pub client : b.client.0 < CLIENTS

abbrev pub IsPosition : ℕ → Type 0
IsPosition k = (1 ≤ k) × (k ≤ LAST_NUMBER)

abbrev pub IsRecord : Record → Type 0
IsRecord (Prepare k b) = IsPosition k × IsBallot b
IsRecord (Accept k b e) = IsPosition k × IsBallot b × IsEntry e

abbrev pub ballot_text : Ballot → List ℕ
ballot_text b = to_be_bytes w32 b.round ++ to_be_bytes w32 b.client.0

-- the tag, the position, round and client
abbrev pub head_text : ℕ → ℕ → Ballot → List ℕ
head_text tag k b = tag ∷ [] ++ to_be_bytes w32 k ++ ballot_text b

-- `P` or `A`, the position, round and client, and the entry that is to be accepted
abbrev pub record_text : Record → List ℕ
record_text (Prepare k b) = head_text 80 k b
record_text (Accept k b e) = head_text 65 k b ++ entry_text e
