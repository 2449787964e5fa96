-- Reading plans, entries and records from the front of a text. The laws of `parse_entry` and
-- `parse_record` tie this to the spellings.
use Rattle.std.specs.Prelude.{ℕ, zero, suc, ◌==◌, List, [], ◌∷◌, Option, Some, None, if◌then◌else◌}
use Rattle.std.specs.Int.{w32, w64}
use Rattle.ms_base.specs.Options.{◌>>=◌}
use Rattle.ms_base.specs.declared.limits.TheConstants.{LAST_NUMBER, SERVICES}
use Rattle.ms_record.specs.declared.ballot.Ballot.{Ballot}
use Rattle.ms_record.specs.declared.entry.Entry.{Entry}
use Rattle.ms_record.specs.declared.plan.PlanRow.{PlanRow}
use Rattle.ms_record.specs.declared.record.Record.{Record}
use Rattle.ms_record.specs.declared.record.Record.TheVariants.{Prepare, Accept}
use Rattle.ms_base.specs.Fields.{Field, byte_at, number_at, number_within, name_at, client_at, at_end}
use Rattle.ms_record.specs.Plans.{PlanView, plan_of}
use Rattle.ms_record.specs.PlanTests.{plan_if}

unfoldable pub row_at : List ℕ → Field PlanRow
row_at text = do
  service ← number_at w32 text
  capacity ← number_at w64 service.1
  Some (record { service = record { 0 = service.0 }; capacity = capacity.0 }, capacity.1)

-- so many rows
unfoldable pub rows_at : ℕ → List ℕ → Field (List PlanRow)
rows_at zero text = Some ([], text)
rows_at (suc n) text = do
  first ← row_at text
  others ← rows_at n first.1
  Some (first.0 ∷ others.0, others.1)

-- a plan that keeps the plan rules
unfoldable pub plan_at : List ℕ → Field PlanView
plan_at text = do
  generation ← number_at w32 text
  format ← number_at w32 generation.1
  replicas ← number_at w32 format.1
  unit ← number_at w64 replicas.1
  count ← number_within 1 SERVICES unit.1
  rows ← rows_at count.0 count.1
  plan ← plan_if (plan_of generation.0 format.0 replicas.0 unit.0 rows.0)
  Some (plan, rows.1)

-- a push, without its tag
unfoldable pub push_at : List ℕ → Field Entry
push_at text = do
  before ← name_at text
  client ← client_at before.1
  number ← number_at w32 client.1
  version ← name_at number.1
  Some (record { before = before.0; client = client.0; number = number.0; version = version.0; plan = None }, version.1)

-- a plan entry, without its tag: what a push has, and then a plan
unfoldable pub plan_entry_at : List ℕ → Field Entry
plan_entry_at text = do
  push ← push_at text
  plan ← plan_at push.1
  Some (record push.0 { plan = Some plan.0 }, plan.1)

-- what stands behind this tag
unfoldable pub tagged_at : ℕ → List ℕ → Field Entry
tagged_at tag text = if tag == 85 then push_at text else if tag == 76 then plan_entry_at text else None

-- the entry that the text is
unfoldable pub entry_at : List ℕ → Option Entry
entry_at text = do
  tag ← byte_at text
  entry ← tagged_at tag.0 tag.1
  at_end entry

unfoldable pub ballot_at : List ℕ → Field Ballot
ballot_at text = do
  round ← number_within 1 LAST_NUMBER text
  client ← client_at round.1
  Some (record { round = round.0; client = client.0 }, client.1)

-- the record of this tag, position and ballot, where this is the rest of its text
unfoldable pub ending_at : ℕ → ℕ → Ballot → List ℕ → Option Record
ending_at tag position ballot text =
    if tag == 80 then at_end (Prepare position ballot, text)
    else if tag == 65 then (entry_at text >>= λ entry. Some (Accept position ballot entry))
    else None

-- the record that the text is
unfoldable pub record_at : List ℕ → Option Record
record_at text = do
  tag ← byte_at text
  position ← number_within 1 LAST_NUMBER tag.1
  ballot ← ballot_at position.1
  ending_at tag.0 position.0 ballot.0 ballot.1

-- the records of a list, in order; texts that are none are skipped
abbrev pub with_record : Option Record → List Record → List Record
with_record None records = records
with_record (Some r) records = r ∷ records

abbrev pub votes_of : List (List ℕ) → List Record
votes_of [] = []
votes_of (text ∷ texts) = with_record (record_at text) (votes_of texts)
