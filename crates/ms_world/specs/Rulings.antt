-- What a bidder may offer, decided.
use Rattle.std.specs.Prelude.{◌≡◌, ◌<◌, ℕ, List, [], Option, Some, length, slice_get, slice_index_or}
use Rattle.ms_world.specs.declared.rule.Ruling.{Ruling}
use Rattle.ms_world.specs.declared.rule.Ruling.TheVariants as rulings
use Rattle.ms_world.specs.Steps.{HasPromises, Offers}
use Rattle.ms_record.specs.declared.ballot.Ballot.{Ballot}
use Rattle.ms_record.specs.declared.entry.Entry.{Entry}
use Rattle.ms_record.specs.declared.log.LogEvent.{LogEvent}
use Rattle.ms_record.specs.declared.record.Record.{Record}
use Rattle.ms_record.specs.Logs.{votes_in}

-- the votes of the log with this number
abbrev pub votes_at : List (List LogEvent) → ℕ → List Record
votes_at logs s = votes_in (slice_index_or logs s [])

-- of the voters no majority promised; or a majority did, and there is neither a Best nor an own entry; or this entry may be offered
abbrev pub IsRuling : (ℕ → List Record) → List ℕ → ℕ → Ballot → Option Entry → Ruling → Type 0
IsRuling votes voters position ballot want rulings.Unpromised = ¬ HasPromises votes voters position ballot
IsRuling votes voters position ballot want rulings.Nothing =
    (promises : HasPromises votes voters position ballot) × ((entry : Entry) → ¬ Offers promises want entry)
IsRuling votes voters position ballot want (rulings.Offer entry) =
    (promises : HasPromises votes voters position ballot) × Offers promises want entry

-- the services rise
abbrev pub Rises : List ℕ → Type 0
Rises voters = (i j s t : ℕ) → i < j → slice_get voters i ≡ Some s → slice_get voters j ≡ Some t → s < t

-- of each voter, in their order, the log or the front of it that has these votes
pub record AreFronts (votes : ℕ → List Record) (voters : List ℕ) (fronts : List (List LogEvent)) : Type 0 where
  pub each : length fronts ≡ length voters
  pub are : (i s : ℕ) → slice_get voters i ≡ Some s → votes_at fronts i ≡ votes s
