-- How a round of looks ends.
use Rattle.std.specs.Prelude.{◌≡◌, ℕ, ◌*◌, ◌<◌, ◌≤◌, Bool, true, false, List, Option, Some, None, Contains, length, slice_index_or, count_by}
use Rattle.ms_base.specs.declared.names.ServiceId.{ServiceId}
use Rattle.ms_record.specs.declared.ballot.Ballot.{Ballot}
use Rattle.ms_record.specs.Ballots.{IsBelow}
use Rattle.ms_bid.specs.declared.act.Outcome.{Outcome}
use Rattle.ms_bid.specs.declared.act.Outcome.TheVariants.{Decided, Nothing, Outbid, NoMajority, Unlisted, KeepFault}
use Rattle.ms_record.specs.declared.sight.Sight.{Sight}
use Rattle.ms_bid.specs.declared.sight.Sought.{Sought}
use Rattle.ms_bid.specs.Shown.{sight_at, shows}

-- whether it is true of the service with this number
abbrev pub flag_at : List Bool → ℕ → Bool
flag_at flags s = slice_index_or flags s false

-- half of the voters failed, or more
abbrev pub IsHalf : List Bool → List ℕ → Type 0
IsHalf failed voters = length voters ≤ 2 * count_by (flag_at failed) voters

-- a sight shows this ballot, and it is greater
abbrev pub ShowsGreater : Ballot → Option Sight → Ballot → Type 0
ShowsGreater ballot None top = ⊥
ShowsGreater ballot (Some sight) top = (sight.top ≡ Some top) × IsBelow ballot top

-- no sight of a service below n shows a greater ballot
abbrev pub NoneGreaterBelow : List (Option Sight) → Ballot → ℕ → Type 0
NoneGreaterBelow sights ballot n = (s : ℕ) (top : Ballot) → s < n → ShowsGreater ballot (sight_at sights s) top → ⊥

abbrev pub NoneGreater : List (Option Sight) → Ballot → Type 0
NoneGreater sights ballot = NoneGreaterBelow sights ballot (length sights)

-- the least service whose sight shows a greater ballot
pub record LeastGreater (sights : List (Option Sight)) (ballot : Ballot) (service : ℕ) (top : Ballot) : Type 0 where
  pub within : service < length sights
  pub shows_it : ShowsGreater ballot (sight_at sights service) top
  pub least : NoneGreaterBelow sights ballot service

-- the voter was sent the message, did not fail and does not show it
pub record IsMissing (sought : Sought) (sights : List (Option Sight)) (voters : List ℕ) (sent failed : List Bool) (service : ℕ) : Type 0 where
  pub votes : Contains voters service
  pub sent_to : flag_at sent service ≡ true
  pub free : flag_at failed service ≡ false
  pub missing : shows sought (sight_at sights service) ≡ false

-- the least such voter
pub record LeastMissing (sought : Sought) (sights : List (Option Sight)) (voters : List ℕ) (sent failed : List Bool) (service : ℕ) : Type 0 where
  pub is : IsMissing sought sights voters sent failed service
  pub least : (s : ℕ) → s < service → IsMissing sought sights voters sent failed s → ⊥

-- a voter from this number on that did not fail, and each voter between did
pub record IsFree (failed : List Bool) (voters : List ℕ) (from service : ℕ) : Type 0 where
  pub after : from ≤ service
  pub within : service < 16
  pub votes : Contains voters service
  pub free : flag_at failed service ≡ false
  pub between : (s : ℕ) → from ≤ s → s < service → Contains voters s → flag_at failed s ≡ true

abbrev pub IsNextFree : List Bool → List ℕ → ℕ → Option ServiceId → Type 0
IsNextFree failed voters from None = (s : ℕ) → from ≤ s → s < 16 → Contains voters s → flag_at failed s ≡ true
IsNextFree failed voters from (Some service) = IsFree failed voters from service.0

-- the voters have numbers below n
abbrev pub AreBelow : List ℕ → ℕ → Type 0
AreBelow voters n = (s : ℕ) → Contains voters s → s < n

-- each voter below n that did not fail was sent the message
abbrev pub AllSent : List Bool → List Bool → List ℕ → ℕ → Type 0
AllSent sent failed voters n = (s : ℕ) → s < n → Contains voters s → flag_at failed s ≡ false → flag_at sent s ≡ true

-- each voter below n that did not fail was looked at
abbrev pub AllSeen : List (Option Sight) → List Bool → List ℕ → ℕ → Type 0
AllSeen sights failed voters n = (s : ℕ) → s < n → Contains voters s → flag_at failed s ≡ false → sight_at sights s ≡ None → ⊥

-- fewer than half failed and no sight shows a greater ballot; this is the least voter that does not show the message
pub record EndsUnlisted (sought : Sought) (sights : List (Option Sight)) (voters : List ℕ) (sent failed : List Bool) (ballot : Ballot) (service : ℕ) : Type 0 where
  pub few_failed : IsHalf failed voters → ⊥
  pub none_greater : NoneGreater sights ballot
  pub missing : LeastMissing sought sights voters sent failed service

-- the end after a round of looks without a majority
abbrev pub IsLackEnd : Sought → List (Option Sight) → List ℕ → List Bool → List Bool → Ballot → Outcome → Type 0
IsLackEnd sought sights voters sent failed ballot (NoMajority those) = (those ≡ failed) × IsHalf failed voters
IsLackEnd sought sights voters sent failed ballot (Outbid service top) = (IsHalf failed voters → ⊥) × LeastGreater sights ballot service.0 top
IsLackEnd sought sights voters sent failed ballot (Unlisted service) = EndsUnlisted sought sights voters sent failed ballot service.0
IsLackEnd sought sights voters sent failed ballot (Decided entry) = ⊥
IsLackEnd sought sights voters sent failed ballot Nothing = ⊥
IsLackEnd sought sights voters sent failed ballot KeepFault = ⊥
