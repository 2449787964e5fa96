-- What each event keeps of a world's state, and what is decided of one client.
use Rattle.std.specs.Prelude.{◌≡◌, ℕ, ◌≤◌, false, All, Option, Some, None, length, slice_get}
use Rattle.ms_base.specs.declared.limits.TheConstants.{LAST_NUMBER}
use Rattle.ms_world.specs.PutTexts.{ArePutsNamed}
use Rattle.ms_world.specs.Steps.{IsNextPosition, IsNextRound}
use Rattle.ms_world.specs.Worlds.{ClientView, WorldView, known_votes, next_of, voters_of_client}
use Rattle.ms_record.specs.declared.entry.Entry.{Entry}
use Rattle.ms_record.specs.declared.refusal.Why.{Why}
use Rattle.ms_record.specs.declared.refusal.Why.TheVariants as whys
use Rattle.ms_record.specs.declared.setting.Setting.{Setting}
use Rattle.ms_record.specs.Settings.{IsSetting}
use Rattle.ms_record.specs.Votes.{ChosenBy}

-- a log per service, each put under its name, and no chain longer than there are positions
pub record IsState (setting : Setting) (w : WorldView) : Type 0 where
  pub set : IsSetting setting
  pub services : length w.logs ≡ setting.services
  pub named : All ArePutsNamed w.logs
  pub short : (client : ℕ) (c : ClientView) → slice_get w.clients client ≡ Some c → length c.chain ≤ LAST_NUMBER

-- a client may bid for the position behind its chain in that round; or the condition that fails
abbrev pub MayBid : ClientView → ℕ → Option Why → Type 0
MayBid c round None = IsNextPosition c × IsNextRound c round
MayBid c round (Some whys.Position) = ¬ IsNextPosition c
MayBid c round (Some whys.Round) = IsNextPosition c × (¬ IsNextRound c round)
MayBid c round (Some _) = ⊥

-- by what a client knows of its voters, two entries that are chosen behind its chain are one
abbrev pub KnowsOne : Setting → WorldView → Type 0
KnowsOne setting w = (client : ℕ) (c : ClientView) → slice_get w.clients client ≡ Some c
    → (e f : Entry) → ChosenBy (known_votes w c) (voters_of_client setting c) (next_of c) e → ChosenBy (known_votes w c) (voters_of_client setting c) (next_of c) f → e ≡ f
