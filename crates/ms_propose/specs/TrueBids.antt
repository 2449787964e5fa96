-- A bid whose sights are those of lists that a view tells.
use Rattle.std.specs.Prelude.{◌≡◌, ℕ, ◌+◌, ◌<◌, true, false, List, Option, Some, None, length, Contains}
use Rattle.ms_bid.specs.declared.bid.Bid.{Bid}
use Rattle.ms_bid.specs.Bids.{message_of, seen_of, sought_of}
use Rattle.ms_bid.specs.Ends.{flag_at, ShowsGreater}
use Rattle.ms_bid.specs.Shown.{shows, sight_at}
use Rattle.ms_core.specs.Views.{View, log_in, offers_told, votes_told, IsNextMaster}
use Rattle.ms_record.specs.declared.ballot.Ballot.{Ballot}
use Rattle.ms_record.specs.declared.entry.Entry.{Entry}
use Rattle.ms_record.specs.declared.record.Record.TheVariants.{Accept}
use Rattle.ms_record.specs.declared.setting.Setting.{Setting}
use Rattle.ms_record.specs.declared.sight.Sight.{Sight}
use Rattle.ms_record.specs.Chains.{IsLinked, voters_behind}
use Rattle.ms_record.specs.Entries.{IsEntry}
use Rattle.ms_record.specs.Offers.{IsOffered}
use Rattle.ms_record.specs.Settings.{origin_of}
use Rattle.ms_local.specs.Truths.{IsTrueSight}
use Rattle.ms_replay.specs.Looks.{IsInRange}

-- each is what a list shows, no shorter than in the low view and no longer than in the high one
abbrev pub AreTrue : View → View → ℕ → Ballot → List (Option Sight) → Type 0
AreTrue low high position ballot sights = (s : ℕ) (sight : Sight) → sight_at sights s ≡ Some sight → IsTrueSight low high position ballot s sight

-- each offer of the ballot's client is of a smaller round
abbrev pub IsNewest : View → Ballot → Type 0
IsNewest lists ballot = (k : ℕ) (b : Ballot) (e : Entry) → Contains (offers_told lists ballot.client.0) (Accept k b e) → b.round < ballot.round

-- before the declaration each offer of the client is of a smaller round; behind it the offer is told
abbrev pub HasOffer : View → ℕ → Ballot → Option Entry → Type 0
HasOffer lists position ballot None = IsNewest lists ballot
HasOffer lists position ballot (Some entry) = IsOffered (offers_told lists) position ballot entry

-- a linked list ends before the position, and these vote there; the entry that is wanted links on, with a version that is whole
pub record IsSeated (setting : Setting) (lists : View) (position : ℕ) (voters : List ℕ) (want : Option Entry) : Type 0 where
  pub members : List Entry
  pub at : length members + 1 ≡ position
  pub linked : IsLinked (votes_told lists) (origin_of setting) members
  pub voters_are : voters ≡ voters_behind (origin_of setting) members
  pub next : (e : Entry) → want ≡ Some e → IsNextMaster setting (log_in lists) members e

-- whom the message of the bid was sent, in whose list it stands
abbrev pub AreSent : View → Bid → Type 0
AreSent lists b = (s : ℕ) → flag_at b.sent s ≡ true → Contains (votes_told lists s) (message_of b.position b.ballot b.offer)

-- who was sent the message and does not show it shows a greater ballot
abbrev pub AreListed : Bid → Type 0
AreListed b = (s : ℕ) (sight : Sight) → sight_at (seen_of b.offer b.first_looks b.second_looks) s ≡ Some sight → flag_at b.sent s ≡ true
    → shows (sought_of b.offer) (Some sight) ≡ false → (top : Ballot) × ShowsGreater b.ballot (Some sight) top

-- what is true of a bid where this setting is told, between two moments
pub record IsTrueBid (setting : Setting) (low lists : View) (b : Bid) : Type 0 where
  pub looks : AreTrue low lists b.position b.ballot b.first_looks
  pub votes : AreTrue low lists b.position b.ballot b.second_looks
  pub offer : HasOffer lists b.position b.ballot b.offer
  pub sent : AreSent lists b
  pub listed : AreListed b
  pub seated : IsSeated setting lists b.position b.voters b.want

-- what is wanted, what was shown as a Best, and what is offered is in the ranges of entries
pub record HasEntries (b : Bid) : Type 0 where
  pub want : (e : Entry) → b.want ≡ Some e → IsEntry e
  pub looks : (s : ℕ) (sight : Sight) → sight_at b.first_looks s ≡ Some sight → IsInRange sight
  pub offer : (e : Entry) → b.offer ≡ Some e → IsEntry e
