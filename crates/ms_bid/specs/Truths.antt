-- What a bid says of all lists of which its answers are the sights.
use Rattle.std.specs.Prelude.{◌≡◌, ℕ, ◌<◌, List, Option, Some}
use Rattle.ms_record.specs.declared.ballot.Ballot.{Ballot}
use Rattle.ms_record.specs.declared.entry.Entry.{Entry}
use Rattle.ms_record.specs.declared.record.Record.{Record}
use Rattle.ms_record.specs.declared.record.Record.TheVariants.{Accept}
use Rattle.ms_record.specs.Offers.{IsFirstPromised, JustifiedBy}
use Rattle.ms_record.specs.Votes.{IsTaken, ChosenBy}
use Rattle.ms_bid.specs.declared.act.Act.TheVariants.{Declare, End}
use Rattle.ms_bid.specs.declared.act.Outcome.TheVariants.{Decided}
use Rattle.ms_bid.specs.declared.bid.Bid.{Bid}
use Rattle.ms_record.specs.declared.sight.Sight.{Sight}
use Rattle.ms_bid.specs.Shown.{sight_at}
use Rattle.ms_record.specs.Sights.{IsSight}

-- what was seen of each service is what its list shows
abbrev pub AreSights : (ℕ → List Record) → List (Option Sight) → ℕ → Ballot → Type 0
AreSights votes sights position ballot = (s : ℕ) (sight : Sight) → sight_at sights s ≡ Some sight → IsSight (votes s) position ballot sight

-- no taken Accept of the ballot stands before the first promised Prepare of it
abbrev pub NoneBefore : (ℕ → List Record) → ℕ → Ballot → Type 0
NoneBefore votes position ballot = (s place i : ℕ) (e : Entry) → IsFirstPromised (votes s) place position ballot → i < place → IsTaken (votes s) i position ballot e → ⊥

-- each taken Accept of the ballot has this entry
abbrev pub OneTaken : (ℕ → List Record) → ℕ → Ballot → Entry → Type 0
OneTaken votes position ballot entry = (s place : ℕ) (e : Entry) → IsTaken (votes s) place position ballot e → e ≡ entry

-- the offer that is declared is justified by the lists behind the first looks, with these voters
abbrev pub IsOfferJustified : Bid → Type 0
IsOfferJustified b =
    (votes : ℕ → List Record) (entry : Entry) → AreSights votes b.first_looks b.position b.ballot → NoneBefore votes b.position b.ballot
    → b.act ≡ Declare (Accept b.position b.ballot entry) → JustifiedBy votes b.voters b.position b.ballot entry

-- where the bid is decided, by the lists behind the second looks a majority of these voters has taken the entry
abbrev pub IsDecidedTaken : Bid → Type 0
IsDecidedTaken b =
    (votes : ℕ → List Record) (entry : Entry) → AreSights votes b.second_looks b.position b.ballot → OneTaken votes b.position b.ballot entry
    → b.act ≡ End (Decided entry) → ChosenBy votes b.voters b.position entry
