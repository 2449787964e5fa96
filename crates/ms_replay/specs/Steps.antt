-- How a chain goes on.
use Rattle.std.specs.Prelude.{◌≡◌, ℕ, List, [], ◌∷◌, ◌++◌}
use Rattle.ms_record.specs.declared.entry.Entry.{Entry}
use Rattle.ms_record.specs.declared.record.Record.{Record}
use Rattle.ms_record.specs.Chains.{LinksOn, plan_after, voters_of}
use Rattle.ms_record.specs.Entries.{name_of}
use Rattle.ms_record.specs.Votes.{ChosenBy, services_below}
use Rattle.ms_replay.specs.declared.audit.Made.{Made}
use Rattle.ms_replay.specs.declared.audit.Next.{Next}
use Rattle.ms_replay.specs.declared.audit.Next.TheVariants as nexts
use Rattle.ms_replay.specs.declared.standing.Standing.{Standing}
use Rattle.ms_replay.specs.declared.standing.Standing.TheVariants.{Unseen, Seen, Chosen, Split}
use Rattle.ms_replay.specs.Standings.{IsStanding}

-- the entry links on to what was made
abbrev pub LinksTo : Made → ℕ → Entry → Type 0
LinksTo made services e = LinksOn made.last.0 made.plan.generation made.plan.format services e

-- two entries that the voters have chosen are one
abbrev pub ChooseOne : (ℕ → List Record) → List ℕ → ℕ → Type 0
ChooseOne lists voters position = (e f : Entry) → ChosenBy lists voters position e → ChosenBy lists voters position f → e ≡ f

-- what stands at the next position: a member, none, or two chosen entries
abbrev pub IsNextOf : (ℕ → List Record) → ℕ → Made → ℕ → Next → Type 0
IsNextOf lists services made position (nexts.Member e) = ChosenBy lists (voters_of made.plan) position e × LinksTo made services e × ChooseOne lists (voters_of made.plan) position
IsNextOf lists services made position nexts.End =
    ChooseOne lists (voters_of made.plan) position × ((e : Entry) → ChosenBy lists (voters_of made.plan) position e → LinksTo made services e → ⊥)
IsNextOf lists services made position (nexts.Split first second) = IsStanding lists (services_below services) (voters_of made.plan) position (Split first second)

-- the chain goes on by the entry
pub record GoesOnBy (old : Made) (e : Entry) (new : Made) : Type 0 where
  pub entries : new.entries ≡ old.entries ++ e ∷ []
  pub last : new.last.0 ≡ name_of e
  pub plan : new.plan ≡ plan_after old.plan e.plan

-- the entry is the next member, where it links on
abbrev pub IsMemberOrEnd : ℕ → Made → Entry → Next → Type 0
IsMemberOrEnd services made entry (nexts.Member e) = (e ≡ entry) × LinksTo made services entry
IsMemberOrEnd services made entry nexts.End = LinksTo made services entry → ⊥
IsMemberOrEnd services made entry (nexts.Split first second) = ⊥

-- what follows from what the lists show at the next position
abbrev pub IsNextBy : ℕ → Made → Standing → Next → Type 0
IsNextBy services made (Chosen entry) next = IsMemberOrEnd services made entry next
IsNextBy services made (Split first second) next = next ≡ nexts.Split first second
IsNextBy services made Unseen next = next ≡ nexts.End
IsNextBy services made (Seen vote) next = next ≡ nexts.End

-- a member links on
abbrev pub OnMember : Made → ℕ → Next → Type 0
OnMember made services (nexts.Member e) = LinksTo made services e
OnMember made services nexts.End = Unit {0}
OnMember made services (nexts.Split first second) = Unit {0}
