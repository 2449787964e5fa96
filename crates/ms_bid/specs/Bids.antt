-- A bid: what is pending, and what came of what was done.
use Rattle.std.specs.Prelude.{◌≡◌, ◌≢◌, ℕ, ◌+◌, ◌-◌, ◌≤◌, Bool, true, false, List, Option, Some, None, Contains, length, slice_set, replicate, ◌⊎◌}
use Rattle.ms_base.specs.declared.names.ClientId.{ClientId}
use Rattle.ms_record.specs.declared.ballot.Ballot.{Ballot}
use Rattle.ms_record.specs.declared.ballot.Vote.{Vote}
use Rattle.ms_record.specs.declared.entry.Entry.{Entry}
use Rattle.ms_record.specs.declared.record.Record.{Record}
use Rattle.ms_record.specs.declared.record.Record.TheVariants.{Prepare, Accept}
use Rattle.ms_record.specs.Records.{IsBallot, IsPosition}
use Rattle.ms_bid.specs.declared.act.Act.{Act}
use Rattle.ms_bid.specs.declared.act.Act.TheVariants.{Keep, Send, Look, Declare, End}
use Rattle.ms_bid.specs.declared.act.Answer.{Answer}
use Rattle.ms_bid.specs.declared.act.Answer.TheVariants.{Kept, Sent, Seen, Declared, Failed}
use Rattle.ms_bid.specs.declared.act.Outcome.{Outcome}
use Rattle.ms_bid.specs.declared.act.Outcome.TheVariants.{Decided, Nothing, Outbid, NoMajority, Unlisted, KeepFault}
use Rattle.ms_bid.specs.declared.bid.Bid.{Bid}
use Rattle.ms_record.specs.declared.sight.Sight.{Sight}
use Rattle.ms_bid.specs.declared.sight.Sought.{Sought}
use Rattle.ms_bid.specs.declared.sight.Sought.TheVariants.{Promise, Taken}
use Rattle.ms_bid.specs.Shown.{sight_at, Most, GreatestUpTo}
use Rattle.ms_bid.specs.Ends.{flag_at, IsHalf, NoneGreater, LeastGreater, AllSent, AllSeen, AreBelow, EndsUnlisted}

-- the message of the sends: the Prepare, and when the offer is declared the Accept
abbrev pub message_of : ℕ → Ballot → Option Entry → Record
message_of position ballot None = Prepare position ballot
message_of position ballot (Some entry) = Accept position ballot entry

-- what the looks are for, and what they have shown: the first looks, and when the offer is declared the second
abbrev pub sought_of : Option Entry → Sought
sought_of None = Promise
sought_of (Some entry) = Taken

abbrev pub seen_of : Option Entry → List (Option Sight) → List (Option Sight) → List (Option Sight)
seen_of None first second = first
seen_of (Some entry) first second = second

-- the entry of the Best, or the bid's own where there is none
abbrev pub IsOfBest : Option Vote → Option Entry → Entry → Type 0
IsOfBest (Some vote) want entry = entry ≡ vote.entry
IsOfBest None want entry = want ≡ Some entry

-- what the rule offers: a majority promised, and the entry is that of the greatest Best before the promises
pub record IsOfferOf (first : List (Option Sight)) (voters : List ℕ) (want : Option Entry) (entry : Entry) : Type 0 where
  pub most : Most Promise first voters
  pub best : Option Vote
  pub greatest : GreatestUpTo first (length first) best
  pub entry_is : IsOfBest best want entry

-- a majority promised, but there is no Best, and the bid settles
pub record HasNothing (b : Bid) : Type 0 where
  pub before : b.offer ≡ None
  pub settles : b.want ≡ None
  pub most : Most Promise b.first_looks b.voters
  pub no_best : GreatestUpTo b.first_looks (length b.first_looks) None

-- a round of looks is over: each voter that did not fail was sent the message and then looked at
pub record IsLooked (b : Bid) : Type 0 where
  pub sent : AllSent b.sent b.failed b.voters 16
  pub seen : AllSeen (seen_of b.offer b.first_looks b.second_looks) b.failed b.voters 16

-- no majority shows what is sought
abbrev pub Lacks : Bid → Type 0
Lacks b = Most (sought_of b.offer) (seen_of b.offer b.first_looks b.second_looks) b.voters → ⊥

-- how the bid ends, and when
abbrev pub IsEnd : Bid → Outcome → Type 0
IsEnd b (Decided entry) = IsLooked b × (b.offer ≡ Some entry) × Most Taken b.second_looks b.voters
IsEnd b Nothing = IsLooked b × HasNothing b × NoneGreater b.first_looks b.ballot
IsEnd b (Outbid service top) =
    IsLooked b × LeastGreater (seen_of b.offer b.first_looks b.second_looks) b.ballot service.0 top × (flag_at b.failed service.0 ≡ false)
    × (HasNothing b ⊎ (Lacks b × (IsHalf b.failed b.voters → ⊥)))
IsEnd b (NoMajority those) = IsLooked b × Lacks b × (those ≡ b.failed) × IsHalf b.failed b.voters
IsEnd b (Unlisted service) =
    IsLooked b × Lacks b × EndsUnlisted (sought_of b.offer) (seen_of b.offer b.first_looks b.second_looks) b.voters b.sent b.failed b.ballot service.0
IsEnd b KeepFault = b.offer ≡ None

-- nothing was seen in this round of looks, nor in a later one
abbrev pub IsUnseen : Option Entry → List (Option Sight) → List (Option Sight) → Type 0
IsUnseen None first second = (first ≡ replicate 16 None) × (second ≡ replicate 16 None)
IsUnseen (Some entry) first second = second ≡ replicate 16 None

-- before the declaration there are no second looks
abbrev pub NoSecond : Option Entry → List (Option Sight) → Type 0
NoSecond None second = second ≡ replicate 16 None
NoSecond (Some entry) second = Unit {0}

-- in this round of looks nothing was seen from this service on
abbrev pub NoneSeenFrom : List (Option Sight) → ℕ → Type 0
NoneSeenFrom seen service = (s : ℕ) → service ≤ s → sight_at seen s ≡ None

-- a voter that did not fail
pub record IsAsked (b : Bid) (service : ℕ) : Type 0 where
  pub votes : Contains b.voters service
  pub free : flag_at b.failed service ≡ false

-- what may be pending
abbrev pub IsPending : Bid → Act → Type 0
IsPending b (Keep round) = (round ≡ b.ballot.round) × (b.offer ≡ None) × IsUnseen None b.first_looks b.second_looks
IsPending b (Send service message) =
    IsAsked b service.0 × (message ≡ message_of b.position b.ballot b.offer) × AllSent b.sent b.failed b.voters service.0 × IsUnseen b.offer b.first_looks b.second_looks
IsPending b (Look service) =
    IsAsked b service.0 × AllSent b.sent b.failed b.voters 16 × AllSeen (seen_of b.offer b.first_looks b.second_looks) b.failed b.voters service.0 × NoSecond b.offer b.second_looks
    × NoneSeenFrom (seen_of b.offer b.first_looks b.second_looks) service.0
IsPending b (Declare offer) =
    IsLooked b × (entry : Entry) × (offer ≡ Accept b.position b.ballot entry) × IsOfferOf b.first_looks b.voters b.want entry × (b.offer ≡ None) × (b.second_looks ≡ replicate 16 None)
IsPending b (End outcome) = IsEnd b outcome

-- only voters were looked at
abbrev pub OnlySeen : List (Option Sight) → List ℕ → Type 0
OnlySeen sights voters = (s : ℕ) (sight : Sight) → sight_at sights s ≡ Some sight → Contains voters s

-- it is true of voters alone
abbrev pub OnlyOf : List Bool → List ℕ → Type 0
OnlyOf flags voters = (s : ℕ) → flag_at flags s ≡ true → Contains voters s

-- no service failed that was looked at in this round
abbrev pub SeenAreFree : List (Option Sight) → List Bool → Type 0
SeenAreFree seen failed = (s : ℕ) (sight : Sight) → sight_at seen s ≡ Some sight → flag_at failed s ≡ false

-- what stays so throughout a bid
pub record IsFramed (b : Bid) : Type 0 where
  pub position : IsPosition b.position
  pub ballot : IsBallot b.ballot
  pub own : (e : Entry) → b.want ≡ Some e → e.client ≡ b.ballot.client
  pub below : AreBelow b.voters 16
  pub first_many : length b.first_looks ≡ 16
  pub second_many : length b.second_looks ≡ 16
  pub sent_many : length b.sent ≡ 16
  pub failed_many : length b.failed ≡ 16
  pub first_of : OnlySeen b.first_looks b.voters
  pub second_of : OnlySeen b.second_looks b.voters
  pub failed_of : OnlyOf b.failed b.voters
  pub seen_free : SeenAreFree (seen_of b.offer b.first_looks b.second_looks) b.failed

pub record IsBid (b : Bid) : Type 0 where
  pub framed : IsFramed b
  pub pending : IsPending b b.act

-- whether the answer is one to the act
abbrev pub fits : Act → Answer → Bool
fits (Keep round) Kept = true
fits (Keep round) Failed = true
fits (Send service message) Sent = true
fits (Send service message) Failed = true
fits (Look service) (Seen sight) = true
fits (Look service) Failed = true
fits (Declare offer) Declared = true
fits act answer = false

-- what an answer changes, but for what is pending next
abbrev pub with_sight : Bid → Option Entry → ℕ → Sight → Bid
with_sight b None service sight = record b { first_looks = slice_set b.first_looks service (Some sight) }
with_sight b (Some entry) service sight = record b { second_looks = slice_set b.second_looks service (Some sight) }

abbrev pub with_offer : Bid → Record → Bid
with_offer b (Accept position ballot entry) = record b { offer = Some entry; sent = replicate 16 false }
with_offer b (Prepare position ballot) = b

abbrev pub noted : Bid → Act → Answer → Bid
noted b (Send service message) Sent = record b { sent = slice_set b.sent service.0 true }
noted b (Send service message) Failed = record b { failed = slice_set b.failed service.0 true }
noted b (Look service) (Seen sight) = with_sight b b.offer service.0 sight
noted b (Look service) Failed = record b { failed = slice_set b.failed service.0 true }
noted b (Declare offer) Declared = with_offer b offer
noted b act answer = b

-- how many acts are left at most
abbrev pub rounds_left : Option Entry → ℕ
rounds_left None = 34
rounds_left (Some entry) = 0

abbrev pub left_at : Option Entry → Act → ℕ
left_at offer (Keep round) = 67
left_at offer (Send service message) = rounds_left offer + 16 + (16 - service.0)
left_at offer (Look service) = rounds_left offer + (16 - service.0)
left_at offer (Declare message) = 33
left_at offer (End outcome) = 0

abbrev pub acts_left : Bid → ℕ
acts_left b = left_at b.offer b.act

-- the ballot of a client in a round
abbrev pub ballot_of_round : ℕ → ClientId → Ballot
ballot_of_round round client = record { round = round; client = client }

-- a bid of which nothing was done
pub record IsFresh (voters : List ℕ) (position : ℕ) (ballot : Ballot) (want : Option Entry) (b : Bid) : Type 0 where
  pub ballot_is : b.ballot ≡ ballot
  pub position_is : b.position ≡ position
  pub voters_are : b.voters ≡ voters
  pub want_is : b.want ≡ want
  pub act_is : b.act ≡ Keep ballot.round
  pub offer_is : b.offer ≡ None
  pub sent_is : b.sent ≡ replicate 16 false
  pub failed_is : b.failed ≡ replicate 16 false
  pub first_is : b.first_looks ≡ replicate 16 None
  pub second_is : b.second_looks ≡ replicate 16 None

-- the bid ends by a fault of the keeper where the keeping of its round failed, and nowhere else
abbrev pub MayFault : Act → Answer → Act → Type 0
MayFault (Keep round) Failed next = next ≡ End KeepFault
MayFault act answer next = next ≢ End KeepFault
