-- What a look at a vote list keeps of the records that it has read.
use Rattle.std.specs.Prelude.{◌≡◌, ℕ, true, List, Option, if◌then◌else◌}
use Rattle.ms_record.specs.declared.acceptor.Verdict.{Verdict}
use Rattle.ms_record.specs.declared.acceptor.Verdict.TheVariants.{Promised, Taken, Outbid, Elsewhere}
use Rattle.ms_record.specs.declared.ballot.Ballot.{Ballot}
use Rattle.ms_record.specs.declared.ballot.Vote.{Vote}
use Rattle.ms_record.specs.declared.record.Record.{Record}
use Rattle.ms_record.specs.Acceptors.{IsAcceptorOf}
use Rattle.ms_record.specs.Sights.{ShowsPromise, ShowsTaken}
use Rattle.ms_record.specs.declared.look.Look.{Look}

-- the look is for the bid of this ballot at this position
pub record IsOfBid (position : ℕ) (ballot : Ballot) (look : Look) : Type 0 where
  pub position_is : look.acceptor.position ≡ position
  pub ballot_is : look.ballot ≡ ballot

-- what the look keeps is what these records show
pub record HasShown (records : List Record) (look : Look) : Type 0 where
  pub acceptor : IsAcceptorOf records look.acceptor
  pub promise : ShowsPromise records look.acceptor.position look.ballot look.promised look.best
  pub taken : ShowsTaken records look.acceptor.position look.ballot look.taken

-- after a promised Prepare: the first one tells the Best
abbrev pub with_promise : Look → Option Vote → Look
with_promise look best = record look { promised = true; best = if look.promised then look.best else best }

-- after a record of the ballot that counts as this
abbrev pub after_verdict : Look → Verdict → Look
after_verdict look (Promised best) = with_promise look best
after_verdict look Taken = record look { taken = true }
after_verdict look (Outbid top) = look
after_verdict look Elsewhere = look
