-- What is chosen at a position.
use Rattle.std.proofs.Common.{ℕ, ◌≤◌, List, arith}
use Rattle.std.specs.List.{Contains}
use Rattle.ms_record.specs.declared.ballot.Ballot.{Ballot}
use Rattle.ms_record.specs.declared.entry.Entry.{Entry}
use Rattle.ms_record.specs.declared.record.Record.{Record}
use Rattle.ms_record.specs.declared.record.Record.TheVariants.{Accept}
use Rattle.ms_record.specs.Votes.{IsTaken, ChosenBy}
use Rattle.ms_replay.specs.Laws.{AreAmong}
use Rattle.ms_replay.specs.Standings.{NoneTaken}
use Rattle.ms_replay.specs.Tallies.{TallyView, IsTallyOf}
use Rattle.ms_replay.proofs.Choosing.{AreBelow, count_some}

-- of a chosen entry one voter has taken it
pub record OneTook (lists : ℕ → List Record) (voters : List ℕ) (k : ℕ) (b : Ballot) (e : Entry) : Type 0 where
  pub service : ℕ
  pub votes : Contains voters service
  pub place : ℕ
  pub taken : IsTaken (lists service) place k b e

pub one_took : (lists : ℕ → List Record) (voters : List ℕ) (k : ℕ) (e : Entry) (c : ChosenBy lists voters k e) → OneTook lists voters k c.ballot e
one_took lists voters k e c =
    let half = c.majority.more_than_half in
    let some = count_some c.part voters (omega arith) in
    let t = c.taken some.0 some.1 in
    record { service = some.0; votes = c.majority.within some.0 some.1; place = t.0; taken = t.1 }

-- where nothing is taken, nothing is chosen
pub none_taken : (lists : ℕ → List Record) (services voters : List ℕ) (k : ℕ) (e : Entry) → AreAmong services voters → NoneTaken lists services k → ChosenBy lists voters k e → ⊥
none_taken lists services voters k e among none c =
    let o = one_took lists voters k e c in
    none o.service o.place c.ballot e (among o.service o.votes) o.taken

-- past the last position none is chosen
pub none_past : (lists : ℕ → List Record) (t : TallyView) (voters : List ℕ) (k : ℕ) (e : Entry) → IsTallyOf lists t → AreBelow t.services voters → 4294967295 ≤ k → ChosenBy lists voters k e → ⊥
none_past lists t voters k e tally below past c =
    let o = one_took lists voters k e c in
    let p = tally.positions o.service o.place (Accept k c.ballot e) (below o.service o.votes) o.taken.stands in
    let l = p.1 in
    omega arith
