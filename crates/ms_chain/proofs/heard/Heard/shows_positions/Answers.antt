use Rattle.std.proofs.Common.{List, ℕ, Some, ◌≡◌, slice_get, subst}
use Rattle.ms_record.specs.declared.record.Record.{Record}
use Rattle.ms_record.specs.Records.{IsPosition}
use Rattle.ms_record.specs.Votes.{position_of}
use Rattle.ms_replay.specs.Audits.{lists_of}
use Rattle.ms_chain.specs.HeardInside.{view_of}
use Rattle.ms_chain.proofs.Keeping.{positions_of}
use Rattle.ms_chain.proofs.heard.Heard.shows_positions.Goals as goal

pub returns : goal.returns
returns c =
    let inv = c.self.invariant in
    subst (λ (lists : List (List (List ℕ))). (s place : ℕ) (r : Record) → slice_get (lists_of lists s) place ≡ Some r → IsPosition (position_of r)) c.self.view_is
    (positions_of (view_of c.self.inside) c.self.inside.tally c.self.inside.seen (record { services = inv.services; tally = inv.tally; seen = inv.seen }))
