use Rattle.std.proofs.Common.{◌≡◌, ℕ, ◌+◌, List, length}
use Rattle.ms_record.specs.declared.record.Record.{Record}
use Rattle.ms_replay.specs.Audits.{origin_of}
use Rattle.ms_replay.specs.Tallies.{IsTallyOf}
use Rattle.ms_replay.proofs.Linking.{IsMade, NamesBelow}
use Rattle.ms_replay.proofs.audit.audit_tally.Given as goal

abbrev pub invariant-loop-position : goal.invariant-loop-position
invariant-loop-position l = record {
  names : NamesBelow l.tally.services l.made.plan;
  made : (lists : ℕ → List Record) → IsTallyOf lists l.tally → IsMade lists (origin_of l.fn.genesis.0 l.tally.services) l.made × (1 + length l.made.entries ≡ l.position);
}
