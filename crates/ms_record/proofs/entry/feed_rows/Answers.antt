use Rattle.std.proofs.Common.{subst}
use Rattle.sha2.specs.Hashers.{Holds256}
use Rattle.ms_record.specs.Plans.{no_row}
use Rattle.ms_record.proofs.Feeding.{row_parts}
use Rattle.ms_record.proofs.entry.feed_rows.Goals as goal

pub loop-row-preserved : goal.loop-row-preserved
loop-row-preserved c = λ m h.
    subst (Holds256 c.feed_u64.new.hasher) (row_parts m c.args.rows.now c.loop-row.row-index no_row c.loop-row-test.true)
    (c.feed_u64.ensures _ (c.feed_u32.ensures _ (c.loop-row.invariant m h)))
