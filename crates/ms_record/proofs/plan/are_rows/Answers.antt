use Rattle.std.proofs.Common.{sym, arith}
use Rattle.ms_record.specs.Plans.{no_row}
use Rattle.ms_record.proofs.RowsRead.{fit_more, fit_all, test_more}
use Rattle.ms_record.proofs.plan.are_rows.Goals as goal

pub loop-row-preserved : goal.loop-row-preserved
loop-row-preserved c =
    let rows = c.args.rows.now in
    let i = c.loop-row.row-index in
    record {
      low = omega (arith, c.if-not-is_row.ensures.service);
      test = test_more c.args.unit c.loop-row.low rows i no_row _ c.loop-row-test.true c.if-row-low.false (sym c.if-not-is_row.ensures.test) c.loop-row.invariant.test;
      fits = fit_more rows i no_row c.loop-row.invariant.fits c.is_row.ensures.fits;
    }

pub returns-clause-fits : goal.returns-clause-fits
returns-clause-fits c = fit_all c.args.rows.now c.loop-row.row-index c.loop-row-test.false c.loop-row.invariant.fits
