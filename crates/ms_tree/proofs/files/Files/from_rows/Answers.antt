use Rattle.std.proofs.Common.{arith}
use Rattle.ms_tree.proofs.Building.{built_none, built_more, built_all, sum_fits}
use Rattle.ms_tree.proofs.files.Files.from_rows.Goals as goal

pub loop-row-init : goal.loop-row-init
loop-row-init c = built_none c.args.rows.now c.new-map.result.entries c.new-map.ensures.empty

pub overflow_add-total : goal.overflow_add-total
overflow_add-total c = let fits = sum_fits c.args.rows.now c.loop-row.row-index c.loop-row.map.entries c.loop-row.total c.requires c.loop-row.invariant c.loop-row-test.true in omega (arith, fits)

pub loop-row-preserved : goal.loop-row-preserved
loop-row-preserved c =
    built_more c.args.rows.now c.loop-row.row-index c.loop-row.map.entries c.insert.new.self.entries c.loop-row.total c.in_ok-path.path c.in_ok-of.field-0 c.requires c.loop-row.invariant
    c.loop-row-test.true c.in_ok-path.ensures.ok c.in_ok-of.ensures c.in_ok-insert.ensures.entries

pub invariant_of-result : goal.invariant_of-result
invariant_of-result c = (built_all c.args.rows.now c.loop-row.row-index _ c.requires c.loop-row.invariant c.loop-row-test.false).1

pub returns : goal.returns
returns c = (built_all c.args.rows.now c.loop-row.row-index (record { alloc = c.args.alloc; map = c.loop-row.map; total = c.loop-row.total }) c.requires c.loop-row.invariant c.loop-row-test.false).0
