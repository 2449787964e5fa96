use Rattle.std.proofs.Common.{◌≤◌, length, ap, arith}
use Rattle.ms_merge.proofs.LimitLaws.{first_long, all_more, all_names}
use Rattle.ms_merge.proofs.limits.long_name.Goals as goal

pub loop-name-preserved : goal.loop-name-preserved
loop-name-preserved c =
    let bytes = ap length c.as_str.ensures.value in
    all_more (λ name. length name ≤ 1024) c.args.names.now c.loop-name.name-index c.name-item.result c.loop-name-test.true c.name-item.is c.loop-name.invariant (omega (arith, bytes, c.if-bytes-gt-PATH_BYTES.false))

pub returns-then-bytes-gt-PATH_BYTES : goal.returns-then-bytes-gt-PATH_BYTES
returns-then-bytes-gt-PATH_BYTES c =
    first_long length 1024 c.args.names.now c.loop-name.name-index _ c.name-item.result c.loop-name-test.true c.name-item.is c.loop-name.invariant (ap length c.as_str.ensures.value) c.if-bytes-gt-PATH_BYTES.true

pub returns : goal.returns
returns c = all_names (λ name. length name ≤ 1024) c.args.names.now c.loop-name.name-index c.loop-name.invariant c.loop-name-test.false
