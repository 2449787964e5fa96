use Rattle.std.proofs.Common.{◌≡◌, ◌≤◌, ℕ, List, string_bytes, ap, ◌∙◌, arith}
use Rattle.ms_tree.specs.Paths.{parts_of, long_part}
use Rattle.ms_merge.proofs.LimitLaws.{first_long, all_more, all_names}
use Rattle.ms_merge.proofs.limits.long_name_part.Goals as goal

pub loop-name-preserved : goal.loop-name-preserved
loop-name-preserved c =
    let bytes : c.long_part-bytes.result ≡ long_part (parts_of (string_bytes c.name-item.result.path)) = c.long_part-bytes.ensures ∙ ap (λ (p : List ℕ). long_part (parts_of p)) c.as_str.ensures.value in
    all_more (λ name. long_part (parts_of name) ≤ 200) c.args.names.now c.loop-name.name-index c.name-item.result c.loop-name-test.true c.name-item.is c.loop-name.invariant (omega (arith, bytes, c.if-bytes-gt-PART_BYTES.false))

pub returns-then-bytes-gt-PART_BYTES : goal.returns-then-bytes-gt-PART_BYTES
returns-then-bytes-gt-PART_BYTES c =
    first_long (λ name. long_part (parts_of name)) 200 c.args.names.now c.loop-name.name-index c.long_part-bytes.result c.name-item.result c.loop-name-test.true c.name-item.is c.loop-name.invariant
    (c.long_part-bytes.ensures ∙ ap (λ (p : List ℕ). long_part (parts_of p)) c.as_str.ensures.value) c.if-bytes-gt-PART_BYTES.true

pub returns : goal.returns
returns c = all_names (λ name. long_part (parts_of name) ≤ 200) c.args.names.now c.loop-name.name-index c.loop-name.invariant c.loop-name-test.false
