use Rattle.std.proofs.Common.{ℕ, List, string_bytes, nat_eq, lit<, ap, ◌∙◌}
use Rattle.std.specs.List.{starts_with}
use Rattle.ms_tree.proofs.EntryLaws.{over_first, over_none}
use Rattle.ms_tree.proofs.entries.is_above.Goals as goal

pub returns : goal.returns
returns g c =
    over_none c.args.map.now.entries c.args.path.now _ _ _ c.in_ok-front.ensures.ok c.in_ok-push.ensures.bytes (c.in_ok-push.ensures.ascii (lit< tt))
    c.range.result c.in-None.ensures.steps.0 (c.range.ensures.between tt)

pub returns-in-Some : goal.returns-in-Some
returns-in-Some g c =
    c.starts_with.ensures.value
    ∙ ap (λ (p : List ℕ). starts_with nat_eq c.as_bytes.result.now p) c.as_bytes-in-Some.ensures.value
    ∙ ap (λ (s : List ℕ). starts_with nat_eq s (string_bytes c.push.new.self)) c.as_bytes.ensures.value
    ∙ over_first c.args.map.now.entries c.args.path.now _ _ _ c.range.ensures.ordered c.in_ok-front.ensures.ok c.in_ok-push.ensures.bytes (c.in_ok-push.ensures.ascii (lit< tt))
    _ _ c.range.result c.in-Some.ensures.steps (c.range.ensures.between tt)
