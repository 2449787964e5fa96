use Rattle.std.proofs.Common.{◌≡◌, Bool, refl, ap, ◌∙◌}
use Rattle.std.specs.Prelude.{◌&&◌}
use Rattle.std.specs.Ordering.{is_lt, is_some_and, nat_cmp}
use Rattle.std.specs.Cmp.Lexicographic.{slice_cmp, lists_agrees}
use Rattle.ms_object.proofs.rows.is_next.Goals as goal

pub returns-then-is_label : goal.returns-then-is_label
returns-then-is_label c =
    let behind = is_lt (slice_cmp nat_cmp c.args.before.now c.args.label.now) in
    let lt : c.lt.result ≡ behind = c.lt.ensures ∙ ap (is_some_and is_lt) (lists_agrees (λ x y. refl) c.args.before.now c.args.label.now) in
    lt ∙ ap (λ (b : Bool). b && behind) c.if-is_label.ensures.test
