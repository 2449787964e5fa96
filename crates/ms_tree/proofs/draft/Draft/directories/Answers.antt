use Rattle.std.proofs.Common.{◌≡◌, List, ℕ, ◌∷◌, rules, ap, ◌∙◌}
use Rattle.ms_tree.proofs.EntryLaws.{text_of, files_of}
use Rattle.ms_tree.proofs.DraftLaws.{Lent, lent, found_none, found_more, found_other, found_all, answered}
use Rattle.ms_tree.proofs.draft.Draft.directories.Goals as goal

pub loop-path-init : goal.loop-path-init
loop-path-init c = found_none c.args.self.now c.new-found.result.items _ c.new-found.ensures.items (ap (λ (es : Lent). files_of lent es) c.into_iter-path-iterator.ensures.into_iter_gives.0 ∙ c.self.view_is)

pub loop-path-preserved-in-Continue-branch-3 : goal.loop-path-preserved-in-Continue-branch-3
loop-path-preserved-in-Continue-branch-3 c =
    let step : c.loop-path.path-iterator ≡ (c.in-Some.path.now, c.in-Some.text.now) ∷ c.next.new.self = search rules in
    let here = answered c.self.inside.map.entries c.args.self.now (text_of c.in-Some.path.now) c.as_str.result.now c.in_ok-is_above.field-0 c.self.view_is c.as_str.ensures.value c.in_ok-is_above.ensures ∙ c.if-branch.true in
    let same : text_of c.in_ok-path.path ≡ text_of c.in-Some.path.now = search rules in
    found_more c.args.self.now c.loop-path.found.items c.push.new.self.items c.loop-path.path-iterator c.next.new.self c.in-Some.path.now c.in-Some.text.now _ c.loop-path.invariant step here (ap (λ (p : List ℕ). (p, c.in-Some.text.now.now)) same) c.in_ok-push.ensures.items

pub loop-path-preserved : goal.loop-path-preserved
loop-path-preserved c =
    let step : c.loop-path.path-iterator ≡ (c.in-Some.path.now, c.in-Some.text.now) ∷ c.next.new.self = search rules in
    let here = answered c.self.inside.map.entries c.args.self.now (text_of c.in-Some.path.now) c.as_str.result.now c.in_ok-is_above.field-0 c.self.view_is c.as_str.ensures.value c.in_ok-is_above.ensures ∙ c.if-branch.false in
    found_other c.args.self.now c.loop-path.found.items c.loop-path.path-iterator c.next.new.self c.in-Some.path.now c.in-Some.text.now c.loop-path.invariant step here

pub returns : goal.returns
returns c = found_all c.args.self.now c.loop-path.found.items c.loop-path.path-iterator c.loop-path.invariant (search rules)
