use Rattle.std.proofs.Common.{◌≡◌, ℕ, List, length, Option, Some, None, ap, ◌∙◌, sym, subst, arith}
use Rattle.ms_tree.specs.Files.{FileList, text_at, total_of, IsFiles}
use Rattle.ms_tree.proofs.FileLaws.{total-without, length_at}
use Rattle.ms_tree.proofs.KeptLaws.{allowed_from_added}
use Rattle.ms_tree.proofs.InsideLaws.{found_key, inserted, put_IsKept}
use Rattle.ms_tree.proofs.files.Files.put.Goals as goal

pub overflow_sub-self : goal.overflow_sub-self
overflow_sub-self c =
    let stood : text_at c.args.self.now c.args.path.now ≡ Some c.in-Some.before = sym (c.in_ok-before.ensures.old ∙ found_key c.self.inside.map.entries c.args.self.now c.in_ok-key.key c.args.path.now c.self.view_is c.in_ok-key.ensures.ok) ∙ c.in-Some.is in
    omega (arith, total-without c.args.path.now c.args.self.now, ap (λ (o : Option (List ℕ)). length_at o) stood, c.self.invariant.total, ap (λ (fs : FileList). total_of fs) c.self.view_is, ap length c.as_slice-in-Some.ensures)

pub invariant_of-self-in-Some : goal.invariant_of-self-in-Some
invariant_of-self-in-Some c =
    let stood : text_at c.args.self.now c.args.path.now ≡ Some c.in-Some.before = sym (c.in_ok-before.ensures.old ∙ found_key c.self.inside.map.entries c.args.self.now c.in_ok-key.key c.args.path.now c.self.view_is c.in_ok-key.ensures.ok) ∙ c.in-Some.is in
    let kept = subst (λ (fs : FileList). IsFiles fs) c.self.view_is c.self.invariant.files in
    put_IsKept _ c.args.self.now c.args.path.now c.args.text
    (inserted c.self.inside.map.entries c.insert.new.self.entries c.args.self.now c.in_ok-key.key c.args.path.now c.args.text c.self.view_is c.in_ok-key.ensures.ok c.in_ok-before.ensures.entries)
    c.in_ok-before.ensures.ordered kept (allowed_from_added c.args.self.now c.args.path.now c.args.text _ c.requires)
    (omega (arith, total-without c.args.path.now c.args.self.now, ap (λ (o : Option (List ℕ)). length_at o) stood, c.self.invariant.total, ap (λ (fs : FileList). total_of fs) c.self.view_is, ap length c.as_slice-in-Some.ensures, ap length c.as_slice.ensures, ap length c.text.view_is))

pub invariant_of-self-in_default : goal.invariant_of-self-in_default
invariant_of-self-in_default c =
    let stood : text_at c.args.self.now c.args.path.now ≡ None = sym (c.in_ok-before.ensures.old ∙ found_key c.self.inside.map.entries c.args.self.now c.in_ok-key.key c.args.path.now c.self.view_is c.in_ok-key.ensures.ok) ∙ c.in_default.is in
    let kept = subst (λ (fs : FileList). IsFiles fs) c.self.view_is c.self.invariant.files in
    put_IsKept _ c.args.self.now c.args.path.now c.args.text
    (inserted c.self.inside.map.entries c.insert.new.self.entries c.args.self.now c.in_ok-key.key c.args.path.now c.args.text c.self.view_is c.in_ok-key.ensures.ok c.in_ok-before.ensures.entries)
    c.in_ok-before.ensures.ordered kept (allowed_from_added c.args.self.now c.args.path.now c.args.text _ c.requires)
    (omega (arith, ap (λ (o : Option (List ℕ)). length_at o) stood, c.self.invariant.total, ap (λ (fs : FileList). total_of fs) c.self.view_is, ap length c.as_slice.ensures, ap length c.text.view_is))

pub returns-in-Some-clause-ok : goal.returns-in-Some-clause-ok
returns-in-Some-clause-ok c = inserted c.self.inside.map.entries c.insert.new.self.entries c.args.self.now c.in_ok-key.key c.args.path.now c.args.text c.self.view_is c.in_ok-key.ensures.ok c.in_ok-before.ensures.entries

pub returns-in_default-clause-ok : goal.returns-in_default-clause-ok
returns-in_default-clause-ok c = inserted c.self.inside.map.entries c.insert.new.self.entries c.args.self.now c.in_ok-key.key c.args.path.now c.args.text c.self.view_is c.in_ok-key.ensures.ok c.in_ok-before.ensures.entries
