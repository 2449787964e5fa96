use Rattle.std.proofs.Common.{◌≡◌, ℕ, List, length, Option, Some, is_some, ap, ◌∙◌, sym, subst, arith}
use Rattle.ms_tree.specs.Files.{FileList, text_at, total_of, IsFiles}
use Rattle.ms_tree.proofs.FileLaws.{total-without, length_at}
use Rattle.ms_tree.proofs.InsideLaws.{found, removed, removed_IsKept}
use Rattle.ms_tree.proofs.files.Files.remove.Goals as goal

pub overflow_sub-self : goal.overflow_sub-self
overflow_sub-self c =
    let stood : text_at c.args.self.now c.args.path.now ≡ Some c.in-Some.text = sym (c.remove.ensures.value ∙ found c.self.inside.map.entries c.args.self.now c.args.path.now c.self.view_is) ∙ c.in-Some.is in
    omega (arith, total-without c.args.path.now c.args.self.now, ap (λ (o : Option (List ℕ)). length_at o) stood, c.self.invariant.total, ap (λ (fs : FileList). total_of fs) c.self.view_is, ap length c.as_slice.ensures)

pub invariant_of-self : goal.invariant_of-self
invariant_of-self c =
    let stood : text_at c.args.self.now c.args.path.now ≡ Some c.in-Some.text = sym (c.remove.ensures.value ∙ found c.self.inside.map.entries c.args.self.now c.args.path.now c.self.view_is) ∙ c.in-Some.is in
    removed_IsKept _ c.args.self.now c.args.path.now
    (removed c.self.inside.map.entries c.remove.new.self.entries c.args.self.now c.args.path.now c.self.view_is c.remove.ensures.entries)
    c.remove.ensures.ordered (subst (λ (fs : FileList). IsFiles fs) c.self.view_is c.self.invariant.files)
    (omega (arith, total-without c.args.path.now c.args.self.now, ap (λ (o : Option (List ℕ)). length_at o) stood, c.self.invariant.total, ap (λ (fs : FileList). total_of fs) c.self.view_is, ap length c.as_slice.ensures))

pub returns-in-Some-clause-was : goal.returns-in-Some-clause-was
returns-in-Some-clause-was c = ap (λ (o : Option (List ℕ)). is_some o) (sym c.in-Some.is ∙ c.remove.ensures.value ∙ found c.self.inside.map.entries c.args.self.now c.args.path.now c.self.view_is)

pub returns-in-Some-clause-after : goal.returns-in-Some-clause-after
returns-in-Some-clause-after c = removed c.self.inside.map.entries c.remove.new.self.entries c.args.self.now c.args.path.now c.self.view_is c.remove.ensures.entries

pub returns-in-None-clause-was : goal.returns-in-None-clause-was
returns-in-None-clause-was c = ap (λ (o : Option (List ℕ)). is_some o) (sym c.in-None.is ∙ c.remove.ensures.value ∙ found c.self.inside.map.entries c.args.self.now c.args.path.now c.self.view_is)

pub returns-in-None-clause-after : goal.returns-in-None-clause-after
returns-in-None-clause-after c = removed c.self.inside.map.entries c.remove.new.self.entries c.args.self.now c.args.path.now c.self.view_is c.remove.ensures.entries
