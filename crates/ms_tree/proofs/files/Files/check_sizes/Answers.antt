use Rattle.std.proofs.Common.{◌≡◌, ℕ, List, length, Option, Some, None, Bor, ap, ◌∙◌, sym, subst, arith, rules}
use Rattle.std.specs.Option.{option_copied}
use Rattle.ms_tree.specs.Files.{FileList, text_at, total_of, IsFiles}
use Rattle.ms_tree.proofs.FileLaws.{total-without, length_at}
use Rattle.ms_tree.proofs.InsideLaws.{found, count_is}
use Rattle.ms_tree.proofs.KeptLaws.{judged_in_place, judged_too_many, judged_beside}
use Rattle.ms_tree.proofs.files.Files.check_sizes.Goals as goal

pub overflow_sub-others : goal.overflow_sub-others
overflow_sub-others c =
    let stood : text_at c.args.self.now c.args.path.now ≡ Some c.in-Some.before.now =
    sym (c.get.ensures.value ∙ found c.self.inside.map.entries c.args.self.now c.args.path.now c.self.view_is) ∙ ap (λ (o : Option (Bor (List ℕ))). option_copied o) c.in-Some.is in
    omega (arith, total-without c.args.path.now c.args.self.now, ap (λ (o : Option (List ℕ)). length_at o) stood, c.self.invariant.total, ap (λ (fs : FileList). total_of fs) c.self.view_is, ap length c.as_slice.ensures)

pub returns-in_err-within-in-None : goal.returns-in_err-within-in-None
returns-in_err-within-in-None c =
    let none : text_at c.args.self.now c.args.path.now ≡ None =
    sym (c.get.ensures.value ∙ found c.self.inside.map.entries c.args.self.now c.args.path.now c.self.view_is) ∙ ap (λ (o : Option (Bor (List ℕ))). option_copied o) c.in-None.is in
    judged_too_many c.args.self.now c.args.path.now c.args.text.now c.len.result c.in_err-within-in-None.field-0.0 _ (subst (λ (fs : FileList). IsFiles fs) c.self.view_is c.self.invariant.files) none
    (c.len.ensures.len ∙ count_is c.self.inside.map.entries c.args.self.now c.self.view_is) (search rules) (search rules) (search rules)

pub returns-in-Some : goal.returns-in-Some
returns-in-Some c =
    let stood : text_at c.args.self.now c.args.path.now ≡ Some c.as_slice.result.now =
    sym (c.get.ensures.value ∙ found c.self.inside.map.entries c.args.self.now c.args.path.now c.self.view_is) ∙ ap (λ (o : Option (Bor (List ℕ))). option_copied o) c.in-Some.is ∙ ap (λ (t : List ℕ). Some t) (sym c.as_slice.ensures) in
    judged_in_place c.args.self.now c.args.path.now c.args.text.now c.as_slice.result.now c.self.inside.total _ (subst (λ (fs : FileList). IsFiles fs) c.self.view_is c.self.invariant.files) stood
    (c.self.invariant.total ∙ ap (λ (fs : FileList). total_of fs) c.self.view_is) (search rules) c.within-in-Some.ensures

pub returns-in_ok-within-in-None : goal.returns-in_ok-within-in-None
returns-in_ok-within-in-None c =
    let none : text_at c.args.self.now c.args.path.now ≡ None =
    sym (c.get.ensures.value ∙ found c.self.inside.map.entries c.args.self.now c.args.path.now c.self.view_is) ∙ ap (λ (o : Option (Bor (List ℕ))). option_copied o) c.in-None.is in
    judged_beside c.args.self.now c.args.path.now c.args.text.now c.len.result c.self.inside.total _ (subst (λ (fs : FileList). IsFiles fs) c.self.view_is c.self.invariant.files) none
    (c.len.ensures.len ∙ count_is c.self.inside.map.entries c.args.self.now c.self.view_is)
    (c.self.invariant.total ∙ ap (λ (fs : FileList). total_of fs) c.self.view_is) (search rules) (search rules) c.within-in-None-2.ensures
