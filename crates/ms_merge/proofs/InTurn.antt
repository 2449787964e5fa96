-- Merging in turn has one result.
use Rattle.std.proofs.Common.{◌≡◌, ℕ, List, [], ◌∷◌, sym, ◌∙◌, subst}
use Rattle.ms_tree.specs.Files.{FileList}
use Rattle.ms_tree.specs.Merging.{IsMergedAll}
use Rattle.ms_tree.specs.MergeLaws.{MergeLaws}

pub one_in_turn : MergeLaws → (base ours : FileList) (ts : List FileList) (tag : List ℕ) (f g : FileList) → IsMergedAll base ours ts tag f → IsMergedAll base ours ts tag g → f ≡ g
one_in_turn laws base ours [] tag f g a b = a ∙ sym b
one_in_turn laws base ours (theirs ∷ more) tag f g a b =
    let same : a.0 ≡ b.0 = laws.one base ours theirs tag a.0 b.0 a.1.merge b.1.merge in
    one_in_turn laws theirs a.0 more tag f g a.2 (subst (λ (l : FileList). IsMergedAll theirs l more tag g) (sym same) b.2)
