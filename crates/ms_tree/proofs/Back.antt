-- What was planted of files gives them back, or two texts collide, or memory runs out.
use Rattle.std.proofs.Common.{◌≡◌, List, ◌⊎◌, Some, None, Result, Ok, Err, IfErr, sym, ap, ◌∙◌, inl, inr}
use Rattle.ms_object.specs.declared.format.Format.{Format}
use Rattle.ms_base.specs.declared.names.Name.{Name}
use Rattle.ms_object.specs.declared.fault.GatherError.{GatherError}
use Rattle.ms_object.specs.declared.fault.GatherError.TheVariants as faults
use Rattle.ms_object.specs.Trees.{Texts, FileText, IsTree, walk, first_fault}
use Rattle.ms_tree.specs.Files.{IsFiles}
use Rattle.ms_tree.specs.Planting.{Collide, IsPlanted, object_texts}
use Rattle.ms_tree.proofs.OneTree.{rising_same}

abbrev IsBack : (format : Format) → List FileText → Result (List FileText) GatherError → Type 0
IsBack format files result = Collide (object_texts format 64 files) ⊎ (result ≡ Ok files) ⊎ (result ≡ Err faults.NoMemory)

one_tree_of : (store : Texts) (root : Name) (one other : List FileText) → IsFiles one → IsFiles other → IsTree store root one → IsTree store root other → one ≡ other
one_tree_of store root one other p q s t = rising_same one other p.rising q.rising (λ f h. (t.found f).1 ((s.found f).0 h)) (λ f h. (s.found f).1 ((t.found f).0 h))

-- a tree that is gathered is the one that was planted
pub tree_back : (format : Format) → (store : Texts) (root : Name) (files given : List FileText) → IsFiles given → IsTree store root given → IsFiles files → IsPlanted format files store root
    → IsBack format files (Ok given)
tree_back format store root files given kept tree wanted planted =
    elim planted.tree [
      | inl two ↦ inl two
      | inr whole ↦ inr (inl (ap (λ (l : List FileText). let r : Result (List FileText) GatherError = Ok l in r) (one_tree_of store root given files kept wanted tree whole)))
    ]

-- a walk through what was planted meets no fault
pub fault_back : (format : Format) → (store : Texts) (root : Name) (files : List FileText) (result : Result (List FileText) GatherError) (e : GatherError) → result ≡ Err e
    → IfErr result (λ f. (f ≡ faults.NoMemory) ⊎ (first_fault 0 0 (walk store root) ≡ Some f)) → IsPlanted format files store root → IsBack format files result
fault_back format store root files (Ok given) e is fault planted = (let q : Ok given ≡ Err e = is in cc)
fault_back format store root files (Err f) e is (inl none) planted = inr (inr (ap (λ (g : GatherError). let r : Result (List FileText) GatherError = Err g in r) none))
fault_back format store root files (Err f) e is (inr fault) planted =
    elim planted.tree [
      | inl two ↦ inl two
      | inr whole ↦ let q : None ≡ Some f = sym whole.whole ∙ fault in cc
    ]
