-- What is planted of files, as a whole.
use Rattle.std.proofs.Common.{◌≡◌, ℕ, List, [], inl, inr, sym, ◌∙◌, subst, Some, None}
use Rattle.ms_object.specs.declared.format.Format.{Format}
use Rattle.ms_base.specs.declared.names.Name.{Name}
use Rattle.ms_object.specs.Trees.{Texts, FileText, IsTree}
use Rattle.ms_tree.specs.Files.{IsFiles}
use Rattle.ms_tree.specs.Planting.{AddsTexts, HoldsTexts, IsPlanted, first_large, directory_text, named, object_texts}
use Rattle.ms_tree.proofs.PlantedFile.{Reads}
use Rattle.ms_tree.proofs.PlantedTree.{FitBehind, collide_or_has, planted_tree}
use Rattle.ms_tree.proofs.WholeFolder.{text_here, whole_folder}

-- a store that had nothing has exactly what was added
pub all_held : (old new : Texts) (texts : List (List ℕ)) → ((name : List ℕ) → old name ≡ None) → AddsTexts old new texts → HoldsTexts new texts
all_held old new texts none adds = record {
  all = adds.all;
  only = λ name text is. elim (adds.only name text is) [ inl was ↦ (let e : None ≡ Some text = sym (none name) ∙ was in cc) | inr now ↦ now ];
}

paths_short : (files : List FileText) → IsFiles files → FitBehind [] files
paths_short files is file has = (is.each file.0 file.1 (text_here files is file has)).path_short

pub planted_whole : (format : Format) → (files : List FileText) (old new : Texts) (root : Name) → Reads → IsFiles files → first_large format files ≡ None → ((name : List ℕ) → old name ≡ None) → AddsTexts old new (object_texts format 64 files) → root ≡ named (directory_text format 64 files)
    → IsPlanted format files new root
planted_whole format files old new root reads is small none adds named_so =
    let holds = all_held old new (object_texts format 64 files) none adds in record {
      root_is = named_so;
      objects = holds;
      tree = elim (collide_or_has new (object_texts format 64 files) holds) [
        | inl two ↦ inl two
        | inr has ↦ inr (subst (λ (name : Name). IsTree new name files) (sym named_so) (planted_tree format files new reads (whole_folder format files is small) (paths_short files is) is.total has))
      ];
    }
