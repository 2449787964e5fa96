-- The fields of files after a change of the map.
use Rattle.std.proofs.Common.{◌≡◌, ℕ, ◌+◌, ◌-◌, Bool, false, take, slice_range, Some, None, is_some, List, length, Option, String, Global, string_cmp, refl, sym, ◌∙◌, ap, subst, arith}
use Rattle.std.specs.Ordering.{nat_cmp, is_eq}
use Rattle.std.specs.Cmp.Lexicographic.{slice_cmp}
use Rattle.std.specs.List.Sorted.{IsStrictlySortedBy}
use Rattle.std.specs.Map.{keys_of, lookup, remove_entry}
use Rattle.std.specs.BTreeMap.{insert_entry}
use Rattle.std.specs.Option.{option_map}
use Rattle.std.proofs.lemmas.List.{length-map}
use Rattle.ms_tree.specs.declared.files.Files.TheInside.{Inside}
use Rattle.ms_tree.specs.Files.{FileList, text_at, with_file, without, total_of, IsFiles}
use Rattle.ms_tree.specs.FilesInside.{view_of, IsKept}
use Rattle.ms_tree.proofs.EntryLaws.{text_of, entry_found, entry_inserted, entry_removed}
use Rattle.ms_tree.proofs.MapViews.{by_bytes, rising_by_bytes}
use Rattle.ms_tree.proofs.FileLaws.{total-with_file, total-without, length_at}
use Rattle.ms_tree.proofs.KeptLaws.{IsAllowed, with_file_IsFiles, without_IsFiles}

abbrev pub Entries : Type 0
Entries = List (String Global × List ℕ)

-- the text itself
abbrev pub same_text : List ℕ → List ℕ
same_text text = text

option_map_same : (o : Option (List ℕ)) → option_map same_text o ≡ o
option_map_same None = refl
option_map_same (Some text) = refl

-- as many entries as files
pub count_is : (es : Entries) (files : FileList) → by_bytes text_of same_text es ≡ files → length es ≡ length files
count_is es files e = sym (length-map es (λ (e : String Global × List ℕ). (text_of e.0, e.1))) ∙ ap length e

-- a look-up of a path
pub found : (es : Entries) (files : FileList) (path : List ℕ) → by_bytes text_of same_text es ≡ files → lookup (λ k. is_eq (slice_cmp nat_cmp path (text_of k))) es ≡ text_at files path
found es files path e = sym (option_map_same (lookup (λ k. is_eq (slice_cmp nat_cmp path (text_of k))) es)) ∙ entry_found same_text es files path e

-- a look-up of a key
pub found_key : (es : Entries) (files : FileList) (k : String Global) (path : List ℕ) → by_bytes text_of same_text es ≡ files → text_of k ≡ path → lookup (λ x. is_eq (string_cmp k x)) es ≡ text_at files path
found_key es files k path e p = found es files (text_of k) e ∙ ap (λ (q : List ℕ). text_at files q) p

pub inserted : (es new : Entries) (files : FileList) (k : String Global) (path text : List ℕ) → by_bytes text_of same_text es ≡ files → text_of k ≡ path → new ≡ insert_entry string_cmp es k text → by_bytes text_of same_text new ≡ with_file files path text
inserted es new files k path text e p i = entry_inserted same_text es new files k path text text e p refl i

pub removed : (es new : Entries) (files : FileList) (path : List ℕ) → by_bytes text_of same_text es ≡ files → new ≡ remove_entry (λ k. is_eq (slice_cmp nat_cmp path (text_of k))) es → by_bytes text_of same_text new ≡ without files path
removed es new files path e i = entry_removed same_text es new files path e i

-- the map has the text at the path, and the total is right
pub put_IsKept : (new : Inside) (files : FileList) (path text : List ℕ) → view_of new ≡ with_file files path text → IsStrictlySortedBy string_cmp (keys_of new.map.entries)
    → IsFiles files → IsAllowed files path text → new.total + length_at (text_at files path) ≡ total_of files + length text → IsKept new
put_IsKept new files path text e rising kept allowed total =
    let rises = subst (λ (fs : FileList). IsStrictlySortedBy (slice_cmp nat_cmp) (keys_of fs)) e (rising_by_bytes text_of same_text new.map.entries rising) in
    record {
      files = subst (λ (fs : FileList). IsFiles fs) (sym e) (with_file_IsFiles files path text kept allowed rises);
      total = omega (arith, total-with_file path text files kept.rising, ap (λ (fs : FileList). total_of fs) e);
    }

-- the map has nothing at the path, and the total is right
pub removed_IsKept : (new : Inside) (files : FileList) (path : List ℕ) → view_of new ≡ without files path → IsStrictlySortedBy string_cmp (keys_of new.map.entries)
    → IsFiles files → new.total + length_at (text_at files path) ≡ total_of files → IsKept new
removed_IsKept new files path e rising kept total =
    let rises = subst (λ (fs : FileList). IsStrictlySortedBy (slice_cmp nat_cmp) (keys_of fs)) e (rising_by_bytes text_of same_text new.map.entries rising) in
    record {
      files = subst (λ (fs : FileList). IsFiles fs) (sym e) (without_IsFiles files path kept rises);
      total = omega (arith, total-without path files, ap (λ (fs : FileList). total_of fs) e);
    }

-- a look-up of a front of the path
pub looked : (es : Entries) (files : FileList) (path front : List ℕ) (at : ℕ) (b : Bool) → by_bytes text_of same_text es ≡ files → front ≡ slice_range path 0 at
    → b ≡ is_some (lookup (λ k. is_eq (slice_cmp nat_cmp front (text_of k))) es) → b ≡ is_some (text_at files (take at path))
looked es files path front at b v f h =
    let whole : at - 0 ≡ at = omega arith in
    h ∙ ap (λ (o : Option (List ℕ)). is_some o) (found es files front v ∙ ap (λ (q : List ℕ). text_at files q) (f ∙ ap (λ (n : ℕ). take n path) whole))

pub none_of : (o : Option (List ℕ)) → false ≡ is_some o → o ≡ None
none_of None h = refl
none_of (Some x) h = absurd cc
