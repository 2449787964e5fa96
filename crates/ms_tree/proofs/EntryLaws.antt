-- A map with text keys and values that show a text, and the files that it shows.
use Rattle.std.proofs.Common.{◌≡◌, ℕ, Bool, false, nat_eq, ◌||◌, List, [], ◌∷◌, ◌++◌, refl, String, Global, string_bytes, string_cmp, ◌∙◌, sym, ap}
use Rattle.std.specs.Ordering.{nat_cmp, is_eq}
use Rattle.std.specs.Cmp.Lexicographic.{slice_cmp}
use Rattle.std.specs.List.Sorted.{IsStrictlySortedBy}
use Rattle.std.specs.Map.{keys_of, lookup, remove_entry}
use Rattle.std.specs.List.{list_any, starts_with}
use Rattle.std.specs.Option.{option_map}
use Rattle.std.specs.BTreeMap.{insert_entry}
use Rattle.ms_tree.specs.Files.{FileList, text_at, with_file, without}
use Rattle.ms_tree.specs.Paths.{is_directory_of}
use Rattle.ms_tree.proofs.ClashLaws.{from_front, any_is_first, none_from}
use Rattle.ms_tree.proofs.MapViews.{by_bytes, lookup_by_bytes, remove_by_bytes, insert_by_bytes}

-- the bytes of a key
abbrev pub text_of : String Global → List ℕ
text_of k = string_bytes {Z = Global} k

-- a path and a slash
front_of : (path key front slash : List ℕ) → key ≡ path → front ≡ key ++ slash → slash ≡ 47 ∷ [] → front ≡ path ++ 47 ∷ []
front_of path key front slash k f s = f ∙ ap (λ (xs : List ℕ). xs ++ slash) k ∙ ap (λ (ys : List ℕ). path ++ ys) s

module _ {V : Type 0} (shown : V → List ℕ) where
  abbrev Entries : Type 0
  Entries = List (String Global × V)

  -- the files of the entries
  abbrev pub files_of : List (String Global × V) → FileList
  files_of es = by_bytes text_of shown es

  -- a look-up of a path
  pub entry_found : (es : Entries) (files : FileList) (path : List ℕ) → files_of es ≡ files → option_map shown (lookup (λ k. is_eq (slice_cmp nat_cmp path (text_of k))) es) ≡ text_at files path
  entry_found es files path e = lookup_by_bytes text_of shown path es ∙ ap (λ (fs : FileList). text_at fs path) e

  pub entry_inserted : (es new : Entries) (files : FileList) (k : String Global) (path text : List ℕ) (v : V) → files_of es ≡ files → text_of k ≡ path → shown v ≡ text → new ≡ insert_entry string_cmp es k v → files_of new ≡ with_file files path text
  entry_inserted es new files k path text v e p t i =
      ap (λ (fs : Entries). files_of fs) i ∙ insert_by_bytes text_of shown k v es
      ∙ ap (λ (fs : FileList). with_file fs (text_of k) (shown v)) e ∙ ap (λ (q : List ℕ). with_file files q (shown v)) p ∙ ap (λ (x : List ℕ). with_file files path x) t

  pub entry_removed : (es new : Entries) (files : FileList) (path : List ℕ) → files_of es ≡ files → new ≡ remove_entry (λ k. is_eq (slice_cmp nat_cmp path (text_of k))) es → files_of new ≡ without files path
  entry_removed es new files path e i =
      ap (λ (fs : Entries). files_of fs) i ∙ remove_by_bytes text_of shown path es ∙ ap (λ (fs : FileList). without fs path) e

  -- whether the path is a directory of a key
  pub any_entry : (path : List ℕ) (es : List (String Global × V)) → list_any (λ e. is_directory_of path (text_of e.0)) es ≡ list_any (λ f. is_directory_of path f.0) (files_of es)
  any_entry path [] = refl
  any_entry path (e ∷ es) = ap (λ (b : Bool). is_directory_of path (text_of e.0) || b) (any_entry path es)

  -- the same of the files
  pub any_shown : (es : Entries) (files : FileList) (path : List ℕ) → files_of es ≡ files → list_any (λ e. is_directory_of path (text_of e.0)) es ≡ list_any (λ f. is_directory_of path f.0) files
  any_shown es files path e = any_entry path es ∙ ap (λ (fs : FileList). list_any (λ f. is_directory_of path f.0) fs) e

module _ {V : Type 0} where
  abbrev nothing : V → List ℕ
  nothing v = []

  -- it shows at the first entry from the path and a slash on
  pub over_first : (es : List (String Global × V)) (path key front slash : List ℕ) → IsStrictlySortedBy string_cmp (keys_of es)
      → key ≡ path → front ≡ key ++ slash → slash ≡ 47 ∷ [] → (e : String Global × V) (rest range : List (String Global × V)) → range ≡ e ∷ rest → range ≡ from_front text_of nothing front es
      → starts_with nat_eq (text_of e.0) front ≡ list_any (λ e. is_directory_of path (text_of e.0)) es
  over_first es path key front slash rising k f s e rest range step between =
      any_is_first text_of nothing front es rising e rest (sym between ∙ step)
      ∙ ap (λ (p : List ℕ). list_any (λ g. starts_with nat_eq g.0 p) (files_of nothing es)) (front_of path key front slash k f s)
      ∙ sym (any_entry nothing path es)

  pub over_none : (es : List (String Global × V)) (path key front slash : List ℕ) → key ≡ path → front ≡ key ++ slash → slash ≡ 47 ∷ []
      → (range : List (String Global × V)) → range ≡ [] → range ≡ from_front text_of nothing front es → false ≡ list_any (λ e. is_directory_of path (text_of e.0)) es
  over_none es path key front slash k f s range step between =
      sym (none_from text_of nothing front es (sym between ∙ step))
      ∙ ap (λ (p : List ℕ). list_any (λ g. starts_with nat_eq g.0 p) (files_of nothing es)) (front_of path key front slash k f s)
      ∙ sym (any_entry nothing path es)
