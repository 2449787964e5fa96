-- The map of a draft.
use Rattle.std.proofs.Common.{◌≡◌, ℕ, Bool, cond, true, false, List, [], ◌∷◌, ◌++◌, map, filter, Option, Some, None, is_some, Bor, String, Global, string_cmp, refl, sym, ◌∙◌, ap, append_assoc, append-nil}
use Rattle.std.specs.Ordering.{nat_cmp, is_eq}
use Rattle.std.specs.Cmp.Lexicographic.{slice_cmp}
use Rattle.std.specs.List.{list_any}
use Rattle.std.specs.List.Sorted.{IsStrictlySortedBy}
use Rattle.std.specs.Map.{keys_of, lookup}
use Rattle.std.specs.Option.{option_map}
use Rattle.std.proofs.lemmas.List.{map-append}
use Rattle.ms_tree.specs.declared.draft.Draft.TheInside.{Inside}
use Rattle.ms_tree.specs.declared.draft.DraftFile.{DraftFile}
use Rattle.ms_tree.specs.DraftFiles.{drafted}
use Rattle.ms_tree.specs.Merging.{directories}
use Rattle.ms_tree.specs.DraftInside.{IsRising}
use Rattle.ms_tree.specs.Files.{FileList, text_at}
use Rattle.ms_tree.specs.Paths.{is_directory_of}
use Rattle.ms_tree.proofs.MapViews.{rising_by_bytes}
use Rattle.ms_tree.proofs.EntryLaws.{text_of, entry_found, files_of, any_shown}

-- the text that is lent
abbrev pub lent : Bor (List ℕ) → List ℕ
lent text = text.now

abbrev pub Lent : Type 0
Lent = List (String Global × Bor (List ℕ))

-- the order of the map is that of the files
pub rises : (s : Inside) → IsStrictlySortedBy string_cmp (keys_of s.map.entries) → IsRising s
rises s h = record { rising = rising_by_bytes text_of lent s.map.entries h }

is_some-option_map : {X Y : Type 0} (f : X → Y) (o : Option X) → is_some (option_map f o) ≡ is_some o
is_some-option_map f None = refl
is_some-option_map f (Some x) = refl

pub has_it : (es : Lent) (files : FileList) (path : List ℕ) (b : Bool) → files_of lent es ≡ files → b ≡ is_some (lookup (λ k. is_eq (slice_cmp nat_cmp path (text_of k))) es) → b ≡ is_some (text_at files path)
has_it es files path b v h = h ∙ sym (is_some-option_map lent (lookup (λ k. is_eq (slice_cmp nat_cmp path (text_of k))) es)) ∙ ap (λ (o : Option (List ℕ)). is_some o) (entry_found lent es files path v)

-- whether the path is a directory of one of the files
abbrev is_above : FileList → List ℕ → Bool
is_above files path = list_any (λ f. is_directory_of path f.0) files

-- the directories that were found, and those among the entries that are left, are all
pub record AreFound (files : FileList) (found : List DraftFile) (left : Lent) : Type 0 where
  pub whole : map drafted found ++ filter (λ f. is_above files f.0) (files_of lent left) ≡ directories files

pub found_none : (files : FileList) (found : List DraftFile) (left : Lent) → found ≡ [] → files_of lent left ≡ files → AreFound files found left
found_none files found left none all = record { whole = ap (λ (l : List DraftFile). map drafted l ++ filter (λ f. is_above files f.0) (files_of lent left)) none ∙ ap (λ (l : FileList). filter (λ f. is_above files f.0) l) all }

next_left : (files : FileList) (left next : Lent) (path : String Global) (text : Bor (List ℕ)) (b : Bool) → left ≡ (path, text) ∷ next → is_above files (text_of path) ≡ b
    → filter (λ f. is_above files f.0) (files_of lent left) ≡ cond b ((text_of path, text.now) ∷ filter (λ f. is_above files f.0) (files_of lent next)) (filter (λ f. is_above files f.0) (files_of lent next))
next_left files left next path text b e d = ap (λ (l : Lent). filter (λ f. is_above files f.0) (files_of lent l)) e ∙ rw d refl

pub found_more : (files : FileList) (found new : List DraftFile) (left next : Lent) (path : String Global) (text : Bor (List ℕ)) (file : DraftFile) → AreFound files found left → left ≡ (path, text) ∷ next
    → is_above files (text_of path) ≡ true → drafted file ≡ (text_of path, text.now) → new ≡ found ++ file ∷ [] → AreFound files new next
found_more files found new left next path text file a e d is grown =
    let P : List ℕ × List ℕ → Bool = λ f. is_above files f.0 in
    record {
      whole = ap (λ (l : List DraftFile). map drafted l ++ filter P (files_of lent next)) grown
          ∙ ap (λ (l : FileList). l ++ filter P (files_of lent next)) (map-append drafted found (file ∷ []))
          ∙ ap (λ (f : List ℕ × List ℕ). (map drafted found ++ f ∷ []) ++ filter P (files_of lent next)) is
          ∙ append_assoc (map drafted found) ((text_of path, text.now) ∷ []) (filter P (files_of lent next))
          ∙ ap (λ (l : FileList). map drafted found ++ l) (sym (next_left files left next path text true e d)) ∙ a.whole;
    }

pub found_other : (files : FileList) (found : List DraftFile) (left next : Lent) (path : String Global) (text : Bor (List ℕ)) → AreFound files found left → left ≡ (path, text) ∷ next → is_above files (text_of path) ≡ false
    → AreFound files found next
found_other files found left next path text a e d = record { whole = ap (λ (l : FileList). map drafted found ++ l) (sym (next_left files left next path text false e d)) ∙ a.whole }

pub found_all : (files : FileList) (found : List DraftFile) (left : Lent) → AreFound files found left → left ≡ [] → map drafted found ≡ directories files
found_all files found left a none = sym (append-nil (map drafted found)) ∙ ap (λ (l : Lent). map drafted found ++ filter (λ f. is_above files f.0) (files_of lent l)) (sym none) ∙ a.whole

-- the answer about the path of an entry
pub answered : (es : Lent) (files : FileList) (path : List ℕ) (shown : List ℕ) (b : Bool) → files_of lent es ≡ files → shown ≡ path → b ≡ list_any (λ e. is_directory_of shown (text_of e.0)) es → is_above files path ≡ b
answered es files path shown b v s h = sym (h ∙ any_shown lent es files shown v ∙ ap (λ (p : List ℕ). is_above files p) s)
