-- Adding a file at a free path.
use Rattle.std.proofs.Common.{◌≡◌, ◌≢◌, ℕ, zero, ◌+◌, ◌<◌, ◌≤◌, ltb, Bool, true, false, ◌||◌, List, [], ◌∷◌, ◌++◌, length, get_or, Contains, ◌↔◌, ◌⊎◌, Some, Result, Ok, Err, refl, sym, ap, subst, ◌∙◌, append_assoc, arith, inl, inr, Ordering}
use Rattle.std.specs.Map.{values_of}
use Rattle.std.specs.Str.{IsUtf8}
use Rattle.std.specs.List.{list_any}
use Rattle.std.specs.Ordering.{nat_cmp, is_eq, match_ordering}
use Rattle.std.specs.declared.cmp.Ordering.TheVariants.{Less, Equal, Greater}
use Rattle.std.specs.Cmp.Lexicographic.{slice_cmp}
use Rattle.std.proofs.lemmas.Bool.{cases_lt, lt-ltb, le-ltb}
use Rattle.std.proofs.lemmas.List.{get_or_append_left}
use Rattle.std.proofs.lemmas.List.Elements.{Contains-get_or}
use Rattle.std.proofs.lemmas.List.Folds.{list_any_none}
use Rattle.std.proofs.lemmas.List.Sums.{sum_by-cons}
use Rattle.std.proofs.lemmas.Slice.Eq.{bytes_eq-Decides}
use Rattle.std.proofs.lemmas.Map.Text.{is_eq-slice_cmp}
use Rattle.ms_base.specs.declared.names.Quantity.{Quantity}
use Rattle.ms_base.specs.declared.names.Quantity.TheVariants as quantities
use Rattle.ms_object.specs.declared.fault.GatherError.{GatherError}
use Rattle.ms_object.specs.declared.fault.GatherError.TheVariants as faults
use Rattle.ms_object.specs.Trees.{FileText, Met, met_file, first_fault}
use Rattle.ms_tree.specs.declared.limits.FilesError.{FilesError}
use Rattle.ms_tree.specs.declared.limits.FilesError.TheVariants as errors
use Rattle.ms_tree.specs.Paths.{parts_of, long_part, is_path, is_directory_of, IsPath, IsDirectoryOf}
use Rattle.ms_tree.specs.Limits.{within, on_ok}
use Rattle.ms_tree.specs.Files.{FileList, total_of, with_file, is_clash, added}
use Rattle.ms_tree.specs.Gathering.{Differ, IsFree, IsFilePath, Gathers, StopsAt}
use Rattle.ms_tree.proofs.PathLaws.{path_Decides, directory_Decides}
use Rattle.ms_tree.proofs.Membership.{only_item, in_front, at_front, behind}
use Rattle.ms_tree.proofs.Apart.{Differ-sym}
use Rattle.ms_tree.proofs.Faults.{file_goes_on, file_too_many, file_too_much}

-- ---- no file is there

-- what a text begins with does not differ from it
not_begun : (x rest : List ℕ) → Differ x (x ++ rest) → ⊥
not_begun x rest d = d.apart (sym (get_or_append_left x rest 0 d.place d.in_one))

same_path : (path other : List ℕ) → slice_cmp nat_cmp path other ≡ Equal → path ≡ other
same_path path other e = (bytes_eq-Decides path other).0 (sym (is_eq-slice_cmp path other) ∙ ap is_eq e)

-- no file has the path
IsAbsent : FileList → List ℕ → Type 0
IsAbsent files path = (file : FileText) → Contains files file → slice_cmp nat_cmp path file.0 ≢ Equal

absent : (files : FileList) (path : List ℕ) → IsFree files path → IsAbsent files path
unfolding IsAbsent
absent files path free file here e =
    let d : Differ (file.0 ++ 47 ∷ []) (path ++ 47 ∷ []) = free file here in
    d.apart (ap (λ (q : List ℕ). get_or (q ++ 47 ∷ []) d.place 0) (sym (same_path path file.0 e)))

-- ---- a file more

record IsOneMore (files new : FileList) (file : FileText) : Type 0 where
  count : length new ≡ length files + 1
  total : total_of new ≡ total_of files + length file.1
  found : (x : FileText) → Contains new x ↔ (Contains files x ⊎ (file ≡ x))

more_here : (files : FileList) (file : FileText) → IsOneMore files (file ∷ files) file
more_here files file = record {
  count = omega arith;
  total = omega (arith, sum_by-cons length file.1 (values_of files));
  found = λ x. (λ h. elim (in_front file files x h) [ inl e ↦ inr e | inr later ↦ inl later ], λ h. elim h [ inl later ↦ behind file files x later | inr e ↦ at_front file files x e ]);
}

more_later : (first : FileText) (files new : FileList) (file : FileText) → IsOneMore files new file → IsOneMore (first ∷ files) (first ∷ new) file
more_later first files new file m = record {
  count = omega (arith, m.count);
  total = omega (arith, m.total, sum_by-cons length first.1 (values_of files), sum_by-cons length first.1 (values_of new));
  found = λ x. (
    λ h. elim (in_front first new x h) [
      | inl e ↦ inl (at_front first files x e)
      | inr later ↦ elim ((m.found x).0 later) [ inl old ↦ inl (behind first files x old) | inr e ↦ inr e ]
    ],
    λ h. elim h [
      | inl old ↦ elim (in_front first files x old) [ inl e ↦ at_front first new x e | inr later ↦ behind first new x ((m.found x).1 (inl later)) ]
      | inr e ↦ behind first new x ((m.found x).1 (inr e))
    ],
  );
}

one_more : (files : FileList) (path text : List ℕ) → IsAbsent files path → IsOneMore files (with_file files path text) (path, text)
unfolding IsAbsent
one_more [] path text away = more_here [] (path, text)
one_more (first ∷ files) path text away =
    by (slice_cmp nat_cmp path first.0) refl (one_more files path text (λ file here. away file (behind first files file here)))
  where
    by : (o : Ordering) → slice_cmp nat_cmp path first.0 ≡ o → IsOneMore files (with_file files path text) (path, text)
        → IsOneMore (first ∷ files) (match_ordering o ((path, text) ∷ first ∷ files) ((first.0, text) ∷ files) (first ∷ with_file files path text)) (path, text)
    by Less e rest = more_here (first ∷ files) (path, text)
    by Equal e rest = absurd (away first (at_front first files first refl) e)
    by Greater e rest = more_later first files (with_file files path text) (path, text) rest

-- ---- no clash

no_directory : (dir path : List ℕ) → Differ (dir ++ 47 ∷ []) (path ++ 47 ∷ []) → is_directory_of dir path ≡ false
no_directory dir path d = by (is_directory_of dir path) refl
  where
    by : (b : Bool) → is_directory_of dir path ≡ b → b ≡ false
    by false e = refl
    by true e =
        let under : IsDirectoryOf dir path = (directory_Decides dir path).0 e in
        let longer : path ++ 47 ∷ [] ≡ (dir ++ 47 ∷ []) ++ (under.0 ++ 47 ∷ []) =
        ap (λ (p : List ℕ). p ++ 47 ∷ []) under.1 ∙ append_assoc dir (47 ∷ under.0) (47 ∷ []) ∙ sym (append_assoc dir (47 ∷ []) (under.0 ++ 47 ∷ [])) in
        absurd (not_begun (dir ++ 47 ∷ []) (under.0 ++ 47 ∷ []) (subst (λ (t : List ℕ). Differ (dir ++ 47 ∷ []) t) longer d))

no_clash : (files : FileList) (path : List ℕ) → IsFree files path → is_clash files path ≡ false
no_clash files path free =
    let above = list_any_none (λ (f : FileText). is_directory_of f.0 path) files (λ k d lt. let f = get_or files k d in no_directory f.0 path (free f (Contains-get_or files k d lt))) in
    let below = list_any_none (λ (f : FileText). is_directory_of path f.0) files
    (λ k d lt. let f = get_or files k d in no_directory path f.0 (Differ-sym (f.0 ++ 47 ∷ []) (path ++ 47 ∷ []) (free f (Contains-get_or files k d lt)))) in
    ap (λ (b : Bool). b || list_any (λ (f : FileText). is_directory_of path f.0) files) above ∙ below

-- ---- what an add answers

-- what is left to judge at a free path
judged : FileList → List ℕ → List ℕ → Result FileList FilesError
judged files path text =
    on_ok (on_ok (within quantities.Files (length files + 1) 100000) (λ _. within quantities.Total (total_of files + length text) 1073741824)) (λ _. Ok (with_file files path text))

added_judged : (files : FileList) (path text : List ℕ) → IsFilePath path → length text ≤ 1073741824 → IsFree files path → added files path text ≡ judged files path text
unfolding judged
added_judged files path text h short free =
    let more = one_more files path text (absent files path free) in
    let is : is_path path ≡ true = h.path_is in
    let a : ltb 1024 (length path) ≡ false = le-ltb _ _ h.short in
    let b : ltb 200 (long_part (parts_of path)) ≡ false = le-ltb _ _ h.parts_short in
    let c : ltb 64 (length (parts_of path)) ≡ false = le-ltb _ _ h.levels in
    let d : ltb 1073741824 (length text) ≡ false = le-ltb _ _ short in
    let e : length (with_file files path text) ≡ length files + 1 = more.count in
    let f : total_of (with_file files path text) ≡ total_of files + length text = more.total in
    let g : is_clash files path ≡ false = no_clash files path free in
    rw (is, a, b, c, d, e, f, g)

-- the files with one more, a file too many, or bytes too many
added_cases : (files : FileList) (path text : List ℕ) → IsFilePath path → length text ≤ 1073741824 → IsFree files path
    → ((added files path text ≡ Ok (with_file files path text)) × (length files + 1 ≤ 100000) × (total_of files + length text ≤ 1073741824))
    ⊎ (((added files path text ≡ Err (errors.Limit quantities.Files (length files + 1))) × (100000 < length files + 1))
    ⊎ ((added files path text ≡ Err (errors.Limit quantities.Total (total_of files + length text))) × (length files + 1 ≤ 100000) × (1073741824 < total_of files + length text)))
unfolding judged
added_cases files path text h short free =
    let e : added files path text ≡ judged files path text = added_judged files path text h short free in
    elim (cases_lt 100000 (length files + 1)) [
      | inl many ↦ let a : ltb 100000 (length files + 1) ≡ true = lt-ltb _ _ many in inr (inl (e ∙ rw a, many))
      | inr few ↦
          let a : ltb 100000 (length files + 1) ≡ false = le-ltb _ _ few in
          elim (cases_lt 1073741824 (total_of files + length text)) [
            | inl much ↦ let b : ltb 1073741824 (total_of files + length text) ≡ true = lt-ltb _ _ much in inr (inr (e ∙ rw (a, b), few, much))
            | inr small ↦ let b : ltb 1073741824 (total_of files + length text) ≡ false = le-ltb _ _ small in inl (e ∙ rw (a, b), few, small)
          ]
    ]

only_file : (path text : List ℕ) (file : FileText) → Contains {X = Met} (Ok (path, text) ∷ []) (Ok file) → (path, text) ≡ file
only_file path text file h = let one : FileText = (path, text) in let given : Met = Ok one in let q : given ≡ Ok file = only_item given (Ok file) h in let same : one ≡ file = cc in same

-- the walk goes on with the file
pub Gathers-added : (files new : FileList) (path text : List ℕ) → IsFilePath path → length text ≤ 1073741824 → IsFree files path → added files path text ≡ Ok new → Gathers files new (Ok (path, text) ∷ [])
Gathers-added files new path text h short free e =
    elim (added_cases files path text h short free) [
      | inl fine ↦
          let given : Result FileList FilesError = Ok (with_file files path text) in
          let same : with_file files path text ≡ new = (let q : given ≡ Ok new = sym fine.0 ∙ e in cc) in
          subst (λ (f : FileList). Gathers files f (Ok (path, text) ∷ [])) same (one_file files path text (one_more files path text (absent files path free)) fine.1 fine.2)
      | inr limit ↦ elim limit [
        | inl many ↦ absurd (let given : Result FileList FilesError = Ok new in let q : given ≡ Err (errors.Limit quantities.Files (length files + 1)) = sym e ∙ many.0 in cc)
        | inr much ↦ absurd (let given : Result FileList FilesError = Ok new in let q : given ≡ Err (errors.Limit quantities.Total (total_of files + length text)) = sym e ∙ much.0 in cc)
      ]
    ]
  where
    one_file : (files : FileList) (path text : List ℕ) → IsOneMore files (with_file files path text) (path, text) → length files + 1 ≤ 100000 → total_of files + length text ≤ 1073741824
        → Gathers files (with_file files path text) (Ok (path, text) ∷ [])
    one_file files path text more few small = record {
      goes_on = λ met. file_goes_on (length files) (total_of files) (path, text) met few small
          ∙ ap (λ (n : ℕ). first_fault n (total_of files + length text) met) (sym more.count)
          ∙ ap (λ (n : ℕ). first_fault (length (with_file files path text)) n met) (sym more.total);
      found = λ file. (
        λ h. elim ((more.found file).0 h) [ inl old ↦ inl old | inr e ↦ inr (zero, omega arith, ap (λ (f : FileText). Ok f) e) ],
        λ h. elim h [ inl old ↦ (more.found file).1 (inl old) | inr met ↦ (more.found file).1 (inr (only_file path text file met)) ],
      );
      bytes = omega (arith, more.total);
    }

-- the walk stops at the limit that the file passes
pub StopsAt-added : (files : FileList) (path text : List ℕ) (what : Quantity) (value : ℕ) → IsFilePath path → length text ≤ 1073741824 → IsFree files path → added files path text ≡ Err (errors.Limit what value)
    → StopsAt files (Ok (path, text) ∷ []) (faults.Limit what value)
StopsAt-added files path text what value h short free e =
    elim (added_cases files path text h short free) [
      | inl fine ↦ absurd (let given : Result FileList FilesError = Ok (with_file files path text) in let q : given ≡ Err (errors.Limit what value) = sym fine.0 ∙ e in cc)
      | inr limit ↦ elim limit [
        | inl many ↦
            let given : Result FileList FilesError = Err (errors.Limit quantities.Files (length files + 1)) in
            let same : given ≡ Err (errors.Limit what value) = sym many.0 ∙ e in
            inr (λ more. file_too_many (length files) (total_of files) (path, text) more many.1 ∙ same_limit quantities.Files (length files + 1) what value same)
        | inr much ↦
            let given : Result FileList FilesError = Err (errors.Limit quantities.Total (total_of files + length text)) in
            let same : given ≡ Err (errors.Limit what value) = sym much.0 ∙ e in
            inr (λ more. file_too_much (length files) (total_of files) (path, text) more much.1 much.2 ∙ same_limit quantities.Total (total_of files + length text) what value same)
      ]
    ]
  where
    same_limit : (one : Quantity) (n : ℕ) (other : Quantity) (m : ℕ) → (let given : Result FileList FilesError = Err (errors.Limit one n) in given ≡ Err (errors.Limit other m)) → Some (faults.Limit one n) ≡ Some (faults.Limit other m)
    same_limit one n other m e =
        let what : one ≡ other = cc in
        let value : n ≡ m = cc in
        ap (λ (q : Quantity). Some (faults.Limit q n)) what ∙ ap (λ (k : ℕ). Some (faults.Limit other k)) value

-- no clash comes
pub added_apart : (files : FileList) (path text : List ℕ) → IsFilePath path → length text ≤ 1073741824 → IsFree files path → added files path text ≡ Err errors.Clash → ⊥
added_apart files path text h short free e =
    elim (added_cases files path text h short free) [
      | inl fine ↦ (let given : Result FileList FilesError = Ok (with_file files path text) in let q : given ≡ Err errors.Clash = sym fine.0 ∙ e in cc)
      | inr limit ↦ elim limit [
        | inl many ↦ (let given : Result FileList FilesError = Err (errors.Limit quantities.Files (length files + 1)) in let q : given ≡ Err errors.Clash = sym many.0 ∙ e in cc)
        | inr much ↦ (let given : Result FileList FilesError = Err (errors.Limit quantities.Total (total_of files + length text)) in let q : given ≡ Err errors.Clash = sym much.0 ∙ e in cc)
      ]
    ]

-- ---- the same of the file that stands under a name

pub file_added : (files new : FileList) (path shown text : List ℕ) (given : Result (List ℕ) GatherError) → IsFilePath path → shown ≡ path → length text ≤ 1073741824 → IsFree files path
    → given ≡ Ok text → added files shown text ≡ Ok new → Gathers files new (met_file path given ∷ [])
file_added files new path shown text given h same short free is e =
    subst (λ (g : Result (List ℕ) GatherError). Gathers files new (met_file path g ∷ [])) (sym is)
    (Gathers-added files new path text h short free (ap (λ (p : List ℕ). added files p text) (sym same) ∙ e))

pub file_refused : (files : FileList) (path shown text : List ℕ) (given : Result (List ℕ) GatherError) (what : Quantity) (value : ℕ) → IsFilePath path → shown ≡ path → length text ≤ 1073741824 → IsFree files path
    → given ≡ Ok text → added files shown text ≡ Err (errors.Limit what value) → StopsAt files (met_file path given ∷ []) (faults.Limit what value)
file_refused files path shown text given what value h same short free is e =
    subst (λ (g : Result (List ℕ) GatherError). StopsAt files (met_file path g ∷ []) (faults.Limit what value)) (sym is)
    (StopsAt-added files path text what value h short free (ap (λ (p : List ℕ). added files p text) (sym same) ∙ e))

-- a path is text
pub path_is_utf8 : (path : List ℕ) → IsFilePath path → IsUtf8 path
path_is_utf8 path h = let is : IsPath path = (path_Decides path).0 h.path_is in is.utf8
