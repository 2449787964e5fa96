-- A text may be added exactly where the files with it are files.
use Rattle.std.proofs.Common.{◌≡◌, ℕ, ◌≤◌, Bool, true, false, cond, nat_lt, List, [], ◌∷◌, length, All, Contains, Option, Some, IsSome, is_some, Ok, Err, if◌then◌else◌, refl, sym, ◌∙◌, ap, subst, inl, inr, arith, Ordering, Less, Equal, Greater, nat_cmp}
use Rattle.std.specs.Ordering.{match_ordering, ordering_reverse}
use Rattle.std.specs.Cmp.Lexicographic.{slice_cmp, nat_list_cmp_total}
use Rattle.std.specs.List.{list_any}
use Rattle.std.specs.Map.{keys_of}
use Rattle.std.specs.Str.{bytes_eq}
use Rattle.std.proofs.lemmas.Bool.{le-ltb}
use Rattle.std.proofs.lemmas.List.Elements.{All-head, All-tail, All-contains}
use Rattle.std.proofs.lemmas.Map.Views.{All-keys-insert_entry}
use Rattle.std.proofs.lemmas.Slice.Eq.{bytes_eq-Decides}
use Rattle.ms_base.specs.Places.{all_from, in_cases, in_none}
use Rattle.ms_base.specs.Rising.{Rises, Before, rises_none, rises_cons, rises_first, rises_rest}
use Rattle.ms_base.specs.declared.names.Quantity.TheVariants as quantities
use Rattle.ms_tree.specs.declared.limits.FilesError.TheVariants as errors
use Rattle.ms_tree.specs.Paths.{parts_of, long_part, is_path, is_directory_of}
use Rattle.ms_tree.specs.Files.{FileList, text_at, with_file, total_of, is_clash, path_limits, size_limits, added, Judged, IsFile, IsFiles}
use Rattle.ms_tree.proofs.PathLaws.{path_Decides, directory_Decides}
use Rattle.ms_tree.proofs.FileLaws.{text_at-with_file}
use Rattle.ms_tree.proofs.ClashLaws.{some_at}
use Rattle.ms_tree.proofs.KeptLaws.{within_fits, IsAllowed, allowed_from_added, with_file_IsFiles}

-- ---- a file more keeps the order

after : (path q : List ℕ) → slice_cmp nat_cmp path q ≡ Greater → Before q path
after path q h = nat_list_cmp_total.antisymm q path ∙ ap ordering_reverse h

pub with_file_rises : (path text : List ℕ) (files : FileList) → Rises (keys_of files) → Rises (keys_of (with_file files path text))
with_file_rises path text [] rise = rises_cons path [] (λ y h. absurd (in_none y h)) rises_none
with_file_rises path text (f ∷ files) rise = at_place (slice_cmp nat_cmp path f.0) refl (with_file_rises path text files (rises_rest f.0 (keys_of files) rise))
  where
    behind : slice_cmp nat_cmp path f.0 ≡ Less → (y : List ℕ) → Contains (f.0 ∷ keys_of files) y → Before path y
    behind h y has = elim (in_cases f.0 (keys_of files) y has) [
      | inl same ↦ subst (λ (z : List ℕ). Before path z) same h
      | inr later ↦ nat_list_cmp_total.trans path f.0 y h (rises_first f.0 (keys_of files) rise y later)
    ]

    at_place : (o : Ordering) → slice_cmp nat_cmp path f.0 ≡ o → Rises (keys_of (with_file files path text))
        → Rises (keys_of (match_ordering o ((path, text) ∷ f ∷ files) ((f.0, text) ∷ files) (f ∷ with_file files path text)))
    at_place Less h rest = rises_cons path (f.0 ∷ keys_of files) (behind h) rise
    at_place Equal h rest = rise
    at_place Greater h rest = rises_cons f.0 (keys_of (with_file files path text))
        (λ y has. All-contains (Before f.0) (keys_of (with_file files path text)) y
        (All-keys-insert_entry (slice_cmp nat_cmp) path text (Before f.0) files (all_from (Before f.0) (keys_of files) (rises_first f.0 (keys_of files) rise)) (after path f.0 h)) has) rest

-- ---- what is added is files

pub added_is : (files : FileList) (path text : List ℕ) → IsAllowed files path text → added files path text ≡ Ok (with_file files path text)
added_is files path text a = rw (a.path_is, a.path_fits, a.sizes_fit, a.no_clash) refl

-- what is added stands there, and nothing else changes
pub added_files : (files new : FileList) (path text : List ℕ) → IsFiles files → added files path text ≡ Ok new → (new ≡ with_file files path text) × IsFiles new
added_files files new path text kept h =
    let a = allowed_from_added files path text new h in
    let both : Ok new ≡ Ok (with_file files path text) = sym h ∙ added_is files path text a in
    let same : new ≡ with_file files path text = cc in
    (same, subst (λ (fs : FileList). IsFiles fs) (sym same) (with_file_IsFiles files path text kept a (with_file_rises path text files kept.rising)))

-- ---- files are added

long_short : (parts : List (List ℕ)) → All (λ part. length part ≤ 200) parts → long_part parts ≤ 200
long_short [] h = omega arith
long_short (part ∷ parts) h =
    let off : nat_lt 200 (length part) ≡ false = le-ltb 200 (length part) (All-head (λ part. length part ≤ 200) part parts h) in
    rw off (long_short parts (All-tail (λ part. length part ≤ 200) part parts h))

stands : (files : FileList) (path text : List ℕ) → text_at (with_file files path text) path ≡ Some text
stands files path text = let same : bytes_eq path path ≡ true = (bytes_eq-Decides path path).1 refl in text_at-with_file path text path files ∙ rw same refl

still_stands : (files : FileList) (path text q : List ℕ) → IsSome (text_at files q) → IsSome (text_at (with_file files path text) q)
still_stands files path text q here = subst (λ (o : Option (List ℕ)). IsSome o) (sym (text_at-with_file path text q files)) (by (bytes_eq q path))
  where
    by : (b : Bool) → IsSome (cond b (Some text) (text_at files q))
    by true = refl
    by false = here

none_passes : (files : FileList) (test : List ℕ → Bool) → ((q : List ℕ) → IsSome (text_at files q) → test q ≡ true → ⊥) → list_any (λ f. test f.0) files ≡ false
none_passes files test never = by (list_any (λ f. test f.0) files) refl
  where
    by : (b : Bool) → list_any (λ f. test f.0) files ≡ b → b ≡ false
    by false e = refl
    by true e = let q = some_at test files e in absurd (never q.0 q.1 q.2)

not_in_the_way : (files : FileList) (path text : List ℕ) → IsFiles (with_file files path text) → is_clash files path ≡ false
not_in_the_way files path text kept =
    let there : IsSome (text_at (with_file files path text) path) = ap (λ (o : Option (List ℕ)). is_some o) (stands files path text) in
    let above : list_any (λ f. is_directory_of f.0 path) files ≡ false =
    none_passes files (λ q. is_directory_of q path) (λ q here e. kept.apart q path (still_stands files path text q here) there ((directory_Decides q path).0 e)) in
    let below : list_any (λ f. is_directory_of path f.0) files ≡ false =
    none_passes files (λ q. is_directory_of path q) (λ q here e. kept.apart path q there (still_stands files path text q here) ((directory_Decides path q).0 e)) in
    rw (above, below) refl

path_fits : (path text : List ℕ) → IsFile path text → path_limits path ≡ Ok (tt {0})
path_fits path text f =
    rw (within_fits quantities.Path (length path) 1024 f.path_short, within_fits quantities.Part (long_part (parts_of path)) 200 (long_short (parts_of path) f.parts_short), within_fits quantities.Levels (length (parts_of path)) 64 f.levels) refl

sizes_fit : (path text : List ℕ) (files : FileList) → IsFile path text → IsFiles files → size_limits text files ≡ Ok (tt {0})
sizes_fit path text files f kept =
    rw (within_fits quantities.File (length text) 1073741824 f.text_short, within_fits quantities.Files (length files) 100000 kept.count, within_fits quantities.Total (total_of files) 1073741824 kept.total) refl

pub files_added : (files : FileList) (path text : List ℕ) → IsFiles (with_file files path text) → added files path text ≡ Ok (with_file files path text)
files_added files path text kept =
    let f = kept.each path text (stands files path text) in
    added_is files path text (record {
      path_is = (path_Decides path).1 f.path_is;
      path_fits = path_fits path text f;
      sizes_fit = sizes_fit path text (with_file files path text) f kept;
      no_clash = not_in_the_way files path text kept;
    })

-- ---- what is judged before memory is taken

pub judged_first : (files : FileList) (path text : List ℕ) → is_path path ≡ true → path_limits path ≡ Ok (tt {0}) → size_limits text (with_file files path text) ≡ Ok (tt {0}) → Judged (added files path text)
judged_first files path text is fits small = rw (is, fits, small) (by (is_clash files path))
  where
    by : (b : Bool) → Judged (if b then Err errors.Clash else Ok (with_file files path text))
    by true = tt
    by false = tt
