-- What is kept of files where a text is put at a path, or one is taken away.
use Rattle.std.proofs.Common.{◌≡◌, ℕ, ◌+◌, ◌-◌, ◌≤◌, ◌<◌, Bool, cond, ◌||◌, true, false, nat_lt, List, [], ◌∷◌, length, length-append, Option, Some, None, IsSome, is_ok, Result, Ok, Err, if◌then◌else◌, refl, sym, ◌∙◌, ap, subst, arith}
use Rattle.std.specs.Ordering.{nat_cmp}
use Rattle.std.specs.Cmp.Lexicographic.{slice_cmp}
use Rattle.std.specs.Str.{bytes_eq}
use Rattle.std.specs.List.{All, find, list_any}
use Rattle.std.specs.Option.{option_map_or}
use Rattle.std.specs.List.Sorted.{IsStrictlySortedBy}
use Rattle.std.specs.Map.{keys_of}
use Rattle.std.proofs.lemmas.Bool.{false≢true}
use Rattle.std.proofs.lemmas.Bool.Decides.{nat_tests}
use Rattle.std.proofs.lemmas.List.Elements.{All-nil, All-cons}
use Rattle.std.proofs.lemmas.Slice.Eq.{bytes_eq-Decides}
use Rattle.ms_base.specs.declared.names.Quantity.{Quantity}
use Rattle.ms_base.specs.declared.names.Quantity.TheVariants as quantities
use Rattle.ms_tree.specs.declared.limits.FilesError.{FilesError}
use Rattle.ms_tree.specs.declared.limits.FilesError.TheVariants as errors
use Rattle.ms_tree.specs.Paths.{parts_of, long_part, is_path, is_directory_of, IsDirectoryOf}
use Rattle.ms_tree.specs.Limits.{within, on_ok}
use Rattle.ms_tree.specs.Files.{FileList, text_at, with_file, without, total_of, is_clash, path_limits, size_limits, added, IsFile, IsFiles}
use Rattle.ms_tree.proofs.PathLaws.{path_Decides, directory_Decides}
use Rattle.ms_tree.proofs.FileLaws.{text_at-with_file, text_at-without, total-with_file, total-without, length-with_file, length-without, none_at, length_at}

err_is_not_ok : {V : Type 0} (e : FilesError) (v : V) → Err e ≡ Ok v → ⊥
err_is_not_ok e v h = false≢true (ap is_ok h)

-- a value that is not refused is within its limit
within_means : (what : Quantity) (value most : ℕ) → within what value most ≡ Ok (tt {0}) → value ≤ most
within_means what value most h = at_test (nat_lt most value) refl h
  where
    at_test : (b : Bool) → nat_lt most value ≡ b → (if b then Err (errors.Limit what value) else Ok (tt {0})) ≡ Ok (tt {0}) → value ≤ most
    at_test true e h = absurd (err_is_not_ok (errors.Limit what value) (tt {0}) h)
    at_test false e h = grind (arith, nat_tests)

pub within_fits : (what : Quantity) (value most : ℕ) → value ≤ most → within what value most ≡ Ok (tt {0})
within_fits what value most h = let fits : nat_lt most value ≡ false = grind (arith, nat_tests) in rw fits refl

-- both of two steps went well
both_ok : {W : Type 0} (r : Result (Unit {0}) FilesError) (next : Unit {0} → Result W FilesError) (w : W) → on_ok r next ≡ Ok w → (r ≡ Ok (tt {0})) × (next (tt {0}) ≡ Ok w)
both_ok (Ok u) next w h = (refl, h)
both_ok (Err e) next w h = absurd (err_is_not_ok e w h)

pub all_short : (parts : List (List ℕ)) → long_part parts ≤ 200 → All (λ part. length part ≤ 200) parts
all_short [] h = All-nil _
all_short (part ∷ parts) h = at_test (nat_lt 200 (length part)) refl h (all_short parts)
  where
    at_test : (b : Bool) → nat_lt 200 (length part) ≡ b → option_map_or length (cond b (Some part) (find (λ part. nat_lt 200 (length part)) parts)) 0 ≤ 200
        → (long_part parts ≤ 200 → All (λ part. length part ≤ 200) parts) → All (λ part. length part ≤ 200) (part ∷ parts)
    at_test true e h rest = absurd (let l : 200 < length part = grind (arith, nat_tests) in omega arith)
    at_test false e h rest = let l : length part ≤ 200 = grind (arith, nat_tests) in All-cons (λ part. length part ≤ 200) part parts l (rest h)

-- what stands in the way of no text at the path
pub record IsAllowed (files : FileList) (path text : List ℕ) : Type 0 where
  pub path_is : is_path path ≡ true
  pub path_fits : path_limits path ≡ Ok (tt {0})
  pub sizes_fit : size_limits text (with_file files path text) ≡ Ok (tt {0})
  pub no_clash : is_clash files path ≡ false

pub allowed_from_added : (files : FileList) (path text : List ℕ) (new : FileList) → added files path text ≡ Ok new → IsAllowed files path text
allowed_from_added files path text new h = at_path (is_path path) refl h
  where
    at_clash : (c : Bool) → (if c then Err errors.Clash else Ok (with_file files path text)) ≡ Ok new → c ≡ false
    at_clash true h = absurd (err_is_not_ok errors.Clash new h)
    at_clash false h = refl

    at_path : (b : Bool) → is_path path ≡ b
        → (if b then on_ok (path_limits path) (λ _. on_ok (size_limits text (with_file files path text)) (λ _. if is_clash files path then Err errors.Clash else Ok (with_file files path text))) else Err errors.BadPath) ≡ Ok new
        → IsAllowed files path text
    at_path false e h = absurd (err_is_not_ok errors.BadPath new h)
    at_path true e h =
        let first = both_ok (path_limits path) _ new h in
        let second = both_ok (size_limits text (with_file files path text)) _ new first.1 in
        record { path_is = e; path_fits = first.0; sizes_fit = second.0; no_clash = at_clash (is_clash files path) second.1 }

allowed_IsFile : (files : FileList) (path text : List ℕ) → IsAllowed files path text → IsFile path text
allowed_IsFile files path text a =
    let path_fits = both_ok (within quantities.Path (length path) 1024) _ tt a.path_fits in
    let parts_fit = both_ok (within quantities.Part (long_part (parts_of path)) 200) _ tt path_fits.1 in
    let text_fits = both_ok (within quantities.File (length text) 1073741824) _ tt a.sizes_fit in
    record {
      path_is = (path_Decides path).0 a.path_is;
      path_short = within_means quantities.Path (length path) 1024 path_fits.0;
      parts_short = all_short (parts_of path) (within_means quantities.Part (long_part (parts_of path)) 200 parts_fit.0);
      levels = within_means quantities.Levels (length (parts_of path)) 64 parts_fit.1;
      text_short = within_means quantities.File (length text) 1073741824 text_fits.0;
    }

each_with : (files : FileList) (path text : List ℕ) → IsFiles files → IsFile path text → (q t : List ℕ) → (b : Bool) → bytes_eq q path ≡ b → cond b (Some text) (text_at files q) ≡ Some t → IsFile q t
each_with files path text kept new q t true e h =
    let same_path : path ≡ q = sym ((bytes_eq-Decides q path).0 e) in
    let same_text : text ≡ t = cc in
    subst (λ (p : List ℕ). IsFile p t) same_path (subst (λ (x : List ℕ). IsFile path x) same_text new)
each_with files path text kept new q t false e h = kept.each q t h

-- no path is a directory of itself
not_of_itself : (path : List ℕ) → IsDirectoryOf path path → ⊥
not_of_itself path d = let e = ap length d.1 ∙ length-append path (47 ∷ d.0) in omega (arith, e)

or_false : (b c : Bool) → (b || c) ≡ false → (b ≡ false) × (c ≡ false)
or_false false false h = (refl, refl)
or_false false true h = absurd (false≢true (sym h))
or_false true c h = absurd (false≢true (sym h))

apart_with : (files : FileList) (path text : List ℕ) → IsFiles files → is_clash files path ≡ false → (dir q : List ℕ) → (b : Bool) → bytes_eq dir path ≡ b → (r : Bool) → bytes_eq q path ≡ r
    → IsSome (cond b (Some text) (text_at files dir)) → IsSome (cond r (Some text) (text_at files q)) → IsDirectoryOf dir q → ⊥
apart_with files path text kept free dir q true e true g here there d =
    not_of_itself path (subst (λ (p : List ℕ). IsDirectoryOf p path) ((bytes_eq-Decides dir path).0 e) (subst (λ (p : List ℕ). IsDirectoryOf dir p) ((bytes_eq-Decides q path).0 g) d))
apart_with files path text kept free dir q true e false g here there d =
    let both = or_false (list_any (λ f. is_directory_of f.0 path) files) (list_any (λ f. is_directory_of path f.0) files) free in
    let no : is_directory_of path q ≡ false = none_at (λ p. is_directory_of path p) files q both.1 there in
    let yes : is_directory_of path q ≡ true = (directory_Decides path q).1 (subst (λ (p : List ℕ). IsDirectoryOf p q) ((bytes_eq-Decides dir path).0 e) d) in
    false≢true (sym no ∙ yes)
apart_with files path text kept free dir q false e true g here there d =
    let both = or_false (list_any (λ f. is_directory_of f.0 path) files) (list_any (λ f. is_directory_of path f.0) files) free in
    let no : is_directory_of dir path ≡ false = none_at (λ p. is_directory_of p path) files dir both.0 here in
    let yes : is_directory_of dir path ≡ true = (directory_Decides dir path).1 (subst (λ (p : List ℕ). IsDirectoryOf dir p) ((bytes_eq-Decides q path).0 g) d) in
    false≢true (sym no ∙ yes)
apart_with files path text kept free dir q false e false g here there d = kept.apart dir q here there d

-- all is kept where a text that is allowed was put at the path
pub with_file_IsFiles : (files : FileList) (path text : List ℕ) → IsFiles files → IsAllowed files path text → IsStrictlySortedBy (slice_cmp nat_cmp) (keys_of (with_file files path text)) → IsFiles (with_file files path text)
with_file_IsFiles files path text kept a rising =
    let text_fits = both_ok (within quantities.File (length text) 1073741824) _ tt a.sizes_fit in
    let count_fits = both_ok (within quantities.Files (length (with_file files path text)) 100000) _ tt text_fits.1 in
    record {
      rising = rising;
      each = λ q t h. each_with files path text kept (allowed_IsFile files path text a) q t (bytes_eq q path) refl (sym (text_at-with_file path text q files) ∙ h);
      apart = λ dir q here there d. apart_with files path text kept a.no_clash dir q (bytes_eq dir path) refl (bytes_eq q path) refl
          (subst (λ (o : Option (List ℕ)). IsSome o) (text_at-with_file path text dir files) here)
          (subst (λ (o : Option (List ℕ)). IsSome o) (text_at-with_file path text q files) there) d;
      count = within_means quantities.Files (length (with_file files path text)) 100000 count_fits.0;
      total = within_means quantities.Total (total_of (with_file files path text)) 1073741824 count_fits.1;
    }

was_there : (b : Bool) (o : Option (List ℕ)) (t : List ℕ) → cond b None o ≡ Some t → o ≡ Some t
was_there true o t h = absurd cc
was_there false o t h = h

some_was_there : (b : Bool) (o : Option (List ℕ)) → IsSome (cond b None o) → IsSome o
some_was_there true o h = absurd (false≢true h)
some_was_there false o h = h

-- all is kept where a text was taken away
pub without_IsFiles : (files : FileList) (path : List ℕ) → IsFiles files → IsStrictlySortedBy (slice_cmp nat_cmp) (keys_of (without files path)) → IsFiles (without files path)
without_IsFiles files path kept rising = record {
  rising = rising;
  each = λ q t h. kept.each q t (was_there (bytes_eq path q) (text_at files q) t (sym (text_at-without path q files kept.rising) ∙ h));
  apart = λ dir q here there d. kept.apart dir q
      (some_was_there (bytes_eq path dir) _ (subst (λ (o : Option (List ℕ)). IsSome o) (text_at-without path dir files kept.rising) here))
      (some_was_there (bytes_eq path q) _ (subst (λ (o : Option (List ℕ)). IsSome o) (text_at-without path q files kept.rising) there)) d;
  count = omega (arith, length-without path files, kept.count);
  total = omega (arith, total-without path files, kept.total);
}

-- the limits where a text stood at the path: there are as many files as before
pub judged_in_place : (files : FileList) (path text before : List ℕ) (total : ℕ) (answer : Result (Unit {0}) FilesError) → IsFiles files → text_at files path ≡ Some before → total ≡ total_of files
    → within quantities.File (length text) 1073741824 ≡ Ok (tt {0}) → answer ≡ within quantities.Total (total - length before + length text) 1073741824 → answer ≡ size_limits text (with_file files path text)
judged_in_place files path text before total answer kept stood sum file_fits is =
    let count : length (with_file files path text) ≡ length files = length-with_file path text files kept.rising ∙ rw stood (omega arith) in
    let after : total_of (with_file files path text) ≡ total - length before + length text =
    omega (arith, total-with_file path text files kept.rising, ap (λ (o : Option (List ℕ)). length_at o) stood, total-without path files) in
    rw (file_fits, count, after, within_fits quantities.Files (length files) 100000 kept.count) is

-- the limits where none stood there, and the files would be too many
pub judged_too_many : (files : FileList) (path text : List ℕ) (count : ℕ) (error : FilesError) (answer : Result (Unit {0}) FilesError) → IsFiles files → text_at files path ≡ None → count ≡ length files
    → within quantities.File (length text) 1073741824 ≡ Ok (tt {0}) → within quantities.Files (count + 1) 100000 ≡ Err error → answer ≡ Err error → answer ≡ size_limits text (with_file files path text)
judged_too_many files path text count error answer kept none many file_fits refused is =
    let after : length (with_file files path text) ≡ count + 1 = length-with_file path text files kept.rising ∙ rw none (omega arith) in
    rw (file_fits, after, refused) is

-- the same, where there is room for one more
pub judged_beside : (files : FileList) (path text : List ℕ) (count total : ℕ) (answer : Result (Unit {0}) FilesError) → IsFiles files → text_at files path ≡ None → count ≡ length files → total ≡ total_of files
    → within quantities.File (length text) 1073741824 ≡ Ok (tt {0}) → within quantities.Files (count + 1) 100000 ≡ Ok (tt {0}) → answer ≡ within quantities.Total (total + length text) 1073741824 → answer ≡ size_limits text (with_file files path text)
judged_beside files path text count total answer kept none many sum file_fits fits is =
    let after : length (with_file files path text) ≡ count + 1 = length-with_file path text files kept.rising ∙ rw none (omega arith) in
    let bytes : total_of (with_file files path text) ≡ total + length text =
    omega (arith, total-with_file path text files kept.rising, ap (λ (o : Option (List ℕ)). length_at o) none) in
    rw (file_fits, after, bytes, fits) is
