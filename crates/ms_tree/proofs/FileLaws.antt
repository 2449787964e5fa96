-- What stands at the paths of files, and how many files and bytes there are, after a change.
use Rattle.std.proofs.Common.{◌≡◌, ℕ, ◌+◌, ◌≤◌, Bool, cond, ◌||◌, true, false, List, [], ◌∷◌, length, Option, Some, None, slice_get, is_some, if◌then◌else◌, IsSome, refl, sym, ◌∙◌, ap, Ordering, Less, Equal, Greater, arith}
use Rattle.std.specs.Ordering.{nat_cmp, is_eq, eq_by_cmp, match_ordering}
use Rattle.std.specs.Cmp.Lexicographic.{slice_cmp, nat_list_cmp_total}
use Rattle.std.specs.Str.{bytes_eq}
use Rattle.std.specs.Option.{option_map, unwrap_or}
use Rattle.std.specs.List.Sorted.{IsStrictlySortedBy}
use Rattle.std.specs.Map.{keys_of, lookup, remove_entry}
use Rattle.std.specs.List.{list_any}
use Rattle.std.specs.Cmp.{eq_by_cmp_equiv}
use Rattle.std.proofs.lemmas.Bool.{false≢true}
use Rattle.std.proofs.lemmas.Slice.Eq.{bytes_eq-Decides}
use Rattle.std.proofs.lemmas.Map.{lookup-none, lookup-remove_entry}
use Rattle.std.proofs.lemmas.Map.Keys.{sorted_tail, IsDistinct-from_sorted}
use Rattle.std.proofs.lemmas.Map.Entries.{lookup_from_place, sum_by-insert_entry, sum_by-remove_entry, none_below_head}
use Rattle.std.proofs.lemmas.Map.Text.{is_eq-slice_cmp}
use Rattle.std.proofs.lemmas.Map.Lookups.{exact_bytes}
use Rattle.ms_tree.specs.Files.{FileList, text_at, with_file, without, total_of, IsFiles}

-- the text at a path after another was put at one
pub text_at-with_file : (path text q : List ℕ) (files : FileList) → text_at (with_file files path text) q ≡ cond (bytes_eq q path) (Some text) (text_at files q)
text_at-with_file path text q [] = refl
text_at-with_file path text q (f ∷ files) = at_place (slice_cmp nat_cmp path f.0) refl (text_at-with_file path text q files)
  where
    both : (r s : Bool) (x : Option (List ℕ)) → bytes_eq q path ≡ r → bytes_eq q f.0 ≡ s → slice_cmp nat_cmp path f.0 ≡ Greater → cond s (Some f.1) (cond r (Some text) x) ≡ cond r (Some text) (cond s (Some f.1) x)
    both true true x e g h =
        let p : q ≡ path = (bytes_eq-Decides q path).0 e in
        let o : q ≡ f.0 = (bytes_eq-Decides q f.0).0 g in
        let same : path ≡ f.0 = sym p ∙ o in
        let eq : is_eq (slice_cmp nat_cmp path f.0) ≡ true = is_eq-slice_cmp path f.0 ∙ (bytes_eq-Decides path f.0).1 same in
        absurd (false≢true (ap is_eq (sym h) ∙ eq))
    both true false x e g h = refl
    both false true x e g h = refl
    both false false x e g h = refl

    at_place : (o : Ordering) → slice_cmp nat_cmp path f.0 ≡ o → text_at (with_file files path text) q ≡ cond (bytes_eq q path) (Some text) (text_at files q)
        → text_at (match_ordering o ((path, text) ∷ f ∷ files) ((f.0, text) ∷ files) (f ∷ with_file files path text)) q ≡ cond (bytes_eq q path) (Some text) (text_at (f ∷ files) q)
    at_place Less h r = refl
    at_place Equal h r = let e : path ≡ f.0 = exact_bytes path f.0 h in rw e (over (bytes_eq q f.0))
      where
        over : (b : Bool) → cond b (Some text) (text_at files q) ≡ cond b (Some text) (cond b (Some f.1) (text_at files q))
        over true = refl
        over false = refl
    at_place Greater h r = rw r (both (bytes_eq q path) (bytes_eq q f.0) (text_at files q) refl refl h)

-- a look-up by the order
pub lookup_by_order : (path : List ℕ) (files : FileList) → lookup (λ k. is_eq (slice_cmp nat_cmp path k)) files ≡ text_at files path
lookup_by_order path [] = refl
lookup_by_order path (f ∷ files) = rw (is_eq-slice_cmp path f.0, lookup_by_order path files) refl

-- the length of the text that stands there
abbrev pub length_at : Option (List ℕ) → ℕ
length_at o = unwrap_or (option_map length o) 0

pub total-with_file : (path text : List ℕ) (files : FileList) → IsStrictlySortedBy (slice_cmp nat_cmp) (keys_of files) → total_of (with_file files path text) + length_at (text_at files path) ≡ total_of files + length text
total-with_file path text files rising = rw (← lookup_by_order path files) (sum_by-insert_entry length nat_list_cmp_total files path text rising)

pub total-without : (path : List ℕ) (files : FileList) → total_of (without files path) + length_at (text_at files path) ≡ total_of files
total-without path files = sum_by-remove_entry length (bytes_eq path) files

-- one more, unless something stood there
pub length-with_file : (path text : List ℕ) (files : FileList) → IsStrictlySortedBy (slice_cmp nat_cmp) (keys_of files) → length (with_file files path text) ≡ length files + (if is_some (text_at files path) then 0 else 1)
length-with_file path text [] rising = refl
length-with_file path text (f ∷ files) rising = at_place (slice_cmp nat_cmp path f.0) refl (length-with_file path text files (sorted_tail (slice_cmp nat_cmp) f.0 (keys_of files) rising))
  where
    at_place : (o : Ordering) → slice_cmp nat_cmp path f.0 ≡ o → length (with_file files path text) ≡ length files + (if is_some (text_at files path) then 0 else 1)
        → length (match_ordering o ((path, text) ∷ f ∷ files) ((f.0, text) ∷ files) (f ∷ with_file files path text)) ≡ length (f ∷ files) + (if is_some (text_at (f ∷ files) path) then 0 else 1)
    at_place Less h rest = let none : text_at (f ∷ files) path ≡ None = sym (lookup_by_order path (f ∷ files)) ∙ lookup-none _ (f ∷ files) (none_below_head nat_list_cmp_total path f files rising h) in rw none (omega arith)
    at_place Equal h rest = let here : bytes_eq path f.0 ≡ true = sym (is_eq-slice_cmp path f.0) ∙ ap is_eq h in rw here (omega arith)
    at_place Greater h rest =
        let off : bytes_eq path f.0 ≡ false = sym (is_eq-slice_cmp path f.0) ∙ ap is_eq h in
        rw off (omega (arith, rest))

pub length-without : (path : List ℕ) (files : FileList) → length (without files path) ≤ length files
length-without path [] = omega arith
length-without path (f ∷ files) = at_place (bytes_eq path f.0) (length-without path files)
  where
    at_place : (b : Bool) → length (without files path) ≤ length files → length (cond b files (f ∷ without files path)) ≤ length (f ∷ files)
    at_place true rest = omega arith
    at_place false rest = omega arith

pub none_IsFiles : IsFiles []
unfolding IsStrictlySortedBy
none_IsFiles = record {
  rising = tt;
  each = λ path text h. absurd cc;
  apart = λ dir path here there d. absurd (false≢true here);
  count = omega arith;
  total = omega arith;
}

pub remove_by_order : (path : List ℕ) (files : FileList) → remove_entry (λ k. is_eq (slice_cmp nat_cmp path k)) files ≡ without files path
remove_by_order path [] = refl
remove_by_order path (f ∷ files) = rw (is_eq-slice_cmp path f.0, remove_by_order path files) refl

equal_by_order : (path : List ℕ) (x y : List ℕ) → is_eq (slice_cmp nat_cmp path x) ≡ true → is_eq (slice_cmp nat_cmp path y) ≡ eq_by_cmp (slice_cmp nat_cmp) x y
equal_by_order path x y e = let same : path ≡ x = (bytes_eq-Decides path x).0 (sym (is_eq-slice_cmp path x) ∙ e) in ap (λ (k : List ℕ). is_eq (slice_cmp nat_cmp k y)) same

-- the text at a path after one was taken away
pub text_at-without : (path q : List ℕ) (files : FileList) → IsStrictlySortedBy (slice_cmp nat_cmp) (keys_of files) → text_at (without files path) q ≡ cond (bytes_eq path q) None (text_at files q)
text_at-without path q files rising =
    sym (lookup_by_order q (without files path))
    ∙ ap (λ (fs : FileList). lookup (λ k. is_eq (slice_cmp nat_cmp q k)) fs) (sym (remove_by_order path files))
    ∙ lookup-remove_entry (eq_by_cmp_equiv nat_list_cmp_total) (λ k. is_eq (slice_cmp nat_cmp path k)) (equal_by_order path) q files (IsDistinct-from_sorted (slice_cmp nat_cmp) (keys_of files) rising)
    ∙ rw (is_eq-slice_cmp path q, lookup_by_order q files) refl

-- the text of the file at a place stands at its path
pub text_at-place : (files : FileList) (place : ℕ) (path text : List ℕ) → IsStrictlySortedBy (slice_cmp nat_cmp) (keys_of files) → slice_get files place ≡ Some (path, text) → text_at files path ≡ Some text
text_at-place files place path text rising h =
    sym (lookup_by_order path files) ∙ lookup_from_place (eq_by_cmp_equiv nat_list_cmp_total) files place path text (IsDistinct-from_sorted (slice_cmp nat_cmp) (keys_of files) rising) h

-- what no file's path passes, no path at which a text stands passes
pub none_at : (test : List ℕ → Bool) (files : FileList) (q : List ℕ) → list_any (λ f. test f.0) files ≡ false → IsSome (text_at files q) → test q ≡ false
none_at test [] q none here = absurd (false≢true here)
none_at test (f ∷ files) q none here = at_place (test f.0) refl none (bytes_eq q f.0) refl here (none_at test files q)
  where
    at_place : (t : Bool) → test f.0 ≡ t → (t || list_any (λ f. test f.0) files) ≡ false → (b : Bool) → bytes_eq q f.0 ≡ b → IsSome (cond b (Some f.1) (text_at files q))
        → (list_any (λ f. test f.0) files ≡ false → IsSome (text_at files q) → test q ≡ false) → test q ≡ false
    at_place true t n b e h rest = absurd (false≢true (sym n))
    at_place false t n true e h rest = let same : q ≡ f.0 = (bytes_eq-Decides q f.0).0 e in ap test same ∙ t
    at_place false t n false e h rest = rest n h
