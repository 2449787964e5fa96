-- A map with text keys and values that show a text, seen by the bytes of its keys.
use Rattle.std.proofs.Common.{◌≡◌, ℕ, Bool, cond, true, false, List, [], ◌∷◌, map, Option, None, Some, slice_get, refl, ap, Ordering, Less, Equal, Greater}
use Rattle.std.specs.Ordering.{nat_cmp, is_eq, match_ordering}
use Rattle.std.specs.Cmp.Lexicographic.{slice_cmp}
use Rattle.std.specs.Str.{bytes_eq}
use Rattle.std.specs.List.{AllByRecursion}
use Rattle.std.specs.List.Sorted.{IsStrictlySortedBy}
use Rattle.std.specs.Map.{keys_of, lookup, remove_entry}
use Rattle.std.specs.BTreeMap.{insert_entry}
use Rattle.std.specs.Option.{option_map}
use Rattle.std.proofs.lemmas.Option.{slice_get-map}
use Rattle.std.proofs.lemmas.Map.Text.{is_eq-slice_cmp}
use Rattle.ms_tree.specs.Files.{FileList, text_at, with_file, without}

module _ {K V : Type 0} (bytes : K → List ℕ) (shown : V → List ℕ) where
  -- the entries by the bytes of their keys, with the texts that they show
  abbrev pub by_bytes : List (K × V) → FileList
  by_bytes es = map (λ e. (bytes e.0, shown e.1)) es

  abbrev bytes_cmp : K → K → Ordering
  bytes_cmp x y = slice_cmp nat_cmp (bytes x) (bytes y)

  pub lookup_by_bytes : (path : List ℕ) (es : List (K × V)) → option_map shown (lookup (λ k. is_eq (slice_cmp nat_cmp path (bytes k))) es) ≡ text_at (by_bytes es) path
  lookup_by_bytes path [] = refl
  lookup_by_bytes path (e ∷ es) = looked (bytes_eq path (bytes e.0)) (is_eq-slice_cmp path (bytes e.0)) (lookup_by_bytes path es)
    where
      looked : (b : Bool) → is_eq (slice_cmp nat_cmp path (bytes e.0)) ≡ b → option_map shown (lookup (λ k. is_eq (slice_cmp nat_cmp path (bytes k))) es) ≡ text_at (by_bytes es) path
          → option_map shown (lookup (λ k. is_eq (slice_cmp nat_cmp path (bytes k))) (e ∷ es)) ≡ cond b (Some (shown e.1)) (text_at (by_bytes es) path)
      looked true h r = rw h refl
      looked false h r = rw h r

  pub remove_by_bytes : (path : List ℕ) (es : List (K × V)) → by_bytes (remove_entry (λ k. is_eq (slice_cmp nat_cmp path (bytes k))) es) ≡ without (by_bytes es) path
  remove_by_bytes path [] = refl
  remove_by_bytes path (e ∷ es) = removed (bytes_eq path (bytes e.0)) (is_eq-slice_cmp path (bytes e.0)) (remove_by_bytes path es)
    where
      removed : (b : Bool) → is_eq (slice_cmp nat_cmp path (bytes e.0)) ≡ b → by_bytes (remove_entry (λ k. is_eq (slice_cmp nat_cmp path (bytes k))) es) ≡ without (by_bytes es) path
          → by_bytes (remove_entry (λ k. is_eq (slice_cmp nat_cmp path (bytes k))) (e ∷ es)) ≡ cond b (by_bytes es) ((bytes e.0, shown e.1) ∷ without (by_bytes es) path)
      removed true h r = rw h refl
      removed false h r = rw (h, r) refl

  pub insert_by_bytes : (k : K) (text : V) (es : List (K × V)) → by_bytes (insert_entry bytes_cmp es k text) ≡ with_file (by_bytes es) (bytes k) (shown text)
  insert_by_bytes k text [] = refl
  insert_by_bytes k text (e ∷ es) = inserted (bytes_cmp k e.0) (insert_by_bytes k text es)
    where
      inserted : (o : Ordering) → by_bytes (insert_entry bytes_cmp es k text) ≡ with_file (by_bytes es) (bytes k) (shown text)
          → by_bytes (match_ordering o ((k, text) ∷ e ∷ es) ((e.0, text) ∷ es) (e ∷ insert_entry bytes_cmp es k text))
          ≡ match_ordering o ((bytes k, shown text) ∷ (bytes e.0, shown e.1) ∷ by_bytes es) ((bytes e.0, shown text) ∷ by_bytes es) ((bytes e.0, shown e.1) ∷ with_file (by_bytes es) (bytes k) (shown text))
      inserted Less r = refl
      inserted Equal r = refl
      inserted Greater r = ap (λ (fs : FileList). (bytes e.0, shown e.1) ∷ fs) r

  pub rising_by_bytes : (es : List (K × V)) → IsStrictlySortedBy bytes_cmp (keys_of es) → IsStrictlySortedBy (slice_cmp nat_cmp) (keys_of (by_bytes es))
  unfolding IsStrictlySortedBy
  rising_by_bytes [] h = tt
  rising_by_bytes (e ∷ es) h = (all_above e.0 es h.0, rising_by_bytes es h.1)
    where
      all_above : (k : K) (es : List (K × V)) → AllByRecursion (λ y. bytes_cmp k y ≡ Less) (keys_of es) → AllByRecursion (λ y. slice_cmp nat_cmp (bytes k) y ≡ Less) (keys_of (by_bytes es))
      all_above k [] h = tt
      all_above k (e ∷ es) h = (h.0, all_above k es h.1)

  pub path_by_bytes : (es : List (K × V)) (place : ℕ) → option_map bytes (slice_get (keys_of es) place) ≡ option_map (λ f. f.0) (slice_get (by_bytes es) place)
  path_by_bytes es place = rw (slice_get-map {A = K × V} {B = K} (λ e. e.0) es place, slice_get-map {A = K × V} {B = List ℕ × List ℕ} (λ e. (bytes e.0, shown e.1)) es place) (mapped (slice_get es place))
    where
      mapped : (o : Option (K × V)) → option_map bytes (option_map (λ e. e.0) o) ≡ option_map {T = List ℕ × List ℕ} (λ f. f.0) (option_map (λ e. (bytes e.0, shown e.1)) o)
      mapped None = refl
      mapped (Some e) = refl
