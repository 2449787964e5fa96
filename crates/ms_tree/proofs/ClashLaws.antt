-- Files at directories of a path, and below a path.
use Rattle.std.proofs.Common.{◌≡◌, ℕ, ◌+◌, ◌<◌, Bool, cond, ◌||◌, ◌&&◌, true, false, List, [], ◌∷◌, ◌++◌, length, length-append, take, drop, drop-cons, add-one, get_or, nat_eq, Option, Some, None, IsSome, is_some, refl, sym, ◌∙◌, ap, Ordering, Less, Equal, Greater, arith}
use Rattle.std.specs.Ordering.{nat_cmp, is_le, ordering_then, ordering_reverse}
use Rattle.std.specs.Cmp.{nat_cmp_total, nat_cmp_is}
use Rattle.std.proofs.Math.Seq.{take-append_seam}
use Rattle.std.proofs.lemmas.List.{take-append-drop}
use Rattle.std.proofs.lemmas.Grind.{common_steps}
use Rattle.std.specs.Cmp.Lexicographic.{slice_cmp}
use Rattle.std.specs.Str.{bytes_eq}
use Rattle.std.specs.List.{AllByRecursion, list_any, filter, starts_with}
use Rattle.std.specs.List.Sorted.{IsStrictlySortedBy}
use Rattle.std.specs.Map.{keys_of}
use Rattle.std.proofs.lemmas.Bool.{false≢true}
use Rattle.std.proofs.lemmas.Bool.Decides.{Decides-eqb}
use Rattle.std.proofs.lemmas.Slice.Eq.{bytes_eq-Decides, starts_is}
use Rattle.std.proofs.lemmas.Map.Lookups.{exact_unsigned}
use Rattle.ms_tree.specs.Paths.{is_directory_of}
use Rattle.ms_tree.specs.Files.{FileList, text_at}
use Rattle.ms_tree.proofs.PathLaws.{directory_Decides}
use Rattle.ms_tree.proofs.FileLaws.{none_at}
use Rattle.ms_tree.proofs.MapViews.{by_bytes}

-- what some file's path passes, a path passes at which a text stands
pub some_at : (test : List ℕ → Bool) (files : FileList) → list_any (λ f. test f.0) files ≡ true → (q : List ℕ) × IsSome (text_at files q) × (test q ≡ true)
some_at test [] h = absurd (false≢true h)
some_at test (f ∷ files) h = at_place (test f.0) refl h (some_at test files)
  where
    later : (q : List ℕ) → IsSome (text_at files q) → (b : Bool) → IsSome (cond b (Some f.1) (text_at files q))
    later q here true = refl
    later q here false = here

    at_place : (t : Bool) → test f.0 ≡ t → (t || list_any (λ f. test f.0) files) ≡ true
        → (list_any (λ f. test f.0) files ≡ true → (q : List ℕ) × IsSome (text_at files q) × (test q ≡ true)) → (q : List ℕ) × IsSome (text_at (f ∷ files) q) × (test q ≡ true)
    at_place true e h rest = let same : bytes_eq f.0 f.0 ≡ true = (bytes_eq-Decides f.0 f.0).1 refl in (f.0, rw same refl, e)
    at_place false e h rest = let r = rest h in (r.0, later r.0 r.1 (bytes_eq r.0 f.0), r.2)

some_is_not_none : (o : Option (List ℕ)) → IsSome o → o ≡ None → ⊥
some_is_not_none o h e = false≢true (sym (ap (λ (x : Option (List ℕ)). is_some x) e) ∙ h)

-- no file stands at a front of the path that ends before a slash
pub none_above : (files : FileList) (path : List ℕ) → ((k : ℕ) → k < length path → get_or path k 0 ≡ 47 → text_at files (take k path) ≡ None) → list_any (λ f. is_directory_of f.0 path) files ≡ false
none_above files path free = at_test (list_any (λ f. is_directory_of f.0 path) files) refl
  where
    at_test : (b : Bool) → list_any (λ f. is_directory_of f.0 path) files ≡ b → b ≡ false
    at_test false e = refl
    at_test true e =
        let q = some_at (λ p. is_directory_of p path) files e in
        let d = (directory_Decides q.0 path).0 q.2 in
        absurd (some_is_not_none (text_at files q.0) q.1 (at_front q.0 d.0 d.1))
      where
        at_front : (dir rest : List ℕ) → path ≡ dir ++ 47 ∷ rest → text_at files dir ≡ None
        at_front dir rest e =
            let front : take (length dir) path ≡ dir = ap (λ (p : List ℕ). take (length dir) p) e ∙ take-append_seam dir (47 ∷ rest) in
            let slash : get_or path (length dir) 0 ≡ 47 = ap (λ (p : List ℕ). get_or p (length dir) 0) e ∙ grind (arith, common_steps) in
            let within : length dir < length path = let n = ap length e ∙ length-append dir (47 ∷ rest) in omega (arith, n) in
            ap (λ (p : List ℕ). text_at files p) (sym front) ∙ free (length dir) within slash

cut_at : (path : List ℕ) (k : ℕ) → k < length path → drop k path ≡ get_or path k 0 ∷ drop (k + 1) path
cut_at path k l = rw add-one (drop-cons path k 0 l)

-- a file stands there
pub some_above : (files : FileList) (path : List ℕ) (k : ℕ) → k < length path → get_or path k 0 ≡ 47 → IsSome (text_at files (take k path)) → list_any (λ f. is_directory_of f.0 path) files ≡ true
some_above files path k l e here = at_test (list_any (λ f. is_directory_of f.0 path) files) refl
  where
    at_test : (b : Bool) → list_any (λ f. is_directory_of f.0 path) files ≡ b → b ≡ true
    at_test true e = refl
    at_test false none =
        let no : is_directory_of (take k path) path ≡ false = none_at (λ p. is_directory_of p path) files (take k path) none here in
        let yes : is_directory_of (take k path) path ≡ true = (directory_Decides (take k path) path).1 (drop (k + 1) path, sym (take-append-drop k path) ∙ ap (λ (r : List ℕ). take k path ++ r) (cut_at path k l ∙ ap (λ (b : ℕ). b ∷ drop (k + 1) path) e)) in
        absurd (false≢true (sym no ∙ yes))

-- a text that begins with another is not below it
begins_le : (p rest : List ℕ) → is_le (slice_cmp nat_cmp p (p ++ rest)) ≡ true
begins_le [] [] = refl
begins_le [] (r ∷ rest) = refl
begins_le (x ∷ p) rest = let same : nat_cmp x x ≡ Equal = sym (nat_cmp_is x x Equal refl) in rw same (begins_le p rest)

-- what lies from a text on and before one that begins with it, begins with it
begins_between : (p f rest : List ℕ) → is_le (slice_cmp nat_cmp p f) ≡ true → slice_cmp nat_cmp f (p ++ rest) ≡ Less → (more : List ℕ) × (f ≡ p ++ more)
begins_between [] f rest from below = (f, refl)
begins_between (x ∷ p) [] rest from below = absurd (false≢true from)
begins_between (x ∷ p) (y ∷ f) rest from below = at_order (nat_cmp x y) refl from below (begins_between p f rest)
  where
    at_order : (o : Ordering) → nat_cmp x y ≡ o → is_le (ordering_then o (slice_cmp nat_cmp p f)) ≡ true → ordering_then (nat_cmp y x) (slice_cmp nat_cmp f (p ++ rest)) ≡ Less
        → (is_le (slice_cmp nat_cmp p f) ≡ true → slice_cmp nat_cmp f (p ++ rest) ≡ Less → (more : List ℕ) × (f ≡ p ++ more)) → (more : List ℕ) × (y ∷ f ≡ (x ∷ p) ++ more)
    at_order Less e from below on = let back : nat_cmp y x ≡ Greater = nat_cmp_total.antisymm y x ∙ ap ordering_reverse e in absurd (let h = rw back at below in cc)
    at_order Equal e from below on =
        let same : x ≡ y = exact_unsigned x y e in
        let back : nat_cmp y x ≡ Equal = nat_cmp_total.antisymm y x ∙ ap ordering_reverse e in
        let r = on from (rw back at below) in
        let more : f ≡ p ++ r.0 = r.1 in
        (r.0, cc)
    at_order Greater e from below on = absurd (false≢true from)

starts_decides : (s p : List ℕ) → (starts_with nat_eq s p ≡ true → s ≡ p ++ drop (length p) s) × ((rest : List ℕ) → s ≡ p ++ rest → starts_with nat_eq s p ≡ true)
starts_decides s p = starts_is Decides-eqb s p (starts_with nat_eq s p) refl

-- what begins with a text is not before it
starts_from : (p s : List ℕ) → starts_with nat_eq s p ≡ true → is_le (slice_cmp nat_cmp p s) ≡ true
starts_from p s h = let e = (starts_decides s p).0 h in ap (λ (t : List ℕ). is_le (slice_cmp nat_cmp p t)) e ∙ begins_le p (drop (length p) s)

starts_between : (p f s : List ℕ) → is_le (slice_cmp nat_cmp p f) ≡ true → slice_cmp nat_cmp f s ≡ Less → starts_with nat_eq s p ≡ true → starts_with nat_eq f p ≡ true
starts_between p f s from below h =
    let e = (starts_decides s p).0 h in
    let r = begins_between p f (drop (length p) s) from (sym (ap (λ (t : List ℕ). slice_cmp nat_cmp f t) e) ∙ below) in
    (starts_decides f p).1 r.0 r.1

module _ {K V : Type 0} (bytes : K → List ℕ) (shown : V → List ℕ) (front : List ℕ) where
  -- the entries from the text on, as a range tests them
  abbrev pub from_front : List (K × V) → List (K × V)
  from_front es = filter (λ e. is_le (slice_cmp nat_cmp front (bytes e.0)) && true) es

  abbrev any_starts : List (K × V) → Bool
  any_starts es = list_any (λ f. starts_with nat_eq f.0 front) (by_bytes bytes shown es)

  none_later : (k : K) (es : List (K × V)) → is_le (slice_cmp nat_cmp front (bytes k)) ≡ true → starts_with nat_eq (bytes k) front ≡ false
      → AllByRecursion (λ y. slice_cmp nat_cmp (bytes k) (bytes y) ≡ Less) (keys_of es) → any_starts es ≡ false
  none_later k [] from off above = refl
  none_later k (e ∷ es) from off above = at_test (starts_with nat_eq (bytes e.0) front) refl (none_later k es from off above.1)
    where
      at_test : (b : Bool) → starts_with nat_eq (bytes e.0) front ≡ b → any_starts es ≡ false → (b || any_starts es) ≡ false
      at_test true h rest = absurd (false≢true (sym off ∙ starts_between front (bytes k) (bytes e.0) from above.0 h))
      at_test false h rest = rest

  -- the first entry from the text on begins with it, if any entry does
  pub any_is_first : (es : List (K × V)) → IsStrictlySortedBy (λ x y. slice_cmp nat_cmp (bytes x) (bytes y)) (keys_of es) → (e : K × V) (rest : List (K × V)) → from_front es ≡ e ∷ rest
      → starts_with nat_eq (bytes e.0) front ≡ any_starts es
  unfolding IsStrictlySortedBy
  any_is_first [] rising e rest h = absurd cc
  any_is_first (f ∷ es) rising e rest h = at_first (is_le (slice_cmp nat_cmp front (bytes f.0))) refl h (any_is_first es rising.1 e rest)
    where
      here : (b : Bool) → starts_with nat_eq (bytes f.0) front ≡ b → is_le (slice_cmp nat_cmp front (bytes f.0)) ≡ true → b ≡ (b || any_starts es)
      here true s from = refl
      here false s from = sym (none_later f.0 es from s rising.0)

      past : (b : Bool) → starts_with nat_eq (bytes f.0) front ≡ b → is_le (slice_cmp nat_cmp front (bytes f.0)) ≡ false → any_starts es ≡ (b || any_starts es)
      past true s before = absurd (false≢true (sym before ∙ starts_from front (bytes f.0) s))
      past false s before = refl

      at_first : (b : Bool) → is_le (slice_cmp nat_cmp front (bytes f.0)) ≡ b → cond (b && true) (f ∷ from_front es) (from_front es) ≡ e ∷ rest
          → (from_front es ≡ e ∷ rest → starts_with nat_eq (bytes e.0) front ≡ any_starts es) → starts_with nat_eq (bytes e.0) front ≡ any_starts (f ∷ es)
      at_first true from h on = let same : f ≡ e = cc in ap (λ (x : K × V). starts_with nat_eq (bytes x.0) front) (sym same) ∙ here (starts_with nat_eq (bytes f.0) front) refl from
      at_first false before h on = on h ∙ past (starts_with nat_eq (bytes f.0) front) refl before

  -- no entry begins with the text, if none lies from it on
  pub none_from : (es : List (K × V)) → from_front es ≡ [] → any_starts es ≡ false
  none_from [] h = refl
  none_from (f ∷ es) h = at_first (is_le (slice_cmp nat_cmp front (bytes f.0))) refl h (none_from es)
    where
      past : (b : Bool) → starts_with nat_eq (bytes f.0) front ≡ b → is_le (slice_cmp nat_cmp front (bytes f.0)) ≡ false → (b || any_starts es) ≡ any_starts es
      past true s before = absurd (false≢true (sym before ∙ starts_from front (bytes f.0) s))
      past false s before = refl

      at_first : (b : Bool) → is_le (slice_cmp nat_cmp front (bytes f.0)) ≡ b → cond (b && true) (f ∷ from_front es) (from_front es) ≡ [] → (from_front es ≡ [] → any_starts es ≡ false) → any_starts (f ∷ es) ≡ false
      at_first true from h on = absurd cc
      at_first false before h on = past (starts_with nat_eq (bytes f.0) front) refl before ∙ on h
