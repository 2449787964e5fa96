-- Walks through two stores: they meet the same, unless the stores differ where a walk looks.
use Rattle.std.proofs.Common.{◌≡◌, ◌⊎◌, ℕ, zero, suc, ◌+◌, ◌-◌, Bool, ◌&&◌, true, false, cond, nat_lt, min, List, [], ◌∷◌, ◌++◌, length, Contains, Option, Some, None, Result, Ok, Err, is_ok, refl, sym, ap, subst, ◌∙◌, inl, inr}
use Rattle.std.specs.List.{flat_map, list_all}
use Rattle.std.specs.Str.{bytes_eq}
use Rattle.std.specs.Map.{keys_of}
use Rattle.std.specs.List.Sorted.{IsStrictlySortedBy}
use Rattle.std.specs.Ordering.{nat_cmp}
use Rattle.std.specs.Cmp.Lexicographic.{slice_cmp}
use Rattle.std.proofs.lemmas.Bool.{false≢true}
use Rattle.std.proofs.lemmas.Slice.Eq.{bytes_eq-Decides}
use Rattle.ms_base.specs.Options.{both}
use Rattle.ms_base.specs.declared.names.Name.{Name}
use Rattle.ms_base.specs.declared.names.Quantity.TheVariants as quantities
use Rattle.ms_object.specs.declared.fault.GatherError.{GatherError}
use Rattle.ms_object.specs.declared.fault.GatherError.TheVariants as faults
use Rattle.ms_object.specs.declared.format.Format.{Format}
use Rattle.ms_object.specs.declared.object.Kind.{Kind}
use Rattle.ms_object.specs.declared.object.Kind.TheVariants as kinds
use Rattle.ms_object.specs.declared.object.SizedRow.{SizedRow}
use Rattle.ms_object.specs.Objects.{blob_size}
use Rattle.ms_object.specs.Trees.{Texts, FileText, Met, IsTree, or_fault, object_named, blob_of, blobs_joined, file_of, file_named, inner_rows_of, top_of, met_file, met_below, met_by_kind, if_short, bytes_met, size_fault, with_size, walk_rows, walk, first_fault}
use Rattle.ms_tree.specs.Stores.{AreNamed, HasAll, StoresCollide}
use Rattle.ms_tree.proofs.Named.{nothing_named, named_text}
use Rattle.ms_tree.proofs.OneTree.{rising_same}

-- no fault was met
abbrev pub fine : List Met → Bool
fine met = list_all is_ok met

pub fine-append : (xs ys : List Met) → fine (xs ++ ys) ≡ (fine xs && fine ys)
fine-append [] ys = refl
fine-append (Ok f ∷ xs) ys = fine-append xs ys
fine-append (Err e ∷ xs) ys = refl

second_off : (a b : Bool) → b ≡ false → (a && b) ≡ false
second_off true b e = e
second_off false b e = refl

-- a walk that no fault ends met none
pub no_fault : (count total : ℕ) (met : List Met) → first_fault count total met ≡ None → fine met ≡ true
no_fault count total [] h = refl
no_fault count total (Err e ∷ met) h = absurd cc
no_fault count total (Ok file ∷ met) h = at_count (nat_lt 100000 (count + 1)) (nat_lt 1073741824 (total + length file.1)) h (no_fault (count + 1) (total + length file.1) met)
  where
    at_count : (many large : Bool)
        → cond many (Some (faults.Limit quantities.Files (count + 1))) (cond large (Some (faults.Limit quantities.Total (total + length file.1))) (first_fault (count + 1) (total + length file.1) met)) ≡ None
        → (first_fault (count + 1) (total + length file.1) met ≡ None → fine met ≡ true) → fine met ≡ true
    at_count true large h rest = absurd cc
    at_count false true h rest = absurd cc
    at_count false false h rest = rest h

-- Two stores, of which the other one has each text of the one, or there is a difference, or it has nothing there where
-- that may be.
module _ (one other : Texts) (Apart Lacks : Type 0)
    (look : (name text : List ℕ) → one name ≡ Some text → (other name ≡ Some text) ⊎ (Apart ⊎ (Lacks × (other name ≡ None)))) where
  -- the difference, or a fault in the other store
  abbrev Else : Bool → Type 0
  Else fine = Apart ⊎ (Lacks × (fine ≡ false))

  abbrev Same : {A : Type 0} → Result A GatherError → Result A GatherError → Type 0
  Same a b = is_ok a ≡ true → (a ≡ b) ⊎ Else (is_ok b)

  abbrev SameMet : List Met → List Met → Type 0
  SameMet xs ys = fine xs ≡ true → (xs ≡ ys) ⊎ Else (fine ys)

  same_named : (name : Name) → Same (object_named one name) (object_named other name)
  same_named name ok = at_text (one name.0) refl
    where
      at_text : (t : Option (List ℕ)) → one name.0 ≡ t → (object_named one name ≡ object_named other name) ⊎ Else (is_ok (object_named other name))
      at_text None e = absurd (false≢true (sym (ap is_ok (nothing_named one name e)) ∙ ok))
      at_text (Some text) e =
          elim (look name.0 text e) [
            | inl there ↦ inl (named_text one name text e ∙ sym (named_text other name text there))
            | inr or ↦ elim or [
              | inl apart ↦ inr (inl apart)
              | inr none ↦ inr (inr (none.0, ap is_ok (nothing_named other name none.1)))
            ]
          ]

  same_next : {A B : Type 0} (a b : Result A GatherError) (f g : A → Result B GatherError) → Same a b → ((v : A) → Same (f v) (g v)) → Same (or_fault a f) (or_fault b g)
  same_next (Err e) b f g first then ok = absurd (false≢true ok)
  same_next {A} {B} (Ok v) b f g first then ok =
      elim (first refl) [
        | inl e ↦ subst (λ (r : Result A GatherError). (f v ≡ or_fault r g) ⊎ Else (is_ok (or_fault r g))) e (then v ok)
        | inr or ↦ elim or [
          | inl apart ↦ inr (inl apart)
          | inr none ↦ inr (inr (none.0, is_faulty b none.1))
        ]
      ]
    where
      is_faulty : (r : Result A GatherError) → is_ok r ≡ false → is_ok (or_fault r g) ≡ false
      is_faulty (Ok w) h = absurd (false≢true (sym h))
      is_faulty (Err e) h = refl

  same_itself : {A : Type 0} (a : Result A GatherError) → Same a a
  same_itself a ok = inl refl

  same_blobs : (format : Format) (left : ℕ) (names : List Name) → Same (blobs_joined format one left names) (blobs_joined format other left names)
  unfolding blobs_joined
  same_blobs format left [] = λ ok. inl refl
  same_blobs format left (name ∷ names) =
      same_next _ _ _ _ (same_next _ _ _ _ (same_named name) (λ object. same_itself (blob_of format name (min (blob_size format) left) object)))
      (λ first. same_next _ _ _ _ (same_blobs format (left - blob_size format) names) (λ others. same_itself (Ok (first ++ others))))

  same_file : (format : Format) (name : Name) → Same (file_named format one name) (file_named format other name)
  unfolding file_named
  same_file format name =
      same_next _ _ _ _ (same_next _ _ _ _ (same_named name) (λ object. same_itself (file_of format name object))) (λ file. same_blobs format file.0 file.1)

  same_met_file : (path : List ℕ) (a b : Result (List ℕ) GatherError) → Same a b → SameMet (met_file path a ∷ []) (met_file path b ∷ [])
  same_met_file path (Err e) b same ok = absurd (false≢true ok)
  same_met_file path (Ok bytes) b same ok =
      elim (same refl) [
        | inl e ↦ inl (ap (λ (r : Result (List ℕ) GatherError). met_file path r ∷ []) e)
        | inr or ↦ elim or [
          | inl apart ↦ inr (inl apart)
          | inr none ↦ inr (inr (none.0, is_faulty b none.1))
        ]
      ]
    where
      is_faulty : (r : Result (List ℕ) GatherError) → is_ok r ≡ false → fine (met_file path r ∷ []) ≡ false
      is_faulty (Ok w) h = absurd (false≢true (sym h))
      is_faulty (Err e) h = refl

  same_met_below : {A : Type 0} (a b : Result A GatherError) (f g : A → List Met) → Same a b → ((v : A) → SameMet (f v) (g v)) → SameMet (met_below a f) (met_below b g)
  same_met_below (Err e) b f g first then ok = absurd (false≢true ok)
  same_met_below {A} (Ok v) b f g first then ok =
      elim (first refl) [
        | inl e ↦ subst (λ (r : Result A GatherError). (f v ≡ met_below r g) ⊎ Else (fine (met_below r g))) e (then v ok)
        | inr or ↦ elim or [
          | inl apart ↦ inr (inl apart)
          | inr none ↦ inr (inr (none.0, is_faulty b none.1))
        ]
      ]
    where
      is_faulty : (r : Result A GatherError) → is_ok r ≡ false → fine (met_below r g) ≡ false
      is_faulty (Ok w) h = absurd (false≢true (sym h))
      is_faulty (Err e) h = refl

  same_append : (xs ys us vs : List Met) → SameMet xs ys → SameMet us vs → SameMet (xs ++ us) (ys ++ vs)
  same_append xs ys us vs first then ok =
      let oks = both (fine xs) (fine us) (sym (fine-append xs us) ∙ ok) in
      elim (first oks.0) [
        | inl e ↦ elim (then oks.1) [
          | inl more ↦ inl (ap (λ (m : List Met). m ++ us) e ∙ ap (λ (m : List Met). ys ++ m) more)
          | inr or ↦ elim or [
            | inl apart ↦ inr (inl apart)
            | inr none ↦ inr (inr (none.0, fine-append ys vs ∙ second_off (fine ys) (fine vs) none.1))
          ]
        ]
        | inr or ↦ elim or [
          | inl apart ↦ inr (inl apart)
          | inr none ↦ inr (inr (none.0, fine-append ys vs ∙ ap (λ (b : Bool). b && fine vs) none.1))
        ]
      ]

  same_sized : (format : Format) (row : SizedRow) (xs ys : List Met) → SameMet xs ys → SameMet (with_size format row xs) (with_size format row ys)
  same_sized format row xs ys same ok =
      elim (same (both (fine xs) (fine (size_fault format row (bytes_met xs))) (sym (fine-append xs (size_fault format row (bytes_met xs))) ∙ ok)).0) [
        | inl e ↦ inl (ap (with_size format row) e)
        | inr or ↦ elim or [
          | inl apart ↦ inr (inl apart)
          | inr none ↦ inr (inr (none.0, fine-append ys (size_fault format row (bytes_met ys)) ∙ ap (λ (b : Bool). b && fine (size_fault format row (bytes_met ys))) none.1))
        ]
      ]

  same_short : (path : List ℕ) (xs ys : List Met) → SameMet xs ys → SameMet (if_short path xs) (if_short path ys)
  same_short path xs ys same = by (nat_lt 1024 (length path))
    where
      by : (b : Bool) → SameMet (cond b (Err (faults.Limit quantities.Path (length path)) ∷ []) xs) (cond b (Err (faults.Limit quantities.Path (length path)) ∷ []) ys)
      by true = λ ok. inl refl
      by false = same

  same_flat : (f g : SizedRow → List Met) (rows : List SizedRow) → ((row : SizedRow) → SameMet (f row) (g row)) → SameMet (flat_map f rows) (flat_map g rows)
  same_flat f g [] each = λ ok. inl refl
  same_flat f g (row ∷ rows) each = same_append (f row) (g row) (flat_map f rows) (flat_map g rows) (each row) (same_flat f g rows each)

  same_kind : (format : Format) (f g : List ℕ → List SizedRow → List Met) (path : List ℕ) (name : Name) (kind : Kind) → ((before : List ℕ) (rows : List SizedRow) → SameMet (f before rows) (g before rows))
      → SameMet (met_by_kind format f one path name kind) (met_by_kind format g other path name kind)
  same_kind format f g path name kinds.File lower = same_met_file path _ _ (same_file format name)
  same_kind format f g path name kinds.Dir lower =
      same_met_below _ _ _ _ (same_next _ _ _ _ (same_named name) (λ object. same_itself (inner_rows_of format name object))) (λ rows. lower (path ++ 47 ∷ []) rows)

  same_rows : (format : Format) (left : ℕ) (before : List ℕ) (rows : List SizedRow) → SameMet (walk_rows format left one before rows) (walk_rows format left other before rows)
  unfolding walk_rows
  same_rows format zero before rows = λ ok. inl refl
  same_rows format (suc left) before rows =
      same_flat _ _ rows (λ row. same_sized format row _ _ (same_short (before ++ row.label) _ _
      (same_kind format (walk_rows format left one) (walk_rows format left other) (before ++ row.label) row.name row.kind (λ front inner. same_rows format left front inner))))

  pub same_walk : (root : Name) → SameMet (walk one root) (walk other root)
  unfolding walk
  same_walk root = same_met_below _ _ _ _ (same_next _ _ _ _ (same_named root) (λ object. same_itself (top_of root object))) (λ top. same_rows top.0 64 [] top.1)

-- ---- a store that has more

kept_walk : (old new : Texts) (root : Name) → HasAll new old → fine (walk old root) ≡ true → walk old root ≡ walk new root
kept_walk old new root has ok =
    elim (same_walk old new ⊥ ⊥ (λ name text e. inl (has name text e)) root ok) [
      | inl e ↦ e
      | inr or ↦ elim or [ inl never ↦ absurd never | inr never ↦ absurd never.0 ]
    ]

pub tree_in_more : (old new : Texts) (root : Name) (files : List FileText) → HasAll new old → IsTree old root files → IsTree new root files
tree_in_more old new root files has tree =
    let same : walk old root ≡ walk new root = kept_walk old new root has (no_fault 0 0 (walk old root) tree.whole) in
    record {
      whole = subst (λ (met : List Met). first_fault 0 0 met ≡ None) same tree.whole;
      found = λ file. subst (λ (met : List Met). (Contains files file → Contains met (Ok file)) × (Contains met (Ok file) → Contains files file)) same (tree.found file);
    }

-- ---- trees of one root in two stores

look_in_both : (one other : Texts) → AreNamed one → AreNamed other → (name text : List ℕ) → one name ≡ Some text
    → (other name ≡ Some text) ⊎ (StoresCollide one other ⊎ (Unit {0} × (other name ≡ None)))
look_in_both one other names others name text here = at_text (other name) refl
  where
    apart : (more : List ℕ) → other name ≡ Some more → (b : Bool) → bytes_eq text more ≡ b → (other name ≡ Some text) ⊎ (StoresCollide one other ⊎ (Unit {0} × (other name ≡ None)))
    apart more there true e = inl (there ∙ ap (λ (t : List ℕ). Some t) (sym ((bytes_eq-Decides text more).0 e)))
    apart more there false e =
        inr (inl (record {
          first = text;
          second = more;
          has_first = ap one (sym (names name text here)) ∙ here;
          has_second = ap other (sym (others name more there)) ∙ there;
          differ = λ same. false≢true (sym e ∙ (bytes_eq-Decides text more).1 same);
          same_name = sym (names name text here) ∙ others name more there;
        }))

    at_text : (t : Option (List ℕ)) → other name ≡ t → (other name ≡ Some text) ⊎ (StoresCollide one other ⊎ (Unit {0} × (other name ≡ None)))
    at_text None e = inr (inr (tt, e))
    at_text (Some more) e = apart more e (bytes_eq text more) refl

pub tree_in_two : (one other : Texts) (root : Name) (files others : List FileText) → AreNamed one → AreNamed other
    → IsStrictlySortedBy (slice_cmp nat_cmp) (keys_of files) → IsStrictlySortedBy (slice_cmp nat_cmp) (keys_of others)
    → IsTree one root files → IsTree other root others → StoresCollide one other ⊎ (files ≡ others)
tree_in_two one other root files others names named p q s t =
    elim (same_walk one other (StoresCollide one other) (Unit {0}) (look_in_both one other names named) root (no_fault 0 0 (walk one root) s.whole)) [
      | inl e ↦ inr (rising_same files others p q
          (λ f h. (t.found f).1 (subst (λ (met : List Met). Contains met (Ok f)) e ((s.found f).0 h)))
          (λ f h. (s.found f).1 (subst (λ (met : List Met). Contains met (Ok f)) (sym e) ((t.found f).0 h))))
      | inr or ↦ elim or [
        | inl collide ↦ inl collide
        | inr none ↦ absurd (false≢true (sym none.1 ∙ no_fault 0 0 (walk other root) t.whole))
      ]
    ]
