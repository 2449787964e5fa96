-- A tree and the trees of its rows.
use Rattle.std.proofs.Common.{◌≡◌, ◌≢◌, ◌⊎◌, ℕ, zero, suc, ◌+◌, ◌<◌, ◌≤◌, ◌==◌, Bool, true, false, cond, ltb, List, [], ◌∷◌, ◌++◌, length, map, get_or, Contains, Option, Some, None, Result, Ok, Err, refl, sym, ap, subst, ◌∙◌, append_assoc, append-nil, inl, inr, arith}
use Rattle.std.specs.List.{flat_map}
use Rattle.std.proofs.lemmas.Bool.{false≢true, cases_lt}
use Rattle.std.proofs.lemmas.List.{append_cancel_left, get_or_default}
use Rattle.ms_base.specs.Options.{both}
use Rattle.ms_base.specs.declared.names.Name.{Name}
use Rattle.ms_base.specs.declared.names.Quantity.TheVariants as quantities
use Rattle.ms_object.specs.declared.fault.GatherError.{GatherError}
use Rattle.ms_object.specs.declared.fault.GatherError.TheVariants as faults
use Rattle.ms_object.specs.declared.format.Format.{Format}
use Rattle.ms_object.specs.declared.format.Format.TheVariants as formats
use Rattle.ms_object.specs.declared.object.Kind.{Kind}
use Rattle.ms_object.specs.declared.object.Kind.TheVariants as kinds
use Rattle.ms_object.specs.declared.object.Object.{Object}
use Rattle.ms_object.specs.declared.object.SizedRow.{SizedRow}
use Rattle.ms_object.specs.Labels.{IsLabel}
use Rattle.ms_object.specs.Objects.{IsSizedDir}
use Rattle.ms_object.specs.Trees.{Texts, FileText, Met, or_fault, object_named, object_or_fault, some_of, rows_in, inner_rows_of, file_named, met_file, met_below, met_by_kind, if_short, bytes_met, size_fault, with_size, walk, walk_rows, first_fault}
use Rattle.ms_tree.specs.Composing.{HasTree, IsRoot, KindGives, RowGives, TreeHas}
use Rattle.ms_tree.specs.Gathering.{row_below, row_met}
use Rattle.ms_tree.specs.Planting.{first_part}
use Rattle.ms_tree.proofs.Cutting.{first_part_of}
use Rattle.ms_tree.proofs.Freeing.{rows_differ}
use Rattle.ms_tree.proofs.Fronts.{no_slash}
use Rattle.ms_tree.proofs.Looked.{root_walk}
use Rattle.ms_tree.proofs.Members.{map_from}
use Rattle.ms_tree.proofs.Membership.{in_flat_map, only_item, at_front, map_has}
use Rattle.ms_tree.proofs.Shifted.{shifted, Shifts, shifts_rows, none_at_row, met_in_all, fault_shifted}
use Rattle.ms_tree.proofs.Treeing.{walk_is}
use Rattle.ms_tree.proofs.TwoStores.{fine, fine-append, no_fault}
use Rattle.ms_tree.proofs.Walks.{rows_met}

-- ---- what is met where there is no fault

abbrev said : SizedRow → Bool → List Met
said row b = cond b [] (Err (faults.WrongKind row.name) ∷ [])

unsaid : (format : Format) (row : SizedRow) (n : ℕ) → fine (size_fault format row n) ≡ true → size_fault format row n ≡ []
unsaid formats.One row n ok = refl
unsaid formats.Two row n ok = by (row.size == n) ok
  where
    by : (b : Bool) → fine (said row b) ≡ true → said row b ≡ []
    by true ok = refl
    by false ok = absurd (false≢true ok)

sized_fine : (format : Format) (row : SizedRow) (met : List Met) → fine (with_size format row met) ≡ true → (fine met ≡ true) × (with_size format row met ≡ met)
sized_fine format row met ok =
    let oks = both (fine met) (fine (size_fault format row (bytes_met met))) (sym (fine-append met (size_fault format row (bytes_met met))) ∙ ok) in
    (oks.0, ap (λ (l : List Met). met ++ l) (unsaid format row (bytes_met met) oks.1) ∙ append-nil met)

short_fine : (path : List ℕ) (met : List Met) → fine (if_short path met) ≡ true → (fine met ≡ true) × (if_short path met ≡ met)
short_fine path met ok = by (ltb 1024 (length path)) ok
  where
    by : (b : Bool) → fine (cond b (Err (faults.Limit quantities.Path (length path)) ∷ []) met) ≡ true → (fine met ≡ true) × (cond b (Err (faults.Limit quantities.Path (length path)) ∷ []) met ≡ met)
    by true ok = absurd (false≢true ok)
    by false ok = (ok, refl)

below_fine : {A : Type 0} (rows : Result A GatherError) (f : A → List Met) → fine (met_below rows f) ≡ true → (a : A) × (rows ≡ Ok a) × (met_below rows f ≡ f a)
below_fine (Err e) f ok = absurd (false≢true ok)
below_fine (Ok a) f ok = (a, refl, refl)

file_fine : (path : List ℕ) (bytes : Result (List ℕ) GatherError) → fine (met_file path bytes ∷ []) ≡ true → (b : List ℕ) × (bytes ≡ Ok b)
file_fine path (Err e) ok = absurd (false≢true ok)
file_fine path (Ok b) ok = (b, refl)

-- the rows of a directory below another are those of a root
inner_root : (format : Format) (store : Texts) (name : Name) (inner : List SizedRow) → or_fault (object_named store name) (inner_rows_of format name) ≡ Ok inner → walk store name ≡ walk_rows format 64 store [] inner
inner_root format store name inner e = by (object_named store name) refl e
  where
    on : (o : Object) → object_named store name ≡ Ok o → (rows : Option (List SizedRow)) → rows_in format o ≡ rows → object_or_fault name (some_of rows) ≡ Ok inner → walk store name ≡ walk_rows format 64 store [] inner
    on o there None is e = absurd cc
    on o there (Some []) is e = absurd cc
    on o there (Some (row ∷ rows)) is e = let q : row ∷ rows ≡ inner = cc in root_walk format store name o inner there (is ∙ ap (λ (l : List SizedRow). Some l) q)

    by : (found : Result Object GatherError) → object_named store name ≡ found → or_fault found (inner_rows_of format name) ≡ Ok inner → walk store name ≡ walk_rows format 64 store [] inner
    by (Err f) there e = absurd cc
    by (Ok o) there e = on o there (rows_in format o) refl e

-- ---- a row without a fault

-- the row of a file meets its bytes at its label
met_file_row : (format : Format) (left : ℕ) (store : Texts) (row : SizedRow) → row.kind ≡ kinds.File → fine (row_met format (suc left) store [] row) ≡ true
    → (bytes : List ℕ) × (file_named format store row.name ≡ Ok bytes) × (row_met format (suc left) store [] row ≡ met_file row.label (Ok bytes) ∷ [])
unfolding row_met row_below
met_file_row format left store row kind ok =
    let met : Kind → List Met = met_by_kind format (walk_rows format left store) store row.label row.name in
    let s = sized_fine format row (if_short row.label (met row.kind)) ok in
    let t = short_fine row.label (met row.kind) s.0 in
    let r = file_fine row.label (file_named format store row.name) (subst (λ (k : Kind). fine (met k) ≡ true) kind t.0) in
    (r.0, r.1, s.1 ∙ t.1 ∙ ap met kind ∙ ap (λ (b : Result (List ℕ) GatherError). met_file row.label b ∷ []) r.1)

-- the row of a directory meets what its own tree does, with the label before
met_dir_row : (format : Format) (left : ℕ) (store : Texts) (row : SizedRow) → left ≤ 64 → row.kind ≡ kinds.Dir → fine (row_met format (suc left) store [] row) ≡ true
    → row_met format (suc left) store [] row ≡ map (shifted (row.label ++ 47 ∷ [])) (walk store row.name)
unfolding row_met row_below
met_dir_row format left store row few kind ok =
    let met : Kind → List Met = met_by_kind format (walk_rows format left store) store row.label row.name in
    let s = sized_fine format row (if_short row.label (met row.kind)) ok in
    let t = short_fine row.label (met row.kind) s.0 in
    let fits : fine (met kinds.Dir) ≡ true = subst (λ (k : Kind). fine (met k) ≡ true) kind t.0 in
    let r = below_fine (or_fault (object_named store row.name) (inner_rows_of format row.name)) (walk_rows format left store (row.label ++ 47 ∷ [])) fits in
    let whole : row_met format (suc left) store [] row ≡ walk_rows format left store (row.label ++ 47 ∷ []) r.0 = s.1 ∙ t.1 ∙ ap met kind ∙ r.2 in
    whole
    ∙ shifts_rows format left 64 store (row.label ++ 47 ∷ []) (row.label ++ 47 ∷ []) [] r.0 few (sym (append-nil (row.label ++ 47 ∷ []))) (subst (λ (m : List Met). fine m ≡ true) r.2 fits)
    ∙ ap (map (shifted (row.label ++ 47 ∷ []))) (sym (inner_root format store row.name r.0 r.1))

-- ---- a root with a tree

abbrev met_at : Format → Texts → SizedRow → List Met
met_at format store row = row_met format 64 store [] row

root_met : (store : Texts) (root : Name) (format : Format) (rows : List SizedRow) → IsRoot store root format rows → walk store root ≡ flat_map (met_at format store) rows
root_met store root format rows is = walk_is store root (Ok (format, rows)) is ∙ rows_met format 64 store [] rows

whole_at : (store : Texts) (root : Name) (format : Format) (rows : List SizedRow) (row : SizedRow) → IsRoot store root format rows → HasTree store root → Contains rows row → first_fault 0 0 (met_at format store row) ≡ None
whole_at store root format rows row is whole here =
    none_at_row 0 0 (met_at format store) rows row here (subst (λ (m : List Met). first_fault 0 0 m ≡ None) (root_met store root format rows is) whole)

met_dir : (format : Format) (store : Texts) (row : SizedRow) → row.kind ≡ kinds.Dir → first_fault 0 0 (met_at format store row) ≡ None → met_at format store row ≡ map (shifted (row.label ++ 47 ∷ [])) (walk store row.name)
met_dir format store row kind none = met_dir_row format 63 store row (omega arith) kind (no_fault 0 0 (met_at format store row) none)

pub tree_below : (store : Texts) (root : Name) (format : Format) (rows : List SizedRow) (row : SizedRow) → IsRoot store root format rows → HasTree store root → Contains rows row → row.kind ≡ kinds.Dir → HasTree store row.name
tree_below store root format rows row is whole here kind =
    let none = whole_at store root format rows row is whole here in
    sym (fault_shifted (row.label ++ 47 ∷ []) 0 0 (walk store row.name)) ∙ ap (first_fault 0 0) (sym (met_dir format store row kind none)) ∙ none

abbrev file_met : List ℕ → List ℕ → Met
file_met path bytes = let file : FileText = (path, bytes) in Ok file

-- what is met at a row is what the row gives
row_gives : (format : Format) (store : Texts) (row : SizedRow) (path bytes : List ℕ) → (row.kind ≡ kinds.Dir → HasTree store row.name) → first_fault 0 0 (met_at format store row) ≡ None → Contains (met_at format store row) (file_met path bytes)
    → RowGives format store row path bytes
row_gives format store row path bytes whole none here = by row.kind refl
  where
    at_file : (b : List ℕ) → met_file row.label (Ok b) ≡ file_met path bytes → file_named format store row.name ≡ Ok b → (path ≡ row.label) × (file_named format store row.name ≡ Ok bytes)
    at_file b e is =
        let one : FileText = (row.label, b) in
        let other : FileText = (path, bytes) in
        let q : one ≡ other = cc in
        (ap (λ (f : FileText). f.0) (sym q), is ∙ ap (λ (f : FileText). Ok f.1) q)

    at_dir : (m : Met) → Contains (walk store row.name) m → shifted (row.label ++ 47 ∷ []) m ≡ file_met path bytes → HasTree store row.name
        → (rest : List ℕ) × (path ≡ row.label ++ 47 ∷ rest) × TreeHas store row.name rest bytes
    at_dir (Err f) in_it e tree = absurd cc
    at_dir (Ok file) in_it e tree =
        let one : FileText = ((row.label ++ 47 ∷ []) ++ file.0, file.1) in
        let other : FileText = (path, bytes) in
        let q : one ≡ other = cc in (
          file.0,
          ap (λ (f : FileText). f.0) (sym q) ∙ append_assoc row.label (47 ∷ []) file.0,
          (tree, subst (λ (b : List ℕ). Contains (walk store row.name) (file_met file.0 b)) (ap (λ (f : FileText). f.1) q) in_it),
        )

    by : (kind : Kind) → row.kind ≡ kind → KindGives format store kind row.label row.name path bytes
    by kinds.File e =
        let r = met_file_row format 63 store row e (no_fault 0 0 (met_at format store row) none) in
        at_file r.0 (only_item (met_file row.label (Ok r.0)) (file_met path bytes) (subst (λ (l : List Met). Contains l (file_met path bytes)) r.2 here)) r.1
    by kinds.Dir e =
        let r = map_from (shifted (row.label ++ 47 ∷ [])) (walk store row.name) (file_met path bytes) (subst (λ (l : List Met). Contains l (file_met path bytes)) (met_dir format store row e none) here) in
        at_dir r.0 r.1 r.2 (whole e)

-- what a row gives is met there
row_meets : (format : Format) (store : Texts) (row : SizedRow) (path bytes : List ℕ) → first_fault 0 0 (met_at format store row) ≡ None → RowGives format store row path bytes → Contains (met_at format store row) (file_met path bytes)
row_meets format store row path bytes none gives = by row.kind refl gives
  where
    at_file : (b : List ℕ) → path ≡ row.label → file_named format store row.name ≡ Ok b → file_named format store row.name ≡ Ok bytes → met_file row.label (Ok b) ≡ file_met path bytes
    at_file b p there e = let q : b ≡ bytes = cc in ap (λ (l : List ℕ). file_met l b) (sym p) ∙ ap (λ (l : List ℕ). file_met path l) q

    by : (kind : Kind) → row.kind ≡ kind → KindGives format store kind row.label row.name path bytes → Contains (met_at format store row) (file_met path bytes)
    by kinds.File e h =
        let r = met_file_row format 63 store row e (no_fault 0 0 (met_at format store row) none) in
        subst (λ (l : List Met). Contains l (file_met path bytes)) (sym r.2) (at_front (met_file row.label (Ok r.0)) [] (file_met path bytes) (at_file r.0 h.0 r.1 h.1))
    by kinds.Dir e h =
        let front = row.label ++ 47 ∷ [] in
        let there : Contains (map (shifted front) (walk store row.name)) (file_met (front ++ h.0) bytes) = map_has (shifted front) (walk store row.name) (file_met h.0 bytes) h.2.1 in
        subst (λ (l : List Met). Contains l (file_met path bytes)) (sym (met_dir format store row e none))
        (subst (λ (p : List ℕ). Contains (map (shifted front) (walk store row.name)) (file_met p bytes)) (append_assoc row.label (47 ∷ []) h.0 ∙ sym h.1) there)

-- the tree has what its rows give
pub rows_give : (store : Texts) (root : Name) (format : Format) (rows : List SizedRow) (path bytes : List ℕ) → IsRoot store root format rows → HasTree store root
    → TreeHas store root path bytes → (row : SizedRow) × Contains rows row × RowGives format store row path bytes
rows_give store root format rows path bytes is whole has =
    let r = in_flat_map (met_at format store) rows (file_met path bytes) (subst (λ (l : List Met). Contains l (file_met path bytes)) (root_met store root format rows is) has.1) in
    (r.0, r.1, row_gives format store r.0 path bytes (tree_below store root format rows r.0 is whole r.1) (whole_at store root format rows r.0 is whole r.1) r.2)

pub given_by_row : (store : Texts) (root : Name) (format : Format) (rows : List SizedRow) (row : SizedRow) (path bytes : List ℕ) → IsRoot store root format rows → HasTree store root → Contains rows row → RowGives format store row path bytes → TreeHas store root path bytes
given_by_row store root format rows row path bytes is whole here gives = (
  whole,
  subst (λ (l : List Met). Contains l (file_met path bytes)) (sym (root_met store root format rows is))
      (met_in_all (met_at format store) rows row (file_met path bytes) here (row_meets format store row path bytes (whole_at store root format rows row is whole here) gives)),
)

-- ---- one row alone gives to its label, and below it

same_row : (rows : List SizedRow) (row other : SizedRow) → IsSizedDir rows → Contains rows row → Contains rows other → row.label ≡ other.label → row ≡ other
same_row rows row other dir (i, low, is) (j, below, at) e =
    elim (cases_lt i j) [
      | inl less ↦ absurd (rows_differ rows i j row dir less below (ap (λ (r : SizedRow). r.label) is ∙ e ∙ ap (λ (r : SizedRow). r.label) (sym at ∙ get_or_default rows j other row below)))
      | inr most ↦ elim (cases_lt j i) [
        | inl less ↦ absurd (rows_differ rows j i other dir less low (ap (λ (r : SizedRow). r.label) at ∙ sym e ∙ ap (λ (r : SizedRow). r.label) (sym is ∙ get_or_default rows i row other low)))
        | inr least ↦ (let q : i ≡ j = omega (arith, most, least) in sym is ∙ ap (λ (n : ℕ). get_or rows n row) q ∙ get_or_default rows j row other below ∙ at)
      ]
    ]

-- a path that a row gives begins with its label and a slash, once it has one at its end
begins_with : (format : Format) (store : Texts) (row : SizedRow) (path bytes : List ℕ) → RowGives format store row path bytes → (rest : List ℕ) × (path ++ 47 ∷ [] ≡ row.label ++ 47 ∷ rest)
begins_with format store row path bytes gives = by row.kind gives
  where
    by : (kind : Kind) → KindGives format store kind row.label row.name path bytes → (rest : List ℕ) × (path ++ 47 ∷ [] ≡ row.label ++ 47 ∷ rest)
    by kinds.File h = ([], ap (λ (p : List ℕ). p ++ 47 ∷ []) h.0)
    by kinds.Dir h = (h.0 ++ 47 ∷ [], ap (λ (p : List ℕ). p ++ 47 ∷ []) h.1 ∙ append_assoc row.label (47 ∷ h.0) (47 ∷ []))

label_is : (rows : List SizedRow) (row : SizedRow) → IsSizedDir rows → Contains rows row → (rest : List ℕ) → first_part (row.label ++ 47 ∷ rest) ≡ row.label
label_is rows row dir here rest =
    let at : get_or rows here.0 row ≡ row = here.2 in
    first_part_of row.label rest (no_slash row.label (subst (λ (r : SizedRow). IsLabel r.label) at (dir.labels here.0 row here.1)))

-- a path that begins with the label of a row is given by that row
pub by_its_row : (store : Texts) (root : Name) (format : Format) (rows : List SizedRow) (row : SizedRow) (path bytes rest : List ℕ) → IsRoot store root format rows → IsSizedDir rows → HasTree store root → Contains rows row → path ++ 47 ∷ [] ≡ row.label ++ 47 ∷ rest
    → TreeHas store root path bytes → RowGives format store row path bytes
by_its_row store root format rows row path bytes rest is dir whole here front has =
    let r = rows_give store root format rows path bytes is whole has in
    let b = begins_with format store r.0 path bytes r.2 in
    let e : row.label ≡ r.0.label = sym (label_is rows row dir here rest) ∙ ap first_part (sym front ∙ b.1) ∙ label_is rows r.0 dir r.1 b.0 in
    subst (λ (other : SizedRow). RowGives format store other path bytes) (sym (same_row rows row r.0 dir here r.1 e)) r.2

pub gives_below : (format : Format) (store : Texts) (row : SizedRow) (path bytes : List ℕ) → row.kind ≡ kinds.Dir → RowGives format store row (row.label ++ 47 ∷ path) bytes → TreeHas store row.name path bytes
gives_below format store row path bytes kind gives =
    let h : (rest : List ℕ) × (row.label ++ 47 ∷ path ≡ row.label ++ 47 ∷ rest) × TreeHas store row.name rest bytes = subst (λ (k : Kind). KindGives format store k row.label row.name (row.label ++ 47 ∷ path) bytes) kind gives in
    let slash : 47 ∷ path ≡ 47 ∷ h.0 = append_cancel_left row.label (47 ∷ path) (47 ∷ h.0) h.1 in
    let q : path ≡ h.0 = cc in
    subst (λ (p : List ℕ). TreeHas store row.name p bytes) (sym q) h.2

pub below_gives : (format : Format) (store : Texts) (row : SizedRow) (path bytes : List ℕ) → row.kind ≡ kinds.Dir → TreeHas store row.name path bytes → RowGives format store row (row.label ++ 47 ∷ path) bytes
below_gives format store row path bytes kind has = subst (λ (k : Kind). KindGives format store k row.label row.name (row.label ++ 47 ∷ path) bytes) (sym kind) (path, refl, has)

pub gives_file : (format : Format) (store : Texts) (row : SizedRow) (bytes : List ℕ) → row.kind ≡ kinds.File → RowGives format store row row.label bytes → file_named format store row.name ≡ Ok bytes
gives_file format store row bytes kind gives =
    let h : (row.label ≡ row.label) × (file_named format store row.name ≡ Ok bytes) = subst (λ (k : Kind). KindGives format store k row.label row.name row.label bytes) kind gives in
    h.1

pub file_gives : (format : Format) (store : Texts) (row : SizedRow) (bytes : List ℕ) → row.kind ≡ kinds.File → file_named format store row.name ≡ Ok bytes → RowGives format store row row.label bytes
file_gives format store row bytes kind is = subst (λ (k : Kind). KindGives format store k row.label row.name row.label bytes) (sym kind) (refl, is)
