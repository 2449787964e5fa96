-- Walks whose paths have more before them, and where nothing is met before or behind.
use Rattle.std.proofs.Common.{◌≡◌, ℕ, zero, suc, ◌+◌, ◌<◌, ◌≤◌, ◌==◌, Bool, true, false, cond, ltb, nat_lt, List, [], ◌∷◌, ◌++◌, length, map, Contains, Option, Some, None, Result, Ok, Err, refl, sym, ap, subst, ◌∙◌, append_assoc, append-nil, length-append, inl, inr, arith}
use Rattle.std.specs.List.{flat_map}
use Rattle.std.proofs.lemmas.Bool.{false≢true, ltb-false, le-ltb}
use Rattle.std.proofs.lemmas.List.{map-append}
use Rattle.std.proofs.lemmas.List.Elements.{Contains-append_left, Contains-append_right}
use Rattle.ms_base.specs.Options.{both}
use Rattle.ms_base.specs.declared.names.Name.{Name}
use Rattle.ms_base.specs.declared.names.Quantity.TheVariants as quantities
use Rattle.ms_object.specs.declared.fault.GatherError.{GatherError}
use Rattle.ms_object.specs.declared.fault.GatherError.TheVariants as faults
use Rattle.ms_object.specs.declared.format.Format.{Format}
use Rattle.ms_object.specs.declared.format.Format.TheVariants as formats
use Rattle.ms_object.specs.declared.object.Kind.{Kind}
use Rattle.ms_object.specs.declared.object.Kind.TheVariants as kinds
use Rattle.ms_object.specs.declared.object.SizedRow.{SizedRow}
use Rattle.ms_object.specs.Trees.{Texts, FileText, Met, or_fault, object_named, inner_rows_of, file_named, met_file, met_below, met_by_kind, if_short, bytes_met, size_fault, with_size, walk_rows, first_fault}
use Rattle.ms_tree.proofs.Faults.{file_goes_on}
use Rattle.ms_tree.proofs.Membership.{no_item, in_front}
use Rattle.ms_tree.proofs.TwoStores.{fine, fine-append}

-- what is met, with more before its path
abbrev pub shifted : List ℕ → Met → Met
shifted front (Err e) = Err e
shifted front (Ok file) = Ok (front ++ file.0, file.1)

-- where the first met no fault, it met what the second did, with more before each path
abbrev pub Shifts : List ℕ → List Met → List Met → Type 0
Shifts front xs ys = fine xs ≡ true → xs ≡ map (shifted front) ys

bytes_shifted : (front : List ℕ) (met : List Met) → bytes_met (map (shifted front) met) ≡ bytes_met met
bytes_shifted front [] = refl
bytes_shifted front (Err e ∷ met) = bytes_shifted front met
bytes_shifted front (Ok file ∷ met) = ap (λ (n : ℕ). length file.1 + n) (bytes_shifted front met)

size_shifted : (front : List ℕ) (format : Format) (row : SizedRow) (n : ℕ) → size_fault format row n ≡ map (shifted front) (size_fault format row n)
size_shifted front formats.One row n = refl
size_shifted front formats.Two row n = by (row.size == n)
  where
    by : (b : Bool) → cond b [] (Err (faults.WrongKind row.name) ∷ []) ≡ map (shifted front) (cond b [] (Err (faults.WrongKind row.name) ∷ []))
    by true = refl
    by false = refl

shifts_sized : (front : List ℕ) (format : Format) (row : SizedRow) (xs ys : List Met) → Shifts front xs ys → Shifts front (with_size format row xs) (with_size format row ys)
shifts_sized front format row xs ys same ok =
    let e : xs ≡ map (shifted front) ys = same (both (fine xs) (fine (size_fault format row (bytes_met xs))) (sym (fine-append xs (size_fault format row (bytes_met xs))) ∙ ok)).0 in
    ap (with_size format row) e
    ∙ ap (λ (n : ℕ). map (shifted front) ys ++ size_fault format row n) (bytes_shifted front ys)
    ∙ ap (λ (l : List Met). map (shifted front) ys ++ l) (size_shifted front format row (bytes_met ys))
    ∙ sym (map-append (shifted front) ys (size_fault format row (bytes_met ys)))

shifts_short : (front path less : List ℕ) (xs ys : List Met) → length less ≤ length path → Shifts front xs ys → Shifts front (if_short path xs) (if_short less ys)
shifts_short front path less xs ys shorter same = by (ltb 1024 (length path)) refl
  where
    by : (b : Bool) → ltb 1024 (length path) ≡ b → fine (cond b (Err (faults.Limit quantities.Path (length path)) ∷ []) xs) ≡ true
        → cond b (Err (faults.Limit quantities.Path (length path)) ∷ []) xs ≡ map (shifted front) (if_short less ys)
    by true e ok = absurd (false≢true ok)
    by false e ok = let few : ltb 1024 (length less) ≡ false = le-ltb 1024 (length less) (omega (arith, ltb-false 1024 (length path) e, shorter)) in rw few (same ok)

shifts_flat : (front : List ℕ) (f g : SizedRow → List Met) (rows : List SizedRow) → ((row : SizedRow) → Shifts front (f row) (g row)) → Shifts front (flat_map f rows) (flat_map g rows)
shifts_flat front f g [] each = λ ok. refl
shifts_flat front f g (row ∷ rows) each = λ ok.
    let oks = both (fine (f row)) (fine (flat_map f rows)) (sym (fine-append (f row) (flat_map f rows)) ∙ ok) in
    ap (λ (l : List Met). l ++ flat_map f rows) (each row oks.0) ∙ ap (λ (l : List Met). map (shifted front) (g row) ++ l) (shifts_flat front f g rows each oks.1)
    ∙ sym (map-append (shifted front) (g row) (flat_map g rows))

shifts_file : (front path less : List ℕ) (bytes : Result (List ℕ) GatherError) → path ≡ front ++ less → Shifts front (met_file path bytes ∷ []) (met_file less bytes ∷ [])
shifts_file front path less (Err e) is ok = absurd (false≢true ok)
shifts_file front path less (Ok bytes) is ok = ap (λ (p : List ℕ). let file : FileText = (p, bytes) in let met : Met = Ok file in met ∷ []) is

shifts_below : {A : Type 0} (front : List ℕ) (rows : Result A GatherError) (f g : A → List Met) → ((a : A) → Shifts front (f a) (g a)) → Shifts front (met_below rows f) (met_below rows g)
shifts_below front (Err e) f g each ok = absurd (false≢true ok)
shifts_below front (Ok a) f g each ok = each a ok

shifts_kind : (front : List ℕ) (format : Format) (f g : List ℕ → List SizedRow → List Met) (store : Texts) (path less : List ℕ) (name : Name) (kind : Kind) → path ≡ front ++ less
    → ((rows : List SizedRow) → Shifts front (f (path ++ 47 ∷ []) rows) (g (less ++ 47 ∷ []) rows)) → Shifts front (met_by_kind format f store path name kind) (met_by_kind format g store less name kind)
shifts_kind front format f g store path less name kinds.File is lower = shifts_file front path less (file_named format store name) is
shifts_kind front format f g store path less name kinds.Dir is lower =
    shifts_below front (or_fault (object_named store name) (inner_rows_of format name)) (f (path ++ 47 ∷ [])) (g (less ++ 47 ∷ [])) lower

longer : (front path less : List ℕ) → path ≡ front ++ less → length less ≤ length path
longer front path less is = omega (arith, ap (λ (l : List ℕ). length l) is, length-append front less)

-- what a walk meets below rows, with more before its paths and fewer parts left
pub shifts_rows : (format : Format) (left more : ℕ) (store : Texts) (front after before : List ℕ) (rows : List SizedRow) → left ≤ more → after ≡ front ++ before
    → Shifts front (walk_rows format left store after rows) (walk_rows format more store before rows)
unfolding walk_rows
shifts_rows format zero zero store front after before [] few is ok = refl
shifts_rows format zero (suc more) store front after before [] few is ok = refl
shifts_rows format zero more store front after before (row ∷ rows) few is ok = absurd (by (ltb 1024 (length (after ++ row.label))) ok)
  where
    by : (b : Bool) → fine (cond b (Err (faults.Limit quantities.Path (length (after ++ row.label))) ∷ []) (Err (faults.Limit quantities.Levels 65) ∷ []) ++ flat_map (λ row. if_short (after ++ row.label) (Err (faults.Limit quantities.Levels 65) ∷ [])) rows) ≡ true → ⊥
    by true h = false≢true h
    by false h = false≢true h
shifts_rows format (suc left) zero store front after before rows few is ok = absurd (omega (arith, few))
shifts_rows format (suc left) (suc more) store front after before rows few is ok =
    shifts_flat front _ _ rows (λ row.
    let on : after ++ row.label ≡ front ++ (before ++ row.label) = ap (λ (l : List ℕ). l ++ row.label) is ∙ append_assoc front before row.label in
    let next : (after ++ row.label) ++ 47 ∷ [] ≡ front ++ ((before ++ row.label) ++ 47 ∷ []) = ap (λ (l : List ℕ). l ++ 47 ∷ []) on ∙ append_assoc front (before ++ row.label) (47 ∷ []) in
    shifts_sized front format row _ _ (shifts_short front (after ++ row.label) (before ++ row.label) _ _ (longer front (after ++ row.label) (before ++ row.label) on)
    (shifts_kind front format (walk_rows format left store) (walk_rows format more store) store (after ++ row.label) (before ++ row.label) row.name row.kind on
    (λ inner. shifts_rows format left more store front ((after ++ row.label) ++ 47 ∷ []) ((before ++ row.label) ++ 47 ∷ []) inner (omega (arith, few)) next)))) ok

-- ---- no fault in a part, where there is none in all

fits_in : (count total : ℕ) (file : FileText) (met : List Met) → first_fault count total (Ok file ∷ met) ≡ None
    → (count + 1 ≤ 100000) × (total + length file.1 ≤ 1073741824) × (first_fault (count + 1) (total + length file.1) met ≡ None)
fits_in count total file met h = by (ltb 100000 (count + 1)) refl (ltb 1073741824 (total + length file.1)) refl h
  where
    by : (many : Bool) → ltb 100000 (count + 1) ≡ many → (large : Bool) → ltb 1073741824 (total + length file.1) ≡ large
        → cond many (Some (faults.Limit quantities.Files (count + 1))) (cond large (Some (faults.Limit quantities.Total (total + length file.1))) (first_fault (count + 1) (total + length file.1) met)) ≡ None
        → (count + 1 ≤ 100000) × (total + length file.1 ≤ 1073741824) × (first_fault (count + 1) (total + length file.1) met ≡ None)
    by true e large f h = absurd cc
    by false e true f h = absurd cc
    by false e false f h = (ltb-false 100000 (count + 1) e, ltb-false 1073741824 (total + length file.1) f, h)

sooner : (count total fewer less : ℕ) (met : List Met) → fewer ≤ count → less ≤ total → first_fault count total met ≡ None → first_fault fewer less met ≡ None
sooner count total fewer less [] c t h = refl
sooner count total fewer less (Err e ∷ met) c t h = absurd cc
sooner count total fewer less (Ok file ∷ met) c t h =
    let f = fits_in count total file met h in
    file_goes_on fewer less file met (omega (arith, c, f.0)) (omega (arith, t, f.1))
    ∙ sooner (count + 1) (total + length file.1) (fewer + 1) (less + length file.1) met (omega (arith, c)) (omega (arith, t)) f.2

none_behind : (count total : ℕ) (xs ys : List Met) → first_fault count total (xs ++ ys) ≡ None → first_fault count total ys ≡ None
none_behind count total [] ys h = h
none_behind count total (Err e ∷ xs) ys h = absurd cc
none_behind count total (Ok file ∷ xs) ys h =
    let f = fits_in count total file (xs ++ ys) h in
    sooner (count + 1) (total + length file.1) count total ys (omega arith) (omega arith) (none_behind (count + 1) (total + length file.1) xs ys f.2)

none_before : (count total : ℕ) (xs ys : List Met) → first_fault count total (xs ++ ys) ≡ None → first_fault count total xs ≡ None
none_before count total [] ys h = refl
none_before count total (Err e ∷ xs) ys h = absurd cc
none_before count total (Ok file ∷ xs) ys h =
    let f = fits_in count total file (xs ++ ys) h in
    file_goes_on count total file xs f.0 f.1 ∙ none_before (count + 1) (total + length file.1) xs ys f.2

-- the same of one row among others
pub none_at_row : (count total : ℕ) (met : SizedRow → List Met) (rows : List SizedRow) (row : SizedRow) → Contains rows row → first_fault count total (flat_map met rows) ≡ None → first_fault count total (met row) ≡ None
none_at_row count total met [] row here h = absurd (no_item row here)
none_at_row count total met (first ∷ rows) row here h =
    elim (in_front first rows row here) [
      | inl e ↦ subst (λ (r : SizedRow). first_fault count total (met r) ≡ None) e (none_before count total (met first) (flat_map met rows) h)
      | inr later ↦ none_at_row count total met rows row later (none_behind count total (met first) (flat_map met rows) h)
    ]

pub met_in_all : (met : SizedRow → List Met) (rows : List SizedRow) (row : SizedRow) (m : Met) → Contains rows row → Contains (met row) m → Contains (flat_map met rows) m
met_in_all met [] row m here there = absurd (no_item row here)
met_in_all met (first ∷ rows) row m here there =
    elim (in_front first rows row here) [
      | inl e ↦ Contains-append_left (met first) (flat_map met rows) m (subst (λ (r : SizedRow). Contains (met r) m) (sym e) there)
      | inr later ↦ Contains-append_right (met first) (flat_map met rows) m (met_in_all met rows row m later there)
    ]

-- limits are judged by bytes and not by paths
pub fault_shifted : (front : List ℕ) (count total : ℕ) (met : List Met) → first_fault count total (map (shifted front) met) ≡ first_fault count total met
fault_shifted front count total [] = refl
fault_shifted front count total (Err e ∷ met) = refl
fault_shifted front count total (Ok file ∷ met) =
    ap (λ (r : Option GatherError). cond (ltb 100000 (count + 1)) (Some (faults.Limit quantities.Files (count + 1))) (cond (ltb 1073741824 (total + length file.1)) (Some (faults.Limit quantities.Total (total + length file.1))) r))
    (fault_shifted front (count + 1) (total + length file.1) met)
