-- What a walk meets in two parts, and at a single file.
use Rattle.std.proofs.Common.{◌≡◌, ℕ, ◌+◌, ◌<◌, ◌≤◌, true, false, ltb, List, [], ◌∷◌, ◌++◌, length, take, drop, get_or, Some, Ok, Err, arith, sym, ap, subst, ◌∙◌, append_assoc, append-nil, inl, inr}
use Rattle.std.specs.List.{flat_map}
use Rattle.std.proofs.lemmas.Bool.{lt-ltb, le-ltb}
use Rattle.std.proofs.lemmas.List.{take_more, take-append-drop, drop_more}
use Rattle.std.proofs.lemmas.List.Concat.{flat_map-append}
use Rattle.std.proofs.lemmas.List.Elements.{Contains-append_left, Contains-append_right, Contains-append_cases}
use Rattle.ms_base.specs.declared.names.Quantity.TheVariants as quantities
use Rattle.ms_object.specs.declared.fault.GatherError.{GatherError}
use Rattle.ms_object.specs.declared.fault.GatherError.TheVariants as faults
use Rattle.ms_object.specs.declared.object.SizedRow.{SizedRow}
use Rattle.ms_object.specs.Trees.{FileText, Met, bytes_met, first_fault}
use Rattle.ms_tree.specs.Files.{total_of}
use Rattle.ms_tree.specs.Gathering.{Gathers, StopsAt}

pub bytes_append : (x y : List Met) → bytes_met (x ++ y) ≡ bytes_met x + bytes_met y
bytes_append [] y = omega arith
bytes_append (Err e ∷ x) y = bytes_append x y
bytes_append (Ok file ∷ x) y = omega (arith, bytes_append x y)

pub Gathers-then : (a b c : List FileText) (x y : List Met) → Gathers a b x → Gathers b c y → Gathers a c (x ++ y)
Gathers-then a b c x y p q = record {
  goes_on = λ more. ap (first_fault (length a) (total_of a)) (append_assoc x y more) ∙ p.goes_on (y ++ more) ∙ q.goes_on more;
  found = λ file. (
    λ h. elim ((q.found file).0 h) [
      | inl middle ↦ elim ((p.found file).0 middle) [ inl old ↦ inl old | inr met ↦ inr (Contains-append_left x y (Ok file) met) ]
      | inr met ↦ inr (Contains-append_right x y (Ok file) met)
    ],
    λ h. elim h [
      | inl old ↦ (q.found file).1 (inl ((p.found file).1 (inl old)))
      | inr met ↦ elim (Contains-append_cases x y (Ok file) met) [
        | inl first ↦ (q.found file).1 (inl ((p.found file).1 (inr first)))
        | inr second ↦ (q.found file).1 (inr second)
      ]
    ],
  );
  bytes = omega (arith, p.bytes, q.bytes, bytes_append x y);
}

pub StopsAt-here : (a : List FileText) (x y : List Met) (e : GatherError) → StopsAt a x e → StopsAt a (x ++ y) e
StopsAt-here a x y e (inl none) = inl none
StopsAt-here a x y e (inr stop) = inr (λ more. ap (first_fault (length a) (total_of a)) (append_assoc x y more) ∙ stop (y ++ more))

pub StopsAt-then : (a b : List FileText) (x y : List Met) (e : GatherError) → Gathers a b x → StopsAt b y e → StopsAt a (x ++ y) e
StopsAt-then a b x y e p (inl none) = inl none
StopsAt-then a b x y e p (inr stop) = inr (λ more. ap (first_fault (length a) (total_of a)) (append_assoc x y more) ∙ p.goes_on (y ++ more) ∙ stop more)

-- ---- row by row

-- what the rows before it met, and then a row
pub Gathers-row : (met : SizedRow → List Met) (a b c : List FileText) (rows : List SizedRow) (i : ℕ) (row : SizedRow) → i < length rows → row ≡ get_or rows i row
    → Gathers a b (flat_map met (take i rows)) → Gathers b c (met row) → Gathers a c (flat_map met (take (i + 1) rows))
Gathers-row met a b c rows i row l is p q =
    subst (λ (m : List Met). Gathers a c m) (sym (row_more met rows i row l is)) (Gathers-then a b c (flat_map met (take i rows)) (met row) p q)
  where
    row_more : (met : SizedRow → List Met) (rows : List SizedRow) (i : ℕ) (row : SizedRow) → i < length rows → row ≡ get_or rows i row
        → flat_map met (take (i + 1) rows) ≡ flat_map met (take i rows) ++ met row
    row_more met rows i row l is =
        ap (flat_map met) (take_more rows i row l ∙ ap (λ (r : SizedRow). take i rows ++ r ∷ []) (sym is))
        ∙ flat_map-append met (take i rows) (row ∷ [])
        ∙ ap (λ (m : List Met). flat_map met (take i rows) ++ m) (append-nil (met row))

-- where a row meets a fault, all rows together do
pub StopsAt-row : (met : SizedRow → List Met) (a b : List FileText) (rows : List SizedRow) (i : ℕ) (row : SizedRow) (e : GatherError) → i < length rows → row ≡ get_or rows i row
    → Gathers a b (flat_map met (take i rows)) → StopsAt b (met row) e → StopsAt a (flat_map met rows) e
StopsAt-row met a b rows i row e l is p q =
    subst (λ (m : List Met). StopsAt a m e) (sym (rows_split met rows i row l is))
    (StopsAt-then a b (flat_map met (take i rows)) (met row ++ flat_map met (drop (i + 1) rows)) e p (StopsAt-here b (met row) (flat_map met (drop (i + 1) rows)) e q))
  where
    rows_split : (met : SizedRow → List Met) (rows : List SizedRow) (i : ℕ) (row : SizedRow) → i < length rows → row ≡ get_or rows i row
        → flat_map met rows ≡ flat_map met (take i rows) ++ (met row ++ flat_map met (drop (i + 1) rows))
    rows_split met rows i row l is =
        ap (flat_map met) (sym (take-append-drop i rows)) ∙ flat_map-append met (take i rows) (drop i rows)
        ∙ ap (λ (m : List Met). flat_map met (take i rows) ++ m)
        (ap (flat_map met) (drop_more rows i row l ∙ ap (λ (r : SizedRow). r ∷ drop (i + 1) rows) (sym is)))

-- ---- a single file

-- a file that passes no limit goes on
pub file_goes_on : (count total : ℕ) (file : FileText) (more : List Met) → count + 1 ≤ 100000 → total + length file.1 ≤ 1073741824
    → first_fault count total (Ok file ∷ more) ≡ first_fault (count + 1) (total + length file.1) more
file_goes_on count total file more few small =
    let f : ltb 100000 (count + 1) ≡ false = le-ltb _ _ few in
    let t : ltb 1073741824 (total + length file.1) ≡ false = le-ltb _ _ small in
    rw (f, t)

pub file_too_many : (count total : ℕ) (file : FileText) (more : List Met) → 100000 < count + 1
    → first_fault count total (Ok file ∷ more) ≡ Some (faults.Limit quantities.Files (count + 1))
file_too_many count total file more many =
    let f : ltb 100000 (count + 1) ≡ true = lt-ltb _ _ many in
    rw f

pub file_too_much : (count total : ℕ) (file : FileText) (more : List Met) → count + 1 ≤ 100000 → 1073741824 < total + length file.1
    → first_fault count total (Ok file ∷ more) ≡ Some (faults.Limit quantities.Total (total + length file.1))
file_too_much count total file more few much =
    let f : ltb 100000 (count + 1) ≡ false = le-ltb _ _ few in
    let t : ltb 1073741824 (total + length file.1) ≡ true = lt-ltb _ _ much in
    rw (f, t)
