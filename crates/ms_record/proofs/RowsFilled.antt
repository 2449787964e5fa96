-- Rows read into their places, one after another.
use Rattle.std.proofs.Common.{◌≡◌, ℕ, suc, ◌+◌, ◌-◌, ◌<◌, ◌≤◌, List, [], ◌∷◌, ◌++◌, Some, None, refl, sym, ap, ◌∙◌, append_assoc, append-nil, arith, length, take}
use Rattle.std.proofs.Math.ListN.{set}
use Rattle.std.proofs.lemmas.List.{take_more_set, take_all, length-set}
use Rattle.ms_base.specs.Options.{◌>>=◌}
use Rattle.ms_record.specs.declared.plan.PlanRow.{PlanRow}
use Rattle.ms_base.specs.Fields.{Field}
use Rattle.ms_record.specs.Reading.{row_at, rows_at}

-- the rows before, and those that are still read
abbrev pub with_front : List PlanRow → Field (List PlanRow) → Field (List PlanRow)
with_front front read = read >>= λ x. Some (front ++ x.0, x.1)

regroup : (front : List PlanRow) (row : PlanRow) (read : Field (List PlanRow)) → with_front front (read >>= λ x. Some (row ∷ x.0, x.1)) ≡ with_front (front ++ row ∷ []) read
regroup front row (Some x) = ap (λ (rows : List PlanRow). Some (rows, x.1)) (simp append_assoc)
regroup front row None = refl

pub goes_on : (front : List PlanRow) (count i : ℕ) (text after : List ℕ) (row : PlanRow) (total : Field (List PlanRow)) → i < count → row_at text ≡ Some (row, after)
    → with_front front (rows_at (count - i) text) ≡ total → with_front (front ++ row ∷ []) (rows_at (count - (i + 1)) after) ≡ total
unfolding rows_at
goes_on front count i text after row total lt h so_far =
    let k : count - i ≡ suc (count - (i + 1)) = omega arith in
    let one : with_front front (rows_at (count - i) text) ≡ with_front (front ++ row ∷ []) (rows_at (count - (i + 1)) after) = rw (k, h) (regroup front row (rows_at (count - (i + 1)) after)) in
    sym one ∙ so_far

pub ends : (front : List PlanRow) (count i : ℕ) (text : List ℕ) (total : Field (List PlanRow)) → i < count → row_at text ≡ None
    → with_front front (rows_at (count - i) text) ≡ total → total ≡ None
unfolding rows_at
ends front count i text total lt h so_far =
    let k : count - i ≡ suc (count - (i + 1)) = omega arith in
    let one : with_front front (rows_at (count - i) text) ≡ None = rw (k, h) refl in
    sym so_far ∙ one

pub is_done : (front : List PlanRow) (count i : ℕ) (text : List ℕ) (total : Field (List PlanRow)) → count ≤ i → with_front front (rows_at (count - i) text) ≡ total → total ≡ Some (front, text)
unfolding rows_at
is_done front count i text total le so_far =
    let k : count - i ≡ 0 = omega arith in
    let one : with_front front (rows_at (count - i) text) ≡ Some (front, text) = rw k (ap (λ (rows : List PlanRow). Some (rows, text)) (append-nil front)) in
    sym so_far ∙ one

-- the loop's step, stop and end, over the places that it fills
pub filled_on : (rows : List PlanRow) (i : ℕ) (text after : List ℕ) (row : PlanRow) (total : Field (List PlanRow)) → i < length rows → row_at text ≡ Some (row, after)
    → with_front (take i rows) (rows_at (length rows - i) text) ≡ total → with_front (take (i + 1) (set rows i row)) (rows_at (length (set rows i row) - (i + 1)) after) ≡ total
filled_on rows i text after row total within h so_far =
    rw (take_more_set rows i row within, length-set rows i row) (goes_on (take i rows) (length rows) i text after row total within h so_far)

pub filled_out : (rows : List PlanRow) (i : ℕ) (text : List ℕ) (total : Field (List PlanRow)) → length rows ≤ i
    → with_front (take i rows) (rows_at (length rows - i) text) ≡ total → Some (rows, text) ≡ total
filled_out rows i text total all so_far =
    ap (λ (xs : List PlanRow). Some (xs, text)) (sym (take_all i rows all)) ∙ sym (is_done (take i rows) (length rows) i text total all so_far)
