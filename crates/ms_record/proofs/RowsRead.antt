-- Rows one after another: their capacities, and the test of them.
use Rattle.std.proofs.Common.{◌≡◌, ℕ, suc, ◌+◌, ◌^◌, ◌<◌, ◌≤◌, Bool, true, List, Some, refl, sym, ◌∙◌, subst, length, drop, get_or, slice_get, below_more, drop-cons, arith}
use Rattle.std.specs.Prelude.{nat_le}
use Rattle.std.proofs.lemmas.Bool.{le-leb}
use Rattle.std.proofs.lemmas.Option.{slice_get_within, get_or_from_slice_get}
use Rattle.ms_record.specs.declared.plan.PlanRow.{PlanRow}
use Rattle.ms_record.specs.PlanTests.{AreCapacities, is_row, are_rows}

-- the first so many fit
abbrev pub FitBelow : ℕ → List PlanRow → Type 0
FitBelow n rows = (i : ℕ) → i < n → (row : PlanRow) → slice_get rows i ≡ Some row → row.capacity < 2 ^ 64

pub fit_more : (rows : List PlanRow) (i : ℕ) (d : PlanRow) → FitBelow i rows → (get_or rows i d).capacity < 2 ^ 64 → FitBelow (i + 1) rows
fit_more rows i d below here =
    below_more (λ k. (row : PlanRow) → slice_get rows k ≡ Some row → row.capacity < 2 ^ 64) i below
    (λ row e. subst (λ (x : PlanRow). x.capacity < 2 ^ 64) (get_or_from_slice_get rows i row d e) here)

pub fit_all : (rows : List PlanRow) (n : ℕ) → length rows ≤ n → FitBelow n rows → AreCapacities rows
fit_all rows n all below i row e = let within : i < length rows = slice_get_within rows i row e in below i (omega arith) row e

-- one more row that passes the test
pub test_more : (unit low : ℕ) (rows : List PlanRow) (i : ℕ) (d : PlanRow) (total : Bool) → i < length rows → low ≤ (get_or rows i d).service.0 → is_row unit (get_or rows i d) ≡ true
    → are_rows unit low (drop i rows) ≡ total → are_rows unit ((get_or rows i d).service.0 + 1) (drop (i + 1) rows) ≡ total
test_more unit low rows i d total within le is so_far =
    let k : i + 1 ≡ suc i = omega arith in
    let t : nat_le low (get_or rows i d).service.0 ≡ true = le-leb low (get_or rows i d).service.0 le in
    let one : are_rows unit low (drop i rows) ≡ are_rows unit ((get_or rows i d).service.0 + 1) (drop (i + 1) rows) = rw (k, drop-cons rows i d within, t, is) refl in
    sym one ∙ so_far
