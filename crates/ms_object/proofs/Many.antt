-- Fields read one after another, behind those that were read.
use Rattle.std.proofs.Common.{◌≡◌, ℕ, suc, ◌+◌, ◌-◌, ◌<◌, ◌≤◌, List, [], ◌∷◌, ◌++◌, Option, Some, None, refl, sym, ap, ◌∙◌, append_assoc, append-nil, length, arith}
use Rattle.ms_base.specs.Options.{◌>>=◌}
use Rattle.ms_base.specs.Fields.{many_at}
use Rattle.ms_object.specs.Reading.{RowReader, rows_at}

-- the values before, and those that are still read
abbrev pub with_front : {A S : Type 0} → List A → Option (List A × S) → Option (List A × S)
with_front front read = read >>= λ x. Some (front ++ x.0, x.1)

regroup : {A S : Type 0} (front : List A) (a : A) (read : Option (List A × S)) → with_front front (read >>= λ x. Some (a ∷ x.0, x.1)) ≡ with_front (front ++ a ∷ []) read
regroup {A} front a (Some x) = ap (λ (all : List A). Some (all, x.1)) (simp append_assoc)
regroup front a None = refl

pub many_begins : {A S : Type 0} (one : S → Option (A × S)) (count : ℕ) (left : S) → with_front [] (many_at one (count - 0) left) ≡ many_at one count left
many_begins one count left = let k : count - 0 ≡ count = omega arith in rw k (same (many_at one count left))
  where
    same : {B T : Type 0} (read : Option (List B × T)) → with_front [] read ≡ read
    same (Some x) = refl
    same None = refl

pub many_on : {A S : Type 0} (one : S → Option (A × S)) (front : List A) (count i : ℕ) (left after : S) (a : A) (total : Option (List A × S)) → i < count → one left ≡ Some (a, after)
    → with_front front (many_at one (count - i) left) ≡ total → with_front (front ++ a ∷ []) (many_at one (count - (i + 1)) after) ≡ total
unfolding many_at
many_on one front count i left after a total lt h so_far =
    let k : count - i ≡ suc (count - (i + 1)) = omega arith in
    let step : with_front front (many_at one (count - i) left) ≡ with_front (front ++ a ∷ []) (many_at one (count - (i + 1)) after) = rw (k, h) (regroup front a (many_at one (count - (i + 1)) after)) in
    sym step ∙ so_far

pub many_stops : {A S : Type 0} (one : S → Option (A × S)) (front : List A) (count i : ℕ) (left : S) (total : Option (List A × S)) → i < count → one left ≡ None
    → with_front front (many_at one (count - i) left) ≡ total → total ≡ None
unfolding many_at
many_stops one front count i left total lt h so_far =
    let k : count - i ≡ suc (count - (i + 1)) = omega arith in
    let step : with_front front (many_at one (count - i) left) ≡ None = rw (k, h) refl in
    sym so_far ∙ step

pub many_done : {A S : Type 0} (one : S → Option (A × S)) (front : List A) (count i : ℕ) (left : S) (total : Option (List A × S)) → count ≤ i
    → with_front front (many_at one (count - i) left) ≡ total → total ≡ Some (front, left)
unfolding many_at
many_done {A} {S} one front count i left total le so_far =
    let k : count - i ≡ 0 = omega arith in
    let step : with_front front (many_at one (count - i) left) ≡ Some (front, left) = rw k (ap (λ (all : List A). Some (all, left)) (append-nil front)) in
    sym so_far ∙ step

-- ---- rows, which end with the text

abbrev pub read_so_far : {R : Type 0} → RowReader R → ℕ → List ℕ → Option (List R × (List ℕ × List ℕ))
read_so_far one count text = many_at one count ([], text)

pub rows_missing : {R : Type 0} (one : RowReader R) (count : ℕ) (text : List ℕ) → read_so_far one count text ≡ None → rows_at one count text ≡ None
unfolding rows_at
rows_missing one count text e = rw e refl

pub rows_read : {R : Type 0} (one : RowReader R) (count : ℕ) (text : List ℕ) (rows : List R) (before rest : List ℕ) → read_so_far one count text ≡ Some (rows, (before, rest)) → length rest < 1 → rows_at one count text ≡ Some rows
unfolding rows_at
rows_read one count text rows before [] e none = rw e refl
rows_read one count text rows before (b ∷ rest) e none = absurd (omega arith)

pub rows_left : {R : Type 0} (one : RowReader R) (count : ℕ) (text : List ℕ) (rows : List R) (before rest : List ℕ) → read_so_far one count text ≡ Some (rows, (before, rest)) → 1 ≤ length rest → rows_at one count text ≡ None
unfolding rows_at
rows_left one count text rows before [] e some = absurd (omega arith)
rows_left one count text rows before (b ∷ rest) e some = rw e refl
