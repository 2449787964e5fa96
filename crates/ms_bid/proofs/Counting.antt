-- Of the voters, those that failed and those that show what is sought.
use Rattle.std.proofs.Common.{◌≡◌, ℕ, ◌+◌, ◌≤◌, Bool, true, false, cond, List, [], ◌∷◌, refl, length, count_by, arith}
use Rattle.std.specs.Prelude.{Contains}
use Rattle.ms_base.specs.CountLaws.{count_cons}
use Rattle.ms_base.specs.Places.{in_here, in_later}

one_of : (f t : Bool) → (f ≡ false → t ≡ true) → 1 ≤ cond t 1 0 + cond f 1 0
one_of true t h = omega arith
one_of false true h = omega arith
one_of false false h = absurd (let q : false ≡ true = h refl in cc)

-- where each failed or shows it
pub shown_or_failed : (shown failed : ℕ → Bool) (voters : List ℕ) → ((s : ℕ) → Contains voters s → failed s ≡ false → shown s ≡ true)
    → length voters ≤ count_by shown voters + count_by failed voters
shown_or_failed shown failed [] h = omega arith
shown_or_failed shown failed (x ∷ xs) h =
    omega (
      arith,
      count_cons shown x xs,
      count_cons failed x xs,
      one_of (failed x) (shown x) (h x (in_here x xs)),
      shown_or_failed shown failed xs (λ s c. h s (in_later x xs s c)),
    )
