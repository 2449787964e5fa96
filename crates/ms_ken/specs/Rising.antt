-- Numbers that rise in each owner's list: a small case of closed views, for the tests.
use Rattle.std.specs.Prelude.{◌≡◌, ℕ, ◌<◌, List, [], ◌∷◌, length, replicate}
use Rattle.std.proofs.Common.{sym, subst}
use Rattle.ms_ken.specs.Lists.{list_at, Agree, longer_lists}
use Rattle.ms_ken.specs.Prefixes.{longer_by}
use Rattle.ms_ken.specs.Rows.{list_at-replicate, list_at-longer_lists}

-- each number is below the next
abbrev pub IsRising : List ℕ → Type 0
IsRising [] = Unit {0}
IsRising (x ∷ []) = Unit {0}
IsRising (x ∷ y ∷ ys) = (x < y) × IsRising (y ∷ ys)

abbrev pub AllRising : List (List ℕ) → Type 0
AllRising lists = (k : ℕ) → IsRising (list_at lists k)

pub rising_of_nothing : (n : ℕ) → AllRising (replicate n [])
rising_of_nothing n k = subst IsRising (sym (list_at-replicate n k)) tt

pub rising_of_longer : (xs ys : List (List ℕ)) → length xs ≡ length ys → AllRising xs → AllRising ys → Agree xs ys → AllRising (longer_lists xs ys)
rising_of_longer xs ys _ p q _ k = subst IsRising (sym (list_at-longer_lists xs ys k)) (longer_by IsRising (list_at xs k) (list_at ys k) (λ _. p k) (λ _. q k))
