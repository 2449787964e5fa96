use Rattle.std.proofs.Common.{ℕ, ◌<◌, List, sym, subst, arith}
use Rattle.std.specs.Prelude.{Contains}
use Rattle.std.specs.List.{range_with_len}
use Rattle.std.proofs.lemmas.List.FromFn.{length-range_with_len, get_or-range_with_len}
use Rattle.ms_bid.proofs.tests.voters.Goals as goal

below_all : (n s : ℕ) → Contains (range_with_len 0 n) s → s < n
below_all n s h =
    let within : h.0 < n = omega (arith, h.1, length-range_with_len 0 n) in
    omega (arith, h.2, get_or-range_with_len 0 n h.0 s within, within)

pub returns-clause-below : goal.returns-clause-below
returns-clause-below c = subst (λ (v : List ℕ). (s : ℕ) → Contains v s → s < 3) (sym c.all.ensures.are) (below_all 3)
