-- Induction along the order of ballots.
use Rattle.std.proofs.Common.{◌≡◌, ℕ, ◌+◌, ◌<◌, suc, zero, inl, inr, ◌∙◌, sym, arith}
use Rattle.std.proofs.lemmas.Bool.{cases_lt}
use Rattle.ms_record.specs.declared.ballot.Ballot.{Ballot}
use Rattle.ms_record.specs.Ballots.{IsBelow}

inner : (P : Ballot → Type 0) (step : (b : Ballot) → ((a : Ballot) → IsBelow a b → P a) → P b) (n : ℕ)
    (outer : (b : Ballot) → b.round < n → P b) (m : ℕ) (b : Ballot) → b.round ≡ n → b.client.0 < m → P b
inner P step n outer zero b e h = absurd (omega arith)
inner P step n outer (suc m) b e h =
    step b (λ a l. elim (cases_lt a.round n) [
      | inl r ↦ outer a r
      | inr r ↦ let q : a.round ≡ n = omega arith in inner P step n outer m a q (omega (arith, l.1 (q ∙ sym e)))
    ])

by_round : (P : Ballot → Type 0) (step : (b : Ballot) → ((a : Ballot) → IsBelow a b → P a) → P b) (n : ℕ) (b : Ballot) → b.round < n → P b
by_round P step zero b h = absurd (omega arith)
by_round P step (suc n) b h =
    elim (cases_lt b.round n) [
      | inl r ↦ by_round P step n b r
      | inr r ↦ inner P step n (by_round P step n) (b.client.0 + 1) b (omega arith) (omega arith)
    ]

-- what holds of each ballot, if it holds of those below, holds of all
pub ballot_induction : (P : Ballot → Type 0) → ((b : Ballot) → ((a : Ballot) → IsBelow a b → P a) → P b) → (b : Ballot) → P b
ballot_induction P step b = by_round P step (b.round + 1) b (omega arith)
