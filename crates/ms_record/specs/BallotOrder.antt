-- Laws of the order of ballots.
use Rattle.std.proofs.Common.{◌≡◌, ◌⊎◌, inl, inr, sym, arith}
use Rattle.std.proofs.lemmas.Bool.{cases_lt}
use Rattle.ms_record.specs.declared.ballot.Ballot.{Ballot}
use Rattle.ms_record.specs.Ballots.{IsBelow, IsAtMost}

-- two ballots are one, or one of them is below
pub ballots_apart : (b c : Ballot) → IsBelow b c ⊎ IsAtMost c b
ballots_apart b c =
    elim (cases_lt b.round c.round) [
      | inl l ↦ inl (omega arith, λ e. absurd (omega arith))
      | inr g ↦ elim (cases_lt b.client.0 c.client.0) [
        | inl m ↦ elim (cases_lt c.round b.round) [ inl n ↦ inr (omega arith, λ e. absurd (omega arith)) | inr n ↦ inl (omega arith, λ e. m) ]
        | inr m ↦ inr (omega arith, λ e. m)
      ]
    ]

-- a ballot is its round and its client
pub same_ballot : (b c : Ballot) → b.round ≡ c.round → b.client.0 ≡ c.client.0 → b ≡ c
same_ballot b c r m = λ i. record { round = r i; client = record { 0 = m i } }

-- a ballot that is at most another is below it or is that ballot
pub at_most_cases : (b c : Ballot) → IsAtMost b c → IsBelow b c ⊎ (b ≡ c)
at_most_cases b c h =
    elim (ballots_apart b c) [
      | inl l ↦ inl l
      | inr g ↦ inr (let r : b.round ≡ c.round = omega arith in let m : b.client.0 ≡ c.client.0 = omega (arith, h.1 r, g.1 (sym r)) in same_ballot b c r m)
    ]

-- a ballot that is below another is not at least that
pub not_above : (b c : Ballot) → IsBelow c b → IsAtMost b c → ⊥
not_above b c l m = grind arith

pub at_most_trans : (a b c : Ballot) → IsAtMost a b → IsAtMost b c → IsAtMost a c
at_most_trans a b c l m = grind arith

pub below_at_most : (b c : Ballot) → IsBelow b c → IsAtMost b c
below_at_most b c l = grind arith

-- of two ballots neither of which is greater
pub one_ballot : (b c : Ballot) → IsAtMost b c → IsAtMost c b → b ≡ c
one_ballot b c h k =
    let rounds : b.round ≡ c.round = omega (arith, h.0, k.0) in
    let clients : b.client.0 ≡ c.client.0 = omega (arith, h.1 rounds, k.1 (sym rounds)) in
    same_ballot b c rounds clients
