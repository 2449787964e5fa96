use Rattle.std.proofs.Common.{◌≡◌, ℕ, ◌*◌, Bool, true, false, inl, inr, refl, length, count_by, arith}
use Rattle.std.specs.Prelude.{Contains}
use Rattle.std.proofs.lemmas.Bool.{cases_lt}
use Rattle.ms_bid.specs.Shown.{shows, sight_at}
use Rattle.ms_bid.specs.Ends.{flag_at, IsMissing}
use Rattle.ms_bid.proofs.Counting.{shown_or_failed}
use Rattle.ms_bid.proofs.judging.end_without_majority.Goals as goal

pub unreachable-requires : goal.unreachable-requires
unreachable-requires c =
    let voters = c.args.voters.now in
    let failed : ℕ → Bool = flag_at c.args.failed.now in
    let shown : ℕ → Bool = λ s. shows c.args.sought (sight_at c.args.sights.now s) in
    let missing : (s : ℕ) (v : Contains voters s) → failed s ≡ false → shown s ≡ false → IsMissing c.args.sought c.args.sights.now voters c.args.sent.now c.args.failed.now s =
    λ s v f m. record { votes = v; sent_to = c.requires.sent s (c.requires.below s v) v f; free = f; missing = m } in
    let each : (s : ℕ) → Contains voters s → failed s ≡ false → shown s ≡ true =
    λ s v f. is_true (shown s) (λ m. c.in_default-least_missing.ensures.none s (c.requires.below s v) (missing s v f m)) in
    let all = shown_or_failed shown failed voters each in
    elim (cases_lt (2 * count_by failed voters) (length voters)) [
      | inl few ↦ c.requires.lacks (omega (arith, all, few))
      | inr half ↦ let bad : false ≡ true = c.if-is_half.ensures.1 half in cc
    ]
  where
    is_true : (b : Bool) → (b ≡ false → ⊥) → b ≡ true
    is_true true h = refl
    is_true false h = absurd (h refl)
