use Rattle.std.proofs.Common.{ℕ, ◌<◌, sym, subst, length}
use Rattle.ms_chain.proofs.Standings.{split_none}
use Rattle.ms_chain.proofs.split.split_at.Goals as goal

pub standing-requires-clause-below : goal.standing-requires-clause-below
standing-requires-clause-below c = λ s is. subst (λ (n : ℕ). s < n) (sym c.requires.many) (c.voters_behind-voters.ensures.below s is)

pub returns-in_default : goal.returns-in_default
returns-in_default c = record {
  some = tt;
  at = tt;
  none =
      split_none c.args.line.now c.args.heard.now c.args.position (length c.args.heard.now) c.voters_behind-voters.result c.standing.result c.voters_behind-voters.ensures.are
      (λ s is. subst (λ (n : ℕ). s < n) (sym c.requires.many) (c.voters_behind-voters.ensures.below s is)) c.standing.ensures (λ a b e. c.in_default.not-Split a b e);
}
