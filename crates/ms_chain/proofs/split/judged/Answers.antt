use Rattle.std.proofs.Common.{◌≡◌, ℕ, ◌≤◌, Some, None, sym, ◌∙◌, subst, length, arith}
use Rattle.ms_record.specs.Reading.{record_at}
use Rattle.ms_replay.specs.Audits.{lists_of}
use Rattle.ms_replay.specs.Tallies.{IsVotedAt}
use Rattle.ms_chain.specs.Splits.{SplitIs, chain_of}
use Rattle.ms_chain.proofs.Places.{some_same}
use Rattle.ms_chain.proofs.Splitting.{heard_as, judged_is, known_stays, none_stays}
use Rattle.ms_chain.proofs.split.judged.Goals.{then-position-eq0-via-then-position-eq0, then-position-eq0-via-else-position-eq0+then-position-end}
use Rattle.ms_chain.proofs.split.judged.Goals as goal

pub returns-in-Some : goal.returns-in-Some
returns-in-Some c = λ before s text lt same v h.
    known_stays c.args.line.now before c.args.heard.now s text c.in-Some.split (heard_as before c.args.heard.now s text lt same) (subst (SplitIs (chain_of c.args.line.now before)) c.in-Some.is h)

pub returns-then-position-eq0 : goal.returns-then-position-eq0
returns-then-position-eq0 c = λ before s text lt same v h.
    let position = c.in-Some-voted.position in
    let apart : (k : ℕ) → 1 ≤ k → k ≤ length c.args.line.now.members → c.args.voted ≡ Some k → ⊥ =
    λ k some within at. let is : position ≡ k = some_same position k (sym c.in-Some-voted.is ∙ at) in
    elim c.then-position-eq0.branch [
      | then-position-eq0-via-then-position-eq0 w ↦ (let none = w.if-position-eq0.true in omega arith)
      | then-position-eq0-via-else-position-eq0+then-position-end w ↦ (let past = w.if-position-end.true in let count = w.end.ensures.count in omega arith)
    ] in
    none_stays c.args.line.now before c.args.heard.now s text c.args.voted (heard_as before c.args.heard.now s text lt same) v apart (subst (SplitIs (chain_of c.args.line.now before)) c.in_default.is h)

pub returns : goal.returns
returns c = λ before s text lt same v h.
    judged_is c.args.line.now before c.args.heard.now s text c.in-Some-voted.position c.split_at.result (heard_as before c.args.heard.now s text lt same)
    (subst (IsVotedAt (lists_of before s) (record_at text)) c.in-Some-voted.is v) c.split_at.ensures.some c.split_at.ensures.none (subst (SplitIs (chain_of c.args.line.now before)) c.in_default.is h)

pub returns-in_default-voted : goal.returns-in_default-voted
returns-in_default-voted c = λ before s text lt same v h.
    none_stays c.args.line.now before c.args.heard.now s text c.args.voted (heard_as before c.args.heard.now s text lt same) v (λ k some within at. let q : None ≡ Some k = sym c.in_default-voted.is ∙ at in cc q)
    (subst (SplitIs (chain_of c.args.line.now before)) c.in_default.is h)
