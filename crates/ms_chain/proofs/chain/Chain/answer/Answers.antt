use Rattle.std.proofs.Common.{None, sym, ap, ◌∙◌, subst, length}
use Rattle.ms_local.specs.Learning.{ChainView, IsSeen, LacksMajority}
use Rattle.ms_chain.specs.Splits.{BehindIs, SplitIs}
use Rattle.ms_chain.proofs.Splitting.{neither, none_split, seen_in}
use Rattle.ms_chain.proofs.chain.Chain.answer.Goals as goal

pub returns-in-None : goal.returns-in-None
returns-in-None c =
    let chain = c.args.self.now in
    let inside = c.self.inside in
    let view = c.self.view_is in
    let none = neither inside.split c.args.behind (sym c.or.ensures ∙ c.in-None.is) in
    let known : SplitIs chain None = subst (SplitIs chain) none.0 (subst (λ (v : ChainView). SplitIs v inside.split) view c.self.invariant.split) in
    let behind : BehindIs chain None = subst (BehindIs chain) none.1 c.requires in (
      λ lack.
          let back = subst (λ (v : ChainView). LacksMajority v c.args.failed.now) (sym view) lack in
          let yes = c.lacks.ensures.no back.members back.within back.half in
          cc (c.if-lacks.false, yes),
      none_split chain known behind,
      c.end.ensures.count ∙ ap (λ (v : ChainView). length v.members) view,
      subst (λ (v : ChainView). IsSeen v c.seen.result) view (seen_in inside.line inside.heard c.seen.result c.seen.ensures),
    )
