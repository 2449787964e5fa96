use Rattle.std.proofs.Common.{sym, ap, ◌∙◌, subst}
use Rattle.ms_local.specs.Learning.{ChainView}
use Rattle.ms_chain.specs.declared.split.Next.TheVariants.{Member}
use Rattle.ms_chain.specs.Lines.{LineView}
use Rattle.ms_chain.specs.Splits.{IsNextOf, SplitIs, chain_of}
use Rattle.ms_chain.proofs.Splitting.{gained}
use Rattle.ms_chain.proofs.Standings.{unsplit_next}
use Rattle.ms_chain.proofs.chain.Chain.gain.Goals as goal

pub invariant_of-self-2 : goal.invariant_of-self-2
invariant_of-self-2 c =
    let chain = c.self.inside in
    let e = c.args.entry.now in
    let is = c.in_ok-push.ensures.ok in
    let next = subst (λ (v : ChainView). IsNextOf v (Member e)) (sym c.self.view_is) c.requires in
    record {
      many = c.self.invariant.many ∙ ap (λ (l : LineView). l.setting.services) (sym is);
      split = subst (λ (l : LineView). SplitIs (chain_of l chain.heard) chain.split) (sym is)
          (gained chain.line e chain.heard chain.split c.self.invariant.split (unsplit_next chain.line chain.heard e next.1));
    }
