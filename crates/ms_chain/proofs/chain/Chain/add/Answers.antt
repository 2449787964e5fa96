use Rattle.std.proofs.Common.{Option, Some, sym, ap, ◌∙◌, subst}
use Rattle.ms_chain.specs.Lines.{LineView}
use Rattle.ms_chain.specs.declared.split.Split.{Split}
use Rattle.ms_chain.specs.Splits.{SplitIs, chain_of}
use Rattle.ms_chain.proofs.Splitting.{gained_known, judged_at_end}
use Rattle.ms_chain.proofs.chain.Chain.add.Goals.{in-None, in-Some}
use Rattle.ms_chain.proofs.chain.Chain.add.Goals as goal

pub invariant_of-self-2 : goal.invariant_of-self-2
invariant_of-self-2 c =
    let chain = c.self.inside in
    let e = c.args.decided.now in
    let is = c.in_ok-push.ensures.ok in
    let known = c.self.invariant.split in
    record {
      many = c.self.invariant.many ∙ ap (λ (l : LineView). l.setting.services) (sym is);
      split =
          elim c.match-self.branch [
            | in-Some w ↦
                let before = subst (SplitIs (chain_of chain.line chain.heard)) w.in-Some.is known in
                let after = subst (λ (l : LineView). SplitIs (chain_of l chain.heard) (Some w.in-Some.split)) (sym is) (gained_known chain.line e chain.heard w.in-Some.split before) in
                subst (λ (o : Option Split). SplitIs (chain_of c.push.new.self chain.heard) o) (sym w.self-is) after
            | in-None w ↦
                let before = subst (SplitIs (chain_of chain.line chain.heard)) w.in-None.is known in
                let after = judged_at_end chain.line c.push.new.self e chain.heard w.end.result w.split_at-self-inside.result is w.end.ensures.count before w.split_at-self-inside.ensures.some w.split_at-self-inside.ensures.none in
                subst (λ (o : Option Split). SplitIs (chain_of c.push.new.self chain.heard) o) (sym w.self-is) after
          ];
    }
