use Rattle.std.proofs.Common.{refl, sym, ap, ◌∙◌, subst}
use Rattle.ms_local.specs.Learning.{ChainGrows, ChainView}
use Rattle.ms_chain.specs.Splits.{IsNextOf}
use Rattle.ms_chain.proofs.Splitting.{grows_on, grows_self}
use Rattle.ms_chain.proofs.chain.Chain.extend.Goals as goal

pub members-init : goal.members-init
members-init c = (grows_self c.args.self.now, refl)

pub members-preserved : goal.members-preserved
members-preserved c =
    let old = c.args.self.now in
    let mid = c.members.self in
    let e = c.in-Member.entry in
    let is = c.in_ok-gain-in-Member.ensures.ok in
    let next = subst (IsNextOf mid) c.in-Member.is c.next.ensures in (
      subst (λ (v : ChainView). ChainGrows old v) (sym is) (grows_on old mid e c.members.invariant.0 next.1),
      ap (λ (v : ChainView). v.lists) is ∙ c.members.invariant.1,
    )
