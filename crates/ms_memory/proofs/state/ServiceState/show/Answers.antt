use Rattle.std.proofs.Common.{◌≡◌, List, ap, subst, sym}
use Rattle.ms_ken.specs.Lists.{list_at}
use Rattle.ms_memory.proofs.Serving.{agrees_more, owned, told_stays}
use Rattle.ms_memory.specs.Shelves.{Holds}
use Rattle.ms_record.specs.declared.item.Item.{Item}
use Rattle.ms_record.specs.Items.{events_of}
use Rattle.ms_memory.proofs.state.ServiceState.show.Goals as goal

pub invariant_of-self : goal.invariant_of-self
invariant_of-self g c =
    let old = c.self.inside.pass in
    let met = c.meet.ensures in
    let service = c.self.inside.service.0 in
    let own = owned (λ k. list_at c.meet.new.one.lists k ≡ list_at old.lists k) old.word service c.self.invariant.owns met.own_one in
    agrees_more g.J.Naming.board service c.self.inside.shelf c.self.inside.shelf old c.meet.new.one c.self.invariant (ap (λ p. p.board) met.one) (ap (λ p. p.word) met.one) met.both_know_one.0
    (subst (λ (l : List Item). Holds c.self.inside.shelf (events_of l)) (sym own) c.self.invariant.holds)

pub returns-clause-configuration : goal.returns-clause-configuration
returns-clause-configuration g c = told_stays c.self.inside.pass.lists c.meet.new.other.lists c.meet.ensures.both_know_one.1 c.self.invariant.told
