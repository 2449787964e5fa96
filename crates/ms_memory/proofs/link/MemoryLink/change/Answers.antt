use Rattle.std.proofs.Common.{◌≡◌, [], refl, sym, subst, rules}
use Rattle.ms_core.specs.Views.{IsClosed}
use Rattle.ms_ken.specs.Lists.{MayFollow}
use Rattle.ms_memory.specs.Served.{served}
use Rattle.ms_record.specs.declared.item.Item.TheVariants.{Log}
use Rattle.ms_memory.proofs.link.MemoryLink.change.Goals as goal

pub take-requires-clause-closed : goal.take-requires-clause-closed
take-requires-clause-closed g c =
    let same : c.deref_mut-state.result.now.service ≡ c.args.self.now = search rules in
    subst (λ n. MayFollow IsClosed g.J.Naming.board.words c.args.pass.now.lists n (Log c.args.event)) (sym same) c.requires.closed

pub returns-then-not-has_number-clause-changes : goal.returns-then-not-has_number-clause-changes
returns-then-not-has_number-clause-changes g c = let number = c.args.self.now in record { state = served number []; after = served number []; number = refl; adds = refl }

pub returns-clause-changes : goal.returns-clause-changes
returns-clause-changes g c =
    let same : c.deref_mut-state.result.now.service ≡ c.args.self.now = search rules in
    record { state = c.deref_mut-state.result.now; after = c.take.new.self; number = same; adds = c.take.ensures.adds }
