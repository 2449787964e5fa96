use Rattle.std.proofs.Common.{ℕ, List, true, sym, subst}
use Rattle.ms_core.specs.Views.{IsClosed}
use Rattle.ms_ken.specs.Lists.{MayFollow}
use Rattle.ms_link.specs.Links.{LinkView, Tells}
use Rattle.ms_memory.proofs.Linking.{append_tells}
use Rattle.ms_record.specs.declared.item.Item.TheVariants.{Log}
use Rattle.ms_record.specs.declared.log.LogEvent.TheVariants.{Rec}
use Rattle.ms_memory.proofs.link.MemoryLinkLinkFoldClosed.append.Goals as goal

pub change-requires-clause-closed : goal.change-requires-clause-closed
change-requires-clause-closed g c =
    subst (λ (t : List ℕ). MayFollow IsClosed g.J.Naming.board.words c.args.pass.now.lists c.args.self.now (Log (Rec c.args.list t))) (sym c.in_ok-text.ensures) c.requires.closed

pub returns-clause-tells : goal.returns-clause-tells
returns-clause-tells g c =
    let link : LinkView = record { board = g.J.Naming.board; service = c.args.self.now; faults = 0; lists = true; objects = true } in
    subst (λ (t : List ℕ). Tells link link c.args.pass.now c.change.new.pass (Rec c.args.list t) c.change.result) c.in_ok-text.ensures
    (append_tells link link c.args.pass.now c.change.new.pass c.args.list c.in_ok-text.text c.change.result c.change.ensures.changes)
