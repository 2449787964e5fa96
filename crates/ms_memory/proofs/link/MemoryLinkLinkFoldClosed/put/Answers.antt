use Rattle.std.proofs.Common.{ℕ, List, true, refl, sym, subst}
use Rattle.ms_core.specs.Views.{IsClosed, log_in}
use Rattle.ms_ken.specs.Lists.{MayFollow}
use Rattle.ms_ken.specs.Rows.{may_follow_later}
use Rattle.ms_link.specs.Composing.{learns_on, puts_on, stays_self}
use Rattle.ms_link.specs.Links.{LinkView, Puts}
use Rattle.ms_memory.proofs.Linking.{put_puts, stale_says}
use Rattle.ms_record.specs.declared.item.Item.TheVariants.{Log}
use Rattle.ms_record.specs.declared.log.LogEvent.TheVariants.{Put}
use Rattle.ms_memory.proofs.link.MemoryLinkLinkFoldClosed.put.Goals as goal

pub returns-then-generation-floor-clause-puts : goal.returns-then-generation-floor-clause-puts
returns-then-generation-floor-clause-puts g c =
    let link : LinkView = record { board = g.J.Naming.board; service = c.args.self.now; faults = 0; lists = true; objects = true } in
    stale_says link c.floor.new.pass (log_in c.floor.new.pass.lists c.args.self.now) c.args.generation c.in_ok-floor.floor c.if-generation-floor.true c.in_ok-floor.ensures.floor refl

pub change-requires-clause-closed : goal.change-requires-clause-closed
change-requires-clause-closed g c =
    let words = g.J.Naming.board.words in
    let looked = c.floor.new.pass.lists in
    subst (λ (t : List ℕ). MayFollow IsClosed words looked c.args.self.now (Log (Put c.args.generation c.args.name.now t))) (sym c.in_ok-of.ensures)
    (may_follow_later IsClosed words c.args.pass.now.lists looked c.args.self.now (Log (Put c.args.generation c.args.name.now c.args.text.now)) c.floor.ensures.pass.more c.requires.closed)

pub returns-clause-puts : goal.returns-clause-puts
returns-clause-puts g c =
    let link : LinkView = record { board = g.J.Naming.board; service = c.args.self.now; faults = 0; lists = true; objects = true } in
    let name = c.args.name.now in
    let looked = c.floor.new.pass in
    puts_on link link link c.args.pass.now looked c.change.new.pass c.args.generation (Put c.args.generation name c.args.text.now) c.change.result (stays_self link) c.floor.ensures.pass
    (subst (λ (t : List ℕ). Puts link link looked c.change.new.pass c.args.generation (Put c.args.generation name t) c.change.result) c.in_ok-of.ensures
    (put_puts link link looked c.change.new.pass c.args.generation name c.in_ok-of.field-0 c.change.result c.change.ensures.changes))

pub returns-clause-pass : goal.returns-clause-pass
returns-clause-pass g c = learns_on c.args.pass.now c.floor.new.pass c.change.new.pass c.floor.ensures.pass c.change.ensures.pass
