use Rattle.std.proofs.Common.{◌≡◌, true, rules}
use Rattle.ms_link.specs.Links.{LinkView, log_known}
use Rattle.ms_memory.proofs.Linking.{has_says, stale_says}
use Rattle.ms_record.specs.Floors.{none_above}
use Rattle.ms_memory.proofs.link.MemoryLinkLinkFoldClosed.has.Goals as goal

pub returns-then-generation-floor-clause-has : goal.returns-then-generation-floor-clause-has
returns-then-generation-floor-clause-has g c =
    let link : LinkView = record { board = g.J.Naming.board; service = c.args.self.now; faults = 0; lists = true; objects = true } in
    let log : log_known link c.show.new.pass ≡ c.show.new.self.log = search rules in
    stale_says link c.show.new.pass c.show.new.self.log c.args.generation c.floor-floor.result c.if-generation-floor.true c.floor-floor.ensures log

pub has-requires : goal.has-requires
has-requires g c = none_above c.show.new.self.log c.floor-floor.result c.args.generation c.floor-floor.ensures c.if-generation-floor.false

pub returns-clause-has : goal.returns-clause-has
returns-clause-has g c =
    let link : LinkView = record { board = g.J.Naming.board; service = c.args.self.now; faults = 0; lists = true; objects = true } in
    let log : log_known link c.show.new.pass ≡ c.show.new.self.log = search rules in
    let above = none_above c.show.new.self.log c.floor-floor.result c.args.generation c.floor-floor.ensures c.if-generation-floor.false in
    has_says link link c.show.new.pass c.show.new.self.log c.args.generation c.args.name.now c.has.result log above c.has.ensures
