use Rattle.std.proofs.Common.{◌≡◌, None, rules}
use Rattle.std.specs.BTreeMap.{get}
use Rattle.ms_memory.proofs.Storing.{reserved_same}
use Rattle.ms_memory.specs.Shelves.{spot, spot_cmp}
use Rattle.ms_memory.proofs.store.Store.reserve.Goals as goal

pub returns-in_ok-insert-clause-same : goal.returns-in_ok-insert-clause-same
returns-in_ok-insert-clause-same c =
    let s = spot c.args.generation c.args.name.now in
    let none : get spot_cmp c.args.self.now.texts s ≡ None = search rules in
    λ g n. reserved_same (λ q. get spot_cmp c.args.self.now.texts q) (λ q. get spot_cmp c.insert.new.self q) s none (λ q. c.in_ok-insert.ensures.updates.0 q) (spot g n)
