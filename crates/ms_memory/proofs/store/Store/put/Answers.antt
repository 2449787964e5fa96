use Rattle.std.proofs.Common.{Some}
use Rattle.std.specs.BTreeMap.{get}
use Rattle.ms_memory.proofs.Storing.{written_others}
use Rattle.ms_memory.specs.Shelves.{spot_cmp}
use Rattle.ms_memory.proofs.store.Store.put.Goals as goal

pub returns-then-is_none-clause-others : goal.returns-then-is_none-clause-others
returns-then-is_none-clause-others c =
    let lender = c.get_mut.follows.lender (Some c.args.text) in
    written_others (λ q. get spot_cmp c.args.self.now.texts q) (λ q. get spot_cmp lender q) c.args.generation c.args.name.now (Some c.args.text)
    ((c.get_mut.follows.holds (Some c.args.text)).3 c.requires).0

pub returns-else-is_none-clause-others : goal.returns-else-is_none-clause-others
returns-else-is_none-clause-others c =
    let there = c.in-Some.place.now in
    written_others (λ q. get spot_cmp c.args.self.now.texts q) (λ q. get spot_cmp (c.get_mut.follows.lender there) q) c.args.generation c.args.name.now there
    ((c.get_mut.follows.holds there).3 c.requires).0
