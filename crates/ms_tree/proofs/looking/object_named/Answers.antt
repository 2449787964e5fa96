use Rattle.std.proofs.Common.{sym}
use Rattle.ms_object.specs.Stores.{text_of}
use Rattle.ms_object.specs.Trees.{object_named}
use Rattle.ms_tree.proofs.Looked.{fault_unfound}
use Rattle.ms_tree.proofs.Named.{nothing_named, named_text}
use Rattle.ms_tree.proofs.looking.object_named.Goals as goal

pub returns-in-None-clause-exact : goal.returns-in-None-clause-exact
returns-in-None-clause-exact c = nothing_named (text_of c.args.store.now) c.args.name.now (sym c.in-None.ensures.text)

pub returns-in-Some-clause-exact : goal.returns-in-Some-clause-exact
returns-in-Some-clause-exact c =
    let e = named_text (text_of c.args.store.now) c.args.name.now c.in-Some.text.now (sym c.in-Some.ensures.text) in
    rw e c.read_object.ensures.exact

pub returns-in-Some-clause-fault : goal.returns-in-Some-clause-fault
returns-in-Some-clause-fault c = fault_unfound (text_of c.args.store.now) c.args.name.now c.read_object.result (returns-in-Some-clause-exact c)
