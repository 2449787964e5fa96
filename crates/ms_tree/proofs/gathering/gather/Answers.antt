use Rattle.std.proofs.lemmas.Result.{err_from_is_err_and}
use Rattle.ms_object.specs.Stores.{text_of}
use Rattle.ms_tree.proofs.Back.{tree_back, fault_back}
use Rattle.ms_tree.proofs.Treeing.{root_fault, walk_fault, tree_gathered}
use Rattle.ms_tree.proofs.gathering.gather.Goals as goal

pub returns-in_err-top-clause-fault : goal.returns-in_err-top-clause-fault
returns-in_err-top-clause-fault c =
    let p = err_from_is_err_and c.from_residual.result c.from_residual.ensures.1 in
    rw (p.1, p.2) (root_fault (text_of c.args.store.now) c.args.root.now c.in_err-top.field-0.0 c.in_err-top.ensures.exact)

pub returns-in_err-gather_rows-clause-fault : goal.returns-in_err-gather_rows-clause-fault
returns-in_err-gather_rows-clause-fault c =
    let p = err_from_is_err_and c.from_residual-in_err-gather_rows.result c.from_residual-in_err-gather_rows.ensures.1 in
    rw (p.1, p.2)
    (walk_fault (text_of c.args.store.now) c.args.root.now _ _ c.as_slice.result.now _ _ c.in_err-gather_rows.field-0.0 c.in_ok-top.ensures.exact c.as_slice.ensures c.new-path.ensures.items c.new-files.ensures c.in_err-gather_rows.ensures.err)

pub returns-clause-ok : goal.returns-clause-ok
returns-clause-ok c =
    tree_gathered (text_of c.args.store.now) c.args.root.now _ _ c.as_slice.result.now _ _ c.gather_rows.new.files c.in_ok-top.ensures.exact c.as_slice.ensures c.new-path.ensures.items c.new-files.ensures c.in_ok-gather_rows.ensures.ok

pub returns-in_err-top-clause-back : goal.returns-in_err-top-clause-back
returns-in_err-top-clause-back c = λ format files kept planted.
    let p = err_from_is_err_and c.from_residual.result c.from_residual.ensures.1 in
    fault_back format (text_of c.args.store.now) c.args.root.now files _ _ p.1 (returns-in_err-top-clause-fault c) planted

pub returns-in_err-gather_rows-clause-back : goal.returns-in_err-gather_rows-clause-back
returns-in_err-gather_rows-clause-back c = λ format files kept planted.
    let p = err_from_is_err_and c.from_residual-in_err-gather_rows.result c.from_residual-in_err-gather_rows.ensures.1 in
    fault_back format (text_of c.args.store.now) c.args.root.now files _ _ p.1 (returns-in_err-gather_rows-clause-fault c) planted

pub returns-clause-back : goal.returns-clause-back
returns-clause-back c = λ format files kept planted. tree_back format (text_of c.args.store.now) c.args.root.now files c.gather_rows.new.files c.shows.ensures (returns-clause-ok c) kept planted
