use Rattle.std.proofs.Common.{List, ◌++◌, take}
use Rattle.ms_record.specs.declared.mark.RefMark.{RefMark}
use Rattle.ms_chain.specs.Refs.{IsFirstGreatest, marks_of}
use Rattle.ms_chain.proofs.refs.greatest_mark.Given as goal

abbrev pub invariant-loop-text : goal.invariant-loop-text
invariant-loop-text l = (before : List RefMark) → IsFirstGreatest before l.fn.best → IsFirstGreatest (before ++ marks_of (take l.text-index l.text-items)) l.best
