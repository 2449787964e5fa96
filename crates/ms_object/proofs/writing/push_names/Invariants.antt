use Rattle.std.proofs.Common.{◌≡◌, ◌++◌, take}
use Rattle.ms_object.specs.Objects.{AreNames, names_text}
use Rattle.ms_object.proofs.writing.push_names.Given as goal

abbrev pub invariant-loop-name : goal.invariant-loop-name
invariant-loop-name l = record {
  text : l.out.items ≡ l.fn.out.items ++ names_text (take l.name-index l.names);
  names : AreNames (take l.name-index l.names);
}
