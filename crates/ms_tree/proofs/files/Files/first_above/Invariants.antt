use Rattle.std.proofs.Common.{◌≡◌, map, string_bytes}
use Rattle.ms_tree.proofs.Large.{first_of}
use Rattle.ms_tree.proofs.files.Files.first_above.Given as goal

abbrev pub invariant-loop-path : goal.invariant-loop-path
invariant-loop-path l = first_of l.most (map (λ e. (string_bytes e.0, e.1)) l._path-iterator) ≡ first_of l.most l.self
