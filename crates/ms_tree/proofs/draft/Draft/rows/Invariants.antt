use Rattle.std.proofs.Common.{◌≡◌, ◌++◌, map, string_bytes}
use Rattle.ms_tree.proofs.draft.Draft.rows.Given as goal

abbrev pub invariant-loop-path : goal.invariant-loop-path
invariant-loop-path l = map (λ r. (r.path.now, r.text.now)) l.rows.items ++ map (λ e. (string_bytes e.0, e.1.now)) l.path-iterator ≡ l.self
