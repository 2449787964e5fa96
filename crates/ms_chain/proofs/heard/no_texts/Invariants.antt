use Rattle.std.proofs.Common.{◌≡◌, [], map, replicate}
use Rattle.ms_chain.proofs.heard.no_texts.Given as goal

abbrev pub invariant-loop-service : goal.invariant-loop-service
invariant-loop-service l = map (λ list. list.items) l.lists.items ≡ replicate l._service []
