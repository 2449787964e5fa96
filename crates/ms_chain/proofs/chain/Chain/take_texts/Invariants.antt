use Rattle.std.proofs.Common.{◌≡◌, ◌++◌, length}
use Rattle.std.specs.Vec.Iter.{into_iter_items, into_iter_len}
use Rattle.ms_chain.specs.Readings.{with_texts}
use Rattle.ms_chain.proofs.chain.Chain.take_texts.Given as goal

abbrev pub invariant-loop-text : goal.invariant-loop-text
invariant-loop-text l = record {
  is : l.self ≡ with_texts l.fn.self l.service.0 l.yielded;
  front : l.fn.texts ≡ l.yielded ++ into_iter_items l.text-iterator;
  left : into_iter_len l.text-iterator ≡ length (into_iter_items l.text-iterator);
}
