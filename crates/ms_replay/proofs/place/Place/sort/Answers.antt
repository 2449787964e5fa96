use Rattle.std.proofs.Common.{rules}
use Rattle.std.specs.Ordering.{is_lt}
use Rattle.std.proofs.lemmas.List.Sorted.{ranks_by, answers_always}
use Rattle.ms_replay.specs.declared.voted.Voted.{Voted}
use Rattle.ms_replay.specs.Tallies.{vote_cmp}
use Rattle.ms_replay.proofs.VoteOrder.{vote_total}
use Rattle.ms_replay.proofs.place.Place.sort.Goals as goal

pub returns-clause-sorted : goal.returns-clause-sorted
returns-clause-sorted c = c.sort_unstable_by.ensures.sorted (λ v w. is_lt (vote_cmp v w)) (ranks_by vote_total (λ (v : Voted). v)) (answers_always _ _ _ (λ f a r g h. search rules))
