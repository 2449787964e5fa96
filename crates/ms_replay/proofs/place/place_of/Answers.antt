use Rattle.std.proofs.Common.{rules}
use Rattle.std.specs.Ordering.{is_lt}
use Rattle.std.proofs.lemmas.List.Sorted.{IsPartitionPoint-from_clause}
use Rattle.ms_replay.specs.Tallies.{vote_cmp}
use Rattle.ms_replay.proofs.PutIn.{parted, put_in_order}
use Rattle.ms_replay.proofs.place.place_of.Goals as goal

pub returns-in-InOrder-clause-sorted : goal.returns-in-InOrder-clause-sorted
returns-in-InOrder-clause-sorted c = λ is sorted.
    let votes = c.args.votes.now in
    let vote = c.args.vote.now in
    let at = c.partition_point.result in
    let point = IsPartitionPoint-from_clause (λ v. is_lt (vote_cmp v vote)) votes at c.partition_point.ensures.partitioned (parted votes vote sorted) (λ a r f' h. search rules) in
    put_in_order votes at vote c.partition_point.ensures.bound sorted point
