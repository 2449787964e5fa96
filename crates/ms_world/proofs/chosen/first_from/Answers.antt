use Rattle.std.proofs.Common.{◌≡◌, true, false, rules}
use Rattle.std.specs.List.Sorted.{IsPartitionPoint}
use Rattle.std.proofs.lemmas.List.Sorted.{IsPartitionPoint-from_clause}
use Rattle.ms_world.proofs.Searching.{below, same_test, partitioned, point_before, point_behind}
use Rattle.ms_record.specs.declared.ballot.Vote.{Vote}
use Rattle.ms_world.proofs.chosen.first_from.Goals as goal

point : (c : goal.After-partition_point)
    → IsPartitionPoint (λ (v : Vote). below v.ballot c.args.ballot ≡ true) (λ (v : Vote). below v.ballot c.args.ballot ≡ false) c.args.list.now c.partition_point.result
point c =
    IsPartitionPoint-from_clause (λ (v : Vote). below v.ballot c.args.ballot) c.args.list.now c.partition_point.result c.partition_point.ensures.partitioned (partitioned c.args.list.now c.args.ballot c.requires)
    (λ a r f' h. search (rules, same_test))

pub returns-clause-before : goal.returns-clause-before
returns-clause-before c = point_before c.args.list.now c.args.ballot c.partition_point.result (point c)

pub returns-clause-behind : goal.returns-clause-behind
returns-clause-behind c = point_behind c.args.list.now c.args.ballot c.partition_point.result (point c)
