use Rattle.std.proofs.Common.{◌≤◌, All, map, take, length}
use Rattle.ms_merge.proofs.LimitLaws.{name_of}
use Rattle.ms_merge.proofs.limits.long_name.Given as goal

abbrev pub invariant-loop-name : goal.invariant-loop-name
invariant-loop-name l = All (λ name. length name ≤ 1024) (map name_of (take l.name-index l.names))
