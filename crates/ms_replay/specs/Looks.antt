-- What a look at a vote list answers.
use Rattle.std.specs.Prelude.{IfSome}
use Rattle.ms_record.specs.declared.sight.Sight.{Sight}
use Rattle.ms_record.specs.Entries.{IsEntry}
use Rattle.ms_record.specs.Records.{IsBallot}

-- what a list shows is in the ranges of the grammar
pub record IsInRange (sight : Sight) : Type 0 where
  pub best : IfSome sight.best (λ vote. IsBallot vote.ballot × IsEntry vote.entry)
  pub top : IfSome sight.top IsBallot
