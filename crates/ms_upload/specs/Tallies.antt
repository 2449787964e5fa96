-- What is counted of the visits of an object.
use Rattle.std.specs.Prelude.{◌≡◌, ℕ, List, length}
use Rattle.ms_bid.specs.Ends.{flag_at}
use Rattle.ms_upload.specs.declared.tally.Tally.{Tally}
use Rattle.ms_upload.specs.Visits.{Visit, did_fail, present_in, puts_in}

pub record IsTally (visits : List Visit) (tally : Tally) : Type 0 where
  pub present : tally.present ≡ present_in visits
  pub puts : tally.puts ≡ puts_in visits
  pub wide : length tally.failed ≡ 16
  pub failed : (s : ℕ) → flag_at tally.failed s ≡ did_fail visits s
