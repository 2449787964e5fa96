use Rattle.ms_core.proofs.FirstBids.{first_bids, second_bids}
use Rattle.ms_core.proofs.OneService.{Read}
use Rattle.ms_core.proofs.view_law.first_bids.Goals as goal

read : (c : goal.After-one_spelling-2) → Read
read c = record { records = c.one_spelling-2.ensures.again; objects = c.one_spelling.ensures.again; one_value = c.one_spelling.ensures.one_value }

pub returns-clause-first : goal.returns-clause-first
returns-clause-first c = first_bids (read c)

pub returns-clause-second : goal.returns-clause-second
returns-clause-second c = second_bids c.one_chain.ensures.chosen (read c)
