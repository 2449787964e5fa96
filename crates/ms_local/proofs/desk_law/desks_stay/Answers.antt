use Rattle.ms_local.proofs.DeskLaws.{deed_stays, work_stays, call_stays, read_stays, object_stays, objects_stay, state_stays, offer_stays}
use Rattle.ms_local.proofs.FirstLane.{lanes_on, lanes_self}
use Rattle.ms_local.proofs.desk_law.desks_stay.Goals as goal

pub returns-clause-deed : goal.returns-clause-deed
returns-clause-deed c = deed_stays

pub returns-clause-work : goal.returns-clause-work
returns-clause-work c = work_stays

pub returns-clause-call : goal.returns-clause-call
returns-clause-call c = call_stays

pub returns-clause-read : goal.returns-clause-read
returns-clause-read c = read_stays

pub returns-clause-object : goal.returns-clause-object
returns-clause-object c = object_stays

pub returns-clause-objects : goal.returns-clause-objects
returns-clause-objects c = objects_stay

pub returns-clause-state : goal.returns-clause-state
returns-clause-state c = state_stays

pub returns-clause-offer : goal.returns-clause-offer
returns-clause-offer c = offer_stays

pub returns-clause-lanes_self : goal.returns-clause-lanes_self
returns-clause-lanes_self c = lanes_self

pub returns-clause-lanes_on : goal.returns-clause-lanes_on
returns-clause-lanes_on c = lanes_on
