use Rattle.ms_record.specs.declared.item.Item.TheVariants.{Told}
use Rattle.ms_local.proofs.GoingOn.{faults_go, fault_wider, goes_called, goes_noted, goes_on, goes_self, tells_on}
use Rattle.ms_local.proofs.deed_law.desks_go_on.Goals as goal

pub returns-clause-nothing : goal.returns-clause-nothing
returns-clause-nothing c = goes_self

pub returns-clause-on : goal.returns-clause-on
returns-clause-on c = goes_on

pub returns-clause-called : goal.returns-clause-called
returns-clause-called c = goes_called

pub returns-clause-noted : goal.returns-clause-noted
returns-clause-noted c = goes_noted

pub returns-clause-told : goal.returns-clause-told
returns-clause-told c = λ old new closed goes setting known. c.configuration_stays.ensures.stays old.pass.lists new.pass.lists (Told setting) closed goes.pass.more known

pub returns-clause-events : goal.returns-clause-events
returns-clause-events c = λ old new service event goes there. c.views_grow.ensures.events old.pass.lists new.pass.lists service event goes.pass.more there

pub returns-clause-faults : goal.returns-clause-faults
returns-clause-faults c = λ old new service goes. faults_go old new service goes

pub returns-clause-wider : goal.returns-clause-wider
returns-clause-wider c = λ old low high new service before after fault. fault_wider old low high new before after service fault

pub returns-clause-tells : goal.returns-clause-tells
returns-clause-tells c = λ old new s goes told. tells_on old new s goes.lanes told
