use Rattle.std.proofs.Common.{◌+◌, length}
use Rattle.ms_core.proofs.Behind.{next_chosen, next_offered, next_supported}
use Rattle.ms_core.proofs.Telling.{tells, vote_offered}
use Rattle.ms_core.proofs.view_law.next_behind.Goals as goal

pub returns-clause-offered : goal.returns-clause-offered
returns-clause-offered c = λ view setting a b e t linked there. next_offered c.chain_laws.ensures setting view (tells view setting t.closed t.told) a b e linked there

pub returns-clause-voted : goal.returns-clause-voted
returns-clause-voted c = λ view setting a service place b e t linked at.
    let h = tells view setting t.closed t.told in
    next_offered c.chain_laws.ensures setting view h a b e linked (vote_offered view setting h service place (length a + 1) b e at)

pub returns-clause-chosen : goal.returns-clause-chosen
returns-clause-chosen c = λ view setting a e t linked chosen. next_chosen c.chain_laws.ensures setting view (tells view setting t.closed t.told) a e linked chosen

pub returns-clause-supported : goal.returns-clause-supported
returns-clause-supported c = λ view setting a client before b e linked own later justified next. next_supported setting view a client before b e linked own later justified next
