use Rattle.ms_record.specs.InForce.{begins_lower, formats_rise, generations_rise}
use Rattle.ms_core.proofs.Living.{floor_low}
use Rattle.ms_core.proofs.Telling.{tells}
use Rattle.ms_core.proofs.Viewing.{view_backed, view_begins}
use Rattle.ms_core.specs.Views.{log_in}
use Rattle.ms_record.specs.Settings.{origin_of}
use Rattle.ms_core.proofs.view_law.floors_told.Goals as goal

pub returns-clause-floors : goal.returns-clause-floors
returns-clause-floors c = λ view setting chain t is service floor has.
    let h = tells view setting t.closed t.told in
    floor_low setting (log_in view) chain h.ranges (view_begins c.chain_laws.ensures setting view h) is floor (view_backed setting view h service floor has)

pub returns-clause-rises : goal.returns-clause-rises
returns-clause-rises c = λ votes setting a linked i more. generations_rise votes (origin_of setting) a linked i more

pub returns-clause-begins : goal.returns-clause-begins
returns-clause-begins c = λ votes setting a b linked begins. begins_lower votes (origin_of setting) a b linked begins

pub returns-clause-formats : goal.returns-clause-formats
returns-clause-formats c = λ votes setting a linked i more. formats_rise votes (origin_of setting) a linked i more
