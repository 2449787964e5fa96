use Rattle.std.proofs.Common.{◌∷◌, [], subst}
use Rattle.ms_core.specs.declared.want.Wanted.{Wanted}
use Rattle.ms_core.specs.Placing.{want_of, wanted_of}
use Rattle.ms_world.specs.Reaching.{Meets}
use Rattle.ms_world.proofs.MeetLaws.{meets_next}
use Rattle.ms_object.specs.declared.object.SizedRow.{SizedRow}
use Rattle.ms_world.proofs.placing.meet_sized_rows.Goals as goal

pub loop-row-preserved : goal.loop-row-preserved
loop-row-preserved c =
    let row = c.row-item.result in
    meets_next (λ (row : SizedRow). want_of (wanted_of row.kind) row.name) c.args.rows.now c.loop-row.row-index row c.args.met.now c.loop-row.met c.meet.new.self c.loop-row-test.true c.row-item.is c.loop-row.invariant
    (subst (λ (wanted : Wanted). Meets (want_of wanted row.name ∷ []) c.loop-row.met c.meet.new.self) c.wanted_as.ensures c.in_ok-meet.ensures.meets)
