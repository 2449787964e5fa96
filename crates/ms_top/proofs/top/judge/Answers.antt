use Rattle.std.specs.Prelude.{Some}
use Rattle.ms_base.specs.Outside.{outside}
use Rattle.ms_words.specs.Commands.{command_with}
use Rattle.ms_top.proofs.RunLaws.{judged, runs_carried}
use Rattle.ms_top.proofs.top.judge.Goals as goal

pub returns : goal.returns
returns g c =
    let old = outside g.I.Inputs.seen c.args.inputs.now in
    let new = outside g.I.Inputs.seen c.on_input-given.new.inputs in
    runs_carried (Some (command_with c.args.verb c.args.name.now)) old new c.on_input-given.result _ _ c.tell.result
    (judged c.args.verb c.args.name.now old new c.on_input-given.result c.on_input-given.ensures) c.tell.ensures.told c.tell.ensures.sink
