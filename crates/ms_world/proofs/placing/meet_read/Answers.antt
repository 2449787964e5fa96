use Rattle.std.proofs.Common.{sym, ◌∙◌}
use Rattle.ms_world.proofs.ReachLaws.{met_text, same_format}
use Rattle.ms_world.proofs.placing.meet_read.Goals as goal

pub returns : goal.returns
returns c =
    let spells = rw c.in-Some.is at c.in_ok-object.ensures in
    met_text c.args.format c.one_spelling.ensures.one_value c.args.wanted c.args.text.now c.in-Some.object c.args.met.now c.meet_object.new.met c.meet_object.result spells
    (sym c.format_in.ensures ∙ same_format c.format_in.result c.args.format c.if-ne.ensures) c.meet_object.ensures
