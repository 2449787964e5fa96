use Rattle.std.proofs.Common.{◌∙◌}
use Rattle.ms_object.proofs.LabelLaws.{text_decided}
use Rattle.ms_object.proofs.label.is_text.Goals as goal

pub returns : goal.returns
returns c = c.is_ok.ensures.value ∙ text_decided _ _ c.from_utf8.result c.args.label.now c.from_utf8.ensures.cases
