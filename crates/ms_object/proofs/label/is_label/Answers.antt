use Rattle.std.proofs.Common.{◌≡◌, rules}
use Rattle.std.specs.Prelude.{not}
use Rattle.ms_object.specs.Labels.{is_label}
use Rattle.ms_object.proofs.LabelLaws.{label_decided}
use Rattle.ms_object.proofs.label.is_label.Goals as goal

pub returns-then-not-is_dots : goal.returns-then-not-is_dots
unfolding is_label
returns-then-not-is_dots c =
    let test : not c.has_separator.result ≡ is_label c.args.label.now = search rules in
    record { exact = label_decided _ c.args.label.now test; test = test }

pub returns-else-not-is_dots : goal.returns-else-not-is_dots
unfolding is_label
returns-else-not-is_dots c =
    let test : c.if-label-le-MOST_LABEL.value ≡ is_label c.args.label.now = search rules in
    record { exact = label_decided _ c.args.label.now test; test = test }
