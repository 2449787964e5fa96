use Rattle.std.proofs.Common.{◌≡◌, rules}
use Rattle.ms_text.specs.Labels.{is_label}
use Rattle.ms_text.specs.LabelLaws.{label_decided}
use Rattle.ms_text.proofs.label.is_client_label.Goals as goal

pub returns-then-text-ne45 : goal.returns-then-text-ne45
unfolding is_label
returns-then-text-ne45 c =
    let test : c.are_label_bytes.result ≡ is_label c.args.text.now = search rules in
    record { exact = label_decided _ c.args.text.now test; test = test }

pub returns-else-text-ne45 : goal.returns-else-text-ne45
unfolding is_label
returns-else-text-ne45 c =
    let test : c.if-text-le-CLIENT_LABEL_BYTES.value ≡ is_label c.args.text.now = search rules in
    record { exact = label_decided _ c.args.text.now test; test = test }
