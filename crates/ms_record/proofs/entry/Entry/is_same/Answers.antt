use Rattle.std.proofs.Common.{sym, ◌∙◌}
use Rattle.ms_record.proofs.Sameness.{entries_decided}
use Rattle.ms_record.proofs.entry.Entry.is_same.Goals as goal

pub returns : goal.returns
returns c =
    let decided = entries_decided c.args.self.now c.args.other.now in
    (λ h. decided.0 (sym c.eq.ensures ∙ h), λ h. c.eq.ensures ∙ decided.1 h)
