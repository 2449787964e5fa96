use Rattle.std.proofs.Common.{◌∙◌, List, ap, sym}
use Rattle.ms_world.proofs.Members.{name_last}
use Rattle.ms_world.specs.Worlds.{ClientView}
use Rattle.ms_record.specs.declared.entry.Entry.{Entry}
use Rattle.ms_record.specs.Chains.{last_name}
use Rattle.ms_record.specs.Entries.{name_of}
use Rattle.ms_world.proofs.client.Client.last_name.Goals as goal

pub returns-in-Some : goal.returns-in-Some
returns-in-Some c =
    let genesis = c.args.setting.now.genesis in
    c.entry_name.ensures ∙ sym (name_last (name_of genesis) c.deref.result.now c.in-Some.entry.now (sym c.in-Some.ensures.value))
    ∙ ap (λ (xs : List Entry). last_name (name_of genesis) xs) (c.deref.ensures.value ∙ ap (λ (v : ClientView). v.chain) c.self.view_is)
