use Rattle.std.proofs.Common.{◌∙◌, List, ap, sym}
use Rattle.ms_world.proofs.Members.{version_last}
use Rattle.ms_world.specs.Steps.{last_version}
use Rattle.ms_world.specs.Worlds.{ClientView}
use Rattle.ms_record.specs.declared.entry.Entry.{Entry}
use Rattle.ms_world.proofs.client.Client.version.Goals as goal

pub returns-in-Some : goal.returns-in-Some
returns-in-Some c =
    let version = c.args.setting.now.genesis.version in
    sym (version_last version c.deref.result.now c.in-Some.entry.now (sym c.in-Some.ensures.value))
    ∙ ap (λ (xs : List Entry). last_version version xs) (c.deref.ensures.value ∙ ap (λ (v : ClientView). v.chain) c.self.view_is)
