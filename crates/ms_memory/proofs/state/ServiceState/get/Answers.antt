use Rattle.std.proofs.Common.{◌≡◌, None, sym, subst, rules}
use Rattle.ms_core.specs.Views.{log_in}
use Rattle.ms_record.specs.Floors.{above_floor}
use Rattle.ms_memory.proofs.Serving.{none_put}
use Rattle.ms_memory.specs.Served.{Served}
use Rattle.ms_memory.specs.Shelves.{text_at}
use Rattle.ms_record.specs.Logs.{HasPut, NoDropAbove}
use Rattle.ms_memory.proofs.state.ServiceState.get.Goals as goal

pub returns-in-None : goal.returns-in-None
returns-in-None g c =
    let shelf = c.self.inside.shelf in
    let log = log_in c.self.inside.pass.lists c.self.inside.service.0 in
    let holds = c.self.invariant.holds in
    let above = subst (λ (v : Served). NoDropAbove v.log c.args.generation) (sym c.self.view_is) c.requires in
    let kept = holds.kept c.args.generation c.args.name.now (above_floor log shelf.floor c.args.generation holds.floor above) in
    let none : text_at shelf.store c.args.generation c.args.name.now ≡ None = search rules in
    subst (λ (v : Served). HasPut v.log c.args.generation c.args.name.now → ⊥) c.self.view_is (none_put log c.args.generation c.args.name.now (text_at shelf.store c.args.generation c.args.name.now) kept none)
