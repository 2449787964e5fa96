use Rattle.std.proofs.Common.{◌≡◌, ◌<◌, ◌∙◌, [], None, List, ℕ, true, false, ap, sym, length, arith}
use Rattle.std.proofs.lemmas.List.{get_or_read}
use Rattle.ms_world.specs.Worlds.{ClientView, WorldView}
use Rattle.ms_world.proofs.Acting.{started}
use Rattle.ms_world.proofs.state.State.start_client.Goals as goal

pub returns-clause-ok : goal.returns-clause-ok
returns-clause-ok c =
    let i = c.self.inside in
    let inside : WorldView = record { logs = i.logs.items; requests = i.requests.items; clients = i.clients.items } in
    let less : c.args.client.0 < length inside.clients = omega (arith, i.clients.ok.0) in
    let m = c.index_mut.result.now in
    let read = c.index.result.now in
    let same : m ≡ read = get_or_read inside.clients c.args.client.0 m less c.index_mut.ensures.value read ∙ sym c.index.ensures in
    let off : m.on ≡ false = ap (λ (x : ClientView). x.on) (same ∙ sym c.behind-self.view_is) ∙ c.if-index.false in
    started c.args.setting.now inside c.args.self.now c.args.client.0 m c.start.new.self c.self.view_is less c.index_mut.ensures.value off
    (c.start.ensures ∙ ap (λ (k : List ℕ). let v : ClientView = record { on = true; kept = m.kept; offers = m.offers; known = k; chain = []; bid = None } in v) c.in_ok-known.ensures)
