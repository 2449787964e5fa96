use Rattle.std.proofs.Common.{◌≡◌, ◌<◌, ◌∙◌, ℕ, List, Some, ap, sym, length, slice_get, get_or, arith}
use Rattle.std.proofs.lemmas.Option.{slice_get-get_or}
use Rattle.ms_world.specs.Worlds.{ClientView, WorldView}
use Rattle.ms_base.specs.Places.{some_same}
use Rattle.ms_world.proofs.world.chain_length.Goals as goal

item_at : (xs ys : List ClientView) (i : ℕ) (m : ClientView) → xs ≡ ys → i < length ys → m ≡ get_or xs i m → slice_get ys i ≡ Some m
item_at xs ys i m e below is = slice_get-get_or ys i m below ∙ ap Some (ap (λ (l : List ClientView). get_or l i m) (sym e) ∙ sym is)

at : (c : goal.After-len) → slice_get c.args.state.now.clients c.args.client.0 ≡ Some c.index.result.now
at c = item_at c.state.inside.clients.items c.args.state.now.clients c.args.client.0 c.index.result.now (ap (λ (w : WorldView). w.clients) c.state.view_is) c.requires.there c.index.ensures

long : (c : goal.After-len) → c.len.result ≡ length c.index.result.now.chain
long c = omega (arith, c.len.ensures, c.behind-state.inside.chain.ok.0, ap (λ (x : ClientView). length x.chain) c.behind-state.view_is)

pub overflow_cast-result : goal.overflow_cast-result
overflow_cast-result c = omega (arith, long c, c.requires.short c.index.result.now (at c))

pub returns : goal.returns
returns c = λ x is. long c ∙ ap (λ (y : ClientView). length y.chain) (some_same c.index.result.now x (sym (at c) ∙ is))
