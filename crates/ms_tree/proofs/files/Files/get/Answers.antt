use Rattle.std.proofs.Common.{ℕ, List, Option, Some, Bor, sym, ap, ◌∙◌}
use Rattle.std.specs.Option.{option_copied}
use Rattle.ms_tree.proofs.InsideLaws.{found}
use Rattle.ms_tree.proofs.files.Files.get.Goals as goal

pub returns-in-Some : goal.returns-in-Some
returns-in-Some c =
    ap (λ (text : List ℕ). Some text) c.as_slice.ensures
    ∙ ap (λ (o : Option (Bor (List ℕ))). option_copied o) (sym c.in-Some.is)
    ∙ c.get.ensures.value ∙ found c.self.inside.map.entries c.args.self.now c.args.path.now c.self.view_is

pub returns-in-None : goal.returns-in-None
returns-in-None c =
    ap (λ (o : Option (Bor (List ℕ))). option_copied o) (sym c.in-None.is)
    ∙ c.get.ensures.value ∙ found c.self.inside.map.entries c.args.self.now c.args.path.now c.self.view_is
