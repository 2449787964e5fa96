use Rattle.std.proofs.Common.{◌≡◌, Some, sym, ap, subst, ◌∙◌}
use Rattle.std.specs.Prelude.{IfSome, Option, List, ℕ}
use Rattle.ms_object.specs.Objects.{name_of}
use Rattle.ms_object.specs.Stores.{text_of}
use Rattle.ms_object.proofs.StoreLaws.{text_named}
use Rattle.ms_object.proofs.store.Store.get.Goals as goal

pub returns-in-Some-clause-named : goal.returns-in-Some-clause-named
returns-in-Some-clause-named c =
    let name = c.args.name.now.0 in
    let found : text_of c.self.inside.texts.entries name ≡ Some c.as_slice.result.now = sym c.in-Some.ensures.value ∙ ap (λ (text : List ℕ). Some text) (sym c.as_slice.ensures) in
    subst (λ (o : Option (List ℕ)). IfSome o (λ text. name ≡ name_of text)) found (text_named c.self.inside.texts.entries name c.self.invariant)
