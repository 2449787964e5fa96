use Rattle.std.proofs.Common.{◌≡◌, ℕ, List, false, subst, rules}
use Rattle.std.specs.Prelude.{is_some}
use Rattle.ms_object.specs.Objects.{name_of}
use Rattle.ms_object.specs.Stores.{StoreView, text_of, text_after}
use Rattle.ms_object.proofs.StoreLaws.{stays_named, text_added}
use Rattle.ms_object.proofs.store.Store.add_named.Goals as goal

pub invariant_of-self-2 : goal.invariant_of-self-2
invariant_of-self-2 c =
    stays_named c.insert.result c.args.name.now c.args.text c.self.inside.texts.entries c.insert.new.self.entries c.requires.named c.self.invariant c.insert.ensures.entries c.insert.ensures.err

pub returns-clause-texts : goal.returns-clause-texts
returns-clause-texts c =
    let absent : is_some (text_of c.self.inside.texts.entries c.args.name.now.0) ≡ false = search rules in
    let there : c.self.inside.texts.entries ≡ c.args.self.now = search rules in
    subst (λ (old : StoreView). (q : List ℕ) → text_of c.insert.new.self.entries q ≡ text_after (text_of old) c.args.text q) there
    (text_added (text_of c.self.inside.texts.entries) (text_of c.insert.new.self.entries) c.args.name.now.0 c.args.text c.requires.named absent (λ q. c.in_ok-insert.ensures.updates.0 (record { 0 = q })))
