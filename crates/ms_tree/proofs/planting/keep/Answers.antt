use Rattle.std.proofs.Common.{ℕ, List, [], ◌∷◌, OnOk, subst}
use Rattle.ms_object.specs.Stores.{text_of}
use Rattle.ms_tree.specs.Planting.{AddsTexts}
use Rattle.ms_tree.proofs.Stored.{kept_text}
use Rattle.ms_tree.proofs.planting.keep.Goals as goal

pub returns-clause-texts : goal.returns-clause-texts
returns-clause-texts c =
    let kept = kept_text c.add.result (text_of c.args.store.now) (text_of c.add.new.self) c.from_vec.result c.add.ensures.texts in
    subst (λ (text : List ℕ). OnOk c.add.result (AddsTexts (text_of c.args.store.now) (text_of c.add.new.self) (text ∷ []))) c.from_vec.ensures kept
