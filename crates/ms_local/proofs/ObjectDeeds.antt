-- Deeds on objects.
use Rattle.std.proofs.Common.{◌≡◌, ℕ, [], ◌∷◌, ◌++◌, refl, sym, ap, ◌∙◌}
use Rattle.std.proofs.lemmas.List.{append-nil}
use Rattle.ms_local.specs.declared.deed.Deed.{Deed}
use Rattle.ms_local.specs.declared.deed.Deed.TheVariants.{Asked, Got, Put}
use Rattle.ms_local.specs.Calls.{DeskCalls}
use Rattle.ms_local.specs.Desks.{DeskView, with_deed}
use Rattle.ms_local.specs.Truths.{TrueLooks, offers_of}
use Rattle.ms_local.specs.Laying.{IsObjectDeed}

pub no_looks : (old new : DeskView) (deed : Deed) → IsObjectDeed deed → (position round : ℕ) → TrueLooks old new position round (deed ∷ [])
no_looks old new (Asked service generation name present ok floor) is position round = tt
no_looks old new (Put service generation name ok floor) is position round = tt
no_looks old new (Got service generation name found ok floor) is position round = tt
no_looks old new deed is position round = absurd is

pub no_offers : (deed : Deed) → IsObjectDeed deed → offers_of (deed ∷ []) ≡ []
no_offers (Asked service generation name present ok floor) is = refl
no_offers (Put service generation name ok floor) is = refl
no_offers (Got service generation name found ok floor) is = refl
no_offers deed is = absurd is

pub called_grows : (service : ℕ) (old new : DeskView) → DeskCalls service old new → new.deeds ≡ old.deeds ++ []
called_grows service old new h = ap (λ (d : DeskView). d.deeds) h.same ∙ sym (append-nil old.deeds)

pub noted_grows : (service : ℕ) (old new : DeskView) (deed : Deed) → DeskCalls service (with_deed old deed) new → new.deeds ≡ old.deeds ++ deed ∷ []
noted_grows service old new deed h = ap (λ (d : DeskView). d.deeds) h.same
