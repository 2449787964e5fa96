use Rattle.std.proofs.Common.{◌≡◌, sym, ◌∙◌, subst}
use Rattle.ms_replay.specs.Places.{AreInOrder, AreKept}
use Rattle.ms_replay.proofs.tally.Tally.add_list.Goals as goal

pub invariant_of-self : goal.invariant_of-self
invariant_of-self c =
    let services = c.take_all_back.ensures.services ∙ c.put_all.ensures.services in
    let places = c.take_all_back.ensures.places ∙ c.put_all.ensures.back in
    let same : c.take_all_back.new.self ≡ c.self.inside.places = λ i. record { services = services i; places = places i } in
    record {
      kept = subst AreKept (sym same) c.self.invariant.kept;
      sorted = subst AreInOrder (sym same) c.self.invariant.sorted;
    }
