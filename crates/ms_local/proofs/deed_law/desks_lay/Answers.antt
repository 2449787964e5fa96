use Rattle.std.proofs.Common.{List, [], ◌∷◌, ◌++◌, append_assoc, refl, sym, ap, ◌∙◌}
use Rattle.std.proofs.lemmas.List.{append-nil}
use Rattle.ms_local.specs.declared.deed.Deed.{Deed}
use Rattle.ms_local.proofs.ObjectDeeds.{called_grows, no_looks, no_offers, noted_grows}
use Rattle.ms_local.proofs.deed_law.desks_lay.Goals as goal

pub returns-clause-nothing : goal.returns-clause-nothing
returns-clause-nothing c = λ desk is. record {
  effect = c.desks_go_on.ensures.nothing desk;
  told = λ setting known. known;
  grows = sym (append-nil desk.deeds);
  truths = c.truths_go_on.ensures.nothing desk;
  history = c.truths_go_on.ensures.own_nothing desk;
  desk = is;
}

pub returns-clause-on : goal.returns-clause-on
returns-clause-on c = λ old mid new deeds more h k. record {
  effect = c.desks_go_on.ensures.on old mid new h.effect k.effect;
  told = λ setting known. k.told setting (h.told setting known);
  grows = k.grows ∙ (ap (λ (xs : List Deed). xs ++ more) h.grows ∙ append_assoc old.deeds deeds more);
  truths = c.truths_go_on.ensures.on old mid new h.effect h.told k.effect h.truths k.truths;
  history = c.truths_go_on.ensures.own_on old mid new h.effect h.history k.history;
  desk = k.desk;
}

pub returns-clause-called : goal.returns-clause-called
returns-clause-called c = λ service old new before after closed calls.
    let goes = c.desks_go_on.ensures.called service old new calls in
    let grows = called_grows service old new calls in
    record {
      effect = goes;
      told = c.desks_go_on.ensures.told old new closed goes;
      grows = grows;
      truths = c.truths_go_on.ensures.quiet old new grows;
      history = c.truths_go_on.ensures.own_called old new [] before goes grows refl;
      desk = after;
    }

pub returns-clause-noted : goal.returns-clause-noted
returns-clause-noted c = λ service old new deed before after closed calls object is.
    let goes = c.desks_go_on.ensures.noted service old new deed calls in
    let grows = noted_grows service old new deed calls in
    record {
      effect = goes;
      told = c.desks_go_on.ensures.told old new closed goes;
      grows = grows;
      truths = c.truths_go_on.ensures.noted old new deed grows is (no_looks old new deed object);
      history = c.truths_go_on.ensures.own_called old new (deed ∷ []) before goes grows (no_offers deed object);
      desk = after;
    }
