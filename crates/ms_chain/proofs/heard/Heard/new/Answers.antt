use Rattle.std.proofs.Common.{◌≡◌, ℕ, List, [], sym, ap, ◌∙◌, subst, length, map, replicate}
use Rattle.std.proofs.lemmas.List.{length-replicate}
use Rattle.ms_replay.specs.Audits.{lists_of}
use Rattle.ms_replay.specs.Tallies.{IsTallyOf}
use Rattle.ms_chain.specs.Heard.{IsGreatestSeen}
use Rattle.ms_chain.proofs.Keeping.{keeps_none}
use Rattle.ms_chain.proofs.heard.Heard.new.Goals as goal

pub invariant_of-result : goal.invariant_of-result
invariant_of-result c =
    let n = c.args.services in
    let tally = c.in_ok-new.field-0 in
    let none : List (List ℕ) = [] in
    let are : map (λ list. list.items) c.in_ok-no_texts.field-0.items ≡ replicate n none = c.in_ok-no_texts.ensures in
    let keeps = keeps_none n tally (c.in_ok-new.ensures.services ∙ sym (length-replicate n none)) c.in_ok-new.ensures.start in
    record {
      services = keeps.services ∙ ap (λ (v : List (List (List ℕ))). length v) (sym are);
      tally = subst (λ (v : List (List (List ℕ))). IsTallyOf (lists_of v) tally) (sym are) keeps.tally;
      seen = subst (λ (v : List (List (List ℕ))). IsGreatestSeen (lists_of v) 0) (sym are) keeps.seen;
    }
