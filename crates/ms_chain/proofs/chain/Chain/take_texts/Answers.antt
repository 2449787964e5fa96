use Rattle.std.proofs.Common.{◌≡◌, ℕ, ◌<◌, List, [], ◌∷◌, ◌++◌, sym, ap, ◌∙◌, subst, length, append_assoc, arith}
use Rattle.std.specs.Vec.Iter.{into_iter_items}
use Rattle.ms_local.specs.Learning.{ChainView}
use Rattle.ms_chain.specs.Readings.{with_texts}
use Rattle.ms_chain.proofs.ReadingOn.{all_came, many_with, takes_front, with_more, with_none}
use Rattle.ms_chain.proofs.chain.Chain.take_texts.Goals as goal

pub loop-text-init : goal.loop-text-init
loop-text-init c =
    let gives = c.into_iter-text-iterator.ensures.into_iter_gives in
    record { is = sym (with_none c.args.self.now c.args.service.0); front = sym c.into_vec-text-items.ensures ∙ sym gives.0; left = (let many = gives.1 in let same : length (into_iter_items c.into_iter-text-iterator.result) ≡ length c.into_vec-text-items.result.items = ap (λ (ts : List (List ℕ)). length ts) gives.0 in let ok = c.into_vec-text-items.result.ok.0 in omega arith) }

pub take_text-requires : goal.take_text-requires
take_text-requires c =
    let old = c.args.self.now in
    let s = c.args.service.0 in
    subst (λ (n : ℕ). s < n) (sym (ap (λ (v : ChainView). length v.lists) c.loop-text.invariant.is ∙ many_with old s c.loop-text.yielded)) c.requires

pub loop-text-preserved : goal.loop-text-preserved
loop-text-preserved c =
    let old = c.args.self.now in
    let s = c.args.service.0 in
    let yielded = c.loop-text.yielded in
    let text = c.in-Some.text in
    let steps = c.in-Some.ensures.steps in
    record {
      is = c.in_ok-take_text.ensures.ok ∙ ap (λ (v : ChainView). with_texts v s (text ∷ [])) c.loop-text.invariant.is ∙ with_more old s yielded text c.requires;
      front = c.loop-text.invariant.front ∙ ap (λ (rest : List (List ℕ)). yielded ++ rest) steps.0 ∙ sym (append_assoc yielded (text ∷ []) (into_iter_items c.next.new.self));
      left =
          let more = ap (λ (ts : List (List ℕ)). length ts) steps.0 in
          let one = steps.1 in
          let left = c.loop-text.invariant.left in
          omega arith;
    }

pub returns-in_err-take_text : goal.returns-in_err-take_text
returns-in_err-take_text c =
    takes_front c.args.self.now c.take_text.new.self c.args.service.0 c.args.texts c.loop-text.yielded c.from_residual.result c.from_residual.ensures.0 (into_iter_items c.loop-text.text-iterator, sym c.loop-text.invariant.front)
    (c.in_err-take_text.ensures.err ∙ c.loop-text.invariant.is)

pub returns : goal.returns
returns c =
    let left = c.loop-text.invariant.left in
    let none = c.in-None.ensures.steps.0 in
    c.loop-text.invariant.is
    ∙ ap (with_texts c.args.self.now c.args.service.0) (all_came c.loop-text.yielded (into_iter_items c.loop-text.text-iterator) c.args.texts c.loop-text.invariant.front (omega (arith, left, none)))
