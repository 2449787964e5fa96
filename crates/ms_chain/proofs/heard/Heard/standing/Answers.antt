use Rattle.std.proofs.Common.{ℕ, ◌<◌, List, ◌∙◌, sym, ap, subst, length}
use Rattle.ms_chain.proofs.heard.Heard.standing.Goals as goal

pub chosen-requires-clause-known : goal.chosen-requires-clause-known
chosen-requires-clause-known c = λ s is.
    subst (λ (n : ℕ). s < n) (sym (c.self.invariant.services ∙ ap (λ (lists : List (List (List ℕ))). length lists) c.self.view_is)) (c.requires.below s is)
