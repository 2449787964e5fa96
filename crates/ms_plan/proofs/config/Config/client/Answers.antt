use Rattle.std.proofs.Common.{◌≡◌, ℕ, Some, ap, subst, slice_get}
use Rattle.std.specs.Prelude.{bytes_eq, position}
use Rattle.ms_plan.specs.Configuration.{ConfigView, client_of}
use Rattle.ms_plan.proofs.LabelLists.{one_place, placed}
use Rattle.ms_plan.proofs.config.Config.client.Goals as goal

pub returns-in_err-at-clause-only : goal.returns-in_err-at-clause-only
returns-in_err-at-clause-only c =
    subst (λ (v : ConfigView). (number : ℕ) → slice_get v.clients number ≡ Some c.args.label.now → c.from_residual.result ≡ Some (client_of number)) c.self.view_is
    (λ number at.
    let place : position (λ l. bytes_eq l c.args.label.now) c.self.inside.clients.items ≡ Some number = one_place c.self.inside.clients.items c.args.label.now number c.self.invariant.client_labels at in
    absurd (cc (c.in_err-at.was, c.place_of.ensures, c.deref.ensures.value)))

pub returns-clause-found : goal.returns-clause-found
returns-clause-found c =
    subst (λ (v : ConfigView). slice_get v.clients c.in_ok-at.at ≡ Some c.args.label.now) c.self.view_is
    (placed c.self.inside.clients.items c.args.label.now (Some c.in_ok-at.at) (cc (c.in_ok-at.was, c.place_of.ensures, c.deref.ensures.value)))

pub returns-clause-only : goal.returns-clause-only
returns-clause-only c =
    subst (λ (v : ConfigView). (number : ℕ) → slice_get v.clients number ≡ Some c.args.label.now → Some (client_of c.in_ok-at.at) ≡ Some (client_of number)) c.self.view_is
    (λ number at.
    let place : position (λ l. bytes_eq l c.args.label.now) c.self.inside.clients.items ≡ Some number = one_place c.self.inside.clients.items c.args.label.now number c.self.invariant.client_labels at in
    let same : Some c.in_ok-at.at ≡ Some number = cc (c.in_ok-at.was, c.place_of.ensures, c.deref.ensures.value) in
    ap (λ (o : ℕ). Some (client_of o)) (same_number c.in_ok-at.at number same))
  where
    same_number : (a b : ℕ) → Some a ≡ Some b → a ≡ b
    same_number a b e = cc
