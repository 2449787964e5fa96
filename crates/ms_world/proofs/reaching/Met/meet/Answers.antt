use Rattle.std.proofs.Common.{◌∷◌, ◌++◌, [], List, sym, ap, subst, ◌∙◌, Contains}
use Rattle.ms_core.specs.declared.want.Want.{Want}
use Rattle.ms_world.specs.Reaching.{HaveSame}
use Rattle.ms_world.proofs.MeetLaws.{known_in, unknown_in, known_more, meets_known}
use Rattle.ms_world.proofs.reaching.Met.meet.Goals as goal

pub returns-then-contains-clause-meets : goal.returns-then-contains-clause-meets
returns-then-contains-clause-meets c =
    meets_known c.args.want c.args.self.now (subst (λ (l : List Want). Contains l c.args.want) c.self.view_is
    (known_in c.self.inside.known c.self.inside.wants.items c.args.want c.self.invariant (sym c.contains.ensures ∙ c.if-contains.true)))

pub invariant_of-self-2 : goal.invariant_of-self-2
invariant_of-self-2 c =
    let wants = c.self.inside.wants.items in
    subst (HaveSame c.insert.new.self.keys) (sym (c.push_reserved.ensures.items ∙ ap (λ (l : List Want). l ++ c.args.want ∷ []) c.reserve.ensures.items))
    (known_more c.self.inside.known c.insert.new.self wants c.args.want c.in_ok-insert.ensures.keys c.in_ok-insert.ensures.updates.0 c.in_ok-insert.ensures.updates.1 c.self.invariant)

pub returns-clause-once : goal.returns-clause-once
returns-clause-once c = λ there.
    absurd (unknown_in c.self.inside.known c.self.inside.wants.items c.args.want c.self.invariant (sym c.contains.ensures ∙ c.if-contains.false)
    (subst (λ (l : List Want). Contains l c.args.want) (sym c.self.view_is) there))
