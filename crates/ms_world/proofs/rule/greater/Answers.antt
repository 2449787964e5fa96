use Rattle.std.proofs.Common.{◌++◌, ◌∷◌, [], Option, sym, ◌∙◌, subst}
use Rattle.ms_record.specs.declared.ballot.Vote.{Vote}
use Rattle.ms_world.proofs.Promising.{seen_greater, seen_kept, seen_none}
use Rattle.ms_world.specs.Passes.{IsGreatestSeen}
use Rattle.ms_world.proofs.rule.greater.Goals as goal

pub returns-then-is_greater : goal.returns-then-is_greater
returns-then-is_greater c = λ seen sight is h.
    subst (λ (o : Option Vote). IsGreatestSeen (seen ++ sight ∷ []) o) (sym c.in-Some.is)
    (seen_greater seen sight c.args.found.now c.in-Some.vote (is ∙ c.in-Some.is) (c.is_greater.ensures.yes c.if-is_greater.true) h)

pub returns-else-is_greater : goal.returns-else-is_greater
returns-else-is_greater c = λ seen sight is h. seen_kept seen sight c.args.found.now c.in-Some.vote (is ∙ c.in-Some.is) (c.is_greater.ensures.no c.if-is_greater.false) h

pub returns-in-None : goal.returns-in-None
returns-in-None c = λ seen sight is h. seen_none seen sight c.args.found.now (is ∙ c.in-None.is) h
