use Rattle.std.proofs.Common.{◌≡◌, ◌++◌, ◌∷◌, [], List, sym, ap, subst, ◌∙◌}
use Rattle.sha2.specs.Sha256.{sha256}
use Rattle.std.proofs.lemmas.Result.{on_ok_weaker}
use Rattle.ms_world.specs.PutTexts.{ArePutsNamed}
use Rattle.ms_world.proofs.PutLaws.{named_more}
use Rattle.ms_record.specs.declared.log.LogEvent.{LogEvent}
use Rattle.ms_world.proofs.placing.tests.put.Goals as goal

pub returns : goal.returns
returns c = λ old.
    let is : c.name_of.result.0 ≡ sha256 c.args.text = c.name_of.ensures ∙ ap sha256 c.as_slice.ensures in
    on_ok_weaker c.push.result (λ e. subst ArePutsNamed (sym e) (named_more c.args.log.now c.args.generation c.name_of.result c.args.text is old)) c.push.ensures.ok
