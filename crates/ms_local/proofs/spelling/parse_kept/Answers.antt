use Rattle.std.proofs.Common.{ap, ◌∙◌, arith}
use Rattle.ms_local.specs.States.{kept_at}
use Rattle.ms_local.proofs.StateLaws.{kept_is_found_by}
use Rattle.ms_local.proofs.spelling.parse_kept.Goals as goal

pub returns-clause-found : goal.returns-clause-found
returns-clause-found c = kept_is_found_by c.kept_laws.ensures.read c.args.text.now c.read_tagged.result (λ i. omega (arith, c.type_inv.text i)) c.read_tagged.ensures

pub returns-clause-only : goal.returns-clause-only
returns-clause-only c = λ kept h is. c.read_tagged.ensures ∙ ap kept_at is ∙ c.kept_laws.ensures.again kept h
