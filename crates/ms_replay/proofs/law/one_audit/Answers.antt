use Rattle.ms_replay.specs.Audits.{lists_of, origin_of}
use Rattle.ms_replay.proofs.OneAudit.{audits_meet}
use Rattle.ms_replay.proofs.law.one_audit.Goals as goal

pub returns : goal.returns
returns c = λ dump a b h g. audits_meet (lists_of dump.lists) (origin_of dump.genesis.0 dump.services) a b c.one_chain.ensures.one_there h g
