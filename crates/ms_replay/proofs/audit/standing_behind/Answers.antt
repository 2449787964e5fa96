use Rattle.ms_record.specs.Chains.{voters_of}
use Rattle.ms_replay.proofs.Linking.{same_below}
use Rattle.ms_replay.proofs.audit.standing_behind.Goals as goal

pub chosen-requires-clause-known : goal.chosen-requires-clause-known
chosen-requires-clause-known c = same_below c.args.tally.now.services (voters_of c.args.made.now.plan) c.of_plan.result c.of_plan.ensures.are c.requires.known
