use Rattle.ms_object.proofs.StoreLaws.{names_there}
use Rattle.ms_object.proofs.store.Store.shows.Goals as goal

pub returns-clause-there : goal.returns-clause-there
returns-clause-there c = names_there c.args.self.now
