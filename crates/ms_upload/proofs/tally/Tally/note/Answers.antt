use Rattle.std.proofs.Common.{refl, ap, arith}
use Rattle.ms_upload.specs.Visits.{counts_present, counts_put, fails}
use Rattle.ms_upload.proofs.Counting.{noted_failed, noted_same}
use Rattle.ms_upload.proofs.tally.Tally.note.Goals as goal

pub returns-in-Present : goal.returns-in-Present
returns-in-Present c = λ visits h. noted_same visits c.args.service c.args.met c.args.self.now _ h (omega (arith, ap counts_present c.in-Present.is)) (omega (arith, ap counts_put c.in-Present.is)) (ap fails c.in-Present.is) refl

pub returns-in-Taken : goal.returns-in-Taken
returns-in-Taken c = λ visits h. noted_same visits c.args.service c.args.met c.args.self.now _ h (omega (arith, ap counts_present c.in-Taken.is)) (omega (arith, ap counts_put c.in-Taken.is)) (ap fails c.in-Taken.is) refl

pub returns-in-AskFailed : goal.returns-in-AskFailed
returns-in-AskFailed c = λ visits h. noted_failed visits c.args.service c.args.met c.args.self.now _ h (omega (arith, ap counts_present c.in-AskFailed.is)) (omega (arith, ap counts_put c.in-AskFailed.is)) (ap fails c.in-AskFailed.is) c.requires.service c.add.ensures

pub returns-in-PutFailed : goal.returns-in-PutFailed
returns-in-PutFailed c = λ visits h. noted_failed visits c.args.service c.args.met c.args.self.now _ h (omega (arith, ap counts_present c.in-PutFailed.is)) (omega (arith, ap counts_put c.in-PutFailed.is)) (ap fails c.in-PutFailed.is) c.requires.service c.add-in-PutFailed.ensures

pub returns-in-AskStale : goal.returns-in-AskStale
returns-in-AskStale c = λ visits h. noted_same visits c.args.service c.args.met c.args.self.now _ h (omega (arith, ap counts_present c.in-AskStale.is)) (omega (arith, ap counts_put c.in-AskStale.is)) (ap fails c.in-AskStale.is) refl

pub returns-in-PutStale : goal.returns-in-PutStale
returns-in-PutStale c = λ visits h. noted_same visits c.args.service c.args.met c.args.self.now _ h (omega (arith, ap counts_present c.in-PutStale.is)) (omega (arith, ap counts_put c.in-PutStale.is)) (ap fails c.in-PutStale.is) refl
