use Rattle.ms_world.proofs.Floors.{floor_kept, floor_raised, no_floor_rec}
use Rattle.ms_world.proofs.service.floor_behind.Goals as goal

pub returns-then-below-floor : goal.returns-then-below-floor
returns-then-below-floor c = λ log h. floor_raised log c.args.event.now c.args.floor c.in-Drop.below c.in-Drop.is c.if-below-floor.true h

pub returns-else-below-floor : goal.returns-else-below-floor
returns-else-below-floor c = λ log h. floor_kept log c.args.event.now c.args.floor c.in-Drop.below c.in-Drop.is c.if-below-floor.false h

pub returns-in-Rec : goal.returns-in-Rec
returns-in-Rec c = λ log h. no_floor_rec log c.args.event.now c.args.floor (λ other e. let is = c.in-Rec.is in cc) h

pub returns-in-Put : goal.returns-in-Put
returns-in-Put c = λ log h. no_floor_rec log c.args.event.now c.args.floor (λ other e. let is = c.in-Put.is in cc) h
