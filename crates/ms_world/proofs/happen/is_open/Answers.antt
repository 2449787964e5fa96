use Rattle.std.proofs.Common.{arith}
use Rattle.std.proofs.lemmas.Bool.Decides.{nat_tests}
use Rattle.ms_record.specs.Floors.{above_floor, none_above}
use Rattle.ms_world.proofs.happen.is_open.Goals as goal

pub returns-then-generation-le-LAST_NUMBER : goal.returns-then-generation-le-LAST_NUMBER
returns-then-generation-le-LAST_NUMBER c = (
  λ is. record { some = omega arith; last = omega arith; above = none_above c.args.log.now c.floor.result c.args.generation c.floor.ensures (grind (arith, nat_tests, is)) },
  λ is. (let low = above_floor c.args.log.now c.floor.result c.args.generation c.floor.ensures is.above in grind (arith, nat_tests)),
)
