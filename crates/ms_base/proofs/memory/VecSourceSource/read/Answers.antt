use Rattle.std.proofs.Common.{◌∙◌, ap, sym, arith}
use Rattle.ms_base.specs.Memory.{Feed}
use Rattle.ms_base.proofs.Known.{read_step}
use Rattle.ms_base.proofs.memory.VecSourceSource.read.Goals as goal

pub returns-clause-bytes : goal.returns-clause-bytes
returns-clause-bytes c = ap (λ (f : Feed). f.left) (sym c.self.view_is) ∙ read_step c.self.inside.text c.args.into.now c.copy_from_slice.new.self c.self.inside.at c.min-count.result c.copy_from_slice.ensures.len (omega (arith, c.min-most.ensures, c.min-count.ensures)) (rw c.as_slice.ensures at c.copy_from_slice.ensures.after)
