use Rattle.std.proofs.Common.{sym, subst, List, ℕ}
use Rattle.ms_record.specs.declared.key.Key.{Key}
use Rattle.ms_record.specs.declared.key.Key.TheVariants.{Object}
use Rattle.ms_local.specs.Outside.{IsKept}
use Rattle.ms_local.specs.Memory.{Shelf, texts_by}
use Rattle.ms_local.proofs.KeyLaws.{object_kept}
use Rattle.ms_local.proofs.memory.MemoryKeeperKeeper.write.Goals as goal

pub returns-in-Ok-clause-writes : goal.returns-in-Ok-clause-writes
returns-in-Ok-clause-writes c = λ t.
    subst (λ (shelf : Shelf). IsKept c.args.key.now c.args.text.now (texts_by shelf.state shelf.objects) (texts_by c.self.inside.state c.insert.new.self.entries)) c.self.view_is
    (subst (λ (k : Key). IsKept k c.args.text.now (texts_by c.self.inside.state c.self.inside.objects.entries) (texts_by c.self.inside.state c.insert.new.self.entries)) (sym c.in-Object.is)
    (subst (λ (x : List ℕ). IsKept (Object c.in-Object.name) x (texts_by c.self.inside.state c.self.inside.objects.entries) (texts_by c.self.inside.state c.insert.new.self.entries)) c.in_ok-text.ensures
    (object_kept c.self.inside.state c.self.inside.objects.entries c.insert.new.self.entries c.in-Object.name c.in_ok-text.text (λ q. c.in-Ok.ensures.updates.0 q))))
