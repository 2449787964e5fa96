use Rattle.std.proofs.Common.{[], ◌∷◌, ◌++◌, sym, subst}
use Rattle.ms_memory.proofs.Keeping.{rec_kept, put_kept, drop_raised, drop_kept}
use Rattle.ms_memory.specs.Shelves.{Holds, IsOpenTo}
use Rattle.ms_record.specs.declared.log.LogEvent.{LogEvent}
use Rattle.ms_memory.proofs.shelf.Shelf.keep.Goals as goal

pub returns-in-Rec : goal.returns-in-Rec
returns-in-Rec c = λ log h.
    let P : LogEvent → Type 0 = λ e. Holds (record { lists = c.push.new.self; store = c.args.self.now.store; floor = c.args.self.now.floor }) (log ++ e ∷ []) in
    subst P (sym c.in-Rec.is) (rec_kept c.args.self.now c.push.new.self c.in-Rec.list c.in-Rec.text c.push.ensures.here c.push.ensures.others log h)

pub returns-in-Put : goal.returns-in-Put
returns-in-Put c = λ log h.
    let P : LogEvent → Type 0 = λ e. Holds (record { lists = c.args.self.now.lists; store = c.put.new.self; floor = c.args.self.now.floor }) (log ++ e ∷ []) in
    let open_ = subst (λ (e : LogEvent). IsOpenTo c.args.self.now.floor e) c.in-Put.is c.requires.open_to in
    subst P (sym c.in-Put.is) (put_kept c.args.self.now c.put.new.self c.in-Put.generation c.in-Put.name c.in-Put.text open_ c.put.ensures.here c.put.ensures.others log h)

pub returns-then-floor-self : goal.returns-then-floor-self
returns-then-floor-self c = λ log h.
    let P : LogEvent → Type 0 = λ e. Holds (record { lists = c.args.self.now.lists; store = c.drop_below.new.self; floor = c.in-Drop.floor }) (log ++ e ∷ []) in
    subst P (sym c.in-Drop.is) (drop_raised c.args.self.now c.drop_below.new.self c.in-Drop.floor c.if-floor-self.true c.drop_below.ensures.gone c.drop_below.ensures.kept log h)

pub returns-else-floor-self : goal.returns-else-floor-self
returns-else-floor-self c = λ log h.
    let P : LogEvent → Type 0 = λ e. Holds c.args.self.now (log ++ e ∷ []) in
    subst P (sym c.in-Drop.is) (drop_kept c.args.self.now c.in-Drop.floor c.if-floor-self.false log h)
