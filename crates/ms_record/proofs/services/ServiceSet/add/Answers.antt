use Rattle.std.proofs.Common.{◌≡◌, ◌<◌, ◌++◌, ◌∷◌, [], ℕ, List, Contains, ◌+◌, refl, sym, ap, ◌∙◌, subst, arith}
use Rattle.ms_record.specs.ServicesInside.{seen}
use Rattle.ms_record.specs.declared.services.ServiceSet.TheInside.{Inside}
use Rattle.ms_base.specs.declared.names.ServiceId.{ServiceId}
use Rattle.std.proofs.Math.ListN.{set}
use Rattle.ms_record.proofs.ServicesFilled.{IsSetOf, room_in, whole_more}
use Rattle.ms_record.proofs.services.ServiceSet.add.Goals as goal

pub bounds-self-inside-self-inside : goal.bounds-self-inside-self-inside
bounds-self-inside-self-inside c = room_in c.self.inside c.args.self.now c.args.service.0 c.self.invariant c.self.view_is c.requires.above c.requires.known

pub invariant_of-self : goal.invariant_of-self
invariant_of-self c = (whole_more c.self.inside c.args.self.now c.args.service c.self.invariant c.self.view_is c.requires.above c.requires.known).kept

pub returns : goal.returns
returns c = (whole_more c.self.inside c.args.self.now c.args.service c.self.invariant c.self.view_is c.requires.above c.requires.known).shows
