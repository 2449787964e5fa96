-- What a bid leaves of a desk as it finds it.
use Rattle.std.specs.Prelude.{◌≡◌, ◌≤◌}
use Rattle.ms_base.specs.declared.names.Name.{Name}
use Rattle.ms_ken.specs.Lists.{Begins}
use Rattle.ms_record.specs.declared.setting.Setting.{Setting}
use Rattle.ms_record.specs.declared.key.Key.TheVariants.{Object}
use Rattle.ms_local.specs.Desks.{DeskView, KnowsTold, LanesStay}
use Rattle.ms_local.specs.Outside.{KeeperView, WhereTold}

-- it tells its texts or not as before, the objects stay, and the count of faults does not fall
pub record KeepsObjects (old new : KeeperView) : Type 0 where
  pub told : new.told ≡ old.told
  pub objects : WhereTold old.told ((name : Name) → new.texts (Object name) ≡ old.texts (Object name))
  pub later : old.faults ≤ new.faults

-- the pass, the keeper, the links and the deeds go on, and all else stays; what was known stays known, also that a setting is told
pub record DeskBids (old new : DeskView) : Type 0 where
  pub same : new ≡ record old { pass = new.pass; keep = new.keep; lanes = new.lanes; deeds = new.deeds }
  pub board : new.pass.board ≡ old.pass.board
  pub word : new.pass.word ≡ old.pass.word
  pub more : Begins old.pass.lists new.pass.lists
  pub told : (setting : Setting) → KnowsTold old setting → KnowsTold new setting
  pub lanes : LanesStay old.lanes new.lanes
  pub keep : KeepsObjects old.keep new.keep
