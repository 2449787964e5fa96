-- What a chain keeps: its line, what it has read of each of the setting's services, and the split that it knows.
use Rattle.std.specs.Prelude.{◌≡◌, length}
use Rattle.ms_chain.specs.declared.chain.Chain.TheInside.{Inside}
use Rattle.ms_chain.specs.Splits.{SplitIs, chain_of}
use Rattle.ms_local.specs.Learning.{ChainView}

abbrev pub view_of : Inside → ChainView
view_of c = chain_of c.line c.heard

pub record IsKept (c : Inside) : Type 0 where
  pub many : length c.heard ≡ c.line.setting.services
  pub split : SplitIs (view_of c) c.split
