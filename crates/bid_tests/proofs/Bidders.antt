-- Desks at which a client may bid, where nothing is claimed.
use Rattle.std.proofs.Common.{◌≡◌, ◌<◌, [], ◌∷◌, Some, refl, arith}
use Rattle.bid_tests.specs.Bidding.{IsSeat}
use Rattle.bid_tests.specs.Shelves.{IsUntoldDesk}
use Rattle.bid_tests.proofs.Seating.{never_told}
use Rattle.ms_core.specs.Views.{configuration}
use Rattle.ms_ken.specs.Lists.{list_at}
use Rattle.ms_local.specs.declared.kept.Kept.{Kept}
use Rattle.ms_local.specs.Desks.{DeskView}
use Rattle.ms_local.specs.Keeping.{HasRanges, state_in}
use Rattle.ms_record.specs.declared.item.Item.TheVariants.{Told}
use Rattle.ms_record.specs.declared.setting.Setting.{Setting}
use Rattle.ms_record.specs.Settings.{IsSetting}

-- a desk whose keeper has the state is one
pub seat_there : (setting : Setting) (desk : DeskView) (kept : Kept) → IsUntoldDesk desk → IsSetting setting → setting.services ≡ desk.services → desk.client < setting.clients
    → state_in desk.keep.texts ≡ Some kept → HasRanges kept → IsSeat setting desk kept
seat_there setting desk kept h rules services client state ranges = record {
  is = h.is;
  untold = h.untold;
  under = record {
    ranges = rules;
    services = services;
    client = client;
    told = λ (other : Setting) (told : list_at desk.pass.lists configuration ≡ Told other ∷ []). absurd (never_told desk.pass.lists other h.untold told);
  };
  state = λ _. (kept, state, refl, omega arith);
  ranges = ranges;
}
