-- Sets of services, as the list of their numbers.
use Rattle.std.specs.Prelude.{◌≡◌, ℕ, ◌+◌, ◌<◌, ◌≤◌, List, Some, length, map, slice_get}
use Rattle.ms_base.specs.declared.limits.TheConstants.{SERVICES}
use Rattle.ms_base.specs.declared.names.ServiceId.{ServiceId}

-- services of a workspace, rising
pub record AreServices (services : List ℕ) : Type 0 where
  pub few : length services ≤ SERVICES
  pub below : (i s : ℕ) → slice_get services i ≡ Some s → s < SERVICES
  pub rising : (i s next : ℕ) → slice_get services i ≡ Some s → slice_get services (i + 1) ≡ Some next → s < next

abbrev pub numbers_of : List ServiceId → List ℕ
numbers_of services = map (λ (s : ServiceId). s.0) services
