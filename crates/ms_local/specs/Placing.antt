-- The rule of the deeds on placing: which service is asked for an object, and what was placed before a bid.
use Rattle.std.specs.Prelude.{◌≡◌, ◌⊎◌, ℕ, ◌<◌, Bool, true, false, List, [], ◌∷◌, ◌++◌, Option, Some, None, Contains, count_by, slice_get}
use Rattle.ms_base.specs.declared.names.Name.{Name}
use Rattle.ms_base.specs.declared.names.ServiceId.{ServiceId}
use Rattle.ms_core.specs.Placing.{PlacedBy}
use Rattle.ms_plan.specs.Mapping.{order_of}
use Rattle.ms_record.specs.declared.entry.Entry.{Entry}
use Rattle.ms_record.specs.Plans.{PlanView}
use Rattle.ms_local.specs.declared.deed.Deed.{Deed}
use Rattle.ms_local.specs.declared.deed.Deed.TheVariants.{Asked, Kept, Listed, Put}
use Rattle.ms_local.specs.Rules.{Intent}

-- deeds that go from one state to another, by this step for each
abbrev pub Obeys : {S : Type 0} → (S → Deed → S → Type 0) → S → List Deed → S → Type 0
Obeys step s [] t = t ≡ s
Obeys {S} step s (deed ∷ deeds) t = (mid : S) × step s deed mid × Obeys step mid deeds t

-- what is to be done: a bid for its intent, or a placing alone; and the plan under which its entry is placed
pub record Purpose : Type 0 where
  pub bids : Bool
  pub intent : Intent
  pub plan : PlanView

-- a service was asked for a name in a generation, and whether it accepted it: it had it, or took it
pub record Asking : Type 0 where
  pub service : ℕ
  pub generation : ℕ
  pub name : Name
  pub accepted : Bool

-- the purposes that are to come; and since a list was read last, the plan under which was placed, and who was asked
pub record Placing : Type 0 where
  pub own : List Purpose
  pub plan : Option PlanView
  pub asked : List Asking

pub record WasAsked (rows : List Asking) (generation : ℕ) (name : Name) (s : ℕ) : Type 0 where
  pub row : Asking
  pub there : Contains rows row
  pub service : row.service ≡ s
  pub generation_is : row.generation ≡ generation
  pub name_is : row.name ≡ name

pub record HasAccepted (rows : List Asking) (generation : ℕ) (name : Name) (s : ℕ) : Type 0 where
  pub asked : WasAsked rows generation name s
  pub accepted : asked.row.accepted ≡ true

-- The service is the next of the plan's order for the name: all before it were asked for it, and of no set of services that accepted
-- it are as many in the order as the plan has replicas.
pub record MayAsk (plan : PlanView) (rows : List Asking) (service : ServiceId) (name : Name) : Type 0 where
  pub place : ℕ
  pub next : slice_get (order_of plan name) place ≡ Some service
  pub before : (i : ℕ) (s : ServiceId) → i < place → slice_get (order_of plan name) i ≡ Some s → WasAsked rows plan.generation name s.0
  pub wanted : (part : ℕ → Bool) → ((s : ℕ) → part s ≡ true → HasAccepted rows plan.generation name s) → count_by (λ (s : ServiceId). part s.0) (order_of plan name) < plan.replicas

-- it is placed under this plan, and these purposes are left: either placing goes on, or the next purpose begins, which bids nothing
abbrev pub IsUnder : Placing → PlanView → List Purpose → Type 0
IsUnder s plan rest = ((s.plan ≡ Some plan) × (rest ≡ s.own)) ⊎ ((s.plan ≡ None) × ((p : Purpose) × (s.own ≡ p ∷ rest) × (p.bids ≡ false) × (plan ≡ p.plan)))

-- each object of the entry that is wanted was accepted by enough services of the plan
abbrev pub IsPlacedFor : List Asking → Purpose → Type 0
IsPlacedFor rows p = (x : Entry) → p.intent.want ≡ Some x → PlacedBy (λ s name. HasAccepted rows p.plan.generation name s) p.plan x.version

abbrev pub asking_of : ServiceId → ℕ → Name → Bool → Asking
asking_of service generation name accepted = record { service = service.0; generation = generation; name = name; accepted = accepted }

-- A service is asked in the generation of the plan under which is placed; a put follows its question, and its answer counts. What is
-- read of lists begins placing anew, and before a round is kept all is placed.
abbrev pub PlacesNext : Placing → Deed → Placing → Type 0
PlacesNext s (Asked service generation name present ok floor) t =
    (plan : PlanView) × (rest : List Purpose) × IsUnder s plan rest × (generation ≡ plan.generation) × MayAsk plan s.asked service name
    × (t ≡ record { own = rest; plan = Some plan; asked = s.asked ++ asking_of service generation name present ∷ [] })
PlacesNext s (Put service generation name ok floor) t =
    (before : List Asking) × (s.asked ≡ before ++ asking_of service generation name false ∷ []) × (t ≡ record s { asked = before ++ asking_of service generation name ok ∷ [] })
PlacesNext s (Listed service list from count ok) t = t ≡ record s { plan = None; asked = [] }
PlacesNext s (Kept round ok) t = (p : Purpose) × (rest : List Purpose) × (s.own ≡ p ∷ rest) × (p.bids ≡ true) × ((s.plan ≡ None) ⊎ (s.plan ≡ Some p.plan)) × IsPlacedFor s.asked p × (t ≡ record s { own = rest })
PlacesNext s deed t = t ≡ s
