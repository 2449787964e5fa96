-- What stays among the first of a list when one service is left out.
use Rattle.std.proofs.Common.{◌≡◌, ◌≢◌, ℕ, zero, suc, ◌+◌, ◌≤◌, ◌⊎◌, inl, inr, eq-eqb, Bool, true, false, not, cond, List, [], ◌∷◌, take, refl, sym, ap, subst, ◌∙◌, arith}
use Rattle.std.specs.Prelude.{◌==◌, Contains}
use Rattle.std.specs.List.{filter}
use Rattle.ms_base.specs.declared.names.Name.{Name}
use Rattle.ms_base.specs.declared.names.ServiceId.{ServiceId}
use Rattle.ms_record.specs.Plans.{PlanView}
use Rattle.ms_plan.specs.Mapping.{IsWithout, without, order_of, places_of, slot_of}
use Rattle.ms_plan.proofs.Firsts.{differs, same_service}
use Rattle.ms_plan.proofs.Ordering.{order-without}

Contains-next : {X : Type 0} (x y : X) (xs : List X) → Contains xs y → Contains (x ∷ xs) y
Contains-next x y xs h = (suc h.0, omega (arith, h.1), h.2)

-- an item that is kept and is among the first stays among them
stays_first : {X : Type 0} (keep : X → Bool) (n m : ℕ) (xs : List X) (x : X) → keep x ≡ true → n ≤ m → Contains (take n xs) x → Contains (take m (filter keep xs)) x
stays_first keep zero m xs x passes few (k, below, is) = absurd (omega arith)
stays_first keep (suc n) m [] x passes few (k, below, is) = absurd (omega arith)
stays_first keep (suc n) zero (y ∷ ys) x passes few h = absurd (omega arith)
stays_first keep (suc n) (suc m) (y ∷ ys) x passes few (zero, below, is) =
    let e : keep y ≡ true = ap keep is ∙ passes in
    subst (λ (b : Bool). Contains (take (suc m) (cond b (y ∷ filter keep ys) (filter keep ys))) x) (sym e) (0, omega arith, is)
stays_first keep (suc n) (suc m) (y ∷ ys) x passes few (suc k, below, is) =
    let inner : Contains (take n ys) x = (k, omega arith, is) in
    elim (keep y) as (λ (b : Bool). Contains (take (suc m) (cond b (y ∷ filter keep ys) (filter keep ys))) x) [
      | true ↦ Contains-next y x (take m (filter keep ys)) (stays_first keep n m ys x passes (omega arith) inner)
      | false ↦ stays_first keep n (suc m) ys x passes (omega arith) inner
    ]

-- an item of a list is its first, or one of the others
first_or_later : {X : Type 0} (y : X) (ys : List X) (x : X) → Contains (y ∷ ys) x → (y ≡ x) ⊎ Contains ys x
first_or_later y ys x (zero, below, is) = inl is
first_or_later y ys x (suc k, below, is) = inr (k, omega arith, is)

kept_first : {X : Type 0} (keep : X → Bool) (n m : ℕ) (y : X) (ys : List X) (s x : X) → suc n ≤ m + 1 → Contains (take n ys) s → (y ≡ x) ⊎ Contains (take n ys) x
    → ((few : ℕ) → n ≤ few + 1 → Contains (take n ys) x → Contains (take few (filter keep ys)) x) → Contains (take m (y ∷ filter keep ys)) x
kept_first keep zero m y ys s x few (k, below, is) either rest = absurd (omega arith)
kept_first keep (suc n) zero y ys s x few gone either rest = absurd (omega arith)
kept_first keep (suc n) (suc m) y ys s x few gone (inl same) rest = (0, omega arith, same)
kept_first keep (suc n) (suc m) y ys s x few gone (inr later) rest = Contains-next y x (take m (filter keep ys)) (rest m (omega arith) later)

unlike : {X : Type 0} (keep : X → Bool) (x y : X) → keep x ≡ true → keep y ≡ false → y ≡ x → ⊥
unlike keep x y passes out same = let q : true ≡ false = sym passes ∙ (sym (ap keep same) ∙ out) in cc q

-- where one that is not kept is among the first too, one place less is enough
stays_of_fewer : {X : Type 0} (keep : X → Bool) (n m : ℕ) (xs : List X) (s x : X) → keep s ≡ false → keep x ≡ true → n ≤ m + 1 → Contains (take n xs) s → Contains (take n xs) x → Contains (take m (filter keep xs)) x
stays_of_fewer keep zero m xs s x out passes few gone (k, below, is) = absurd (omega arith)
stays_of_fewer keep (suc n) m [] s x out passes few gone (k, below, is) = absurd (omega arith)
stays_of_fewer keep (suc n) m (y ∷ ys) s x out passes few gone stands =
    elim (keep y) as (λ (b : Bool). keep y ≡ b → Contains (take m (cond b (y ∷ filter keep ys) (filter keep ys))) x) [
      | true ↦ λ e. elim (first_or_later y (take n ys) s gone) [
        | inl same ↦ absurd (unlike keep y s e out (sym same))
        | inr later ↦ kept_first keep n m y ys s x few later (first_or_later y (take n ys) x stands) (λ fewer le there. stays_of_fewer keep n fewer ys s x out passes le later there)
      ]
      | false ↦ λ e. elim (first_or_later y (take n ys) x stands) [
        | inl same ↦ absurd (unlike keep x y passes e same)
        | inr later ↦ stays_first keep n m ys x passes (omega (arith, few)) later
      ]
    ] refl

-- without a service that is not among the first they are the same
first_unmoved : (s : ServiceId) (n : ℕ) (xs : List ServiceId) → (Contains (take n xs) s → ⊥) → take n (without s xs) ≡ take n xs
first_unmoved s zero xs never = refl
first_unmoved s (suc n) [] never = refl
first_unmoved s (suc n) (x ∷ xs) never =
    elim (x.0 == s.0) as (λ (b : Bool). (x.0 == s.0) ≡ b → take (suc n) (cond (not b) (x ∷ without s xs) (without s xs)) ≡ x ∷ take n xs) [
      | true ↦ λ e. absurd (never (0, omega arith, same_service x s e))
      | false ↦ λ e. ap (λ zs. x ∷ zs) (first_unmoved s n xs (λ h. never (Contains-next x s (take n xs) h)))
    ] refl

is_other : (s t : ServiceId) → t ≢ s → differs s t ≡ true
is_other s t apart =
    elim (t.0 == s.0) as (λ (b : Bool). (t.0 == s.0) ≡ b → not b ≡ true) [
      | true ↦ λ e. absurd (apart (same_service t s e))
      | false ↦ λ e. refl
    ] refl

pub place_stays : (plan other : PlanView) (s place : ServiceId) (name : Name) → IsWithout s plan other → plan.replicas ≤ other.replicas → Contains (places_of plan name) place → place ≢ s → Contains (places_of other name) place
place_stays plan other s place name h few stands apart =
    subst (λ (order : List ServiceId). Contains (take other.replicas order) place) (sym (order-without plan other s (slot_of name) h))
    (stays_first (differs s) plan.replicas other.replicas (order_of plan name) place (is_other s place apart) few stands)

is_gone : (s : ServiceId) → differs s s ≡ false
is_gone s =
    elim (s.0 == s.0) as (λ (b : Bool). (s.0 == s.0) ≡ b → not b ≡ false) [
      | true ↦ λ e. refl
      | false ↦ λ e. absurd (let q : false ≡ true = sym e ∙ eq-eqb s.0 s.0 refl in cc q)
    ] refl

pub place_stays_of_fewer : (plan other : PlanView) (s place : ServiceId) (name : Name) → IsWithout s plan other → plan.replicas ≤ other.replicas + 1 → Contains (places_of plan name) s → Contains (places_of plan name) place → place ≢ s
    → Contains (places_of other name) place
place_stays_of_fewer plan other s place name h few gone stands apart =
    subst (λ (order : List ServiceId). Contains (take other.replicas order) place) (sym (order-without plan other s (slot_of name) h))
    (stays_of_fewer (differs s) plan.replicas other.replicas (order_of plan name) s place (is_gone s) (is_other s place apart) few gone stands)

pub places_unmoved : (plan other : PlanView) (s : ServiceId) (name : Name) → IsWithout s plan other → other.replicas ≡ plan.replicas → (Contains (places_of plan name) s → ⊥) → places_of other name ≡ places_of plan name
places_unmoved plan other s name h same never =
    ap (λ (n : ℕ). take n (order_of other name)) same ∙ ap (λ (order : List ServiceId). take plan.replicas order) (order-without plan other s (slot_of name) h) ∙ first_unmoved s plan.replicas (order_of plan name) never
