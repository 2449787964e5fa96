-- A set's fields are those of its list: the places without a service are all alike.
use Rattle.std.specs.Prelude.{◌≡◌, ℕ, ◌-◌, ◌≤◌, List, [], ◌∷◌, ◌++◌, length, map, take, drop, replicate}
use Rattle.std.proofs.Common.{refl, sym, ap, ◌∙◌, arith}
use Rattle.std.proofs.lemmas.List.{take-append-drop, length-take-le, length-map}
use Rattle.ms_base.specs.declared.names.ServiceId.{ServiceId}
use Rattle.ms_record.specs.declared.services.ServiceSet.TheInside.{Inside}
use Rattle.ms_record.specs.Services.{AreServices, numbers_of}

abbrev pub service_of : ℕ → ServiceId
service_of number = record { 0 = number }

-- these services, and the places without one
abbrev pub places_of : List ℕ → List ServiceId
places_of services = map service_of services ++ replicate (16 - length services) (service_of 0)

-- the services at the front of its places
abbrev pub seen : Inside → List ℕ
seen set = numbers_of (take set.count set.services)

pub record IsKept (set : Inside) : Type 0 where
  pub wide : length set.services ≡ 16
  pub count : set.count ≤ 16
  pub rest : drop set.count set.services ≡ replicate (16 - set.count) (service_of 0)
  pub services : AreServices (seen set)

abbrev pub fields_of : List ℕ → Inside
fields_of services = record { services = places_of services; count = length services }

pub services_back : (ids : List ServiceId) → map service_of (numbers_of ids) ≡ ids
services_back [] = refl
services_back (s ∷ ids) = ap (λ (xs : List ServiceId). s ∷ xs) (services_back ids)

pub fields_back : (set : Inside) → IsKept set → fields_of (seen set) ≡ set
fields_back set h =
    let front = take set.count set.services in
    let count : length (numbers_of front) ≡ set.count = length-map front (λ (s : ServiceId). s.0) ∙ length-take-le set.count set.services (omega (arith, h.wide, h.count)) in
    let rest : replicate (16 - length (numbers_of front)) (service_of 0) ≡ drop set.count set.services = ap (λ (n : ℕ). replicate (16 - n) (service_of 0)) count ∙ sym h.rest in
    let places : places_of (numbers_of front) ≡ set.services =
    ap (λ (xs : List ServiceId). xs ++ replicate (16 - length (numbers_of front)) (service_of 0)) (services_back front)
    ∙ ap (λ (xs : List ServiceId). front ++ xs) rest ∙ take-append-drop set.count set.services in
    λ i. record { services = places i; count = count i }
