-- The first occurrence of each service in a list.
use Rattle.std.proofs.Common.{◌≡◌, ℕ, ◌+◌, Bool, true, false, not, cond, List, [], ◌∷◌, ◌++◌, refl, sym, ap, subst, ◌∙◌, arith}
use Rattle.std.specs.Prelude.{◌&&◌, ◌||◌, ◌==◌}
use Rattle.std.proofs.lemmas.Bool.{eqb-true}
use Rattle.std.proofs.lemmas.Bool.Decides.{nat_tests}
use Rattle.std.proofs.lemmas.List.{append-nil}
use Rattle.std.proofs.lemmas.List.Elements.{filter-append, filter_agree}
use Rattle.std.specs.List.{filter, list_any}
use Rattle.ms_base.specs.declared.names.ServiceId.{ServiceId}
use Rattle.ms_plan.specs.Mapping.{without, firsts}
use Rattle.ms_plan.proofs.Sorting.{times, times-filter}

and_comm : (a b : Bool) → (a && b) ≡ (b && a)
and_comm true true = refl
and_comm true false = refl
and_comm false true = refl
and_comm false false = refl

and_same : (a : Bool) → (a && a) ≡ a
and_same true = refl
and_same false = refl

filter_both : {X : Type 0} (p q : X → Bool) (xs : List X) → filter p (filter q xs) ≡ filter (λ x. q x && p x) xs
filter_both p q [] = refl
filter_both p q (x ∷ xs) =
    elim (q x) as (λ (b : Bool). filter p (cond b (x ∷ filter q xs) (filter q xs)) ≡ cond (b && p x) (x ∷ filter (λ y. q y && p y) xs) (filter (λ y. q y && p y) xs)) [
      | true ↦ ap (λ zs. cond (p x) (x ∷ zs) zs) (filter_both p q xs)
      | false ↦ filter_both p q xs
    ]

filter_swap : {X : Type 0} (p q : X → Bool) (xs : List X) → filter p (filter q xs) ≡ filter q (filter p xs)
filter_swap p q xs = filter_both p q xs ∙ filter_agree (λ x. q x && p x) (λ x. p x && q x) (λ x. and_comm (q x) (p x)) xs ∙ sym (filter_both q p xs)

filter_twice : {X : Type 0} (p : X → Bool) (xs : List X) → filter p (filter p xs) ≡ filter p xs
filter_twice p xs = filter_both p p xs ∙ filter_agree (λ x. p x && p x) p (λ x. and_same (p x)) xs

abbrev pub differs : ServiceId → ServiceId → Bool
differs service other = not (other.0 == service.0)

pub same_service : (s t : ServiceId) → (s.0 == t.0) ≡ true → s ≡ t
same_service s t h = let e : s.0 ≡ t.0 = eqb-true s.0 t.0 h in λ i. record { 0 = e i }

-- a service can be left out before the first occurrences are kept, or afterwards
pub firsts-without : (s : ServiceId) (xs : List ServiceId) → firsts (without s xs) ≡ without s (firsts xs)
firsts-without s [] = refl
firsts-without s (x ∷ xs) =
    elim (x.0 == s.0) as (λ (b : Bool). (x.0 == s.0) ≡ b → firsts (cond (not b) (x ∷ without s xs) (without s xs)) ≡ cond (not b) (x ∷ without s (without x (firsts xs))) (without s (without x (firsts xs)))) [
      | true ↦ λ e. firsts-without s xs ∙ sym (subst (λ (y : ServiceId). without s (without y (firsts xs)) ≡ without s (firsts xs)) (sym (same_service x s e)) (filter_twice (differs s) (firsts xs)))
      | false ↦ λ e. ap (λ zs. x ∷ without x zs) (firsts-without s xs) ∙ ap (λ zs. x ∷ zs) (filter_swap (differs x) (differs s) (firsts xs))
    ] refl

-- ---- how often a service is there

times_none : {X : Type 0} (p : X → Bool) (xs : List X) → ((x : X) → p x ≡ false) → times p xs ≡ 0
times_none p [] never = refl
times_none p (x ∷ xs) never = let e : cond (p x) 1 0 ≡ 0 = ap {B = ℕ} (λ (b : Bool). cond b 1 0) (never x) in let h = times_none p xs never in omega (arith, e, h)

pub times_agree : {X : Type 0} (p q : X → Bool) (xs : List X) → ((x : X) → p x ≡ q x) → times p xs ≡ times q xs
times_agree p q [] same = refl
times_agree p q (x ∷ xs) same = let e = ap {B = ℕ} (λ (b : Bool). cond b 1 0) (same x) in let h = times_agree p q xs same in omega (arith, e, h)

-- the services with the number of this one
abbrev pub is_service : ServiceId → ServiceId → Bool
is_service s other = s.0 == other.0

eq_turned : (m n : ℕ) → (m == n) ≡ (n == m)
eq_turned m n = grind (arith, nat_tests)

struck : (s x y : ServiceId) → (s.0 == x.0) ≡ true → (differs x y && is_service s y) ≡ false
struck s x y h = let e : s.0 ≡ x.0 = eqb-true s.0 x.0 h in grind (arith, nat_tests)

kept : (s x y : ServiceId) → (s.0 == x.0) ≡ false → (differs x y && is_service s y) ≡ is_service s y
kept s x y h = grind (arith, nat_tests)

-- of each service that is in the list, the first occurrence is kept once
pub times-firsts : (s : ServiceId) (xs : List ServiceId) → times (is_service s) (firsts xs) ≡ cond (list_any (is_service s) xs) 1 0
times-firsts s [] = refl
times-firsts s (x ∷ xs) =
    elim (s.0 == x.0) as (λ (b : Bool). (s.0 == x.0) ≡ b → cond b 1 0 + times (is_service s) (without x (firsts xs)) ≡ cond (b || list_any (is_service s) xs) 1 0) [
      | true ↦ λ e. let h : times (is_service s) (without x (firsts xs)) ≡ 0 = times-filter (is_service s) (differs x) (firsts xs) ∙ times_none (λ y. differs x y && is_service s y) (firsts xs) (λ y. struck s x y e) in omega (arith, h)
      | false ↦ λ e. let h : times (is_service s) (without x (firsts xs)) ≡ cond (list_any (is_service s) xs) 1 0 = times-filter (is_service s) (differs x) (firsts xs) ∙ times_agree (λ y. differs x y && is_service s y) (is_service s) (firsts xs) (λ y. kept s x y e) ∙ times-firsts s xs in omega (arith, h)
    ] refl

-- ---- one more service at the end

-- it is there already, by the test of a look into the list
abbrev pub holds_service : ServiceId → List ServiceId → Bool
holds_service y xs = list_any (λ z. z.0 == y.0) xs

any-filter : {X : Type 0} (p keep : X → Bool) (xs : List X) → ((x : X) → (keep x && p x) ≡ p x) → list_any p (filter keep xs) ≡ list_any p xs
any-filter p keep [] same = refl
any-filter p keep (x ∷ xs) same =
    elim (keep x) as (λ (b : Bool). (b && p x) ≡ p x → list_any p (cond b (x ∷ filter keep xs) (filter keep xs)) ≡ (p x || list_any p xs)) [
      | true ↦ λ e. ap (λ (b : Bool). p x || b) (any-filter p keep xs same)
      | false ↦ λ e. any-filter p keep xs same ∙ ap (λ (b : Bool). b || list_any p xs) e
    ] (same x)

pub firsts-push : (xs : List ServiceId) (y : ServiceId) → firsts (xs ++ y ∷ []) ≡ cond (holds_service y (firsts xs)) (firsts xs) (firsts xs ++ y ∷ [])
firsts-push [] y = refl
firsts-push (x ∷ xs) y =
    ap (λ zs. x ∷ without x zs) (firsts-push xs y)
    ∙ elim (x.0 == y.0) as (λ (b : Bool). (x.0 == y.0) ≡ b → x ∷ without x (cond (holds_service y (firsts xs)) (firsts xs) (firsts xs ++ y ∷ [])) ≡ cond (b || holds_service y (without x (firsts xs))) (x ∷ without x (firsts xs)) (x ∷ without x (firsts xs) ++ y ∷ [])) [
      | true ↦ λ e. elim (holds_service y (firsts xs)) as (λ (d : Bool). x ∷ without x (cond d (firsts xs) (firsts xs ++ y ∷ [])) ≡ x ∷ without x (firsts xs)) [
        | true ↦ refl
        | false ↦ ap (λ zs. x ∷ zs) (filter-append (differs x) (firsts xs) (y ∷ []) ∙ ap (λ (b : Bool). without x (firsts xs) ++ cond (not b) (y ∷ []) []) (eq_turned y.0 x.0 ∙ e) ∙ append-nil (without x (firsts xs)))
      ]
      | false ↦ λ e. ap (λ (d : Bool). x ∷ without x (cond d (firsts xs) (firsts xs ++ y ∷ []))) (sym (any-filter (λ z. z.0 == y.0) (differs x) (firsts xs) (λ z. grind (arith, nat_tests))))
          ∙ elim (holds_service y (without x (firsts xs))) as (λ (d : Bool). x ∷ without x (cond d (firsts xs) (firsts xs ++ y ∷ [])) ≡ cond d (x ∷ without x (firsts xs)) (x ∷ without x (firsts xs) ++ y ∷ [])) [
            | true ↦ refl
            | false ↦ ap (λ zs. x ∷ zs) (filter-append (differs x) (firsts xs) (y ∷ []) ∙ ap (λ (b : Bool). without x (firsts xs) ++ cond (not b) (y ∷ []) []) (eq_turned y.0 x.0 ∙ e))
          ]
    ] refl
