-- Rounds of calls: one deed for each of the first services, in their order.
use Rattle.std.proofs.Common.{◌≡◌, ℕ, zero, suc, ◌<◌, List, [], ◌∷◌, ◌++◌, Some, inl, inr, ◌↔◌, refl, sym, ap, ◌∙◌, subst, slice_get, length, arith, Contains}
use Rattle.std.proofs.lemmas.List.Elements.{Contains-append_cases, Contains-append_left, Contains-append_right}
use Rattle.std.proofs.lemmas.Option.{slice_get_within}
use Rattle.ms_local.specs.declared.deed.Deed.{Deed}
use Rattle.ms_chain.proofs.Places.{place_last, place_left, place_more}

one_of : {A : Type 0} (x y : A) → Contains (x ∷ []) y → y ≡ x
one_of x y (zero, lt, is) = sym is
one_of x y (suc k, lt, is) = absurd (omega arith)

last_in : {A : Type 0} (xs : List A) (x : A) → Contains (xs ++ x ∷ []) x
last_in xs x = Contains-append_right xs (x ∷ []) x (0, omega arith, refl)

pub each_more : (P Q : ℕ → Deed → Type 0) (more : List Deed) (n : ℕ) (deed : Deed) → length more ≡ n → ((s : ℕ) (d : Deed) → slice_get more s ≡ Some d → P s d) → ((s : ℕ) (d : Deed) → s < n → P s d → Q s d) → Q n deed
    → (s : ℕ) (d : Deed) → slice_get (more ++ deed ∷ []) s ≡ Some d → Q s d
each_more P Q more n deed all each on last s d got =
    elim (place_more more deed s d got) [
      | inl l ↦ on s d (omega (arith, l.0)) (each s d l.1)
      | inr r ↦ subst (λ (x : Deed). Q s x) r.1 (subst (λ (k : ℕ). Q k deed) (sym (r.0 ∙ all)) last)
    ]

-- the services that failed are those whose deed says so
abbrev pub AreFailed : (Deed → Type 0) → List Deed → List ℕ → Type 0
AreFailed F more failed = (s : ℕ) → Contains failed s ↔ ((deed : Deed) × (slice_get more s ≡ Some deed) × F deed)

earlier : (F : Deed → Type 0) (more : List Deed) (deed : Deed) (s : ℕ) → ((d : Deed) × (slice_get more s ≡ Some d) × F d) → (d : Deed) × (slice_get (more ++ deed ∷ []) s ≡ Some d) × F d
earlier F more deed s w = (w.0, place_left more (deed ∷ []) s (slice_get_within more s w.0 w.1) ∙ w.1, w.2)

pub failed_yes : (F : Deed → Type 0) (more : List Deed) (deed : Deed) (n : ℕ) (failed : List ℕ) → F deed → length more ≡ n → AreFailed F more failed → AreFailed F (more ++ deed ∷ []) (failed ++ n ∷ [])
failed_yes F more deed n failed f all are s = (
  λ c. elim (Contains-append_cases failed (n ∷ []) s c) [
    | inl old ↦ earlier F more deed s ((are s).0 old)
    | inr new ↦ (deed, ap (slice_get (more ++ deed ∷ [])) (one_of n s new ∙ sym all) ∙ place_last more deed, f)
  ],
  λ w. elim (place_more more deed s w.0 w.1) [
    | inl l ↦ Contains-append_left failed (n ∷ []) s ((are s).1 (w.0, l.1, w.2))
    | inr r ↦ subst (λ (k : ℕ). Contains (failed ++ n ∷ []) k) (sym (r.0 ∙ all)) (last_in failed n)
  ],
)

pub failed_no : (F : Deed → Type 0) (more : List Deed) (deed : Deed) (failed : List ℕ) → (F deed → ⊥) → AreFailed F more failed → AreFailed F (more ++ deed ∷ []) failed
failed_no F more deed failed f are s = (
  λ c. earlier F more deed s ((are s).0 c),
  λ w. elim (place_more more deed s w.0 w.1) [
    | inl l ↦ (are s).1 (w.0, l.1, w.2)
    | inr r ↦ absurd (f (subst F (sym r.1) w.2))
  ],
)

pub none_failed : (F : Deed → Type 0) → AreFailed F [] []
none_failed F s = (λ c. absurd (nothing c), λ w. absurd (let q = w.1 in cc q))
  where
    nothing : Contains [] s → ⊥
    nothing (k, lt, is) = omega arith
