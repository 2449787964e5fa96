-- Lists of labels of which no two are alike.
use Rattle.std.proofs.Common.{◌≡◌, ℕ, zero, suc, ◌<◌, ◌≤◌, Bool, true, false, List, [], ◌∷◌, ◌++◌, Option, Some, None, IfSome, ◌⊎◌, inl, inr, refl, sym, ap, ◌∙◌, subst, length, get_or, slice_get, cond, nat_lt, arith}
use Rattle.std.specs.Prelude.{◌||◌, bytes_eq, position}
use Rattle.std.specs.List.{list_any, position_or_len}
use Rattle.std.proofs.lemmas.Bool.{lt-ltb, ltb-true, ltb-false}
use Rattle.std.proofs.lemmas.List.Quantifiers.{position-Some}
use Rattle.std.proofs.lemmas.List.Sums.{fails_before_first, passes_at_first}
use Rattle.std.proofs.lemmas.Option.{slice_get_within, get_or_from_slice_get, slice_get-get_or}
use Rattle.std.proofs.lemmas.Slice.Eq.{bytes_eq-Decides}
use Rattle.ms_base.specs.Places.{some_same}
use Rattle.ms_plan.specs.Drafts.{AreLabels, labels_of}
use Rattle.ms_text.specs.Labels.{IsClientLabel}
use Rattle.ms_plan.specs.declared.config_line.ServiceLine.{ServiceLine}

neither : (a b : Bool) → (a || b) ≡ false → (a ≡ false) × (b ≡ false)
neither true b h = absurd cc
neither false b h = (refl, h)

none_some : {X P : Type 0} (x : X) → None ≡ Some x → P
none_some x e = absurd cc

-- a label that no one uses stands nowhere
pub unused : (labels : List (List ℕ)) (label : List ℕ) → list_any (λ l. bytes_eq l label) labels ≡ false → (i : ℕ) → slice_get labels i ≡ Some label → ⊥
unused [] label free i at = none_some label at
unused (l ∷ labels) label free zero at =
    let f = neither (bytes_eq l label) _ free in
    let same : bytes_eq l label ≡ true = (bytes_eq-Decides l label).1 (some_same l label at) in
    let e : true ≡ false = sym same ∙ f.0 in absurd cc
unused (l ∷ labels) label free (suc i) at = unused labels label (neither (bytes_eq l label) _ free).1 i at

-- at the end, or before it
pub last_or : {X : Type 0} (xs : List X) (y x : X) (i : ℕ) → slice_get (xs ++ y ∷ []) i ≡ Some x → (slice_get xs i ≡ Some x) ⊎ ((i ≡ length xs) × (y ≡ x))
last_or [] y x zero e = inr (refl, some_same y x e)
last_or [] y x (suc i) e = none_some x e
last_or (z ∷ xs) y x zero e = inl e
last_or (z ∷ xs) y x (suc i) e = elim (last_or xs y x i e) [ inl h ↦ inl h | inr h ↦ inr (ap suc h.0, h.1) ]

-- one label more, which no one uses
pub more_labels : (labels : List (List ℕ)) (label : List ℕ) → AreLabels labels → IsClientLabel label → list_any (λ l. bytes_eq l label) labels ≡ false → AreLabels (labels ++ label ∷ [])
more_labels labels label h form free = record {
  form = λ i l at. elim (last_or labels label l i at) [ inl there ↦ h.form i l there | inr new ↦ subst IsClientLabel new.1 form ];
  differ = λ i j l at other.
      elim (last_or labels label l i at) [
        | inl a ↦ elim (last_or labels label l j other) [ inl b ↦ h.differ i j l a b | inr b ↦ absurd (taken i l a b.1) ]
        | inr a ↦ elim (last_or labels label l j other) [ inl b ↦ absurd (taken j l b a.1) | inr b ↦ a.0 ∙ sym b.0 ]
      ];
}
  where
    taken : (i : ℕ) (l : List ℕ) → slice_get labels i ≡ Some l → label ≡ l → ⊥
    taken i l at same = unused labels label free i (at ∙ ap (λ (x : List ℕ). Some x) (sym same))

pub no_labels : AreLabels []
no_labels = record { form = λ i label at. none_some label at; differ = λ i j label at other. none_some label at }

-- services are told apart by their labels
pub used_labels : (services : List ServiceLine) (label : List ℕ) → list_any (λ (s : ServiceLine). bytes_eq s.label label) services ≡ list_any (λ l. bytes_eq l label) (labels_of services)
used_labels [] label = refl
used_labels (s ∷ services) label = ap (λ b. bytes_eq s.label label || b) (used_labels services label)

pub labels-push : (services : List ServiceLine) (service : ServiceLine) → labels_of (services ++ service ∷ []) ≡ labels_of services ++ service.label ∷ []
labels-push [] service = refl
labels-push (s ∷ services) service = ap (λ (ls : List (List ℕ)). s.label ∷ ls) (labels-push services service)

pub length-labels : (services : List ServiceLine) → length (labels_of services) ≡ length services
length-labels [] = refl
length-labels (s ∷ services) = ap suc (length-labels services)

-- what the first place of a label is
pub placed : (labels : List (List ℕ)) (label : List ℕ) (o : Option ℕ) → o ≡ position (λ l. bytes_eq l label) labels → IfSome o (λ i. slice_get labels i ≡ Some label)
placed labels label None is = tt
placed labels label (Some i) is =
    let at = position-Some (λ l. bytes_eq l label) labels i [] (sym is) in
    let same : get_or labels i [] ≡ label = (bytes_eq-Decides (get_or labels i []) label).0 at.1 in
    slice_get-get_or labels i [] at.0 ∙ ap (λ (x : List ℕ). Some x) same

-- the first place that passes is not behind one that does
first_low : (test : List ℕ → Bool) (labels : List (List ℕ)) (k : ℕ) (b : Bool) → nat_lt k (position_or_len test labels) ≡ b → test (get_or labels k []) ≡ true → position_or_len test labels ≤ k
first_low test labels k true e here =
    let none : test (get_or labels k []) ≡ false = fails_before_first test labels k [] (ltb-true k _ e) in
    let clash : true ≡ false = sym here ∙ none in absurd cc
first_low test labels k false e here = ltb-false k _ e

-- a label has one place
pub one_place : (labels : List (List ℕ)) (label : List ℕ) (i : ℕ) → AreLabels labels → slice_get labels i ≡ Some label → position (λ l. bytes_eq l label) labels ≡ Some i
one_place labels label i h at =
    let test : List ℕ → Bool = λ l. bytes_eq l label in
    let first : ℕ = position_or_len test labels in
    let within : i < length labels = slice_get_within labels i label at in
    let here : test (get_or labels i []) ≡ true = (bytes_eq-Decides (get_or labels i []) label).1 (get_or_from_slice_get labels i label [] at) in
    let low : first ≤ i = first_low test labels i _ refl here in
    let early : first < length labels = omega arith in
    let same : get_or labels first [] ≡ label = (bytes_eq-Decides (get_or labels first []) label).0 (passes_at_first test labels [] early) in
    let there : slice_get labels first ≡ Some label = slice_get-get_or labels first [] early ∙ ap (λ (x : List ℕ). Some x) same in
    ap (λ (b : Bool). cond b (Some first) None) (lt-ltb first (length labels) early) ∙ ap (λ (n : ℕ). Some n) (h.differ first i label there at)
