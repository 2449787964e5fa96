-- A store that has exactly some texts has as many names as there are different texts.
use Rattle.std.proofs.Common.{◌≡◌, ℕ, suc, ◌+◌, true, false, List, [], ◌∷◌, ◌⊎◌, inl, inr, refl, sym, ap, ◌∙◌, subst, length, map, Contains, ◌↔◌, IsSome, Option, Some, None, nat_cmp, is_lt, bytes_eq, Ordering, Less, Equal, Greater, arith}
use Rattle.std.specs.List.{list_any}
use Rattle.std.specs.List.Sorted.{IsStrictlySortedBy}
use Rattle.std.specs.Cmp.Lexicographic.{slice_cmp}
use Rattle.std.proofs.lemmas.Bool.{cases_Bool}
use Rattle.std.proofs.lemmas.List.{length-map}
use Rattle.std.proofs.lemmas.List.Elements.{All-from_recursion, All-contains}
use Rattle.std.proofs.lemmas.Map.Keys.{sorted_head, sorted_tail}
use Rattle.sha2.specs.Sha256.{sha256}
use Rattle.ms_base.specs.Rising.{Rises, Before, not_both_ways, rises_none, rises_cons, rises_first, rises_rest}
use Rattle.ms_base.specs.Places.{in_none, in_here, in_later, in_cases, map_has}
use Rattle.ms_base.specs.declared.names.Name.{Name}
use Rattle.ms_object.specs.Stores.{StoreView, name_cmp, names_in, text_of}
use Rattle.ms_tree.specs.Planting.{with_part, Collide, HoldsTexts, different}
use Rattle.ms_tree.proofs.FirstParts.{with_part_cases, with_part_has, with_part_keeps, with_part_rises}
use Rattle.ms_tree.proofs.Groups.{tested_same, tested_other}
use Rattle.ms_tree.proofs.Members.{map_from, same_rising}
use Rattle.ms_tree.proofs.PlantedFile.{Has}
use Rattle.ms_tree.proofs.PlantedTree.{collide_or_has}

-- the names of texts, rising, each once
sorted : List (List ℕ) → List (List ℕ)
sorted [] = []
sorted (text ∷ texts) = with_part (sha256 text) (sorted texts)

sorted_rises : (texts : List (List ℕ)) → Rises (sorted texts)
unfolding sorted
sorted_rises [] = rises_none
sorted_rises (text ∷ texts) = with_part_rises (sha256 text) (sorted texts) (sorted_rises texts)

sorted_from : (texts : List (List ℕ)) (q : List ℕ) → Contains (sorted texts) q → Contains (map sha256 texts) q
unfolding sorted
sorted_from [] q h = absurd (in_none q h)
sorted_from (text ∷ texts) q h =
    elim (with_part_cases (sha256 text) q (sorted texts) h) [
      | inl same ↦ subst (λ (z : List ℕ). Contains (sha256 text ∷ map sha256 texts) z) same (in_here (sha256 text) (map sha256 texts))
      | inr later ↦ in_later (sha256 text) (map sha256 texts) q (sorted_from texts q later)
    ]

sorted_has : (texts : List (List ℕ)) (q : List ℕ) → Contains (map sha256 texts) q → Contains (sorted texts) q
unfolding sorted
sorted_has [] q h = absurd (in_none q h)
sorted_has (text ∷ texts) q h =
    elim (in_cases (sha256 text) (map sha256 texts) q h) [
      | inl same ↦ subst (λ (z : List ℕ). Contains (with_part (sha256 text) (sorted texts)) z) same (with_part_has (sha256 text) (sorted texts))
      | inr later ↦ with_part_keeps (sha256 text) q (sorted texts) (sorted_has texts q later)
    ]

-- a part that is there changes nothing
part_there : (part : List ℕ) (parts : List (List ℕ)) → Rises parts → Contains parts part → length (with_part part parts) ≡ length parts
part_there part [] r h = absurd (in_none part h)
part_there part (first ∷ parts) r h =
    elim (cases_Bool (bytes_eq part first)) [
      | inl same ↦ rw same refl
      | inr other ↦ (let later : Contains parts part = elim (in_cases first parts part h) [ inl e ↦ absurd (tested_other part first other (sym e)) | inr l ↦ l ] in
          elim (cases_Bool (is_lt (slice_cmp nat_cmp part first))) [
            | inl less ↦ absurd (not_both_ways first part (rises_first first parts r part later) (is_before part first less))
            | inr not_less ↦ rw (other, not_less) (ap suc (part_there part parts (rises_rest first parts r) later))
          ])
    ]
  where
    is_before : (x y : List ℕ) → is_lt (slice_cmp nat_cmp x y) ≡ true → Before x y
    is_before x y e = by (slice_cmp nat_cmp x y) e
      where
        by : (o : Ordering) → is_lt o ≡ true → o ≡ Less
        by Less e = refl
        by Equal e = (let q : false ≡ true = e in cc)
        by Greater e = (let q : false ≡ true = e in cc)

-- a new part is one more
part_new : (part : List ℕ) (parts : List (List ℕ)) → (Contains parts part → ⊥) → length (with_part part parts) ≡ 1 + length parts
part_new part [] none = refl
part_new part (first ∷ parts) none =
    elim (cases_Bool (bytes_eq part first)) [
      | inl same ↦ absurd (none (subst (λ (z : List ℕ). Contains (first ∷ parts) z) (sym (tested_same part first same)) (in_here first parts)))
      | inr other ↦ elim (cases_Bool (is_lt (slice_cmp nat_cmp part first))) [
        | inl less ↦ rw (other, less) (omega arith)
        | inr not_less ↦ (let rest = part_new part parts (λ h. none (in_later first parts part h)) in rw (other, not_less) (omega (arith, rest)))
      ]
    ]

any_has : (text : List ℕ) (texts : List (List ℕ)) → list_any (bytes_eq text) texts ≡ true → Contains texts text
any_has text [] e = (let q : false ≡ true = e in cc)
any_has text (first ∷ texts) e =
    elim (cases_Bool (bytes_eq text first)) [
      | inl same ↦ subst (λ (z : List ℕ). Contains (first ∷ texts) z) (sym (tested_same text first same)) (in_here first texts)
      | inr other ↦ in_later first texts text (any_has text texts (rw other at e))
    ]

any_none : (text : List ℕ) (texts : List (List ℕ)) → list_any (bytes_eq text) texts ≡ false → Contains texts text → ⊥
any_none text [] e h = in_none text h
any_none text (first ∷ texts) e h =
    elim (cases_Bool (bytes_eq text first)) [
      | inl same ↦ (let q : true ≡ false = (rw same at e) in cc)
      | inr other ↦ elim (in_cases first texts text h) [ inl is ↦ tested_other text first other (sym is) | inr later ↦ any_none text texts (rw other at e) later ]
    ]

-- the texts with one name are one
abbrev Apart : List (List ℕ) → Type 0
Apart texts = (a b : List ℕ) → Contains texts a → Contains texts b → sha256 a ≡ sha256 b → a ≡ b

counted : (texts : List (List ℕ)) → Apart texts → length (sorted texts) ≡ different texts
unfolding sorted
counted [] apart = refl
counted (text ∷ texts) apart =
    let rest = counted texts (λ a b ha hb e. apart a b (in_later text texts a ha) (in_later text texts b hb) e) in
    elim (cases_Bool (list_any (bytes_eq text) texts)) [
      | inl again ↦ (
          let there = sorted_has texts (sha256 text) (map_has sha256 texts text (any_has text texts again)) in
          rw again (part_there (sha256 text) (sorted texts) (sorted_rises texts) there ∙ rest))
      | inr new ↦ (
          let none : Contains (sorted texts) (sha256 text) → ⊥ = λ h.
          let t = map_from sha256 texts (sha256 text) (sorted_from texts (sha256 text) h) in
          any_none text texts new (subst (λ (z : List ℕ). Contains texts z) (apart t.0 text (in_later text texts t.0 t.1) (in_here text texts) t.2) t.1) in
          rw new (part_new (sha256 text) (sorted texts) none ∙ ap (λ (n : ℕ). 1 + n) rest))
    ]

name_bytes : Name → List ℕ
name_bytes name = name.0

names_rise : (names : List Name) → IsStrictlySortedBy name_cmp names → Rises (map (λ (n : Name). n.0) names)
names_rise [] h = rises_none
names_rise (name ∷ names) h =
    rises_cons name.0 (map (λ (n : Name). n.0) names)
    (λ y has. let m = map_from (λ (n : Name). n.0) names y has in
    subst (λ (z : List ℕ). Before name.0 z) m.2 (All-contains (λ z. name_cmp name z ≡ Less) names m.0 (All-from_recursion _ names (sorted_head name_cmp name names h)) m.1))
    (names_rise names (sorted_tail name_cmp name names h))

has_apart : (store : List ℕ → Option (List ℕ)) (texts : List (List ℕ)) → Has store texts → Apart texts
has_apart store texts has a b ha hb e = some_same a b (sym (has a ha) ∙ ap store e ∙ has b hb)
  where
    some_same : (x y : List ℕ) → Some x ≡ Some y → x ≡ y
    some_same x y e = cc

-- two texts collide, or the store has as many names as there are different texts
pub count_is : (store : StoreView) (texts : List (List ℕ)) → IsStrictlySortedBy name_cmp (names_in store) → ((name : Name) → Contains (names_in store) name ↔ IsSome (text_of store name.0)) → HoldsTexts (text_of store) texts
    → Collide texts ⊎ (length (names_in store) ≡ different texts)
count_is store texts rises there holds =
    elim (collide_or_has (text_of store) texts holds) [
      | inl two ↦ inl two
      | inr has ↦ (
          let names = map (λ (n : Name). n.0) (names_in store) in
          let same : names ≡ sorted texts = same_rising names (sorted texts) (names_rise (names_in store) rises) (sorted_rises texts)
          (λ q h. sorted_has texts q (name_text store texts there holds q h))
          (λ q h. text_name store texts there holds q (sorted_from texts q h)) in
          inr (sym (length-map (names_in store) (λ (n : Name). n.0)) ∙ ap (λ (l : List (List ℕ)). length l) same ∙ counted texts (has_apart (text_of store) texts has)))
    ]
  where
    some_text : (o : Option (List ℕ)) → IsSome o → (t : List ℕ) × (o ≡ Some t)
    some_text None h = (let q : false ≡ true = h in cc)
    some_text (Some t) h = (t, refl)

    name_text : (store : StoreView) (texts : List (List ℕ)) → ((name : Name) → Contains (names_in store) name ↔ IsSome (text_of store name.0)) → HoldsTexts (text_of store) texts
        → (q : List ℕ) → Contains (map (λ (n : Name). n.0) (names_in store)) q → Contains (map sha256 texts) q
    name_text store texts there holds q h =
        let n = map_from (λ (n : Name). n.0) (names_in store) q h in
        let t = some_text (text_of store n.0.0) ((there n.0).0 n.1) in
        let k = holds.only n.0.0 t.0 t.1 in
        subst (λ (z : List ℕ). Contains (map sha256 texts) z) (sym k.1 ∙ n.2) (map_has sha256 texts t.0 k.0)

    text_name : (store : StoreView) (texts : List (List ℕ)) → ((name : Name) → Contains (names_in store) name ↔ IsSome (text_of store name.0)) → HoldsTexts (text_of store) texts
        → (q : List ℕ) → Contains (map sha256 texts) q → Contains (map (λ (n : Name). n.0) (names_in store)) q
    text_name store texts there holds q h =
        let t = map_from sha256 texts q h in
        let name : Name = record { 0 = q } in
        map_has (λ (n : Name). n.0) (names_in store) name ((there name).1 (subst (λ (z : List ℕ). IsSome (text_of store z)) t.2 (holds.all t.0 t.1)))
