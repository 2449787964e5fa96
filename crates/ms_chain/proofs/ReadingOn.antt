-- A chain that reads a list on.
use Rattle.std.proofs.Common.{◌≡◌, ℕ, ◌<◌, List, [], ◌∷◌, ◌++◌, Result, Ok, Err, inl, inr, refl, sym, ap, ◌∙◌, subst, slice_set, length, drop, arith, append_assoc}
use mathlib.Core.List.{IsPrefix}
use Rattle.std.specs.Result.{IsErr}
use Rattle.std.proofs.lemmas.Bool.{cases_eq}
use Rattle.std.proofs.lemmas.List.{get_or-set_other, get_or-set_same, length-set, set-get_or, set-set}
use Rattle.ms_base.specs.declared.bytes.NoMemory.{NoMemory}
use Rattle.ms_ken.specs.Prefixes.{prefix_self}
use Rattle.ms_local.specs.Learning.{ChainView, texts_read}
use Rattle.ms_chain.specs.Readings.{ListsGoOn, TakesTexts, with_texts}

append_nil : {A : Type 0} (xs : List A) → xs ++ [] ≡ xs
append_nil [] = refl
append_nil (x ∷ xs) = ap (λ t. x ∷ t) (append_nil xs)

-- ---- the lists of a chain

pub texts_here : (chain : ChainView) (s : ℕ) (texts : List (List ℕ)) → s < length chain.lists → texts_read (with_texts chain s texts) s ≡ texts_read chain s ++ texts
texts_here chain s texts lt = get_or-set_same chain.lists s (texts_read chain s ++ texts) [] lt

pub texts_there : (chain : ChainView) (s x : ℕ) (texts : List (List ℕ)) → (x ≡ s → ⊥) → texts_read (with_texts chain s texts) x ≡ texts_read chain x
texts_there chain s x texts ne = get_or-set_other chain.lists s x (texts_read chain s ++ texts) [] ne

pub with_none : (chain : ChainView) (s : ℕ) → with_texts chain s [] ≡ chain
with_none chain s = λ i. record chain { lists = same i }
  where
    same : slice_set chain.lists s (texts_read chain s ++ []) ≡ chain.lists
    same = ap (slice_set chain.lists s) (append_nil (texts_read chain s)) ∙ set-get_or chain.lists s []

pub with_more : (chain : ChainView) (s : ℕ) (front : List (List ℕ)) (text : List ℕ) → s < length chain.lists → with_texts (with_texts chain s front) s (text ∷ []) ≡ with_texts chain s (front ++ text ∷ [])
with_more chain s front text lt = λ i. record chain { lists = same i }
  where
    same : slice_set (with_texts chain s front).lists s (texts_read (with_texts chain s front) s ++ text ∷ []) ≡ slice_set chain.lists s (texts_read chain s ++ (front ++ text ∷ []))
    same =
        set-set chain.lists s (texts_read chain s ++ front) (texts_read (with_texts chain s front) s ++ text ∷ [])
        ∙ ap (λ (t : List (List ℕ)). slice_set chain.lists s (t ++ text ∷ [])) (texts_here chain s front lt)
        ∙ ap (slice_set chain.lists s) (append_assoc (texts_read chain s) front (text ∷ []))

pub many_with : (chain : ChainView) (s : ℕ) (texts : List (List ℕ)) → length (with_texts chain s texts).lists ≡ length chain.lists
many_with chain s texts = length-set chain.lists s (texts_read chain s ++ texts)

pub goes_by : (chain : ChainView) (s : ℕ) (texts : List (List ℕ)) → s < length chain.lists → ListsGoOn chain (with_texts chain s texts)
goes_by chain s texts lt = record {
  same = refl;
  many = many_with chain s texts;
  goes = λ x.
      elim (cases_eq x s) [
        | inl e ↦ subst (λ (y : ℕ). IsPrefix (texts_read chain y) (texts_read (with_texts chain s texts) y)) (sym e) (texts, sym (texts_here chain s texts lt))
        | inr ne ↦ subst (λ (t : List (List ℕ)). IsPrefix (texts_read chain x) t) (sym (texts_there chain s x texts ne)) (prefix_self (texts_read chain x))
      ];
}

-- ---- texts that come one by one

pub all_came : (came left texts : List (List ℕ)) → texts ≡ came ++ left → length left ≡ 0 → came ≡ texts
all_came came [] texts e none = sym (e ∙ append_nil came)
all_came came (text ∷ left) texts e none = absurd (omega arith)

pub takes_front : (old new : ChainView) (s : ℕ) (texts front : List (List ℕ)) (r : Result Unit NoMemory) → IsErr r → IsPrefix front texts → new ≡ with_texts old s front → TakesTexts old new s texts r
takes_front old new s texts front (Ok u) is p e = absurd (cc is)
takes_front old new s texts front (Err error) is p e = (front, p, e)

-- ---- what is told of a list

rest_of : {A : Type 0} (xs zs : List A) → IsPrefix xs zs → xs ++ drop (length xs) zs ≡ zs
rest_of [] zs p = refl
rest_of (x ∷ xs) [] p = absurd (let q = p.1 in cc q)
rest_of (x ∷ xs) (z ∷ zs) p =
    let q : x ∷ (xs ++ p.0) ≡ z ∷ zs = p.1 in
    let first : x ≡ z = cc q in
    let rest : xs ++ p.0 ≡ zs = cc q in
    ap (λ t. x ∷ t) (rest_of xs zs (p.0, rest)) ∙ ap (λ y. y ∷ zs) first

-- what was read, and all that came from there on, is the list
pub reads_all : {A : Type 0} (old more zs : List A) → IsPrefix old zs → more ≡ drop (length old) zs → old ++ more ≡ zs
reads_all old more zs p e = ap (λ t. old ++ t) e ∙ rest_of old zs p

-- a front of what came begins the list with what was read
pub reads_front : {A : Type 0} (old front more zs : List A) → IsPrefix old zs → more ≡ drop (length old) zs → IsPrefix front more → IsPrefix (old ++ front) zs
reads_front old front more zs p e f = (f.0, append_assoc old front f.0 ∙ ap (λ t. old ++ t) f.1 ∙ reads_all old more zs p e)
