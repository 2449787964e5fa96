-- Stores that gain texts.
use Rattle.std.proofs.Common.{◌≡◌, ◌≢◌, ℕ, true, false, List, [], ◌∷◌, ◌++◌, ◌⊎◌, inl, inr, refl, sym, ap, ◌∙◌, subst, Contains, Option, Some, None, IsSome, bytes_eq, unwrap_or, Result, Ok, Err, OnOk}
use Rattle.std.proofs.lemmas.Bool.{cases_Bool, cond-true, cond-false, false_from_ne_true}
use Rattle.std.proofs.lemmas.List.Elements.{Contains-append_left, Contains-append_right, Contains-append_cases}
use Rattle.sha2.specs.Sha256.{sha256}
use Rattle.ms_base.specs.Places.{in_none, in_here, in_cases}
use Rattle.ms_object.specs.Stores.{text_after}
use Rattle.ms_object.specs.Trees.{Texts}
use Rattle.ms_tree.specs.Planting.{AddsTexts}
use Rattle.ms_tree.proofs.Groups.{tested_same, tested_other, same_tested}

pub adds_none : (store : Texts) → AddsTexts store store []
adds_none store = record { kept = λ name text is. is; all = λ text has. absurd (in_none text has); only = λ name text is. inl is }

pub adds_more : (old mid new : Texts) (first others : List (List ℕ)) → AddsTexts old mid first → AddsTexts mid new others → AddsTexts old new (first ++ others)
adds_more old mid new first others a b = record {
  kept = λ name text is. b.kept name text (a.kept name text is);
  all = λ text has. elim (Contains-append_cases first others text has) [ inl before ↦ still (sha256 text) (a.all text before) | inr now ↦ b.all text now ];
  only = λ name text is. elim (b.only name text is) [
    | inl before ↦ elim (a.only name text before) [ inl was ↦ inl was | inr f ↦ inr (Contains-append_left first others text f.0, f.1) ]
    | inr s ↦ inr (Contains-append_right first others text s.0, s.1)
  ];
}
  where
    known : (o : Option (List ℕ)) (name : List ℕ) → mid name ≡ o → IsSome o → IsSome (new name)
    known None name e h = (let f : false ≡ true = h in cc)
    known (Some text) name e h = rw (b.kept name text e) refl

    still : (name : List ℕ) → IsSome (mid name) → IsSome (new name)
    still name h = known (mid name) name refl h

some_is : (a : List ℕ) (o : Option (List ℕ)) → o ≡ Some a → IsSome o
some_is a o e = rw e refl

-- one text is put where nothing stands, or stays
pub adds_text : (old new : Texts) (text : List ℕ) → new (sha256 text) ≡ Some (unwrap_or (old (sha256 text)) text) → ((name : List ℕ) → name ≢ sha256 text → new name ≡ old name) → AddsTexts old new (text ∷ [])
adds_text old new text there others = record {
  kept = λ name held is. elim (cases_Bool (bytes_eq name (sha256 text))) [
    | inl e ↦ (let s = tested_same name (sha256 text) e in ap new s ∙ there ∙ ap (λ (o : Option (List ℕ)). Some (unwrap_or o text)) (ap old (sym s) ∙ is))
    | inr e ↦ others name (tested_other name (sha256 text) e) ∙ is
  ];
  all = λ held has. elim (in_cases text [] held has) [ inl s ↦ some_is (unwrap_or (old (sha256 text)) text) (new (sha256 held)) (ap (λ (t : List ℕ). new (sha256 t)) (sym s) ∙ there) | inr none ↦ absurd (in_none held none) ];
  only = λ name held is. elim (cases_Bool (bytes_eq name (sha256 text))) [
    | inl e ↦ (let s = tested_same name (sha256 text) e in by (old (sha256 text)) refl name held s (sym there ∙ ap new (sym s) ∙ is))
    | inr e ↦ inl (sym (others name (tested_other name (sha256 text) e)) ∙ is)
  ];
}
  where
    by : (o : Option (List ℕ)) → old (sha256 text) ≡ o → (name held : List ℕ) → name ≡ sha256 text → Some (unwrap_or (old (sha256 text)) text) ≡ Some held → (old name ≡ Some held) ⊎ (Contains (text ∷ []) held × (name ≡ sha256 held))
    by None e name held s h =
        let same : text ≡ held = (let q : Some (unwrap_or None text) ≡ Some held = ap (λ (o : Option (List ℕ)). Some (unwrap_or o text)) (sym e) ∙ h in cc) in
        inr (subst (λ (t : List ℕ). Contains (text ∷ []) t) same (in_here text []), s ∙ ap sha256 same)
    by (Some was) e name held s h =
        let same : Some was ≡ Some held = ap (λ (o : Option (List ℕ)). Some (unwrap_or o text)) (sym e) ∙ h in
        inl (ap old s ∙ e ∙ same)

pub kept_text : {A E : Type 0} (r : Result A E) (old new : Texts) (text : List ℕ) → OnOk r ((name : List ℕ) → new name ≡ text_after old text name) → OnOk r (AddsTexts old new (text ∷ []))
kept_text (Ok a) old new text after =
    adds_text old new text (after (sha256 text) ∙ cond-true _ _ _ (same_tested (sha256 text) (sha256 text) refl))
    (λ name other. after name ∙ cond-false _ _ _ (false_from_ne_true _ (λ e. other (sym (tested_same (sha256 text) name e)))))
kept_text (Err e) old new text after = tt

pub kept_more : {A E : Type 0} (r : Result A E) (old mid new : Texts) (first others : List (List ℕ)) → AddsTexts old mid first → OnOk r (AddsTexts mid new others) → OnOk r (AddsTexts old new (first ++ others))
kept_more (Ok a) old mid new first others before now = adds_more old mid new first others before now
kept_more (Err e) old mid new first others before now = tt
