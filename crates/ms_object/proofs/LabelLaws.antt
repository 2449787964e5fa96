-- The rule of labels and the test of it.
use Rattle.std.proofs.Common.{◌≡◌, ℕ, Bool, true, false, List, [], ◌∷◌, refl, sym, ◌∙◌, subst, length, get_or, eq-eqb}
use Rattle.std.specs.Prelude.{◌&&◌, ◌||◌, ◌==◌, not, nat_le, bytes_eq, Contains, ◌↔◌, Result, Ok, Err, MatchResult, is_ok, IsUtf8}
use Rattle.std.specs.Str.{is_utf8}
use Rattle.std.specs.List.{list_any}
use Rattle.std.specs.Bool.{Decides, IsTrue}
use Rattle.std.proofs.lemmas.Bool.{leb-true, le-leb, eqb-true}
use Rattle.std.proofs.lemmas.List.Folds.{Any-from_list_any, list_any-from_Any}
use Rattle.std.proofs.lemmas.Slice.Eq.{bytes_eq-Decides}
use Rattle.std.proofs.lemmas.Str.{IsUtf8-from_is_utf8, is_utf8-from_IsUtf8}
use Rattle.ms_base.specs.Options.{both}
use Rattle.ms_object.specs.Labels.{IsLabel, is_dots, has_separator, is_label}

joined : (a b : Bool) → a ≡ true → b ≡ true → (a && b) ≡ true
joined a b p q = rw (p, q) refl

-- what none of two tests finds
neither : {P Q : Type 0} (a b : Bool) → Decides a P → Decides b Q → Decides (not (a || b)) ((P → ⊥) × (Q → ⊥))
neither true b p q = (λ h. absurd cc, λ h. absurd (h.0 (p.0 refl)))
neither false true p q = (λ h. absurd cc, λ h. absurd (h.1 (q.0 refl)))
neither false false p q = (λ h. (λ x. let e : false ≡ true = p.1 x in absurd cc, λ x. let e : false ≡ true = q.1 x in absurd cc), λ h. refl)

contained : (label : List ℕ) (byte : ℕ) → Decides (list_any (λ b. b == byte) label) (Contains label byte)
contained label byte = (
  λ h. let a = Any-from_list_any (λ (b : ℕ). b == byte) label h in
      let is : a.1 ≡ byte = eqb-true a.1 byte a.4 in
      (a.0, a.2, subst (λ (b : ℕ). get_or label a.0 b ≡ b) is a.3),
  λ h. list_any-from_Any (λ (b : ℕ). b == byte) label (h.0, byte, h.1, h.2, eq-eqb byte byte refl),
)

no_dots : (label : List ℕ) → Decides (not (is_dots label)) ((label ≡ 46 ∷ [] → ⊥) × (label ≡ 46 ∷ 46 ∷ [] → ⊥))
no_dots label = neither (bytes_eq label (46 ∷ [])) (bytes_eq label (46 ∷ 46 ∷ [])) (bytes_eq-Decides label (46 ∷ [])) (bytes_eq-Decides label (46 ∷ 46 ∷ []))

no_separator : (label : List ℕ) → Decides (not (has_separator label)) ((Contains label 47 → ⊥) × (Contains label 0 → ⊥))
no_separator label = neither (list_any (λ b. b == 47) label) (list_any (λ b. b == 0) label) (contained label 47) (contained label 0)

-- a label that passes the test keeps the rule
pub label_passes : (label : List ℕ) → is_label label ≡ true → IsLabel label
unfolding is_label
label_passes label h =
    let a = both _ (not (has_separator label)) h in
    let b = both _ (not (is_dots label)) a.0 in
    let c = both _ (nat_le (length label) 200) b.0 in
    let d = both (is_utf8 label) (nat_le 1 (length label)) c.0 in
    let dots = (no_dots label).0 b.1 in
    let separators = (no_separator label).0 a.1 in
    record {
      text = IsUtf8-from_is_utf8 label d.0;
      some = leb-true 1 (length label) d.1;
      few = leb-true (length label) 200 c.1;
      not_here = dots.0;
      not_above = dots.1;
      no_slash = separators.0;
      no_nul = separators.1;
    }

-- and one that keeps it passes
pub label_keeps : (label : List ℕ) → IsLabel label → is_label label ≡ true
unfolding is_label
label_keeps label h =
    joined _ (not (has_separator label))
    (joined _ (not (is_dots label))
    (joined _ (nat_le (length label) 200)
    (joined (is_utf8 label) (nat_le 1 (length label)) (is_utf8-from_IsUtf8 label h.text) (le-leb 1 (length label) h.some))
    (le-leb (length label) 200 h.few))
    ((no_dots label).1 (h.not_here, h.not_above)))
    ((no_separator label).1 (h.no_slash, h.no_nul))

pub label_decided : (b : Bool) (label : List ℕ) → b ≡ is_label label → IsTrue b ↔ IsLabel label
label_decided b label is = (λ h. label_passes label (sym is ∙ h), λ h. is ∙ label_keeps label h)

false_unless : (b : Bool) → (b ≡ true → ⊥) → b ≡ false
false_unless true never = absurd (never refl)
false_unless false never = refl

-- a text is UTF-8 where it is read so
pub text_decided : {A B : Type 0} (P : A → Type 0) (Q : B → Type 0) (r : Result A B) (label : List ℕ)
    → MatchResult r (λ s. P s × IsUtf8 label) (λ e. (IsUtf8 label → ⊥) × Q e) → is_ok r ≡ is_utf8 label
text_decided P Q (Ok s) label h = sym (is_utf8-from_IsUtf8 label h.1)
text_decided P Q (Err e) label h = sym (false_unless (is_utf8 label) (λ t. h.0 (IsUtf8-from_is_utf8 label t)))
