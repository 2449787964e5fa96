-- The rule of labels and the test of it.
use Rattle.std.proofs.Common.{◌≡◌, ℕ, Bool, true, false, List, refl, sym, ◌∙◌, length, get_or, nat_le, eq-eqb}
use Rattle.std.specs.Prelude.{◌==◌, ◌&&◌, not, IsTrue, ◌↔◌}
use Rattle.std.specs.List.{list_all}
use Rattle.std.proofs.lemmas.Bool.{leb-true, le-leb, eqb-true}
use Rattle.std.proofs.lemmas.List.Sums.{AllPass-from_list_all, list_all-from_AllPass}
use Rattle.ms_base.specs.Options.{both}
use Rattle.ms_base.specs.declared.limits.TheConstants.{CLIENT_LABEL_BYTES}
use Rattle.ms_text.specs.Labels.{IsClientLabel, is_label, is_label_byte}

joined : (a b : Bool) → a ≡ true → b ≡ true → (a && b) ≡ true
joined a b p q = rw (p, q) refl

not_true : (b : Bool) → not b ≡ true → b ≡ true → ⊥
not_true true h e = absurd cc
not_true false h e = absurd cc

true_unless : (b : Bool) → (b ≡ true → ⊥) → not b ≡ true
true_unless true h = absurd (h refl)
true_unless false h = refl

pub label_passes : (text : List ℕ) → is_label text ≡ true → IsClientLabel text
unfolding is_label
label_passes text h =
    let a = both _ (list_all is_label_byte text) h in
    let b = both _ (not (get_or text 0 0 == 45)) a.0 in
    let c = both (nat_le 1 (length text)) (nat_le (length text) CLIENT_LABEL_BYTES) b.0 in
    record {
      some = leb-true 1 (length text) c.0;
      few = leb-true (length text) CLIENT_LABEL_BYTES c.1;
      first = λ e. not_true (get_or text 0 0 == 45) b.1 (eq-eqb (get_or text 0 0) 45 e);
      bytes = AllPass-from_list_all is_label_byte text a.1;
    }

pub label_keeps : (text : List ℕ) → IsClientLabel text → is_label text ≡ true
unfolding is_label
label_keeps text h =
    joined _ (list_all is_label_byte text)
    (joined _ (not (get_or text 0 0 == 45))
    (joined (nat_le 1 (length text)) (nat_le (length text) CLIENT_LABEL_BYTES) (le-leb 1 (length text) h.some) (le-leb (length text) CLIENT_LABEL_BYTES h.few))
    (true_unless (get_or text 0 0 == 45) (λ e. h.first (eqb-true (get_or text 0 0) 45 e))))
    (list_all-from_AllPass is_label_byte text h.bytes)

pub label_decided : (b : Bool) (text : List ℕ) → b ≡ is_label text → IsTrue b ↔ IsClientLabel text
label_decided b text is = (λ h. label_passes text (sym is ∙ h), λ h. is ∙ label_keeps text h)
