-- An object is put under its name.
use Rattle.std.proofs.Common.{◌≡◌, ◌≢◌, ℕ, true, false, Bool, cond, List, Option, Some, refl, sym, ap, ◌∙◌}
use Rattle.std.specs.Prelude.{bytes_eq}
use Rattle.std.specs.Ordering.{is_eq, nat_cmp}
use Rattle.std.specs.Cmp.Lexicographic.{slice_cmp}
use Rattle.std.proofs.lemmas.Slice.Eq.{bytes_eq-Decides}
use Rattle.std.proofs.lemmas.Map.Text.{is_eq-slice_cmp}
use Rattle.ms_base.specs.declared.names.Name.{Name}
use Rattle.ms_object.specs.Stores.{text_of}
use Rattle.ms_record.specs.declared.key.Key.{Key}
use Rattle.ms_record.specs.declared.key.Key.TheVariants.{State, Object}
use Rattle.ms_local.specs.Outside.{IsKept}
use Rattle.ms_local.specs.Memory.{texts_by}

same_bytes : (xs : List ℕ) → bytes_eq xs xs ≡ true
same_bytes xs = (bytes_eq-Decides xs xs).1 refl

name_is : (a b : Name) → a.0 ≡ b.0 → a ≡ b
name_is a b e = ap (λ (bytes : List ℕ). let n : Name = record { 0 = bytes } in n) e

pub object_kept : (state : Option (List ℕ)) (old new : List (Name × List ℕ)) (name : Name) (text : List ℕ)
    → ((q : Name) → text_of new q.0 ≡ cond (is_eq (slice_cmp nat_cmp name.0 q.0)) (Some text) (text_of old q.0)) → IsKept (Object name) text (texts_by state old) (texts_by state new)
object_kept state old new name text h = record {
  here = h name ∙ ap (λ (b : Bool). cond b (Some text) (text_of old name.0)) (is_eq-slice_cmp name.0 name.0 ∙ same_bytes name.0);
  others = others_of;
}
  where
    off : (q : Name) (b : Bool) → bytes_eq name.0 q.0 ≡ b → Object q ≢ Object name → cond b (Some text) (text_of old q.0) ≡ text_of old q.0
    off q true e apart = absurd (apart (ap (λ (n : Name). Object n) (sym (name_is name q ((bytes_eq-Decides name.0 q.0).0 e)))))
    off q false e apart = refl

    others_of : (other : Key) → other ≢ Object name → texts_by state new other ≡ texts_by state old other
    others_of State apart = refl
    others_of (Object q) apart =
        h q ∙ ap (λ (b : Bool). cond b (Some text) (text_of old q.0)) (is_eq-slice_cmp name.0 q.0) ∙ off q (bytes_eq name.0 q.0) refl apart
