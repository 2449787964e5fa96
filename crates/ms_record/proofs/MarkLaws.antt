-- A mark that is read is spelled so, and what is spelled so is read again.
use Rattle.std.proofs.Common.{◌≡◌, ℕ, List, [], ◌∷◌, ◌++◌, Option, Some, None, Bool, true, false, cond, refl, sym, ap, subst, ◌∙◌, append_assoc, append-nil, arith}
use Rattle.std.specs.Prelude.{IfSome, ◌==◌}
use Rattle.std.specs.Int.{w32, to_be_bytes}
use Rattle.std.proofs.lemmas.Bool.{eqb-true}
use Rattle.ms_base.specs.Places.{some_same}
use Rattle.ms_base.specs.Options.{◌>>=◌, bind_some}
use Rattle.ms_base.specs.declared.limits.TheConstants.{LAST_NUMBER}
use Rattle.ms_base.specs.declared.names.Name.{Name}
use Rattle.ms_base.specs.Fields.{IsBytes, number_at, number_within, name_at, at_end}
use Rattle.ms_base.specs.FieldLaws.{Takes, FieldsRead, FieldsSpelled, ended, IsBytes-rest, Takes-then}
use Rattle.ms_record.specs.declared.mark.RefMark.{RefMark}
use Rattle.ms_record.specs.Marks.{IsMark, mark_text, marked_at, tagged_mark_at, mark_at}

abbrev mark_of : ℕ → ℕ → Name → RefMark
mark_of number position name = record { number = number; position = position; name = name }

-- a mark's spelling without its tag
abbrev rest_text : RefMark → List ℕ
rest_text m = to_be_bytes w32 m.number ++ to_be_bytes w32 m.position ++ m.name.0

when_some : {A : Type 0} (b : Bool) (o : Option A) (y : A) → cond b o None ≡ Some y → (b ≡ true) × (o ≡ Some y)
when_some true o y e = (refl, e)
when_some false o y e = absurd cc

marked_takes : FieldsSpelled → (text : List ℕ) (x : RefMark × List ℕ) → IsBytes text → marked_at text ≡ Some x → Takes text (rest_text x.0) x.1 × IsMark x.0
unfolding marked_at
marked_takes law text x fits e =
    let n = bind_some (number_at w32 text) (λ n. number_within 0 LAST_NUMBER n.1 >>= λ p. name_at p.1 >>= λ b. Some (mark_of n.0 p.0 b.0, b.1)) x e in
    let p = bind_some (number_within 0 LAST_NUMBER n.0.1) (λ p. name_at p.1 >>= λ b. Some (mark_of n.0.0 p.0 b.0, b.1)) x n.2 in
    let b = bind_some (name_at p.0.1) (λ b. Some (mark_of n.0.0 p.0.0 b.0, b.1)) x p.2 in
    let t0 = law.four text n.0 fits n.1 in
    let t1 = law.within 0 LAST_NUMBER n.0.1 p.0 t0.0.bytes p.1 in
    let t2 = law.name p.0.1 b.0 t1.0.bytes b.1 in
    let front = Takes-then text (to_be_bytes w32 n.0.0) n.0.1 (to_be_bytes w32 p.0.0) p.0.1 t0.0 t1.0 in
    let made : RefMark × List ℕ = (mark_of n.0.0 p.0.0 b.0.0, b.0.1) in
    subst (λ (y : RefMark × List ℕ). Takes text (rest_text y.0) y.1 × IsMark y.0) (some_same made x b.2)
    (Takes-then text (to_be_bytes w32 n.0.0 ++ to_be_bytes w32 p.0.0) p.0.1 b.0.0.0 b.0.1 front t2.0, record { number = t0.1; position = t1.2; name = t2.1 })

marked_again : FieldsRead → (m : RefMark) → IsMark m → marked_at (rest_text m) ≡ Some (m, [])
unfolding marked_at
marked_again law m h =
    let name : name_at m.name.0 ≡ Some (m.name, []) = ap name_at (sym (append-nil m.name.0)) ∙ law.name m.name [] h.name in
    let position = law.within 0 LAST_NUMBER m.position m.name.0 (omega arith) h.position (omega (arith, h.position)) in
    let grouped : rest_text m ≡ to_be_bytes w32 m.number ++ (to_be_bytes w32 m.position ++ m.name.0) = append_assoc (to_be_bytes w32 m.number) (to_be_bytes w32 m.position) m.name.0 in
    ap marked_at grouped ∙ rw (law.four m.number (to_be_bytes w32 m.position ++ m.name.0) h.number, position, name) refl

tagged_is_read : FieldsSpelled → (tag : ℕ) (text : List ℕ) (m : RefMark) → IsBytes text → tagged_mark_at tag text ≡ Some m → IsMark m × (tag ∷ text ≡ mark_text m)
unfolding tagged_mark_at
tagged_is_read law tag text m fits e =
    let w = when_some (tag == 82) (marked_at text >>= at_end) m e in
    let x = bind_some (marked_at text) at_end m w.1 in
    let h = marked_takes law text x.0 fits x.1 in
    let k = ended x.0 m x.2 in
    let whole : text ≡ rest_text x.0.0 = h.0.parts ∙ ap (λ (r : List ℕ). rest_text x.0.0 ++ r) k.1 ∙ append-nil (rest_text x.0.0) in
    let spelled : tag ∷ text ≡ mark_text x.0.0 = ap (λ (t : ℕ). t ∷ text) (eqb-true tag 82 w.0) ∙ ap (λ (r : List ℕ). 82 ∷ r) whole in
    subst (λ (y : RefMark). IsMark y × (tag ∷ text ≡ mark_text y)) k.0 (h.1, spelled)

pub mark_is_read : FieldsSpelled → (text : List ℕ) (m : RefMark) → IsBytes text → mark_at text ≡ Some m → IsMark m × (text ≡ mark_text m)
unfolding mark_at
mark_is_read law [] m fits e = absurd cc
mark_is_read law (tag ∷ rest) m fits e = tagged_is_read law tag rest m (IsBytes-rest tag rest fits) e

pub mark_is_read_again : FieldsRead → (m : RefMark) → IsMark m → mark_at (mark_text m) ≡ Some m
unfolding mark_at tagged_mark_at
mark_is_read_again law m h = rw (marked_again law m h) refl

pub mark_is_found : FieldsSpelled → (text : List ℕ) (o : Option RefMark) → IsBytes text → o ≡ mark_at text → IfSome o (λ m. IsMark m × (text ≡ mark_text m))
mark_is_found law text None fits is = tt
mark_is_found law text (Some m) fits is = mark_is_read law text m fits (sym is)
