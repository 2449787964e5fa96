-- Names that are read are spelled so, and what is spelled so is read again.
use Rattle.std.proofs.Common.{◌≡◌, ℕ, zero, suc, Bool, true, false, List, [], ◌∷◌, ◌++◌, length, Option, Some, None, refl, sym, ap, subst, ◌∙◌, append_assoc, append-nil, arith}
use Rattle.std.specs.Prelude.{◌&&◌, All}
use Rattle.std.proofs.lemmas.List.Concat.{flat_map-cons}
use Rattle.ms_base.specs.Places.{some_same}
use Rattle.ms_base.specs.Options.{◌>>=◌, bind_some}
use Rattle.ms_base.specs.declared.names.Name.{Name}
use Rattle.ms_base.specs.Fields.{IsBytes, name_at, many_at, at_end}
use Rattle.ms_base.specs.FieldLaws.{Takes, FieldsRead, FieldsSpelled, Takes-then}
use Rattle.ms_object.specs.Objects.{AreNames, names_text}
use Rattle.ms_object.specs.Reading.{given_if, names_at}

-- ---- steps

pub given_is : {A : Type 0} (b : Bool) (x y : A) → given_if b x ≡ Some y → (b ≡ true) × (x ≡ y)
given_is true x y e = (refl, cc)
given_is false x y e = absurd cc

-- ---- names

-- what holds of the first and of the others
pub All-cons : {A : Type 0} (P : A → Type 0) (x : A) (xs : List A) → P x → All P xs → All P (x ∷ xs)
All-cons P x xs here others zero d lt = here
All-cons P x xs here others (suc k) d lt = others k d (omega arith)

pub All-rest : {A : Type 0} (P : A → Type 0) (x : A) (xs : List A) → All P (x ∷ xs) → All P xs
All-rest P x xs h k d lt = h (suc k) d (omega arith)

pub All-first : {A : Type 0} (P : A → Type 0) (x : A) (xs : List A) → All P (x ∷ xs) → P x
All-first P x xs h = h 0 x (omega arith)

pub record TakesNames (count : ℕ) (text : List ℕ) (x : List Name × List ℕ) : Type 0 where
  pub takes : Takes text (names_text x.0) x.1
  pub names : AreNames x.0
  pub all : length x.0 ≡ count

pub names_take : FieldsSpelled → (count : ℕ) (text : List ℕ) (x : List Name × List ℕ) → IsBytes text → names_at count text ≡ Some x → TakesNames count text x
unfolding many_at
names_take law zero text x fits e =
    let none : AreNames [] = λ k d lt. absurd (omega arith) in
    subst (TakesNames zero text) (some_same ([], text) x e) (record { takes = record { parts = refl; bytes = fits }; names = none; all = refl })
names_take law (suc n) text x fits e =
    let a = bind_some (name_at text) (λ first. many_at name_at n first.1 >>= λ others. Some (first.0 ∷ others.0, others.1)) x e in
    let b = bind_some (many_at name_at n a.0.1) (λ others. Some (a.0.0 ∷ others.0, others.1)) x a.2 in
    let first = law.name text a.0 fits a.1 in
    let others = names_take law n a.0.1 b.0 first.0.bytes b.1 in
    let made : List Name × List ℕ = (a.0.0 ∷ b.0.0, b.0.1) in
    let whole = Takes-then text a.0.0.0 a.0.1 (names_text b.0.0) b.0.1 first.0 others.takes in
    let takes : Takes text (names_text made.0) made.1 = rw flat_map-cons whole in
    subst (TakesNames (suc n) text) (some_same made x b.2)
    (record { takes = takes; names = All-cons (λ (name : Name). length name.0 ≡ 32) a.0.0 b.0.0 first.1 others.names; all = ap suc others.all })

pub names_again : FieldsRead → (names : List Name) (rest : List ℕ) → AreNames names → names_at (length names) (names_text names ++ rest) ≡ Some (names, rest)
unfolding many_at
names_again law [] rest fits = refl
names_again law (n ∷ ns) rest fits =
    let is_name = λ (name : Name). length name.0 ≡ 32 in
    let regrouped : names_text (n ∷ ns) ++ rest ≡ n.0 ++ (names_text ns ++ rest) = ap (λ (x : List ℕ). x ++ rest) (flat_map-cons (λ (name : Name). name.0) n ns) ∙ append_assoc n.0 (names_text ns) rest in
    let first : name_at (n.0 ++ (names_text ns ++ rest)) ≡ Some (n, names_text ns ++ rest) = law.name n (names_text ns ++ rest) (All-first is_name n ns fits) in
    let others : names_at (length ns) (names_text ns ++ rest) ≡ Some (ns, rest) = names_again law ns rest (All-rest is_name n ns fits) in
    ap (λ (t : List ℕ). names_at (suc (length ns)) t) regrouped ∙ rw (first, others) refl
