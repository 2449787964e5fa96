-- A state that is read is spelled so, and what is spelled so is read again.
use Rattle.std.proofs.Common.{◌≡◌, ℕ, Bool, true, false, List, [], ◌∷◌, ◌++◌, Option, Some, None, refl, sym, ap, subst, ◌∙◌, append_assoc, append-nil, arith, inl, inr, ◌⊎◌}
use Rattle.std.specs.Prelude.{IfSome, ◌==◌, if◌then◌else◌}
use Rattle.std.specs.Int.{w32, to_be_bytes}
use Rattle.std.proofs.lemmas.Bool.{eqb-true}
use Rattle.ms_base.specs.Places.{some_same}
use Rattle.ms_base.specs.Options.{◌>>=◌, bind_some}
use Rattle.ms_base.specs.declared.limits.TheConstants.{LAST_NUMBER}
use Rattle.ms_base.specs.declared.names.Name.{Name}
use Rattle.ms_base.specs.Fields.{IsBytes, byte_at, number_within, name_at, at_end}
use Rattle.ms_base.specs.FieldLaws.{Takes, FieldsRead, FieldsSpelled, ended, IsBytes-rest, Takes-then}
use Rattle.ms_local.specs.declared.kept.Base.{Base}
use Rattle.ms_local.specs.declared.kept.Todo.{Todo}
use Rattle.ms_local.specs.declared.kept.Kept.{Kept}
use Rattle.ms_local.specs.States.{IsBase, IsTodo, IsState, base_text, todo_text, todo_part, kept_text, base_at, todo_at, todo_in, state_at, kept_at}

-- ---- steps

abbrev given : {A : Type 0} → A → Option A
given x = Some x

-- a choice that gave a value gave it in one of its cases
either_some : {A : Type 0} (b c : Bool) (o p : Option A) (y : A) → (if b then o else if c then p else None) ≡ Some y → ((b ≡ true) × (o ≡ Some y)) ⊎ ((c ≡ true) × (p ≡ Some y))
either_some true c o p y e = inl (refl, e)
either_some false true o p y e = inr (refl, e)
either_some false false o p y e = absurd cc

when_some : {A : Type 0} (b : Bool) (o : Option A) (y : A) → (if b then o else None) ≡ Some y → (b ≡ true) × (o ≡ Some y)
when_some true o y e = (refl, e)
when_some false o y e = absurd cc

-- ---- bases

abbrev base_of : ℕ → Name → Name → Base
base_of position entry version = record { position = position; entry = entry; version = version }

base_takes : FieldsSpelled → (text : List ℕ) (x : Base × List ℕ) → IsBytes text → base_at text ≡ Some x → Takes text (base_text x.0) x.1 × IsBase x.0
unfolding base_at
base_takes law text x fits e =
    let p = bind_some (number_within 0 LAST_NUMBER text) (λ p. name_at p.1 >>= λ n. name_at n.1 >>= λ v. Some (base_of p.0 n.0 v.0, v.1)) x e in
    let n = bind_some (name_at p.0.1) (λ n. name_at n.1 >>= λ v. Some (base_of p.0.0 n.0 v.0, v.1)) x p.2 in
    let v = bind_some (name_at n.0.1) (λ v. Some (base_of p.0.0 n.0.0 v.0, v.1)) x n.2 in
    let t0 = law.within 0 LAST_NUMBER text p.0 fits p.1 in
    let t1 = law.name p.0.1 n.0 t0.0.bytes n.1 in
    let t2 = law.name n.0.1 v.0 t1.0.bytes v.1 in
    let made : Base × List ℕ = (base_of p.0.0 n.0.0 v.0.0, v.0.1) in
    let front = Takes-then text (to_be_bytes w32 p.0.0) p.0.1 n.0.0.0 n.0.1 t0.0 t1.0 in
    subst (λ (y : Base × List ℕ). Takes text (base_text y.0) y.1 × IsBase y.0) (some_same made x v.2)
    (Takes-then text (to_be_bytes w32 p.0.0 ++ n.0.0.0) n.0.1 v.0.0.0 v.0.1 front t2.0, record { position = t0.2; entry = t1.1; version = t2.1 })

base_again : FieldsRead → (base : Base) (rest : List ℕ) → IsBase base → base_at (base_text base ++ rest) ≡ Some (base, rest)
unfolding base_at
base_again law base rest h =
    let one = to_be_bytes w32 base.position in
    let grouped : base_text base ++ rest ≡ one ++ (base.entry.0 ++ (base.version.0 ++ rest)) = append_assoc (one ++ base.entry.0) base.version.0 rest ∙ append_assoc one base.entry.0 (base.version.0 ++ rest) in
    ap base_at grouped
    ∙ rw (law.within 0 LAST_NUMBER base.position (base.entry.0 ++ (base.version.0 ++ rest)) (omega arith) h.position (omega (arith, h.position)), law.name base.entry (base.version.0 ++ rest) h.entry, law.name base.version rest h.version) refl

-- ---- todos

abbrev todo_of : Base → Name → Name → Todo
todo_of target before after = record { target = target; before = before; after = after }

todo_takes : FieldsSpelled → (text : List ℕ) (x : Todo × List ℕ) → IsBytes text → todo_at text ≡ Some x → Takes text (todo_text x.0) x.1 × IsTodo x.0
unfolding todo_at
todo_takes law text x fits e =
    let p = bind_some (base_at text) (λ p. name_at p.1 >>= λ n. name_at n.1 >>= λ v. Some (todo_of p.0 n.0 v.0, v.1)) x e in
    let n = bind_some (name_at p.0.1) (λ n. name_at n.1 >>= λ v. Some (todo_of p.0.0 n.0 v.0, v.1)) x p.2 in
    let v = bind_some (name_at n.0.1) (λ v. Some (todo_of p.0.0 n.0.0 v.0, v.1)) x n.2 in
    let t0 = base_takes law text p.0 fits p.1 in
    let t1 = law.name p.0.1 n.0 t0.0.bytes n.1 in
    let t2 = law.name n.0.1 v.0 t1.0.bytes v.1 in
    let made : Todo × List ℕ = (todo_of p.0.0 n.0.0 v.0.0, v.0.1) in
    let front = Takes-then text (base_text p.0.0) p.0.1 n.0.0.0 n.0.1 t0.0 t1.0 in
    subst (λ (y : Todo × List ℕ). Takes text (todo_text y.0) y.1 × IsTodo y.0) (some_same made x v.2)
    (Takes-then text (base_text p.0.0 ++ n.0.0.0) n.0.1 v.0.0.0 v.0.1 front t2.0, record { target = t0.1; before = t1.1; after = t2.1 })

todo_again : FieldsRead → (todo : Todo) (rest : List ℕ) → IsTodo todo → todo_at (todo_text todo ++ rest) ≡ Some (todo, rest)
unfolding todo_at
todo_again law todo rest h =
    let one = base_text todo.target in
    let grouped : todo_text todo ++ rest ≡ one ++ (todo.before.0 ++ (todo.after.0 ++ rest)) = append_assoc (one ++ todo.before.0) todo.after.0 rest ∙ append_assoc one todo.before.0 (todo.after.0 ++ rest) in
    ap todo_at grouped
    ∙ rw (base_again law todo.target (todo.before.0 ++ (todo.after.0 ++ rest)) h.target, law.name todo.before (todo.after.0 ++ rest) h.before, law.name todo.after rest h.after) refl

-- a flag and the rest of a text say this todo, or none
record SaysTodo (flag : ℕ) (text : List ℕ) (todo : Option Todo) : Type 0 where
  spelled : flag ∷ text ≡ todo_part todo
  ranges : IfSome todo IsTodo

says_none : (flag : ℕ) (text : List ℕ) (todo : Option Todo) → flag ≡ 0 → at_end (None, text) ≡ Some todo → SaysTodo flag text todo
says_none flag text todo is e =
    let h = ended (None, text) todo e in
    let spelled : flag ∷ text ≡ 0 ∷ [] = ap (λ (f : ℕ). f ∷ text) is ∙ ap (λ (t : List ℕ). 0 ∷ t) h.1 in
    subst (SaysTodo flag text) h.0 (record { spelled = spelled; ranges = tt })

says_some : FieldsSpelled → (flag : ℕ) (text : List ℕ) (todo : Option Todo) → IsBytes text → flag ≡ 1 → (todo_at text >>= λ t. at_end (given t.0, t.1)) ≡ Some todo → SaysTodo flag text todo
says_some law flag text todo fits is e =
    let t = bind_some (todo_at text) (λ t. at_end (given t.0, t.1)) todo e in
    let h = ended (given t.0.0, t.0.1) todo t.2 in
    let takes = todo_takes law text t.0 fits t.1 in
    let whole : text ≡ todo_text t.0.0 = takes.0.parts ∙ ap (λ (r : List ℕ). todo_text t.0.0 ++ r) h.1 ∙ append-nil (todo_text t.0.0) in
    let spelled : flag ∷ text ≡ 1 ∷ todo_text t.0.0 = ap (λ (f : ℕ). f ∷ text) is ∙ ap (λ (x : List ℕ). 1 ∷ x) whole in
    subst (SaysTodo flag text) h.0 (record { spelled = spelled; ranges = takes.1 })

says_todo : FieldsSpelled → (flag : ℕ) (text : List ℕ) (todo : Option Todo) → IsBytes text → todo_in flag text ≡ Some todo → SaysTodo flag text todo
unfolding todo_in
says_todo law flag text todo fits e =
    elim (either_some (flag == 0) (flag == 1) (at_end (None, text)) (todo_at text >>= λ t. at_end (given t.0, t.1)) todo e) [
      | inl h ↦ says_none flag text todo (eqb-true flag 0 h.0) h.1
      | inr h ↦ says_some law flag text todo fits (eqb-true flag 1 h.0) h.1
    ]

-- ---- states

abbrev kept_of : ℕ → ℕ → Base → Name → Option Todo → Kept
kept_of round number base head todo = record { round = round; number = number; base = base; head = head; todo = todo }

-- the text of a state without its tag, as it is put together
abbrev body_text : Kept → List ℕ
body_text kept = to_be_bytes w32 kept.round ++ to_be_bytes w32 kept.number ++ base_text kept.base ++ kept.head.0 ++ todo_part kept.todo

state_is_read : FieldsSpelled → (text : List ℕ) (kept : Kept) → IsBytes text → state_at text ≡ Some kept → IsState kept × (text ≡ body_text kept)
unfolding state_at
state_is_read law text kept fits e =
    let r = bind_some (number_within 0 LAST_NUMBER text) (λ r. number_within 0 LAST_NUMBER r.1 >>= λ n. base_at n.1 >>= λ b. name_at b.1 >>= λ h. byte_at h.1 >>= λ f. todo_in f.0 f.1 >>= λ t. Some (kept_of r.0 n.0 b.0 h.0 t)) kept e in
    let n = bind_some (number_within 0 LAST_NUMBER r.0.1) (λ n. base_at n.1 >>= λ b. name_at b.1 >>= λ h. byte_at h.1 >>= λ f. todo_in f.0 f.1 >>= λ t. Some (kept_of r.0.0 n.0 b.0 h.0 t)) kept r.2 in
    let b = bind_some (base_at n.0.1) (λ b. name_at b.1 >>= λ h. byte_at h.1 >>= λ f. todo_in f.0 f.1 >>= λ t. Some (kept_of r.0.0 n.0.0 b.0 h.0 t)) kept n.2 in
    let h = bind_some (name_at b.0.1) (λ h. byte_at h.1 >>= λ f. todo_in f.0 f.1 >>= λ t. Some (kept_of r.0.0 n.0.0 b.0.0 h.0 t)) kept b.2 in
    let f = bind_some (byte_at h.0.1) (λ f. todo_in f.0 f.1 >>= λ t. Some (kept_of r.0.0 n.0.0 b.0.0 h.0.0 t)) kept h.2 in
    let t = bind_some (todo_in f.0.0 f.0.1) (λ t. Some (kept_of r.0.0 n.0.0 b.0.0 h.0.0 t)) kept f.2 in
    let t0 = law.within 0 LAST_NUMBER text r.0 fits r.1 in
    let t1 = law.within 0 LAST_NUMBER r.0.1 n.0 t0.0.bytes n.1 in
    let t2 = base_takes law n.0.1 b.0 t1.0.bytes b.1 in
    let t3 = law.name b.0.1 h.0 t2.0.bytes h.1 in
    let t4 = law.byte h.0.1 f.0 t3.0.bytes f.1 in
    let says = says_todo law f.0.0 f.0.1 t.0 t4.bytes t.1 in
    let one = to_be_bytes w32 r.0.0 in
    let two = to_be_bytes w32 n.0.0 in
    let e1 = Takes-then text one r.0.1 two n.0.1 t0.0 t1.0 in
    let e2 = Takes-then text (one ++ two) n.0.1 (base_text b.0.0) b.0.1 e1 t2.0 in
    let e3 = Takes-then text (one ++ two ++ base_text b.0.0) b.0.1 h.0.0.0 h.0.1 e2 t3.0 in
    let last : h.0.1 ≡ todo_part t.0 = t4.parts ∙ says.spelled in
    let spelled : text ≡ body_text (kept_of r.0.0 n.0.0 b.0.0 h.0.0 t.0) = e3.parts ∙ ap (λ (x : List ℕ). (one ++ two ++ base_text b.0.0 ++ h.0.0.0) ++ x) last in
    subst (λ (y : Kept). IsState y × (text ≡ body_text y)) (some_same (kept_of r.0.0 n.0.0 b.0.0 h.0.0 t.0) kept t.2)
    (record { round = t0.2; number = t1.2; base = t2.1; head = t3.1; todo = says.ranges }, spelled)

-- the tag stands before the rest
tagged : (kept : Kept) → kept_text kept ≡ 75 ∷ body_text kept
tagged kept = refl

pub kept_is_read : FieldsSpelled → (text : List ℕ) (kept : Kept) → IsBytes text → kept_at text ≡ Some kept → IsState kept × (text ≡ kept_text kept)
unfolding kept_at
kept_is_read law [] kept fits e = absurd cc
kept_is_read law (tag ∷ rest) kept fits e =
    let t = when_some (tag == 75) (state_at rest) kept e in
    let h = state_is_read law rest kept (IsBytes-rest tag rest fits) t.1 in
    (h.0, ap (λ (x : ℕ). x ∷ rest) (eqb-true tag 75 t.0) ∙ ap (λ (x : List ℕ). 75 ∷ x) h.1)

flag_again : FieldsRead → (todo : Option Todo) → IfSome todo IsTodo → (byte_at (todo_part todo) >>= λ f. todo_in f.0 f.1) ≡ Some todo
unfolding todo_in
flag_again law None h = refl
flag_again law (Some todo) h =
    let read : todo_at (todo_text todo) ≡ Some (todo, []) = ap todo_at (sym (append-nil (todo_text todo))) ∙ todo_again law todo [] h in
    ap (λ (o : Option (Todo × List ℕ)). o >>= λ t. at_end (given t.0, t.1)) read

regroup : (a b c d e : List ℕ) → (((a ++ b) ++ c) ++ d) ++ e ≡ a ++ (b ++ (c ++ (d ++ e)))
regroup a b c d e = simp append_assoc

-- steps in turn may be taken as one
bind_on : {A B C : Type 0} (o : Option A) (f : A → Option B) (g : B → Option C) → (o >>= λ x. f x >>= g) ≡ ((o >>= f) >>= g)
bind_on (Some x) f g = refl
bind_on None f g = refl

state_again : FieldsRead → (kept : Kept) → IsState kept → state_at (body_text kept) ≡ Some kept
unfolding state_at
state_again law kept h =
    let part = todo_part kept.todo in
    let two = to_be_bytes w32 kept.number in
    let head_rest = kept.head.0 ++ part in
    let base_rest = base_text kept.base ++ head_rest in
    let make : Option Todo → Option Kept = λ t. Some (kept_of kept.round kept.number kept.base kept.head t) in
    let last : (byte_at part >>= λ f. todo_in f.0 f.1 >>= make) ≡ Some kept = bind_on (byte_at part) (λ f. todo_in f.0 f.1) make ∙ ap (λ (o : Option (Option Todo)). o >>= make) (flag_again law kept.todo h.todo) in
    ap state_at (regroup (to_be_bytes w32 kept.round) two (base_text kept.base) kept.head.0 part)
    ∙ rw (
      law.within 0 LAST_NUMBER kept.round (two ++ base_rest) (omega arith) h.round (omega (arith, h.round)),
      law.within 0 LAST_NUMBER kept.number base_rest (omega arith) h.number (omega (arith, h.number)),
      base_again law kept.base head_rest h.base,
      law.name kept.head part h.head,
    ) last

pub kept_is_read_again : FieldsRead → (kept : Kept) → IsState kept → kept_at (kept_text kept) ≡ Some kept
unfolding kept_at
kept_is_read_again law kept h = ap kept_at (tagged kept) ∙ state_again law kept h

pub one_text : FieldsRead → (kept other : Kept) → IsState kept → IsState other → kept_text kept ≡ kept_text other → kept ≡ other
one_text law kept other h k same =
    some_same kept other (sym (kept_is_read_again law kept h) ∙ ap kept_at same ∙ kept_is_read_again law other k)

-- what the law says of a text that is read, said of what was read
pub kept_is_found_by : ((text : List ℕ) (kept : Kept) → IsBytes text → kept_at text ≡ Some kept → IsState kept × (text ≡ kept_text kept))
    → (text : List ℕ) (o : Option Kept) → IsBytes text → o ≡ kept_at text → IfSome o (λ kept. IsState kept × (text ≡ kept_text kept))
kept_is_found_by law text None fits is = tt
kept_is_found_by law text (Some kept) fits is = law text kept fits (sym is)
