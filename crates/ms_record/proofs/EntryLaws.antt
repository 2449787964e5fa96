-- An entry that is read is spelled so, and what is spelled so is read again.
use Rattle.std.proofs.Common.{◌≡◌, ℕ, Bool, true, false, cond, List, [], ◌∷◌, ◌++◌, Option, Some, None, refl, sym, ap, subst, ◌∙◌, append_assoc, append-nil, ◌⊎◌, inl, inr}
use Rattle.std.specs.Prelude.{IfSome, ◌==◌}
use Rattle.std.specs.Int.{w32, to_be_bytes}
use Rattle.std.proofs.lemmas.Bool.{eqb-true}
use Rattle.ms_base.specs.Places.{some_same}
use Rattle.ms_base.specs.Options.{◌>>=◌, bind_some}
use Rattle.ms_base.specs.declared.names.Name.{Name}
use Rattle.ms_base.specs.declared.names.ClientId.{ClientId}
use Rattle.ms_record.specs.declared.entry.Entry.{Entry}
use Rattle.ms_base.specs.Fields.{IsBytes, number_at, name_at, client_at, at_end}
use Rattle.ms_record.specs.Plans.{PlanView, IsPlan, plan_text}
use Rattle.ms_record.specs.Entries.{IsEntry, tag_of, plan_part, entry_text}
use Rattle.ms_record.specs.Reading.{plan_at, push_at, plan_entry_at, tagged_at, entry_at}
use Rattle.ms_base.specs.FieldLaws.{Takes, FieldsRead, FieldsSpelled, ended, IsBytes-rest, Takes-then}
use Rattle.ms_record.proofs.PlanLaws.{plan_takes, plan_again}

-- what a push and a plan entry share
abbrev pub push_text : Entry → List ℕ
push_text e = e.before.0 ++ to_be_bytes w32 e.client.0 ++ to_be_bytes w32 e.number ++ e.version.0

-- an entry's spelling without its tag
abbrev pub body_text : Entry → List ℕ
body_text e = push_text e ++ plan_part e.plan

abbrev pub push_of : Name → ClientId → ℕ → Name → Entry
push_of before client number version = record { before = before; client = client; number = number; version = version; plan = None }

-- a push was taken from the front
pub record TakesPush (text : List ℕ) (x : Entry × List ℕ) : Type 0 where
  pub takes : Takes text (push_text x.0) x.1
  pub entry : IsEntry x.0
  pub none : x.0.plan ≡ None

push_takes : FieldsSpelled → (text : List ℕ) (x : Entry × List ℕ) → IsBytes text → push_at text ≡ Some x → TakesPush text x
unfolding push_at
push_takes law text x fits e =
    let b = bind_some (name_at text) (λ b. client_at b.1 >>= λ c. number_at w32 c.1 >>= λ n. name_at n.1 >>= λ v. Some (push_of b.0 c.0 n.0 v.0, v.1)) x e in
    let c = bind_some (client_at b.0.1) (λ c. number_at w32 c.1 >>= λ n. name_at n.1 >>= λ v. Some (push_of b.0.0 c.0 n.0 v.0, v.1)) x b.2 in
    let n = bind_some (number_at w32 c.0.1) (λ n. name_at n.1 >>= λ v. Some (push_of b.0.0 c.0.0 n.0 v.0, v.1)) x c.2 in
    let v = bind_some (name_at n.0.1) (λ v. Some (push_of b.0.0 c.0.0 n.0.0 v.0, v.1)) x n.2 in
    let t0 = law.name text b.0 fits b.1 in
    let t1 = law.client b.0.1 c.0 t0.0.bytes c.1 in
    let t2 = law.four c.0.1 n.0 t1.0.bytes n.1 in
    let t3 = law.name n.0.1 v.0 t2.0.bytes v.1 in
    let e1 = Takes-then text b.0.0.0 b.0.1 (to_be_bytes w32 c.0.0.0) c.0.1 t0.0 t1.0 in
    let e2 = Takes-then text (b.0.0.0 ++ to_be_bytes w32 c.0.0.0) c.0.1 (to_be_bytes w32 n.0.0) n.0.1 e1 t2.0 in
    let e3 = Takes-then text (b.0.0.0 ++ to_be_bytes w32 c.0.0.0 ++ to_be_bytes w32 n.0.0) n.0.1 v.0.0.0 v.0.1 e2 t3.0 in
    let made : Entry × List ℕ = (push_of b.0.0 c.0.0 n.0.0 v.0.0, v.0.1) in
    subst (TakesPush text) (some_same made x v.2) (record { takes = e3; entry = record { before = t0.1; client = t1.1; number = t2.1; version = t3.1; plan = tt }; none = refl })

push_again : FieldsRead → (before : Name) (client : ClientId) (number : ℕ) (version : Name) (rest : List ℕ) → IsEntry (push_of before client number version)
    → push_at (push_text (push_of before client number version) ++ rest) ≡ Some (push_of before client number version, rest)
unfolding push_at
push_again law before client number version rest h =
    let after_number = version.0 ++ rest in
    let after_client = to_be_bytes w32 number ++ after_number in
    let after_before = to_be_bytes w32 client.0 ++ after_client in
    let regrouped : push_text (push_of before client number version) ++ rest ≡ before.0 ++ after_before = simp append_assoc in
    ap push_at regrouped
    ∙ rw (law.name before after_before h.before, law.client client after_client h.client, law.four number after_number h.number, law.name version rest h.version) refl

-- the rest of an entry behind its tag
pub record TakesBody (tag : ℕ) (text : List ℕ) (x : Entry × List ℕ) : Type 0 where
  pub takes : Takes text (body_text x.0) x.1
  pub entry : IsEntry x.0
  pub kind : tag ≡ tag_of x.0.plan

push_body : (tag : ℕ) (text : List ℕ) (x : Entry × List ℕ) → tag ≡ 85 → TakesPush text x → TakesBody tag text x
push_body tag text x is h =
    let whole : push_text x.0 ≡ body_text x.0 = sym (append-nil (push_text x.0)) ∙ ap (λ (o : Option PlanView). push_text x.0 ++ plan_part o) (sym h.none) in
    record { takes = subst (λ (t : List ℕ). Takes text t x.1) whole h.takes; entry = h.entry; kind = is ∙ ap tag_of (sym h.none) }

with_plan : (e : Entry) (plan : PlanView) → IsEntry e → IsPlan plan → IsEntry (record e { plan = Some plan })
with_plan e plan h rules = record { before = h.before; client = h.client; number = h.number; version = h.version; plan = rules }

plan_body : FieldsSpelled → (tag : ℕ) (text : List ℕ) (x : Entry × List ℕ) → IsBytes text → tag ≡ 76 → plan_entry_at text ≡ Some x → TakesBody tag text x
unfolding plan_entry_at
plan_body law tag text x fits is e =
    let a = bind_some (push_at text) (λ push. plan_at push.1 >>= λ plan. Some (record push.0 { plan = Some plan.0 }, plan.1)) x e in
    let b = bind_some (plan_at a.0.1) (λ plan. Some (record a.0.0 { plan = Some plan.0 }, plan.1)) x a.2 in
    let push = push_takes law text a.0 fits a.1 in
    let plan = plan_takes law a.0.1 b.0 push.takes.bytes b.1 in
    let whole = Takes-then text (push_text a.0.0) a.0.1 (plan_text b.0.0) b.0.1 push.takes plan.0 in
    let made : Entry × List ℕ = (record a.0.0 { plan = Some b.0.0 }, b.0.1) in
    subst (TakesBody tag text) (some_same made x b.2) (record { takes = whole; entry = with_plan a.0.0 b.0.0 push.entry plan.1; kind = is })

-- a choice of two that gave something
pub either_some : {A : Type 0} (a b : Bool) (x y : Option A) (z : A) → cond a x (cond b y None) ≡ Some z → ((a ≡ true) × (x ≡ Some z)) ⊎ ((b ≡ true) × (y ≡ Some z))
either_some true b x y z e = inl (refl, e)
either_some false true x y z e = inr (refl, e)
either_some false false x y z e = absurd cc

tagged_takes : FieldsSpelled → (tag : ℕ) (text : List ℕ) (x : Entry × List ℕ) → IsBytes text → tagged_at tag text ≡ Some x → TakesBody tag text x
unfolding tagged_at
tagged_takes law tag text x fits e =
    elim (either_some (tag == 85) (tag == 76) (push_at text) (plan_entry_at text) x e) [
      | inl h ↦ push_body tag text x (eqb-true tag 85 h.0) (push_takes law text x fits h.1)
      | inr h ↦ plan_body law tag text x fits (eqb-true tag 76 h.0) h.1
    ]

pub entry_is_read : FieldsSpelled → (text : List ℕ) (e : Entry) → IsBytes text → entry_at text ≡ Some e → IsEntry e × (text ≡ entry_text e)
unfolding entry_at
entry_is_read law [] e fits is = absurd cc
entry_is_read law (tag ∷ rest) e fits is =
    let a = bind_some (tagged_at tag rest) at_end e is in
    let h = tagged_takes law tag rest a.0 (IsBytes-rest tag rest fits) a.1 in
    let k = ended a.0 e a.2 in
    let whole : rest ≡ body_text a.0.0 = h.takes.parts ∙ ap (λ (r : List ℕ). body_text a.0.0 ++ r) k.1 ∙ append-nil (body_text a.0.0) in
    let spelled : tag ∷ rest ≡ entry_text a.0.0 = ap (λ (t : ℕ). t ∷ rest) h.kind ∙ ap (λ (r : List ℕ). tag_of a.0.0.plan ∷ r) whole in
    subst (λ (f : Entry). IsEntry f × (tag ∷ rest ≡ entry_text f)) k.0 (h.entry, spelled)

spelled_again : FieldsRead → (before : Name) (client : ClientId) (number : ℕ) (version : Name) (o : Option PlanView)
    → IsEntry (record { before = before; client = client; number = number; version = version; plan = o })
    → tagged_at (tag_of o) (push_text (push_of before client number version) ++ plan_part o) ≡ Some (record { before = before; client = client; number = number; version = version; plan = o }, [])
unfolding tagged_at plan_entry_at
spelled_again law before client number version None h = push_again law before client number version [] h
spelled_again law before client number version (Some plan) h =
    let push : IsEntry (push_of before client number version) = record { before = h.before; client = h.client; number = h.number; version = h.version; plan = tt } in
    let last : plan_at (plan_text plan) ≡ Some (plan, []) = ap plan_at (sym (append-nil (plan_text plan))) ∙ plan_again law plan [] h.plan in
    rw (push_again law before client number version (plan_text plan) push, last) refl

pub entry_is_read_again : FieldsRead → (e : Entry) → IsEntry e → entry_at (entry_text e) ≡ Some e
unfolding entry_at
entry_is_read_again law e h = rw (spelled_again law e.before e.client e.number e.version e.plan h) refl

pub entry_is_found : FieldsSpelled → (text : List ℕ) (o : Option Entry) → IsBytes text → o ≡ entry_at text → IfSome o (λ e. IsEntry e × (text ≡ entry_text e))
entry_is_found law text None fits is = tt
entry_is_found law text (Some e) fits is = entry_is_read law text e fits (sym is)
