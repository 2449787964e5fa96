-- What stands behind a list of members, one member on, and what the last member says.
use Rattle.std.proofs.Common.{◌≡◌, ℕ, zero, suc, ◌+◌, ◌-◌, ◌<◌, ◌≤◌, List, [], ◌∷◌, ◌++◌, Some, None, get_or, take, length, slice_get, sym, ap, ◌∙◌, arith}
use Rattle.std.proofs.lemmas.List.{take_more}
use Rattle.ms_base.specs.declared.names.Name.{Name}
use Rattle.ms_record.specs.InForce.{plan_push}
use Rattle.ms_base.specs.Places.{some_same}
use Rattle.ms_world.specs.Steps.{last_version}
use Rattle.ms_record.specs.declared.entry.Entry.{Entry}
use Rattle.ms_record.specs.Chains.{last_name, plan_after, plan_in}
use Rattle.ms_record.specs.Entries.{name_of}
use Rattle.ms_record.specs.Plans.{PlanView}

pub plan_next : (before now next : PlanView) (xs : List Entry) (i : ℕ) (e : Entry) → i < length xs → e ≡ get_or xs i e → now ≡ plan_in before (take i xs) → next ≡ plan_after now e.plan
    → next ≡ plan_in before (take (i + 1) xs)
plan_next before now next xs i e less is h step =
    step ∙ ap (λ (p : PlanView). plan_after p e.plan) h ∙ sym (plan_push before (take i xs) e)
    ∙ ap (λ (x : Entry). plan_in before (take i xs ++ x ∷ [])) is ∙ sym (ap (plan_in before) (take_more xs i e less))

name_at : (name : List ℕ) (xs : List Entry) (n : ℕ) (e : Entry) → suc n ≡ length xs → slice_get xs n ≡ Some e → last_name name xs ≡ name_of e
name_at name [] n e l h = absurd (omega arith)
name_at name (x ∷ []) zero e l h = ap name_of (some_same x e h)
name_at name (x ∷ []) (suc n) e l h = absurd (omega arith)
name_at name (x ∷ y ∷ ys) zero e l h = absurd (omega arith)
name_at name (x ∷ y ∷ ys) (suc n) e l h = name_at (name_of x) (y ∷ ys) n e (omega arith) h

version_at : (version : Name) (xs : List Entry) (n : ℕ) (e : Entry) → suc n ≡ length xs → slice_get xs n ≡ Some e → last_version version xs ≡ e.version
version_at version [] n e l h = absurd (omega arith)
version_at version (x ∷ []) zero e l h = ap (λ (x : Entry). x.version) (some_same x e h)
version_at version (x ∷ []) (suc n) e l h = absurd (omega arith)
version_at version (x ∷ y ∷ ys) zero e l h = absurd (omega arith)
version_at version (x ∷ y ∷ ys) (suc n) e l h = version_at x.version (y ∷ ys) n e (omega arith) h

some_in : (xs : List Entry) (n : ℕ) (e : Entry) → slice_get xs n ≡ Some e → 1 ≤ length xs
some_in [] n e h = absurd (let w : None ≡ Some e = h in cc)
some_in (x ∷ xs) n e h = omega arith

pub name_last : (name : List ℕ) (xs : List Entry) (e : Entry) → slice_get xs (length xs - 1) ≡ Some e → last_name name xs ≡ name_of e
name_last name xs e h = let some = some_in xs (length xs - 1) e h in name_at name xs (length xs - 1) e (omega arith) h

pub version_last : (version : Name) (xs : List Entry) (e : Entry) → slice_get xs (length xs - 1) ≡ Some e → last_version version xs ≡ e.version
version_last version xs e h = let some = some_in xs (length xs - 1) e h in version_at version xs (length xs - 1) e (omega arith) h
