-- Tests that hold, and what they choose.
use Rattle.std.proofs.Common.{◌≡◌, Bool, true, false, Option, Some, None, cond, refl}
use Rattle.std.specs.Prelude.{◌&&◌}

pub joined : (a b : Bool) → a ≡ true → b ≡ true → (a && b) ≡ true
joined a b p q = rw (p, q) refl

pub where_true : {X : Type 0} (t : Bool) (o : Option X) (x : X) → cond t o None ≡ Some x → (t ≡ true) × (o ≡ Some x)
where_true true o x e = (refl, e)
where_true false o x e = absurd (cc)
