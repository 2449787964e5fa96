-- A line is no JSON value where reading it refuses.
use Rattle.std.proofs.Common.{◌≡◌, ℕ, Bool, true, false, List, Option, Some, None, refl, sym, ap, ◌∙◌, cond}
use Rattle.std.specs.Str.{IsUtf8, is_utf8}
use Rattle.std.proofs.lemmas.Str.{IsUtf8-from_is_utf8, is_utf8-from_IsUtf8}

by_test : {D : Type 0} (b : Bool) (o : Option D) → (b ≡ true → o ≡ None) → None ≡ cond b o None
by_test true o h = sym (h refl)
by_test false o h = refl

pub refused : {D : Type 0} (line : List ℕ) (o : Option D) → (IsUtf8 line → o ≡ None) → None ≡ cond (is_utf8 line) o None
refused line o h = by_test (is_utf8 line) o (λ e. h (IsUtf8-from_is_utf8 line e))

pub read_so : {D : Type 0} (line : List ℕ) (o : Option D) (d : D) → IsUtf8 line → o ≡ Some d → Some d ≡ cond (is_utf8 line) o None
read_so line o d text is = sym (ap (λ (b : Bool). cond b o None) (is_utf8-from_IsUtf8 line text) ∙ is)
