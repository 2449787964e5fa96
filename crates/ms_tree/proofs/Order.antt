-- Texts that begin alike, in the order of texts.
use Rattle.std.proofs.Common.{◌≡◌, ◌≤◌, ℕ, List, [], ◌∷◌, ◌++◌, refl, sym, ap, ◌∙◌, nat_cmp, Ordering, Less, Equal, Greater, arith}
use Rattle.std.specs.Ordering.{ordering_then}
use Rattle.std.specs.Cmp.Lexicographic.{slice_cmp}
use Rattle.std.proofs.lemmas.Bool.Decides.{nat_tests}
use Rattle.std.proofs.lemmas.Cmp.{nat_cmp_total, tied_itself}
use Rattle.ms_base.specs.Rising.{Before}

-- what is put before two texts does not change their order
pub same_front : (front x y : List ℕ) → slice_cmp nat_cmp (front ++ x) (front ++ y) ≡ slice_cmp nat_cmp x y
same_front [] x y = refl
same_front (b ∷ front) x y = let e : nat_cmp b b ≡ Equal = tied_itself nat_cmp_total b in rw e (same_front front x y)

pub before_front : (front x y : List ℕ) → Before x y → Before (front ++ x) (front ++ y)
before_front front x y h = same_front front x y ∙ h

pub before_behind : (front x y : List ℕ) → Before (front ++ x) (front ++ y) → Before x y
before_behind front x y h = sym (same_front front x y) ∙ h

less_heads : (a b : ℕ) (o : Ordering) → ordering_then (nat_cmp a b) o ≡ Less → (a ≤ b) × (a ≡ b → o ≡ Less)
less_heads a b o h = (grind (arith, nat_tests), λ e. grind (arith, nat_tests))

heads : (a b c : ℕ) (o p : Ordering) → a ≡ c → ordering_then (nat_cmp a b) o ≡ Less → ordering_then (nat_cmp b c) p ≡ Less → (a ≡ b) × (o ≡ Less) × (p ≡ Less)
heads a b c o p e h k =
    let f = less_heads a b o h in
    let g = less_heads b c p k in
    let q : a ≡ b = omega (arith, f.0, g.0) in
    let r : b ≡ c = omega (arith, q) in
    (q, f.1 q, g.1 r)

-- a text between two texts that begin alike begins like them
pub between : (front x z y : List ℕ) → Before (front ++ x) y → Before y (front ++ z) → (rest : List ℕ) × (y ≡ front ++ rest)
between [] x z y h k = (y, refl)
between (b ∷ front) x z [] h k = (let e : Greater ≡ Less = h in cc)
between (b ∷ front) x z (c ∷ y) h k =
    let s = heads b c b (slice_cmp nat_cmp (front ++ x) y) (slice_cmp nat_cmp y (front ++ z)) refl h k in
    let r = between front x z y s.1 s.2 in
    (r.0, ap (λ (d : ℕ). d ∷ y) (sym s.0) ∙ ap (λ (ys : List ℕ). b ∷ ys) r.1)
