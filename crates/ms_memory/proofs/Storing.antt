-- Places of a store, and what stands there after a change.
use Rattle.std.proofs.Common.{◌≡◌, ◌⊎◌, inl, inr, ℕ, ◌<◌, ◌≤◌, arith, Bool, true, false, cond, List, Option, Some, None, refl, sym, ap, ◌∙◌}
use Rattle.std.proofs.lemmas.Bool.Decides.{nat_tests}
use Rattle.std.proofs.lemmas.Cmp.{nat_cmp_total, nat_list_cmp_total, tied_itself}
use Rattle.std.proofs.lemmas.Map.Entries.{lookup-filter-keys}
use Rattle.std.specs.Map.{lookup}
use Rattle.std.specs.Prelude.{filter, nat_le}
use Rattle.std.specs.Cmp.Lexicographic.{slice_cmp}
use Rattle.std.specs.Option.{option_and_then}
use Rattle.std.specs.Ordering.{is_eq, nat_cmp, ordering_then}
use Rattle.std.specs.declared.cmp.Ordering.{Ordering}
use Rattle.std.specs.declared.cmp.Ordering.TheVariants.{Less, Equal, Greater}
use Rattle.std.proofs.lemmas.Map.Lookups.{exact_bytes, exact_unsigned}
use Rattle.ms_base.specs.declared.names.Name.{Name}
use Rattle.ms_memory.specs.Shelves.{spot, spot_cmp}
use Rattle.ms_memory.specs.declared.store.Spot.{Spot}

-- what a map has at a place
abbrev Places : Type 0
Places = Spot → Option (Option (List ℕ))

abbrev text_there : Option (Option (List ℕ)) → Option (List ℕ)
text_there there = option_and_then (λ place. place) there

both_equal : (o p : Ordering) → ordering_then o p ≡ Equal → (o ≡ Equal) × (p ≡ Equal)
both_equal Less p e = absurd cc
both_equal Equal p e = (refl, e)
both_equal Greater p e = absurd cc

-- places that compare equal are one
pub spot_exact : (a b : Spot) → spot_cmp a b ≡ Equal → a ≡ b
spot_exact a b e =
    let h = both_equal (nat_cmp a.generation b.generation) (slice_cmp nat_cmp a.name.0 b.name.0) e in
    let generation = exact_unsigned a.generation b.generation h.0 in
    let name = exact_bytes a.name.0 b.name.0 h.1 in
    λ i. record { generation = generation i; name = record { 0 = name i } }

apart : (o : Ordering) → (o ≡ Equal → ⊥) → is_eq o ≡ false
apart Less not = refl
apart Equal not = absurd (not refl)
apart Greater not = refl

equal : (o : Ordering) → is_eq o ≡ true → o ≡ Equal
equal Less e = absurd cc
equal Equal e = refl
equal Greater e = absurd cc

pub other_spot : (generation : ℕ) (name : Name) (g : ℕ) (n : Name) → (g ≡ generation → n ≡ name → ⊥) → is_eq (spot_cmp (spot generation name) (spot g n)) ≡ false
other_spot generation name g n other =
    apart (spot_cmp (spot generation name) (spot g n))
    (λ e. let same = spot_exact (spot generation name) (spot g n) e in other (sym (ap (λ (s : Spot). s.generation) same)) (sym (ap (λ (s : Spot). s.name) same)))

empty_where : (b : Bool) (there : Option (Option (List ℕ))) → (b ≡ true → there ≡ None) → text_there (cond b (Some None) there) ≡ text_there there
empty_where true there none = sym (ap text_there (none refl))
empty_where false there none = refl

-- a place that is made ready where none was shows no text
pub reserved_same : (old new : Places) (s : Spot) → old s ≡ None → ((q : Spot) → new q ≡ cond (is_eq (spot_cmp s q)) (Some None) (old q)) → (q : Spot) → text_there (new q) ≡ text_there (old q)
reserved_same old new s none h q =
    ap text_there (h q) ∙ empty_where (is_eq (spot_cmp s q)) (old q) (λ e. ap old (sym (spot_exact s q (equal (spot_cmp s q) e))) ∙ none)

-- what is written at one place leaves the others
pub written_others : (old new : Places) (generation : ℕ) (name : Name) (text : Option (List ℕ))
    → ((q : Spot) → new q ≡ cond (is_eq (spot_cmp (spot generation name) q)) (Some text) (old q))
    → (g : ℕ) (n : Name) → (g ≡ generation → n ≡ name → ⊥) → text_there (new (spot g n)) ≡ text_there (old (spot g n))
written_others old new generation name text h g n other =
    ap text_there (h (spot g n) ∙ ap (λ (b : Bool). cond b (Some text) (old (spot g n))) (other_spot generation name g n other))

-- ---- what a drop leaves

abbrev found : Spot → List (Spot × Option (List ℕ)) → Option (Option (List ℕ))
found s entries = lookup (λ q. is_eq (spot_cmp s q)) entries

passes : (floor g : ℕ) (n : Name) (b : Bool) → nat_le floor g ≡ b → (q : Spot) → is_eq (spot_cmp (spot g n) q) ≡ true → nat_le floor q.generation ≡ b
passes floor g n b is q e = ap (λ (s : Spot). nat_le floor s.generation) (sym (spot_exact (spot g n) q (equal (spot_cmp (spot g n) q) e))) ∙ is

after : (floor g : ℕ) (n : Name) (b : Bool) (old new : List (Spot × Option (List ℕ))) → new ≡ filter (λ e. nat_le floor e.0.generation) old → nat_le floor g ≡ b
    → found (spot g n) new ≡ cond b (found (spot g n) old) None
after floor g n b old new is e =
    ap (λ (es : List (Spot × Option (List ℕ))). found (spot g n) es) is
    ∙ lookup-filter-keys (λ q. is_eq (spot_cmp (spot g n) q)) (λ (q : Spot). nat_le floor q.generation) b (passes floor g n b e) old

pub dropped_gone : (floor : ℕ) (old new : List (Spot × Option (List ℕ))) → new ≡ filter (λ e. nat_le floor e.0.generation) old → (g : ℕ) (n : Name) → g < floor → text_there (found (spot g n) new) ≡ None
dropped_gone floor old new is g n lt = let e : nat_le floor g ≡ false = grind (arith, nat_tests) in ap text_there (after floor g n false old new is e)

pub dropped_kept : (floor : ℕ) (old new : List (Spot × Option (List ℕ))) → new ≡ filter (λ e. nat_le floor e.0.generation) old → (g : ℕ) (n : Name) → floor ≤ g → text_there (found (spot g n) new) ≡ text_there (found (spot g n) old)
dropped_kept floor old new is g n le = let e : nat_le floor g ≡ true = grind (arith, nat_tests) in ap text_there (after floor g n true old new is e)

-- ---- two places are one, or they differ

compares_equal : (generation : ℕ) (name : Name) → is_eq (spot_cmp (spot generation name) (spot generation name)) ≡ true
compares_equal generation name =
    ap (λ (o : Ordering). is_eq (ordering_then o (slice_cmp nat_cmp name.0 name.0))) (tied_itself nat_cmp_total generation) ∙ ap is_eq (tied_itself nat_list_cmp_total name.0)

abbrev pub IsSpot : ℕ → Name → ℕ → Name → Type 0
IsSpot generation name g n = ((g ≡ generation) × (n ≡ name)) ⊎ (g ≡ generation → n ≡ name → ⊥)

by_test : (generation : ℕ) (name : Name) (g : ℕ) (n : Name) (b : Bool) → is_eq (spot_cmp (spot generation name) (spot g n)) ≡ b → IsSpot generation name g n
by_test generation name g n true e =
    let same = spot_exact (spot generation name) (spot g n) (equal (spot_cmp (spot generation name) (spot g n)) e) in
    inl (sym (ap (λ (s : Spot). s.generation) same), sym (ap (λ (s : Spot). s.name) same))
by_test generation name g n false e = inr (λ p q.
    let same : is_eq (spot_cmp (spot generation name) (spot g n)) ≡ true = ap (λ (s : ℕ × Name). is_eq (spot_cmp (spot generation name) (spot s.0 s.1))) (λ i. (p i, q i)) ∙ compares_equal generation name in
    cc (same, e))

pub which_spot : (generation : ℕ) (name : Name) (g : ℕ) (n : Name) → IsSpot generation name g n
which_spot generation name g n = by_test generation name g n (is_eq (spot_cmp (spot generation name) (spot g n))) refl
