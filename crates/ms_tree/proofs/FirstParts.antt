-- The first parts of paths, rising, each once.
use Rattle.std.proofs.Common.{◌≡◌, ℕ, true, List, [], ◌∷◌, ◌⊎◌, inl, inr, refl, sym, subst, map, Contains, nat_cmp, is_lt, bytes_eq, Ordering, Less, Equal, Greater}
use Rattle.std.specs.Cmp.Lexicographic.{slice_cmp}
use Rattle.std.proofs.lemmas.Bool.{cond_both}
use Rattle.std.proofs.lemmas.Cmp.{nat_list_cmp_total}
use Rattle.std.proofs.lemmas.Slice.Eq.{bytes_eq-Decides}
use Rattle.ms_base.specs.Rising.{Rises, Before, rises_none, rises_cons, rises_first, rises_rest}
use Rattle.ms_base.specs.Places.{in_none, in_here, in_later, in_cases}
use Rattle.ms_object.specs.Trees.{FileText}
use Rattle.ms_tree.specs.Planting.{with_part, first_parts, first_part}
use Rattle.ms_tree.proofs.Members.{one_is_before, same_rising}

later_too : (part first q : List ℕ) (parts : List (List ℕ)) → (part ≡ q) ⊎ Contains parts q → (part ≡ q) ⊎ Contains (first ∷ parts) q
later_too part first q parts (inl e) = inl e
later_too part first q parts (inr h) = inr (in_later first parts q h)

-- what stands in a list of parts with one more
pub with_part_cases : (part q : List ℕ) (parts : List (List ℕ)) → Contains (with_part part parts) q → (part ≡ q) ⊎ Contains parts q
with_part_cases part q [] h = in_cases part [] q h
with_part_cases part q (first ∷ parts) h =
    let P : List (List ℕ) → Type 0 = λ l. Contains l q → (part ≡ q) ⊎ Contains (first ∷ parts) q in
    cond_both (bytes_eq part first) _ _ P (λ e there. inr there) (λ e. cond_both (is_lt (slice_cmp nat_cmp part first)) _ _ P (λ l there. in_cases part (first ∷ parts) q there)
    (λ l there. elim (in_cases first (with_part part parts) q there) [
      | inl same ↦ inr (subst (λ (z : List ℕ). Contains (first ∷ parts) z) same (in_here first parts))
      | inr later ↦ later_too part first q parts (with_part_cases part q parts later)
    ])) h

pub with_part_has : (part : List ℕ) (parts : List (List ℕ)) → Contains (with_part part parts) part
with_part_has part [] = in_here part []
with_part_has part (first ∷ parts) =
    let P : List (List ℕ) → Type 0 = λ l. Contains l part in
    cond_both (bytes_eq part first) _ _ P (λ e. subst (λ (z : List ℕ). Contains (first ∷ parts) z) (sym ((bytes_eq-Decides part first).0 e)) (in_here first parts))
    (λ e. cond_both (is_lt (slice_cmp nat_cmp part first)) _ _ P (λ l. in_here part (first ∷ parts)) (λ l. in_later first _ part (with_part_has part parts)))

pub with_part_keeps : (part q : List ℕ) (parts : List (List ℕ)) → Contains parts q → Contains (with_part part parts) q
with_part_keeps part q [] h = absurd (in_none q h)
with_part_keeps part q (first ∷ parts) h =
    let P : List (List ℕ) → Type 0 = λ l. Contains l q in
    cond_both (bytes_eq part first) _ _ P (λ e. h) (λ e. cond_both (is_lt (slice_cmp nat_cmp part first)) _ _ P (λ l. in_later part (first ∷ parts) q h)
    (λ l. elim (in_cases first parts q h) [
      | inl same ↦ subst (λ (z : List ℕ). Contains (first ∷ with_part part parts) z) same (in_here first _)
      | inr later ↦ in_later first _ q (with_part_keeps part q parts later)
    ]))

before_all : (part first : List ℕ) (parts : List (List ℕ)) → Before part first → Rises (first ∷ parts) → (q : List ℕ) → Contains (first ∷ parts) q → Before part q
before_all part first parts b r q h =
    elim (in_cases first parts q h) [ inl same ↦ subst (λ (z : List ℕ). Before part z) same b | inr later ↦ nat_list_cmp_total.trans part first q b (rises_first first parts r q later) ]

is_less : (o : Ordering) → is_lt o ≡ true → o ≡ Less
is_less Less e = refl
is_less Equal e = cc
is_less Greater e = cc

pub with_part_rises : (part : List ℕ) (parts : List (List ℕ)) → Rises parts → Rises (with_part part parts)
with_part_rises part [] r = rises_cons part [] (λ y h. absurd (in_none y h)) rises_none
with_part_rises part (first ∷ parts) r =
    cond_both (bytes_eq part first) _ _ Rises (λ e. r) (λ e. cond_both (is_lt (slice_cmp nat_cmp part first)) _ _ Rises
    (λ l. rises_cons part (first ∷ parts) (before_all part first parts (is_less _ l) r) r)
    (λ l. rises_cons first (with_part part parts) (λ q h. elim (with_part_cases part q parts h) [
      | inl same ↦ subst (λ (z : List ℕ). Before first z) same (one_is_before part first e l)
      | inr later ↦ rises_first first parts r q later
    ]) (with_part_rises part parts (rises_rest first parts r))))

-- the first part of a file's path
abbrev pub part_of : FileText → List ℕ
part_of file = first_part file.0

pub parts_rise : (files : List FileText) → Rises (first_parts files)
parts_rise [] = rises_none
parts_rise (file ∷ files) = with_part_rises (part_of file) (first_parts files) (parts_rise files)

pub part_from : (files : List FileText) (q : List ℕ) → Contains (first_parts files) q → Contains (map part_of files) q
part_from [] q h = h
part_from (file ∷ files) q h =
    elim (with_part_cases (part_of file) q (first_parts files) h) [
      | inl same ↦ subst (λ (z : List ℕ). Contains (part_of file ∷ map part_of files) z) same (in_here _ _)
      | inr later ↦ in_later _ _ q (part_from files q later)
    ]

pub part_in : (files : List FileText) (q : List ℕ) → Contains (map part_of files) q → Contains (first_parts files) q
part_in [] q h = h
part_in (file ∷ files) q h =
    elim (in_cases (part_of file) (map part_of files) q h) [
      | inl same ↦ subst (λ (z : List ℕ). Contains (with_part (part_of file) (first_parts files)) z) same (with_part_has (part_of file) (first_parts files))
      | inr later ↦ with_part_keeps (part_of file) q (first_parts files) (part_in files q later)
    ]

-- a rising list of exactly the first parts
pub parts_are : (files : List FileText) (parts : List (List ℕ)) → Rises parts → ((q : List ℕ) → Contains parts q → Contains (map part_of files) q) → ((q : List ℕ) → Contains (map part_of files) q → Contains parts q) → parts ≡ first_parts files
parts_are files parts r from to = same_rising parts (first_parts files) r (parts_rise files) (λ q h. part_in files q (from q h)) (λ q h. to q (part_from files q h))
