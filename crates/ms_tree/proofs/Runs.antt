-- Taking files apart by their first parts, one run after another.
use Rattle.std.proofs.Common.{◌≡◌, ℕ, ◌+◌, ◌<◌, Bool, true, false, List, [], ◌∷◌, ◌++◌, inl, inr, refl, sym, ap, ◌∙◌, subst, length, map, take, drop, get_or, filter, take_while, All, Contains, bytes_eq, nat_cmp, is_lt, append-nil, append_assoc, take-append-drop, IsPermutation, arith}
use Rattle.std.specs.List.{prefix_len, list_any, IsDistinct}
use Rattle.std.specs.List.Sorted.{IsSortedBy}
use Rattle.std.specs.Cmp.Lexicographic.{slice_cmp}
use Rattle.std.proofs.lemmas.Bool.{or_from, false_from_ne_true}
use Rattle.std.proofs.lemmas.Cmp.{nat_list_cmp_total, nat_list_eq_equiv}
use Rattle.std.proofs.lemmas.List.{append_cancel_left, map-append, get_or-map, length-map}
use Rattle.std.proofs.lemmas.List.Elements.{All-head, All-tail, All-nil, All-push, filter-append, Contains-append_left, Contains-append_right, Contains-append_cases, Contains-push, Contains-push_cases}
use Rattle.std.proofs.lemmas.List.Sorted.{IsPermutation-map, All-permutation, Contains-permutation, IsPermutation-sym}
use Rattle.std.proofs.lemmas.List.Sums.{take_while-cons}
use Rattle.std.proofs.lemmas.Map.Keys.{IsDistinct-push, IsDistinct-IsPermutation, apart_from_distinct, sorted_from_all_adjacent}
use Rattle.ms_base.specs.Rising.{Rises}
use Rattle.ms_base.specs.Places.{in_none, in_here, in_later, map_has}
use Rattle.ms_object.specs.declared.format.Format.{Format}
use Rattle.ms_object.specs.Trees.{FileText}
use Rattle.ms_tree.specs.Folders.{IsFolder, in_part, split_files}
use Rattle.ms_tree.proofs.Members.{one_is_before, map_from, filter_from, filter_has, filter_none, filter_whole}
use Rattle.ms_tree.proofs.FirstParts.{part_of, parts_are}
use Rattle.ms_tree.proofs.Groups.{begins, tested_same, same_tested, folder_rest, run_is_part}

-- a part, and the files that begin with it
abbrev pub Group : Type 0
Group = List ℕ × List FileText

abbrev pub label_of : Group → List ℕ
label_of group = group.0

-- the files are taken apart up to the rest
pub record AreGroups (files done rest : List FileText) (groups : List Group) : Type 0 where
  pub whole : files ≡ done ++ rest
  pub later : (f g : FileText) → Contains done f → Contains rest g → part_of f ≡ part_of g → ⊥
  pub each : All (λ group. group.1 ≡ in_part files group.0) groups
  pub distinct : IsDistinct bytes_eq (map label_of groups)
  pub from : (part : List ℕ) → Contains (map label_of groups) part → Contains (map part_of done) part
  pub to : (part : List ℕ) → Contains (map part_of done) part → Contains (map label_of groups) part

none_distinct : IsDistinct bytes_eq []
unfolding IsDistinct
none_distinct = tt

pub groups_none : (files : List FileText) → AreGroups files [] files []
groups_none files = record {
  whole = refl;
  later = λ f g hf hg same. in_none f hf;
  each = All-nil _;
  distinct = none_distinct;
  from = λ part h. h;
  to = λ part h. h;
}

folder_behind : (format : Format) → (left : ℕ) (done rest : List FileText) → IsFolder format left (done ++ rest) → IsFolder format left rest
folder_behind format left [] rest w = w
folder_behind format left (file ∷ done) rest w = folder_behind format left done rest (folder_rest format left file (done ++ rest) w)

-- the first file and all that begin as it does
pub run : FileText → List FileText → List FileText
run f rest = take_while (begins (part_of f)) (f ∷ rest)

pub others : FileText → List FileText → List FileText
others f rest = drop (prefix_len (begins (part_of f)) (f ∷ rest)) (f ∷ rest)

pub run_is : (f : FileText) (rest : List FileText) → run f rest ≡ take (prefix_len (begins (part_of f)) (f ∷ rest)) (f ∷ rest)
unfolding run
run_is f rest = refl

pub others_is : (f : FileText) (rest : List FileText) → others f rest ≡ drop (prefix_len (begins (part_of f)) (f ∷ rest)) (f ∷ rest)
unfolding others
others_is f rest = refl

pub own_part : (f : FileText) → begins (part_of f) f ≡ true
own_part f = same_tested (part_of f) (part_of f) refl

rest_part : (format : Format) → (left : ℕ) (f : FileText) (rest : List FileText) → IsFolder format left (f ∷ rest) → in_part (f ∷ rest) (part_of f) ≡ run f rest
unfolding run
rest_part format left f rest w = rw (take_while-cons (begins (part_of f)) f rest) (rw (own_part f) (ap (λ (l : List FileText). f ∷ l) (run_is_part format left f rest w)))

run_whole : (f : FileText) (rest : List FileText) → run f rest ++ others f rest ≡ f ∷ rest
unfolding run others
run_whole f rest = take-append-drop _ (f ∷ rest)

in_run : (format : Format) → (left : ℕ) (f : FileText) (rest : List FileText) → IsFolder format left (f ∷ rest) → (g : FileText) → Contains (run f rest) g → part_of g ≡ part_of f
in_run format left f rest w g h = tested_same (part_of g) (part_of f) (filter_from (begins (part_of f)) (f ∷ rest) g (subst (λ (l : List FileText). Contains l g) (sym (rest_part format left f rest w)) h)).1

not_in_others : (format : Format) → (left : ℕ) (f : FileText) (rest : List FileText) → IsFolder format left (f ∷ rest) → (g : FileText) → Contains (others f rest) g → part_of g ≡ part_of f → ⊥
not_in_others format left f rest w g h same =
    let p = begins (part_of f) in
    let inside : filter p (run f rest) ≡ run f rest = filter_whole p (run f rest) (λ x has. same_tested (part_of x) (part_of f) (in_run format left f rest w x has)) in
    let split : run f rest ++ filter p (others f rest) ≡ run f rest ++ [] =
    ap (λ (l : List FileText). l ++ filter p (others f rest)) (sym inside) ∙ sym (filter-append p (run f rest) (others f rest)) ∙ ap (filter p) (run_whole f rest) ∙ rest_part format left f rest w ∙ sym (append-nil (run f rest)) in
    let none : filter p (others f rest) ≡ [] = append_cancel_left (run f rest) (filter p (others f rest)) [] split in
    in_none g (subst (λ (l : List FileText). Contains l g) none (filter_has p (others f rest) g h (same_tested (part_of g) (part_of f) same)))

in_rest : (f : FileText) (rest : List FileText) (g : FileText) → Contains (others f rest) g → Contains (f ∷ rest) g
in_rest f rest g h = subst (λ (l : List FileText). Contains l g) (run_whole f rest) (Contains-append_right (run f rest) (others f rest) g h)

in_front : (f : FileText) (rest : List FileText) (g : FileText) → Contains (run f rest) g → Contains (f ∷ rest) g
in_front f rest g h = subst (λ (l : List FileText). Contains l g) (run_whole f rest) (Contains-append_left (run f rest) (others f rest) g h)

first_in_run : (f : FileText) (rest : List FileText) → Contains (run f rest) f
unfolding run
first_in_run f rest = rw (take_while-cons (begins (part_of f)) f rest) (rw (own_part f) (in_here f (take_while (begins (part_of f)) rest)))

-- its files are all that begin with the part
run_is_group : (format : Format) → (left : ℕ) (f : FileText) (done rest : List FileText) → IsFolder format left (f ∷ rest) → ((d g : FileText) → Contains done d → Contains (f ∷ rest) g → part_of d ≡ part_of g → ⊥) → in_part (done ++ f ∷ rest) (part_of f) ≡ run f rest
run_is_group format left f done rest w later =
    let p = begins (part_of f) in
    let none : filter p done ≡ [] = filter_none p done (λ d has. false_from_ne_true _ (λ does. later d f has (in_here f rest) (tested_same (part_of d) (part_of f) does))) in
    filter-append p done (f ∷ rest) ∙ ap (λ (l : List FileText). l ++ filter p (f ∷ rest)) none ∙ rest_part format left f rest w

any_none : (part : List ℕ) (parts : List (List ℕ)) → ((q : List ℕ) → Contains parts q → part ≡ q → ⊥) → list_any (bytes_eq part) parts ≡ false
any_none part [] h = refl
any_none part (q ∷ parts) h = or_from _ _ (false_from_ne_true _ (λ e. h q (in_here q parts) (tested_same part q e))) (any_none part parts (λ r has. h r (in_later q parts r has)))

labels_more : (groups : List Group) (group : Group) → map label_of (groups ++ group ∷ []) ≡ map label_of groups ++ group.0 ∷ []
labels_more groups group = map-append label_of groups (group ∷ [])

later_more : (format : Format) → (left : ℕ) (f : FileText) (done rest : List FileText) → IsFolder format left (f ∷ rest) → ((d g : FileText) → Contains done d → Contains (f ∷ rest) g → part_of d ≡ part_of g → ⊥)
    → (d g : FileText) → Contains (done ++ run f rest) d → Contains (others f rest) g → part_of d ≡ part_of g → ⊥
later_more format left f done rest w later d g hd hg same =
    elim (Contains-append_cases done (run f rest) d hd) [
      | inl before ↦ later d g before (in_rest f rest g hg) same
      | inr now ↦ not_in_others format left f rest w g hg (sym same ∙ in_run format left f rest w d now)
    ]

distinct_more : (f : FileText) (done rest : List FileText) (groups : List Group) → ((d g : FileText) → Contains done d → Contains (f ∷ rest) g → part_of d ≡ part_of g → ⊥)
    → IsDistinct bytes_eq (map label_of groups) → ((part : List ℕ) → Contains (map label_of groups) part → Contains (map part_of done) part) → (group : Group) → group.0 ≡ part_of f → IsDistinct bytes_eq (map label_of (groups ++ group ∷ []))
distinct_more f done rest groups later distinct from group e =
    subst (IsDistinct bytes_eq) (sym (labels_more groups group)) (IsDistinct-push nat_list_eq_equiv (map label_of groups) group.0 distinct
    (any_none group.0 (map label_of groups) (λ q has same. let d = map_from part_of done q (from q has) in later d.0 f d.1 (in_here f rest) (d.2 ∙ sym same ∙ e))))

from_more : (f : FileText) (done rest : List FileText) (groups : List Group) → ((part : List ℕ) → Contains (map label_of groups) part → Contains (map part_of done) part)
    → (group : Group) → group.0 ≡ part_of f → (part : List ℕ) → Contains (map label_of (groups ++ group ∷ [])) part → Contains (map part_of (done ++ run f rest)) part
from_more f done rest groups from group e part h =
    subst (λ (l : List (List ℕ)). Contains l part) (sym (map-append part_of done (run f rest)))
    (elim (Contains-push_cases (map label_of groups) group.0 part (subst (λ (l : List (List ℕ)). Contains l part) (labels_more groups group) h)) [
      | inl before ↦ Contains-append_left (map part_of done) (map part_of (run f rest)) part (from part before)
      | inr now ↦ Contains-append_right (map part_of done) (map part_of (run f rest)) part (subst (λ (l : List ℕ). Contains (map part_of (run f rest)) l) (sym e ∙ now) (map_has part_of (run f rest) f (first_in_run f rest)))
    ])

to_more : (format : Format) → (left : ℕ) (f : FileText) (done rest : List FileText) (groups : List Group) → IsFolder format left (f ∷ rest) → ((part : List ℕ) → Contains (map part_of done) part → Contains (map label_of groups) part)
    → (group : Group) → group.0 ≡ part_of f → (part : List ℕ) → Contains (map part_of (done ++ run f rest)) part → Contains (map label_of (groups ++ group ∷ [])) part
to_more format left f done rest groups w to group e part h =
    subst (λ (l : List (List ℕ)). Contains l part) (sym (labels_more groups group))
    (elim (Contains-append_cases (map part_of done) (map part_of (run f rest)) part (subst (λ (l : List (List ℕ)). Contains l part) (map-append part_of done (run f rest)) h)) [
      | inl before ↦ Contains-append_left (map label_of groups) (group.0 ∷ []) part (to part before)
      | inr now ↦ (let g = map_from part_of (run f rest) part now in
          subst (λ (l : List ℕ). Contains (map label_of groups ++ group.0 ∷ []) l) (e ∙ sym (in_run format left f rest w g.0 g.1) ∙ g.2) (Contains-push (map label_of groups) group.0))
    ])

pub more_groups : (format : Format) → (left : ℕ) (files done : List FileText) (f : FileText) (rest : List FileText) (groups : List Group) → IsFolder format left files → AreGroups files done (f ∷ rest) groups
    → AreGroups files (done ++ run f rest) (others f rest) (groups ++ (part_of f, run f rest) ∷ [])
more_groups format left files done f rest groups w a =
    let v = folder_behind format left done (f ∷ rest) (subst (IsFolder format left) a.whole w) in
    let group : Group = (part_of f, run f rest) in record {
      whole = a.whole ∙ ap (λ (l : List FileText). done ++ l) (sym (run_whole f rest)) ∙ sym (append_assoc done (run f rest) (others f rest));
      later = later_more format left f done rest v a.later;
      each = All-push (λ (g : Group). g.1 ≡ in_part files g.0) groups group a.each (sym (run_is_group format left f done rest v a.later) ∙ ap (λ (l : List FileText). in_part l (part_of f)) (sym a.whole));
      distinct = distinct_more f done rest groups a.later a.distinct a.from group refl;
      from = from_more f done rest groups a.from group refl;
      to = to_more format left f done rest groups v a.to group refl;
    }

labels_move : (groups sorted : List Group) → IsPermutation groups sorted → (part : List ℕ) → Contains (map label_of sorted) part → Contains (map label_of groups) part
labels_move groups sorted moved part h = Contains-permutation (map label_of sorted) (map label_of groups) part (IsPermutation-sym _ _ (IsPermutation-map label_of groups sorted moved)) h

labels_stay : (groups sorted : List Group) → IsPermutation groups sorted → (part : List ℕ) → Contains (map label_of groups) part → Contains (map label_of sorted) part
labels_stay groups sorted moved part h = Contains-permutation (map label_of groups) (map label_of sorted) part (IsPermutation-map label_of groups sorted moved) h

abbrev pub comes_first : Group → Group → Bool
comes_first g h = is_lt (slice_cmp nat_cmp g.0 h.0)

labels_rise : (sorted : List Group) → IsDistinct bytes_eq (map label_of sorted) → IsSortedBy comes_first sorted → Rises (map label_of sorted)
labels_rise sorted distinct up =
    sorted_from_all_adjacent nat_list_cmp_total (map label_of sorted) [] (λ k below.
    let len : length (map label_of sorted) ≡ length sorted = length-map sorted label_of in
    let inside : k + 1 < length sorted = omega arith in
    let under : k < length sorted = omega arith in
    let d : Group = ([], []) in
    let here = get_or-map label_of sorted k d [] under in
    let next = get_or-map label_of sorted (k + 1) d [] inside in
    let apart : bytes_eq (get_or (map label_of sorted) (k + 1) []) (get_or (map label_of sorted) k []) ≡ false =
    nat_list_eq_equiv.symm (get_or (map label_of sorted) (k + 1) []) (get_or (map label_of sorted) k []) ∙ apart_from_distinct bytes_eq (map label_of sorted) k (k + 1) [] distinct (omega arith) below in
    one_is_before (get_or (map label_of sorted) (k + 1) []) (get_or (map label_of sorted) k []) apart
    (subst (λ (z : List ℕ). is_lt (slice_cmp nat_cmp (get_or (map label_of sorted) (k + 1) []) z) ≡ false) (sym here)
    (subst (λ (z : List ℕ). is_lt (slice_cmp nat_cmp z (label_of (get_or sorted k d))) ≡ false) (sym next) (up k d (omega arith) inside))))

by_labels : (files : List FileText) (groups : List Group) → All (λ (group : Group). group.1 ≡ in_part files group.0) groups → groups ≡ map (λ part. (part, in_part files part)) (map label_of groups)
by_labels files [] each = refl
by_labels files (group ∷ groups) each =
    let P : Group → Type 0 = λ g. g.1 ≡ in_part files g.0 in
    let first : group ≡ (group.0, in_part files group.0) = ap (λ (l : List FileText). let g : Group = (group.0, l) in g) (All-head P group groups each) in
    let rest = by_labels files groups (All-tail P group groups each) in
    let shown = map (λ part. let g : Group = (part, in_part files part) in g) (map label_of groups) in
    ap (λ (g : Group). g ∷ groups) first ∙ ap (λ (gs : List Group). (group.0, in_part files group.0) ∷ gs) rest

-- all groups, sorted
pub groups_are : (files : List FileText) (groups sorted : List Group) → AreGroups files files [] groups → IsPermutation groups sorted → IsSortedBy comes_first sorted → sorted ≡ split_files files
groups_are files groups sorted a moved up =
    let distinct = IsDistinct-IsPermutation bytes_eq nat_list_eq_equiv.symm (map label_of groups) (map label_of sorted) (IsPermutation-map label_of groups sorted moved) a.distinct in
    let same = parts_are files (map label_of sorted) (labels_rise sorted distinct up) (λ q h. a.from q (labels_move groups sorted moved q h)) (λ q h. labels_stay groups sorted moved q (a.to q h)) in
    let each = All-permutation (λ (group : Group). group.1 ≡ in_part files group.0) groups sorted moved a.each in
    by_labels files sorted each ∙ ap (map (λ part. (part, in_part files part))) same

-- nothing is left
pub groups_done : (files done : List FileText) (groups : List Group) → AreGroups files done [] groups → AreGroups files files [] groups
groups_done files done groups a =
    let e : done ≡ files = sym (append-nil done) ∙ sym a.whole in
    subst (λ (l : List FileText). AreGroups files l [] groups) e a
