-- Files that are shown, by their paths from some byte on.
use Rattle.std.proofs.Common.{◌≡◌, ℕ, ◌+◌, ◌<◌, ◌≤◌, Bool, true, false, List, [], ◌∷◌, ◌++◌, sym, ap, ◌∙◌, subst, length, map, get_or, take, drop, bytes_eq, is_lt, nat_cmp, IsPermutation, ◌-◌, length-drop, length-take, length-take-le, add-zero, take-add, arith}
use Rattle.std.specs.List.{prefix_len}
use Rattle.std.specs.List.Sorted.{IsSortedBy}
use Rattle.std.specs.Cmp.Lexicographic.{slice_cmp}
use Rattle.std.proofs.lemmas.List.Sorted.{IsPermutation-map}
use Rattle.std.proofs.lemmas.List.{get_or-map, length-map, drop-map, take-map, take_rest, drop_more, drop_all, drop-drop, get_or-drop}
use Rattle.std.proofs.lemmas.List.Sums.{prefix_len-drop_yes, prefix_len-drop_no, prefix_len-le-length}
use Rattle.ms_object.specs.declared.format.Format.{Format}
use Rattle.ms_object.specs.Trees.{FileText}
use Rattle.ms_tree.specs.declared.files.FileRef.{FileRef}
use Rattle.ms_tree.specs.declared.parts.Part.{Part}
use Rattle.ms_tree.specs.Planting.{first_part}
use Rattle.ms_tree.specs.Folders.{IsFolder, shown_from, shown_part, split_files}
use Rattle.ms_tree.proofs.Groups.{begins}
use Rattle.ms_tree.proofs.FirstParts.{part_of}
use Rattle.ms_tree.proofs.Runs.{Group, AreGroups, comes_first, groups_are, groups_done, run, others, more_groups, run_is, others_is, own_part, groups_none}

begins_at : (label part : List ℕ) (skip : ℕ) (files : List FileRef) (i : ℕ) (d : FileRef) (e : FileText) → i < length files → part ≡ first_part (drop skip (get_or files i d).path.now)
    → begins label (get_or (shown_from skip files) i e) ≡ bytes_eq part label
begins_at label part skip files i d e below is =
    ap (begins label) (get_or-map (λ file. let f : FileText = (drop skip file.path.now, file.text.now) in f) files i d e below) ∙ ap (λ (l : List ℕ). bytes_eq l label) (sym is)

-- the file at i goes on with the part
pub run_on : (label part : List ℕ) (skip : ℕ) (files : List FileRef) (i n : ℕ) (d : FileRef) → i < length files → part ≡ first_part (drop skip (get_or files i d).path.now) → bytes_eq part label ≡ true
    → i + prefix_len (begins label) (drop i (shown_from skip files)) ≡ n → i + 1 + prefix_len (begins label) (drop (i + 1) (shown_from skip files)) ≡ n
run_on label part skip files i n d below is same so_far =
    let e : FileText = ([], []) in
    let len : length (shown_from skip files) ≡ length files = length-map files _ in
    let inside : i < length (shown_from skip files) = omega arith in
    let more = prefix_len-drop_yes (begins label) (shown_from skip files) i e inside (begins_at label part skip files i d e below is ∙ same) in
    omega (arith, more)

-- the file at i doesn't
pub run_stops : (label part : List ℕ) (skip : ℕ) (files : List FileRef) (i n : ℕ) (d : FileRef) → i < length files → part ≡ first_part (drop skip (get_or files i d).path.now) → bytes_eq part label ≡ false
    → i + prefix_len (begins label) (drop i (shown_from skip files)) ≡ n → i ≡ n
run_stops label part skip files i n d below is other so_far =
    let e : FileText = ([], []) in
    let len : length (shown_from skip files) ≡ length files = length-map files _ in
    let inside : i < length (shown_from skip files) = omega arith in
    let none = prefix_len-drop_no (begins label) (shown_from skip files) i e inside (begins_at label part skip files i d e below is ∙ other) in
    omega (arith, none)

shown_drop : (skip i : ℕ) (files : List FileRef) → shown_from skip (drop i files) ≡ drop i (shown_from skip files)
shown_drop skip i files = sym (drop-map _ i files)

shown_take : (skip n : ℕ) (files : List FileRef) → shown_from skip (take n files) ≡ take n (shown_from skip files)
shown_take skip n files = sym (take-map _ n files)

-- what is counted in the rest of the files
pub counted : (label : List ℕ) (skip i n : ℕ) (files : List FileRef) → n ≡ prefix_len (begins label) (shown_from skip (take (length files - i) (drop i files))) → n ≡ prefix_len (begins label) (drop i (shown_from skip files))
counted label skip i n files e = e ∙ ap (λ (l : List FileRef). prefix_len (begins label) (shown_from skip l)) (take_rest files i) ∙ ap (prefix_len (begins label)) (shown_drop skip i files)

pub counted_within : (label : List ℕ) (skip i n : ℕ) (files : List FileRef) → i ≤ length files → n ≡ prefix_len (begins label) (drop i (shown_from skip files)) → i + n ≤ length files
counted_within label skip i n files below e =
    omega (arith, prefix_len-le-length (begins label) (drop i (shown_from skip files)), length-drop i (shown_from skip files), length-map files (λ file. let f : FileText = (drop skip file.path.now, file.text.now) in f))

rest_first : (label : List ℕ) (skip i : ℕ) (files : List FileRef) (d : FileRef) → i < length files → label ≡ first_part (drop skip (get_or (take (length files - i) (drop i files)) 0 d).path.now)
    → label ≡ part_of (get_or (shown_from skip files) i ([], []))
rest_first label skip i files d below is =
    is ∙ ap (λ (l : List FileRef). first_part (drop skip (get_or l 0 d).path.now)) (take_rest files i)
    ∙ ap (λ (file : FileRef). first_part (drop skip file.path.now)) (get_or-drop i files 0 d ∙ ap (λ (k : ℕ). get_or files k d) (add-zero i))
    ∙ ap part_of (sym (get_or-map (λ file. let f : FileText = (drop skip file.path.now, file.text.now) in f) files i d ([], []) below))

moved : (files done rest done' rest' : List FileText) (groups groups' : List Group) → AreGroups files done rest groups → done ≡ done' → rest ≡ rest' → groups ≡ groups' → AreGroups files done' rest' groups'
moved files done rest done' rest' groups groups' a d r g =
    subst (λ (gs : List Group). AreGroups files done' rest' gs) g (subst (λ (l : List FileText). AreGroups files done' l groups) r (subst (λ (l : List FileText). AreGroups files l rest groups) d a))

prefix_some : (p : FileText → Bool) (f : FileText) (rest : List FileText) → p f ≡ true → 0 < prefix_len p (f ∷ rest)
prefix_some p f rest e = rw e (omega arith)

-- the first file of the rest goes on with its own part
pub counted_some : (skip i n : ℕ) (label : List ℕ) (files : List FileRef) (d : FileRef) → i < length files
    → label ≡ first_part (drop skip (get_or (take (length files - i) (drop i files)) 0 d).path.now) → n ≡ prefix_len (begins label) (drop i (shown_from skip files)) → 0 < n
counted_some skip i n label files d below first count =
    let all = shown_from skip files in
    let e : FileText = ([], []) in
    let f = get_or all i e in
    let is = rest_first label skip i files d below first in
    let len : length all ≡ length files = length-map files (λ file. let f : FileText = (drop skip file.path.now, file.text.now) in f) in
    let inside : i < length all = omega arith in
    let rest : drop i all ≡ f ∷ drop (i + 1) all = drop_more all i e inside in
    let n' : n ≡ prefix_len (begins (part_of f)) (f ∷ drop (i + 1) all) = count ∙ ap (λ (l : List ℕ). prefix_len (begins l) (drop i all)) is ∙ ap (prefix_len (begins (part_of f))) rest in
    subst (λ (k : ℕ). 0 < k) (sym n') (prefix_some (begins (part_of f)) f (drop (i + 1) all) (own_part f))

-- one part more
pub more_shown : (format : Format) → (left skip i n : ℕ) (label : List ℕ) (files : List FileRef) (groups : List Group) (d : FileRef) → IsFolder format left (shown_from skip files) → i < length files
    → AreGroups (shown_from skip files) (take i (shown_from skip files)) (drop i (shown_from skip files)) groups
    → label ≡ first_part (drop skip (get_or (take (length files - i) (drop i files)) 0 d).path.now) → n ≡ prefix_len (begins label) (drop i (shown_from skip files))
    → AreGroups (shown_from skip files) (take (i + n) (shown_from skip files)) (drop (i + n) (shown_from skip files)) (groups ++ (label, shown_from skip (take n (take (length files - i) (drop i files)))) ∷ [])
more_shown format left skip i n label files groups d w below a first count =
    let all = shown_from skip files in
    let e : FileText = ([], []) in
    let f = get_or all i e in
    let is = rest_first label skip i files d below first in
    let len : length all ≡ length files = length-map files (λ file. let f : FileText = (drop skip file.path.now, file.text.now) in f) in
    let inside : i < length all = omega arith in
    let rest : drop i all ≡ f ∷ drop (i + 1) all = drop_more all i e inside in
    let n' : n ≡ prefix_len (begins (part_of f)) (f ∷ drop (i + 1) all) = count ∙ ap (λ (l : List ℕ). prefix_len (begins l) (drop i all)) is ∙ ap (prefix_len (begins (part_of f))) rest in
    let more = more_groups format left all (take i all) f (drop (i + 1) all) groups w (subst (λ (l : List FileText). AreGroups all (take i all) l groups) rest a) in
    let front : run f (drop (i + 1) all) ≡ take n (drop i all) = run_is f (drop (i + 1) all) ∙ ap (λ (k : ℕ). take k (f ∷ drop (i + 1) all)) (sym n') ∙ ap (take n) (sym rest) in
    let back : others f (drop (i + 1) all) ≡ drop n (drop i all) = others_is f (drop (i + 1) all) ∙ ap (λ (k : ℕ). drop k (f ∷ drop (i + 1) all)) (sym n') ∙ ap (drop n) (sym rest) in
    let here : shown_from skip (take n (take (length files - i) (drop i files))) ≡ take n (drop i all) =
    ap (λ (l : List FileRef). shown_from skip (take n l)) (take_rest files i) ∙ shown_take skip n (drop i files) ∙ ap (take n) (shown_drop skip i files) in
    let done : take i all ++ run f (drop (i + 1) all) ≡ take (i + n) all = ap (λ (l : List FileText). take i all ++ l) front ∙ sym (take-add i n all) in
    let behind : others f (drop (i + 1) all) ≡ drop (i + n) all = back ∙ drop-drop n i all in
    let group = ap (λ (l : List FileText). let g : Group = (part_of f, l) in g) (front ∙ sym here) ∙ ap (λ (l : List ℕ). let g : Group = (l, shown_from skip (take n (take (length files - i) (drop i files)))) in g) (sym is) in
    moved all (take i all ++ run f (drop (i + 1) all)) (others f (drop (i + 1) all)) (take (i + n) all) (drop (i + n) all)
    (groups ++ (part_of f, run f (drop (i + 1) all)) ∷ []) (groups ++ (label, shown_from skip (take n (take (length files - i) (drop i files)))) ∷ [])
    more done behind (ap (λ (g : Group). groups ++ g ∷ []) group)

pub front_bounds : (i n : ℕ) (files : List FileRef) → i + n ≤ length files → n ≡ length (take n (take (length files - i) (drop i files)))
front_bounds i n files fits = sym (length-take-le n (take (length files - i) (drop i files)) (simp (length-take, length-drop) (omega arith)))

pub none_shown : (skip : ℕ) (files : List FileRef) (groups : List Group) → groups ≡ [] → AreGroups (shown_from skip files) [] (shown_from skip files) groups
none_shown skip files groups e = subst (λ (gs : List Group). AreGroups (shown_from skip files) [] (shown_from skip files) gs) (sym e) (groups_none (shown_from skip files))

-- all parts, sorted
pub parts_sorted : (format : Format) → (skip i left : ℕ) (files : List FileRef) (parts sorted : List Part) → IsFolder format left (shown_from skip files) → length files ≤ i
    → AreGroups (shown_from skip files) (take i (shown_from skip files)) (drop i (shown_from skip files)) (map (shown_part skip) parts) → IsPermutation parts sorted
    → IsSortedBy (λ one other. is_lt (slice_cmp nat_cmp one.label.now other.label.now)) sorted → map (shown_part skip) sorted ≡ split_files (shown_from skip files)
parts_sorted format skip i left files parts sorted w all a moved up =
    let shown = shown_from skip files in
    let len : length shown ≡ length files = length-map files (λ file. let f : FileText = (drop skip file.path.now, file.text.now) in f) in
    let none : drop i shown ≡ [] = drop_all i shown (omega arith) in
    let b = groups_done shown (take i shown) (map (shown_part skip) parts) (subst (λ (l : List FileText). AreGroups shown (take i shown) l (map (shown_part skip) parts)) none a) in
    groups_are shown (map (shown_part skip) parts) (map (shown_part skip) sorted) b (IsPermutation-map (shown_part skip) parts sorted moved) (sorted_shown skip sorted up)
  where
    sorted_shown : (skip : ℕ) (sorted : List Part) → IsSortedBy (λ one other. is_lt (slice_cmp nat_cmp one.label.now other.label.now)) sorted → IsSortedBy comes_first (map (shown_part skip) sorted)
    sorted_shown skip [] up = λ k d low below. absurd (omega arith)
    sorted_shown skip (part ∷ parts) up = λ k d low below.
        let all = part ∷ parts in
        let len : length (map (shown_part skip) all) ≡ length all = length-map all (shown_part skip) in
        let inside : k + 1 < length all = omega arith in
        let under : k < length all = omega arith in
        subst (λ (g : Group). comes_first (get_or (map (shown_part skip) all) (k + 1) d) g ≡ false) (sym (get_or-map (shown_part skip) all k part d under))
        (subst (λ (g : Group). comes_first g (shown_part skip (get_or all k part)) ≡ false) (sym (get_or-map (shown_part skip) all (k + 1) part d inside)) (up k part low inside))
