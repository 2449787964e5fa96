-- The paths of the rows that are still to come are free.
use Rattle.std.proofs.Common.{◌≡◌, ◌≢◌, ℕ, ◌+◌, ◌<◌, List, [], ◌∷◌, ◌++◌, length, map, get_or, take, drop, sym, ap, subst, ◌∙◌, append_assoc, append-nil, arith, inl, inr}
use Rattle.std.specs.Ordering.{nat_cmp}
use Rattle.std.specs.declared.cmp.Ordering.TheVariants.{Less, Equal}
use Rattle.std.specs.Cmp.Lexicographic.{slice_cmp}
use Rattle.std.proofs.lemmas.Cmp.{nat_list_cmp_total, tied_itself}
use Rattle.std.proofs.lemmas.List.{get_or-map, get_or-drop, get_or_default, length-map, length-drop}
use Rattle.std.proofs.lemmas.Map.Keys.{Less-from_sorted}
use Rattle.ms_object.specs.declared.format.Format.{Format}
use Rattle.ms_object.specs.declared.object.SizedRow.{SizedRow}
use Rattle.ms_object.specs.Labels.{IsLabel}
use Rattle.ms_object.specs.Objects.{IsSizedDir}
use Rattle.ms_object.specs.Trees.{Texts, FileText}
use Rattle.ms_tree.specs.Gathering.{row_met, Differ, IsFree, AreFree, Gathers}
use Rattle.ms_tree.proofs.Apart.{Differ-on, Differ-behind, labels_differ}
use Rattle.ms_tree.proofs.Walks.{met_at_row, IsAtOrBelow}

-- where a path is free, all below it is
pub free_below : (files : List FileText) (path : List ℕ) (rows : List SizedRow) → IsFree files path → AreFree files (path ++ 47 ∷ []) rows
free_below files path rows free k d lt file here =
    let label = (get_or rows k d).label in
    let one = file.0 ++ 47 ∷ [] in
    subst (λ (x : List ℕ). Differ x (((path ++ 47 ∷ []) ++ label) ++ 47 ∷ [])) (append-nil one)
    (subst (λ (y : List ℕ). Differ (one ++ []) y) (sym (append_assoc (path ++ 47 ∷ []) label (47 ∷ []))) (Differ-on one (path ++ 47 ∷ []) [] (label ++ 47 ∷ []) (free file here)))

-- two rows of a directory have different labels
pub rows_differ : (rows : List SizedRow) (i j : ℕ) (d : SizedRow) → IsSizedDir rows → i < j → j < length rows → (get_or rows i d).label ≢ (get_or rows j d).label
rows_differ rows i j d h lt within e =
    let labels = map (λ (r : SizedRow). r.label) rows in
    let label = (get_or rows i d).label in
    let less : slice_cmp nat_cmp (get_or labels i d.label) (get_or labels j d.label) ≡ Less =
    Less-from_sorted (slice_cmp nat_cmp) labels i j d.label h.rising lt (omega (arith, length-map rows (λ (r : SizedRow). r.label))) in
    let one : get_or labels i d.label ≡ label = get_or-map (λ (r : SizedRow). r.label) rows i d d.label (omega arith) in
    let other : get_or labels j d.label ≡ label = get_or-map (λ (r : SizedRow). r.label) rows j d d.label within ∙ sym e in
    let tied : slice_cmp nat_cmp label label ≡ Equal = tied_itself nat_list_cmp_total label in
    let same : slice_cmp nat_cmp (get_or labels i d.label) (get_or labels j d.label) ≡ slice_cmp nat_cmp label label =
    ap (λ (x : List ℕ). slice_cmp nat_cmp x (get_or labels j d.label)) one ∙ ap (slice_cmp nat_cmp label) other in
    let q : Less ≡ Equal = sym less ∙ same ∙ tied in
    cc

-- what goes on from one row's path differs from another's
apart_below : (before one other rest : List ℕ) → IsLabel one → IsLabel other → one ≢ other → Differ (((before ++ one) ++ 47 ∷ []) ++ rest) ((before ++ other) ++ 47 ∷ [])
apart_below before one other rest g h ne =
    let d : Differ (one ++ 47 ∷ []) (other ++ 47 ∷ []) = labels_differ one other g.no_slash h.no_slash ne in
    let longer : Differ ((before ++ (one ++ 47 ∷ [])) ++ rest) ((before ++ (other ++ 47 ∷ [])) ++ []) =
    Differ-on (before ++ (one ++ 47 ∷ [])) (before ++ (other ++ 47 ∷ [])) rest [] (Differ-behind before (one ++ 47 ∷ []) (other ++ 47 ∷ []) d) in
    let first : (before ++ (one ++ 47 ∷ [])) ++ rest ≡ ((before ++ one) ++ 47 ∷ []) ++ rest = ap (λ (t : List ℕ). t ++ rest) (sym (append_assoc before one (47 ∷ []))) in
    let second : (before ++ (other ++ 47 ∷ [])) ++ [] ≡ (before ++ other) ++ 47 ∷ [] = append-nil (before ++ (other ++ 47 ∷ [])) ∙ sym (append_assoc before other (47 ∷ [])) in
    subst (λ (x : List ℕ). Differ x ((before ++ other) ++ 47 ∷ [])) first (subst (λ (y : List ℕ). Differ ((before ++ (one ++ 47 ∷ [])) ++ rest) y) second longer)

-- what is gathered at one row leaves the paths of the others free
pub free_after : (format : Format) → (left : ℕ) (store : Texts) (before : List ℕ) (old new : List FileText) (rows : List SizedRow) (i : ℕ) (one : SizedRow) → IsSizedDir rows → i < length rows → one ≡ get_or rows i one
    → AreFree old before (drop i rows) → Gathers old new (row_met format left store before one) → AreFree new before (drop (i + 1) rows)
free_after format left store before old new rows i one h lt at_one free g k e within file here =
    let other = get_or (drop (i + 1) rows) k e in
    let lower : i + 1 + k < length rows = omega (arith, length-drop (i + 1) rows) in
    let is : other ≡ get_or rows (i + 1 + k) one = get_or-drop (i + 1) rows k e ∙ get_or_default rows (i + 1 + k) e one lower in
    elim ((g.found file).0 here) [
      | inl there ↦
          let same : get_or (drop i rows) (k + 1) e ≡ other = get_or-drop i rows (k + 1) e ∙ ap (λ (n : ℕ). get_or rows n e) (let q : i + (k + 1) ≡ i + 1 + k = omega arith in q) ∙ sym (get_or-drop (i + 1) rows k e) in
          subst (λ (r : SizedRow). Differ (file.0 ++ 47 ∷ []) ((before ++ r.label) ++ 47 ∷ [])) same (free (k + 1) e (omega (arith, length-drop i rows, length-drop (i + 1) rows)) file there)
      | inr met ↦
          let at : IsAtOrBelow (before ++ one.label) file = met_at_row format left store before one file met in
          let ne : one.label ≢ other.label = λ q. rows_differ rows i (i + 1 + k) one h (omega arith) lower (ap (λ (r : SizedRow). r.label) (sym at_one) ∙ q ∙ ap (λ (r : SizedRow). r.label) is) in
          let label : IsLabel other.label = subst (λ (r : SizedRow). IsLabel r.label) (sym is) (h.labels (i + 1 + k) one lower) in
          subst (λ (x : List ℕ). Differ x ((before ++ other.label) ++ 47 ∷ [])) (sym at.1) (apart_below before one.label other.label at.0 (subst (λ (r : SizedRow). IsLabel r.label) (sym at_one) (h.labels i one lt)) label ne)
    ]

-- ---- at a row, in a loop over all

pub free_here : (before path : List ℕ) (files : List FileText) (rows : List SizedRow) (i : ℕ) (row : SizedRow) → path ≡ before → i < length rows → row ≡ get_or rows i row → AreFree files before (drop i rows) → IsFree files (path ++ row.label)
free_here before path files rows i row same lt is free =
    let at : get_or (drop i rows) 0 row ≡ row = get_or-drop i rows 0 row ∙ ap (λ (n : ℕ). get_or rows n row) (let q : i + 0 ≡ i = omega arith in q) ∙ sym is in
    let here : IsFree files (before ++ row.label) = subst (λ (r : SizedRow). IsFree files (before ++ r.label)) at (free 0 row (omega (arith, length-drop i rows))) in
    subst (λ (p : List ℕ). IsFree files (p ++ row.label)) (sym same) here

pub label_here : (rows : List SizedRow) (i : ℕ) (row : SizedRow) → i < length rows → row ≡ get_or rows i row → IsSizedDir rows → IsLabel row.label
label_here rows i row lt is h = subst (λ (r : SizedRow). IsLabel r.label) (sym is) (h.labels i row lt)

pub path_back : (before path new : List ℕ) (n : ℕ) → path ≡ before → n ≡ length before → take (length path) new ≡ path → take n new ≡ before
path_back before path new n same size kept =
    let e : n ≡ length path = size ∙ ap (λ (p : List ℕ). length p) (sym same) in
    ap (λ (k : ℕ). take k new) e ∙ kept ∙ same
