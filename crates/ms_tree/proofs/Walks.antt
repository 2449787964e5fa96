-- What a walk meets, row by row, and where the paths that it meets stand.
use Rattle.std.proofs.Common.{◌≡◌, ℕ, zero, suc, ◌-◌, ◌<◌, ◌≤◌, Bool, true, false, cond, ltb, nat_lt, List, [], ◌∷◌, ◌++◌, length, take, Contains, Result, Ok, Err, refl, sym, ap, subst, ◌∙◌, append_assoc, append-nil, arith, inl, inr}
use Rattle.std.specs.List.{flat_map}
use Rattle.std.specs.Prelude.{◌==◌, None, OnOk, IfErr}
use Rattle.ms_object.specs.declared.format.Format.TheVariants as formats
use Rattle.std.proofs.lemmas.Bool.{lt-ltb, le-ltb}
use Rattle.std.proofs.lemmas.List.{take_all}
use Rattle.std.proofs.lemmas.List.Elements.{Contains-append_cases}
use Rattle.ms_object.specs.declared.format.Format.{Format}
use Rattle.ms_base.specs.declared.names.Name.{Name}
use Rattle.ms_base.specs.declared.names.Quantity.TheVariants as quantities
use Rattle.ms_object.specs.declared.fault.GatherError.{GatherError}
use Rattle.ms_object.specs.declared.fault.GatherError.TheVariants as faults
use Rattle.ms_object.specs.declared.object.Kind.{Kind}
use Rattle.ms_object.specs.declared.object.Kind.TheVariants as kinds
use Rattle.ms_object.specs.declared.object.SizedRow.{SizedRow}
use Rattle.ms_object.specs.Trees.{Texts, FileText, Met, bytes_met, size_fault, with_size, or_fault, object_named, inner_rows_of, file_named, met_file, met_below, if_short, met_by_kind, walk_rows, first_fault}
use Rattle.ms_tree.specs.Files.{total_of}
use Rattle.ms_tree.specs.Gathering.{Gives, Gathers, SaysSize, StopsAt, row_below, row_met}
use Rattle.ms_tree.proofs.Membership.{only_item, no_item, in_flat_map}
use Rattle.ms_tree.proofs.Faults.{StopsAt-here}

-- a walk below rows is a walk at each
pub rows_met : (format : Format) → (left : ℕ) (store : Texts) (before : List ℕ) (rows : List SizedRow) → walk_rows format left store before rows ≡ flat_map (row_met format left store before) rows
unfolding walk_rows row_met row_below
rows_met format zero store before rows = refl
rows_met format (suc left) store before rows = refl

-- the path of the file is this one, or goes on from it with a slash
abbrev pub IsAtOrBelow : List ℕ → FileText → Type 0
IsAtOrBelow path file = (rest : List ℕ) × (file.0 ++ 47 ∷ [] ≡ (path ++ 47 ∷ []) ++ rest)

no_fault_here : {A : Type 0} (e : GatherError) (a : A) → Contains (Err e ∷ []) (Ok a) → ⊥
no_fault_here e a h = let q = only_item (Err e) (Ok a) h in cc

-- what is met below short paths alone
met_if_short : (path : List ℕ) (met : List Met) (file : FileText) → Contains (if_short path met) (Ok file) → Contains met (Ok file)
met_if_short path met file h = by (nat_lt 1024 (length path)) h
  where
    by : (b : Bool) → Contains (cond b (Err (faults.Limit quantities.Path (length path)) ∷ []) met) (Ok file) → Contains met (Ok file)
    by true h = absurd (no_fault_here (faults.Limit quantities.Path (length path)) file h)
    by false h = h

same_file : (path bytes : List ℕ) (file : FileText) → met_file path (Ok bytes) ≡ Ok file → path ≡ file.0
same_file path bytes file e = let pair : FileText = (path, bytes) in let q : pair ≡ file = cc in ap (λ (f : FileText). f.0) q

met_at_file : (path : List ℕ) (bytes : Result (List ℕ) GatherError) (file : FileText) → Contains (met_file path bytes ∷ []) (Ok file) → IsAtOrBelow path file
met_at_file path (Err e) file h = absurd (no_fault_here e file h)
met_at_file path (Ok bytes) file h =
    ([], ap (λ (p : List ℕ). p ++ 47 ∷ []) (sym (same_file path bytes file (only_item (met_file path (Ok bytes)) (Ok file) h))) ∙ sym (append-nil (path ++ 47 ∷ [])))

met_in_rows : (rows : Result (List SizedRow) GatherError) (walk : List SizedRow → List Met) (file : FileText) → Contains (met_below rows walk) (Ok file)
    → (inner : List SizedRow) × Contains (walk inner) (Ok file)
met_in_rows (Err e) walk file h = absurd (no_fault_here e file h)
met_in_rows (Ok inner) walk file h = (inner, h)

below_further : (path label : List ℕ) (file : FileText) → IsAtOrBelow ((path ++ 47 ∷ []) ++ label) file → IsAtOrBelow path file
below_further path label file h =
    (label ++ 47 ∷ [] ++ h.0, h.1 ∙ ap (λ (t : List ℕ). t ++ h.0) (append_assoc (path ++ 47 ∷ []) label (47 ∷ [])) ∙ append_assoc (path ++ 47 ∷ []) (label ++ 47 ∷ []) h.0)

met_at_kind : (format : Format) → (walk : List ℕ → List SizedRow → List Met) (store : Texts) (path : List ℕ) (name : Name) (kind : Kind) (file : FileText)
    → ((before : List ℕ) (rows : List SizedRow) → Contains (walk before rows) (Ok file) → (row : SizedRow) × IsAtOrBelow (before ++ row.label) file)
    → Contains (met_by_kind format walk store path name kind) (Ok file) → IsAtOrBelow path file
met_at_kind format walk store path name kinds.File file lower h = met_at_file path (file_named format store name) file h
met_at_kind format walk store path name kinds.Dir file lower h =
    let inner = met_in_rows (or_fault (object_named store name) (inner_rows_of format name)) (walk (path ++ 47 ∷ [])) file h in
    let r = lower (path ++ 47 ∷ []) inner.0 inner.1 in
    below_further path r.0.label file r.1

no_file_of_size : (format : Format) (row : SizedRow) (bytes : ℕ) (file : FileText) → Contains (size_fault format row bytes) (Ok file) → ⊥
no_file_of_size formats.One row bytes file h = no_item (Ok file) h
no_file_of_size formats.Two row bytes file h = by (row.size == bytes) h
  where
    by : (b : Bool) → Contains (cond b [] (Err (faults.WrongKind row.name) ∷ [])) (Ok file) → ⊥
    by true h = no_item (Ok file) h
    by false h = no_fault_here (faults.WrongKind row.name) file h

-- the files that are met before a size is judged
met_sized : (format : Format) (row : SizedRow) (met : List Met) (file : FileText) → Contains (with_size format row met) (Ok file) → Contains met (Ok file)
met_sized format row met file h =
    elim (Contains-append_cases met (size_fault format row (bytes_met met)) (Ok file) h) [
      | inl here ↦ here
      | inr fault ↦ absurd (no_file_of_size format row (bytes_met met) file fault)
    ]

-- each file that is met at a row is at its path or below it
pub met_at_row : (format : Format) (left : ℕ) (store : Texts) (before : List ℕ) (row : SizedRow) (file : FileText) → Contains (row_met format left store before row) (Ok file) → IsAtOrBelow (before ++ row.label) file
unfolding row_met row_below
met_at_row format zero store before row file h =
    let path = before ++ row.label in
    absurd (no_fault_here (faults.Limit quantities.Levels 65) file (met_if_short path (Err (faults.Limit quantities.Levels 65) ∷ []) file h))
met_at_row format (suc left) store before row file h =
    let path = before ++ row.label in
    let met = met_by_kind format (walk_rows format left store) store path row.name row.kind in
    met_at_kind format (walk_rows format left store) store path row.name row.kind file
    (λ front rows met.
    let r = in_flat_map (row_met format left store front) rows (Ok file) (subst (λ (m : List Met). Contains m (Ok file)) (rows_met format left store front rows) met) in
    (r.0, met_at_row format left store front r.0 file r.2))
    (met_if_short path met file (met_sized format row (if_short path met) file h))

-- ---- what is met at a row, by its cause

row_limit : (format : Format) → (left : ℕ) (store : Texts) (before : List ℕ) (row : SizedRow) → ltb 1024 (length (before ++ row.label)) ≡ true
    → row_below format left store before row ≡ Err (faults.Limit quantities.Path (length (before ++ row.label))) ∷ []
unfolding row_below
row_limit format zero store before row long = rw long
row_limit format (suc left) store before row long = rw long

pub row_too_long : (format : Format) → (left : ℕ) (store : Texts) (before path : List ℕ) (row : SizedRow) → path ≡ before ++ row.label → 1024 < length path → row_below format left store before row ≡ Err (faults.Limit quantities.Path (length path)) ∷ []
row_too_long format left store before path row is long =
    row_limit format left store before row (lt-ltb 1024 (length (before ++ row.label)) (subst (λ (p : List ℕ). 1024 < length p) is long))
    ∙ ap (λ (p : List ℕ). Err (faults.Limit quantities.Path (length p)) ∷ []) (sym is)

short : (before path label : List ℕ) → path ≡ before ++ label → length path ≤ 1024 → ltb 1024 (length (before ++ label)) ≡ false
short before path label is few = le-ltb 1024 (length (before ++ label)) (subst (λ (p : List ℕ). length p ≤ 1024) is few)

pub row_too_deep : (format : Format) → (left : ℕ) (store : Texts) (before path : List ℕ) (row : SizedRow) → path ≡ before ++ row.label → length path ≤ 1024 → left ≡ 0 → row_below format left store before row ≡ Err (faults.Limit quantities.Levels 65) ∷ []
unfolding row_below
row_too_deep format zero store before path row is few e = let s = short before path row.label is few in rw s
row_too_deep format (suc left) store before path row is few e = absurd (omega (arith, e))

row_kind : (format : Format) → (left : ℕ) (store : Texts) (before path : List ℕ) (row : SizedRow) (kind : Kind) → path ≡ before ++ row.label → length path ≤ 1024 → 1 ≤ left → row.kind ≡ kind
    → row_below format left store before row ≡ met_by_kind format (walk_rows format (left - 1) store) store path row.name kind
unfolding row_below
row_kind format zero store before path row kind is few some k = absurd (omega (arith, some))
row_kind format (suc left) store before path row kind is few some k =
    let s = short before path row.label is few in
    let less : left ≡ suc left - 1 = omega arith in
    (rw s refl) ∙ ap (λ (p : List ℕ). met_by_kind format (walk_rows format left store) store p row.name row.kind) (sym is)
    ∙ ap (met_by_kind format (walk_rows format left store) store path row.name) k ∙ ap (λ (n : ℕ). met_by_kind format (walk_rows format n store) store path row.name kind) less

pub row_at_file : (format : Format) → (left : ℕ) (store : Texts) (before path : List ℕ) (row : SizedRow) → path ≡ before ++ row.label → length path ≤ 1024 → 1 ≤ left → row.kind ≡ kinds.File
    → row_below format left store before row ≡ met_file path (file_named format store row.name) ∷ []
row_at_file format left store before path row is few some k = row_kind format left store before path row kinds.File is few some k

pub row_at_dir : (format : Format) → (left : ℕ) (store : Texts) (before path : List ℕ) (row : SizedRow) → path ≡ before ++ row.label → length path ≤ 1024 → 1 ≤ left → row.kind ≡ kinds.Dir
    → row_below format left store before row ≡ met_below (or_fault (object_named store row.name) (inner_rows_of format row.name)) (walk_rows format (left - 1) store (path ++ 47 ∷ []))
row_at_dir format left store before path row is few some k = row_kind format left store before path row kinds.Dir is few some k

-- ---- where a walk stops at a row

pub stops_long : (format : Format) → (files : List FileText) (left : ℕ) (store : Texts) (before path : List ℕ) (row : SizedRow) (n : ℕ) → path ≡ before ++ row.label → n ≡ length path → 1024 < n
    → StopsAt files (row_below format left store before row) (faults.Limit quantities.Path n)
stops_long format files left store before path row n is size long =
    subst (λ (k : ℕ). StopsAt files (row_below format left store before row) (faults.Limit quantities.Path k)) (sym size)
    (subst (λ (m : List Met). StopsAt files m (faults.Limit quantities.Path (length path))) (sym (row_too_long format left store before path row is (omega (arith, size, long)))) (inr (λ more. refl)))

pub stops_deep : (format : Format) → (files : List FileText) (left : ℕ) (store : Texts) (before path : List ℕ) (row : SizedRow) → path ≡ before ++ row.label → length path ≤ 1024 → left ≡ 0
    → StopsAt files (row_below format left store before row) (faults.Limit quantities.Levels 65)
stops_deep format files left store before path row is few e =
    subst (λ (m : List Met). StopsAt files m (faults.Limit quantities.Levels 65)) (sym (row_too_deep format left store before path row is few e)) (inr (λ more. refl))

-- what is not found is met as a fault
pub stops_below : {A : Type 0} (files : List FileText) (rows : Result A GatherError) (walk : A → List Met) (e : GatherError) → Gives rows (Err e) → StopsAt files (met_below rows walk) e
stops_below {A} files rows walk faults.NoMemory h = inl refl
stops_below {A} files rows walk (faults.Missing name) h = inr (λ more. ap (λ (r : Result A GatherError). first_fault (length files) (total_of files) (met_below r walk ++ more)) h)
stops_below {A} files rows walk (faults.WrongKind name) h = inr (λ more. ap (λ (r : Result A GatherError). first_fault (length files) (total_of files) (met_below r walk ++ more)) h)
stops_below {A} files rows walk (faults.Limit what value) h = inr (λ more. ap (λ (r : Result A GatherError). first_fault (length files) (total_of files) (met_below r walk ++ more)) h)

-- at a directory's row the walk is that of its rows
pub row_into_dir : (format : Format) → (left : ℕ) (store : Texts) (before path next : List ℕ) (row : SizedRow) (rows slice : List SizedRow) → path ≡ before ++ row.label → length path ≤ 1024 → 1 ≤ left → row.kind ≡ kinds.Dir
    → or_fault (object_named store row.name) (inner_rows_of format row.name) ≡ Ok rows → next ≡ path ++ 47 ∷ [] → slice ≡ rows → row_below format left store before row ≡ walk_rows format (left - 1) store next slice
row_into_dir format left store before path next row rows slice is few some k given front same =
    row_at_dir format left store before path row is few some k ∙ ap (λ (r : Result (List SizedRow) GatherError). met_below r (walk_rows format (left - 1) store (path ++ 47 ∷ []))) given
    ∙ ap (λ (b : List ℕ). walk_rows format (left - 1) store b rows) (sym front) ∙ ap (walk_rows format (left - 1) store next) (sym same)

pub all_gathered : (format : Format) → (left : ℕ) (store : Texts) (before : List ℕ) (old new : List FileText) (rows : List SizedRow) (i : ℕ) → length rows ≤ i → Gathers old new (flat_map (row_met format left store before) (take i rows))
    → Gathers old new (walk_rows format left store before rows)
all_gathered format left store before old new rows i past g =
    subst (λ (m : List Met). Gathers old new m) (ap (flat_map (row_met format left store before)) (take_all i rows past) ∙ sym (rows_met format left store before rows)) g

-- ---- the size that a row says

pub judged_fine : (format : Format) (left : ℕ) (store : Texts) (before : List ℕ) (row : SizedRow) (old new : List FileText) (bytes : ℕ) → Gathers old new (row_below format left store before row) → bytes ≡ total_of new - total_of old
    → size_fault format row bytes ≡ [] → Gathers old new (row_met format left store before row)
unfolding row_met
judged_fine format zero store before row old new bytes g is fine = g
judged_fine format (suc left) store before row old new bytes g is fine =
    let met = row_below format (suc left) store before row in
    let sum : bytes_met met ≡ bytes = omega (arith, g.bytes, is) in
    let none : size_fault format row (bytes_met met) ≡ [] = ap (size_fault format row) sum ∙ fine in
    subst (λ (m : List Met). Gathers old new m) (sym (ap (λ (m : List Met). met ++ m) none ∙ append-nil met)) g

not_gathered : (path : List ℕ) (old new : List FileText) → Gathers old new (if_short path (Err (faults.Limit quantities.Levels 65) ∷ [])) → ⊥
not_gathered path old new g = by (nat_lt 1024 (length path)) (g.goes_on [])
  where
    by : (b : Bool) → first_fault (length old) (total_of old) (cond b (Err (faults.Limit quantities.Path (length path)) ∷ []) (Err (faults.Limit quantities.Levels 65) ∷ []) ++ []) ≡ None → ⊥
    by true e = cc
    by false e = cc

pub judged_wrong : (format : Format) (left : ℕ) (store : Texts) (before : List ℕ) (row : SizedRow) (old new : List FileText) (bytes : ℕ) (e : GatherError) → Gathers old new (row_below format left store before row) → bytes ≡ total_of new - total_of old
    → size_fault format row bytes ≡ Err e ∷ [] → StopsAt old (row_met format left store before row) e
unfolding row_met row_below
judged_wrong format zero store before row old new bytes e g is wrong = absurd (not_gathered (before ++ row.label) old new g)
judged_wrong format (suc left) store before row old new bytes e g is wrong =
    let met = row_below format (suc left) store before row in
    let sum : bytes_met met ≡ bytes = omega (arith, g.bytes, is) in
    let fault : size_fault format row (bytes_met met) ≡ Err e ∷ [] = ap (size_fault format row) sum ∙ wrong in
    subst (λ (m : List Met). StopsAt old (met ++ m) e) (sym fault)
    (inr (λ more. ap (first_fault (length old) (total_of old)) (append_assoc met (Err e ∷ []) more) ∙ g.goes_on (Err e ∷ more)))

pub judged_stop : (format : Format) (left : ℕ) (store : Texts) (before : List ℕ) (row : SizedRow) (old : List FileText) (e : GatherError) → StopsAt old (row_below format left store before row) e → StopsAt old (row_met format left store before row) e
unfolding row_met
judged_stop format zero store before row old e stop = stop
judged_stop format (suc left) store before row old e stop = StopsAt-here old (row_below format (suc left) store before row) (size_fault format row (bytes_met (row_below format (suc left) store before row))) e stop

-- what is judged of a row that was gathered
pub judged_result : (format : Format) (left : ℕ) (store : Texts) (before : List ℕ) (row : SizedRow) (old new : List FileText) (bytes : ℕ) (result : Result Unit GatherError) → Gathers old new (row_below format left store before row) → bytes ≡ total_of new - total_of old
    → SaysSize format row bytes result → OnOk result (Gathers old new (row_met format left store before row)) × IfErr result (StopsAt old (row_met format left store before row))
judged_result format left store before row old new bytes (Ok u) g is says = (judged_fine format left store before row old new bytes g is says, tt)
judged_result format left store before row old new bytes (Err e) g is says = (tt, judged_wrong format left store before row old new bytes e g is says)
