-- Walks through two stores that have the same where a walk looks.
use Rattle.std.proofs.Common.{◌≡◌, ℕ, zero, suc, ◌-◌, min, List, [], ◌∷◌, ◌++◌, map, Contains, Option, Some, None, Result, Ok, Err, refl, sym, ap, subst, ◌∙◌}
use Rattle.std.specs.List.{flat_map}
use Rattle.ms_base.specs.declared.names.Name.{Name}
use Rattle.ms_object.specs.declared.fault.GatherError.{GatherError}
use Rattle.ms_object.specs.declared.format.Format.{Format}
use Rattle.ms_object.specs.declared.format.Format.TheVariants as formats
use Rattle.ms_object.specs.declared.object.Kind.{Kind}
use Rattle.ms_object.specs.declared.object.Kind.TheVariants as kinds
use Rattle.ms_object.specs.declared.object.Object.{Object}
use Rattle.ms_object.specs.declared.object.Object.TheVariants as objects
use Rattle.ms_object.specs.declared.object.Row.{Row}
use Rattle.ms_object.specs.declared.object.SizedRow.{SizedRow}
use Rattle.ms_object.specs.Objects.{blob_size, children_of, names_of, sized_names_of}
use Rattle.ms_object.specs.Reading.{object_at}
use Rattle.ms_object.specs.Trees.{Texts, Met, or_fault, text_or_fault, object_or_fault, object_named, blob_of, blobs_joined, file_in, file_of, file_named, some_of, rows_in, inner_rows_of, top_in, top_of, unsized, met_file, met_below, met_by_kind, if_short, with_size, walk_rows, walk}
use Rattle.ms_tree.specs.Composing.{AgreeOn, HasChildren}
use Rattle.ms_tree.proofs.Membership.{at_front, behind, map_has}

-- ---- what an object names

names_unsized : (rows : List Row) → sized_names_of (map unsized rows) ≡ names_of rows
names_unsized [] = refl
names_unsized (row ∷ rows) = ap (λ (l : List Name). row.name ∷ l) (names_unsized rows)

file_children : (format : Format) (o : Object) (file : ℕ × List Name) → file_in format o ≡ Some file → children_of o ≡ file.1
file_children formats.One (objects.File size blobs) file e = let one : ℕ × List Name = (size, blobs) in let q : one ≡ file = cc in ap (λ (f : ℕ × List Name). f.1) q
file_children formats.Two (objects.File2 size blobs) file e = let one : ℕ × List Name = (size, blobs) in let q : one ≡ file = cc in ap (λ (f : ℕ × List Name). f.1) q
file_children formats.One (objects.Blob text) file e = absurd cc
file_children formats.One (objects.Blob2 text) file e = absurd cc
file_children formats.One (objects.File2 size blobs) file e = absurd cc
file_children formats.One (objects.Dir rows) file e = absurd cc
file_children formats.One (objects.Dir2 rows) file e = absurd cc
file_children formats.One (objects.Version client number parents top) file e = absurd cc
file_children formats.One (objects.Version2 client number parents top) file e = absurd cc
file_children formats.Two (objects.Blob text) file e = absurd cc
file_children formats.Two (objects.Blob2 text) file e = absurd cc
file_children formats.Two (objects.File size blobs) file e = absurd cc
file_children formats.Two (objects.Dir rows) file e = absurd cc
file_children formats.Two (objects.Dir2 rows) file e = absurd cc
file_children formats.Two (objects.Version client number parents top) file e = absurd cc
file_children formats.Two (objects.Version2 client number parents top) file e = absurd cc

top_children : (o : Object) (top : Format × List SizedRow) → top_in o ≡ Some top → sized_names_of top.1 ≡ children_of o
top_children (objects.Dir rows) top e =
    let one : Format × List SizedRow = (formats.One, map unsized rows) in
    let q : one ≡ top = cc in
    ap (λ (t : Format × List SizedRow). sized_names_of t.1) (sym q) ∙ names_unsized rows
top_children (objects.Dir2 rows) top e = let one : Format × List SizedRow = (formats.Two, rows) in let q : one ≡ top = cc in ap (λ (t : Format × List SizedRow). sized_names_of t.1) (sym q)
top_children (objects.Blob text) top e = absurd cc
top_children (objects.Blob2 text) top e = absurd cc
top_children (objects.File size blobs) top e = absurd cc
top_children (objects.File2 size blobs) top e = absurd cc
top_children (objects.Version client number parents root) top e = absurd cc
top_children (objects.Version2 client number parents root) top e = absurd cc

rows_children : (format : Format) (o : Object) (rows : List SizedRow) → rows_in format o ≡ Some rows → sized_names_of rows ≡ children_of o
rows_children formats.One (objects.Dir plain) rows e = let q : map unsized plain ≡ rows = cc in ap sized_names_of (sym q) ∙ names_unsized plain
rows_children formats.Two (objects.Dir2 sized) rows e = let q : sized ≡ rows = cc in ap sized_names_of (sym q)
rows_children formats.One (objects.Blob text) rows e = absurd cc
rows_children formats.One (objects.Blob2 text) rows e = absurd cc
rows_children formats.One (objects.File size blobs) rows e = absurd cc
rows_children formats.One (objects.File2 size blobs) rows e = absurd cc
rows_children formats.One (objects.Dir2 sized) rows e = absurd cc
rows_children formats.One (objects.Version client number parents top) rows e = absurd cc
rows_children formats.One (objects.Version2 client number parents top) rows e = absurd cc
rows_children formats.Two (objects.Blob text) rows e = absurd cc
rows_children formats.Two (objects.Blob2 text) rows e = absurd cc
rows_children formats.Two (objects.File size blobs) rows e = absurd cc
rows_children formats.Two (objects.File2 size blobs) rows e = absurd cc
rows_children formats.Two (objects.Dir plain) rows e = absurd cc
rows_children formats.Two (objects.Version client number parents top) rows e = absurd cc
rows_children formats.Two (objects.Version2 client number parents top) rows e = absurd cc

-- ---- from here on the stores are fixed, and the names where they agree

flat_same : (f g : SizedRow → List Met) (rows : List SizedRow) → ((row : SizedRow) → Contains rows row → f row ≡ g row) → flat_map f rows ≡ flat_map g rows
flat_same f g [] each = refl
flat_same f g (row ∷ rows) each =
    ap (λ (l : List Met). l ++ flat_map f rows) (each row (at_front row rows row refl)) ∙ ap (λ (l : List Met). g row ++ l) (flat_same f g rows (λ r h. each r (behind row rows r h)))

module _ (one other : Texts) (names : List Name) (agree : AgreeOn one other names) (closed : HasChildren one names) where
  same_object : (name : Name) → Contains names name → object_named one name ≡ object_named other name
  unfolding object_named
  same_object name here = ap (λ (t : Option (List ℕ)). or_fault (text_or_fault name t) (λ text. object_or_fault name (object_at text))) (agree name here)

  same_blobs : (format : Format) (left : ℕ) (blobs : List Name) → ((blob : Name) → Contains blobs blob → Contains names blob) → blobs_joined format one left blobs ≡ blobs_joined format other left blobs
  unfolding blobs_joined
  same_blobs format left [] each = refl
  same_blobs format left (name ∷ blobs) each =
      ap (λ (o : Result Object GatherError). or_fault (or_fault o (blob_of format name (min (blob_size format) left))) (λ first. or_fault (blobs_joined format one (left - blob_size format) blobs) (λ others. Ok (first ++ others))))
      (same_object name (each name (at_front name blobs name refl)))
      ∙ ap (λ (r : Result (List ℕ) GatherError). or_fault (or_fault (object_named other name) (blob_of format name (min (blob_size format) left))) (λ first. or_fault r (λ others. Ok (first ++ others))))
      (same_blobs format (left - blob_size format) blobs (λ blob h. each blob (behind name blobs blob h)))

  same_file : (format : Format) (name : Name) → Contains names name → file_named format one name ≡ file_named format other name
  unfolding file_named
  same_file format name here =
      by (object_named one name) refl
      ∙ ap (λ (o : Result Object GatherError). or_fault (or_fault o (file_of format name)) (λ file. blobs_joined format other file.0 file.1)) (same_object name here)
    where
      on : (o : Object) → object_named one name ≡ Ok o → (f : Option (ℕ × List Name)) → file_in format o ≡ f
          → or_fault (object_or_fault name f) (λ file. blobs_joined format one file.0 file.1) ≡ or_fault (object_or_fault name f) (λ file. blobs_joined format other file.0 file.1)
      on o there None is = refl
      on o there (Some file) is =
          same_blobs format file.0 file.1 (λ blob h. closed name blob o here there (subst (λ (l : List Name). Contains l blob) (sym (file_children format o file is)) h))

      by : (r : Result Object GatherError) → object_named one name ≡ r
          → or_fault (or_fault r (file_of format name)) (λ file. blobs_joined format one file.0 file.1) ≡ or_fault (or_fault r (file_of format name)) (λ file. blobs_joined format other file.0 file.1)
      by (Err e) there = refl
      by (Ok o) there = on o there (file_in format o) refl

  abbrev AreAmong : List SizedRow → Type 0
  AreAmong rows = (row : SizedRow) → Contains rows row → Contains names row.name

  -- rows of an object of one of the names
  among : (name : Name) (o : Object) (rows : List SizedRow) → Contains names name → object_named one name ≡ Ok o → sized_names_of rows ≡ children_of o → AreAmong rows
  among name o rows here there is row h = closed name row.name o here there (subst (λ (l : List Name). Contains l row.name) is (map_has (λ (r : SizedRow). r.name) rows row h))

  same_inner : (format : Format) (name : Name) (f g : List SizedRow → List Met) → Contains names name → ((rows : List SizedRow) → AreAmong rows → f rows ≡ g rows)
      → met_below (or_fault (object_named one name) (inner_rows_of format name)) f ≡ met_below (or_fault (object_named other name) (inner_rows_of format name)) g
  same_inner format name f g here lower =
      by (object_named one name) refl ∙ ap (λ (o : Result Object GatherError). met_below (or_fault o (inner_rows_of format name)) g) (same_object name here)
    where
      on : (o : Object) → object_named one name ≡ Ok o → (r : Option (List SizedRow)) → rows_in format o ≡ r → met_below (object_or_fault name (some_of r)) f ≡ met_below (object_or_fault name (some_of r)) g
      on o there None is = refl
      on o there (Some []) is = refl
      on o there (Some (row ∷ rows)) is = lower (row ∷ rows) (among name o (row ∷ rows) here there (rows_children format o (row ∷ rows) is))

      by : (r : Result Object GatherError) → object_named one name ≡ r → met_below (or_fault r (inner_rows_of format name)) f ≡ met_below (or_fault r (inner_rows_of format name)) g
      by (Err e) there = refl
      by (Ok o) there = on o there (rows_in format o) refl

  same_kind : (format : Format) (f g : List ℕ → List SizedRow → List Met) (path : List ℕ) (name : Name) (kind : Kind) → Contains names name → ((before : List ℕ) (rows : List SizedRow) → AreAmong rows → f before rows ≡ g before rows)
      → met_by_kind format f one path name kind ≡ met_by_kind format g other path name kind
  same_kind format f g path name kinds.File here lower = ap (λ (b : Result (List ℕ) GatherError). met_file path b ∷ []) (same_file format name here)
  same_kind format f g path name kinds.Dir here lower = same_inner format name (f (path ++ 47 ∷ [])) (g (path ++ 47 ∷ [])) here (λ rows each. lower (path ++ 47 ∷ []) rows each)

  same_rows : (format : Format) (left : ℕ) (before : List ℕ) (rows : List SizedRow) → AreAmong rows → walk_rows format left one before rows ≡ walk_rows format left other before rows
  unfolding walk_rows
  same_rows format zero before rows each = refl
  same_rows format (suc left) before rows each =
      flat_same _ _ rows (λ row h. ap (λ (m : List Met). with_size format row (if_short (before ++ row.label) m))
      (same_kind format (walk_rows format left one) (walk_rows format left other) (before ++ row.label) row.name row.kind (each row h) (λ front inner among. same_rows format left front inner among)))

  pub one_walk : (root : Name) → Contains names root → walk one root ≡ walk other root
  unfolding walk
  one_walk root here =
      by (object_named one root) refl ∙ ap (λ (o : Result Object GatherError). met_below (or_fault o (top_of root)) (λ top. walk_rows top.0 64 other [] top.1)) (same_object root here)
    where
      on : (o : Object) → object_named one root ≡ Ok o → (t : Option (Format × List SizedRow)) → top_in o ≡ t
          → met_below (object_or_fault root t) (λ top. walk_rows top.0 64 one [] top.1) ≡ met_below (object_or_fault root t) (λ top. walk_rows top.0 64 other [] top.1)
      on o there None is = refl
      on o there (Some top) is = same_rows top.0 64 [] top.1 (among root o top.1 here there (top_children o top is))

      by : (r : Result Object GatherError) → object_named one root ≡ r
          → met_below (or_fault r (top_of root)) (λ top. walk_rows top.0 64 one [] top.1) ≡ met_below (or_fault r (top_of root)) (λ top. walk_rows top.0 64 other [] top.1)
      by (Err e) there = refl
      by (Ok o) there = on o there (top_in o) refl
