-- What is true of every merge: where each file comes from, and where each change stands.
use Rattle.std.proofs.Common.{◌≡◌, ◌≢◌, ℕ, ◌+◌, ◌≤◌, Bool, true, false, cond, not, ◌&&◌, List, [], ◌∷◌, ◌++◌, length, find, nat_lt, take, drop, sum_by, take-append-drop, All, Contains, Some, None, IsSome, is_some, if◌then◌else◌, refl, sym, ◌∙◌, ap, subst, inl, inr, ◌⊎◌, arith}
use Rattle.std.specs.Ordering.{nat_cmp}
use Rattle.std.specs.Cmp.Lexicographic.{slice_cmp, nat_list_cmp_total}
use Rattle.std.specs.Cmp.{eq_by_cmp_equiv}
use Rattle.std.specs.Option.{option_or}
use Rattle.std.specs.List.{list_any}
use Rattle.std.specs.List.Sorted.{IsStrictlySortedBy}
use Rattle.std.specs.Map.{keys_of, values_of}
use Rattle.std.specs.Str.{bytes_eq}
use Rattle.std.proofs.lemmas.Bool.{false≢true, false_from_ne_true, le-ltb}
use Rattle.std.proofs.lemmas.Cmp.{nat_list_eq_equiv}
use Rattle.std.proofs.lemmas.List.Elements.{All-contains, All-head, All-tail, Contains-append_left, Contains-append_right, Contains-append_cases}
use Rattle.std.proofs.lemmas.List.{map-append}
use Rattle.std.proofs.lemmas.List.Sums.{sum_by-append}
use Rattle.std.proofs.lemmas.Map.Entries.{lookup-filter-keys}
use Rattle.std.proofs.lemmas.Map.Keys.{IsDistinct-from_sorted}
use Rattle.std.proofs.lemmas.Map.Made.{is_some-lookup}
use Rattle.std.proofs.lemmas.Map.Views.{Contains-from_lookup, lookup-from_Contains, list_any-from_Contains}
use Rattle.std.proofs.lemmas.Slice.Eq.{bytes_eq-Decides}
use Rattle.ms_base.specs.Places.{in_here, in_later, all_from, map_has}
use Rattle.ms_base.specs.declared.names.Quantity.{Quantity}
use Rattle.ms_base.specs.declared.names.Quantity.TheVariants as quantities
use Rattle.ms_tree.specs.Paths.{parts_of, long_part, is_directory_of, IsDirectoryOf}
use Rattle.ms_tree.specs.Files.{FileList, text_at, total_of, IsFile, IsFiles}
use Rattle.ms_tree.specs.Merging.{Side, is_same, standing, is_conflict, tagged, conflicts, directories, MayMerge, IsMerge, names_of, IsFirstLong, KeepsLimits, PassesLimit, KeepsChanges}
use Rattle.ms_tree.proofs.PathLaws.{directory_Decides}
use Rattle.ms_tree.proofs.FileLaws.{none_at, lookup_by_order}
use Rattle.ms_tree.proofs.ClashLaws.{some_at}
use Rattle.ms_tree.proofs.KeptLaws.{all_short}
use Rattle.ms_tree.proofs.Members.{filter_from, filter_has}
use Rattle.ms_tree.proofs.OneTree.{rising_same}
use Rattle.ms_tree.proofs.TaggedPaths.{IsRow, row_of_file, tagged_row, directory_of_tagged}
use Rattle.ms_tree.proofs.MergeNames.{IsFresh, HasFile, has_file, has_name}

-- ---- sides

same_side : (one other : Side) → is_same one other ≡ true → one ≡ other
same_side None None h = refl
same_side (Some x) (Some y) h = ap (λ (t : List ℕ). Some t) ((bytes_eq-Decides x y).0 h)
same_side None (Some y) h = absurd (false≢true h)
same_side (Some x) None h = absurd (false≢true h)

itself : (one other : Side) → one ≡ other → is_same one other ≡ true
itself None None e = refl
itself (Some x) (Some y) e = (bytes_eq-Decides x y).1 (let q : x ≡ y = cc in q)
itself None (Some y) e = absurd cc
itself (Some x) None e = absurd cc

-- one or the other
or_cases : (one other : Side) (text : List ℕ) → option_or one other ≡ Some text → (one ≡ Some text) ⊎ ((one ≡ None) × (other ≡ Some text))
or_cases None other text h = inr (refl, h)
or_cases (Some x) other text h = inl h

-- what stands is what ours or theirs has
stands_from : (base ours theirs : Side) (text : List ℕ) → standing base ours theirs ≡ Some text → (ours ≡ Some text) ⊎ (theirs ≡ Some text)
stands_from base ours theirs text h = by (is_same ours theirs) (is_same ours base) (is_same theirs base) h
  where
    either_one : (one other : Side) → option_or one other ≡ Some text → (other ≡ Some text) ⊎ (one ≡ Some text)
    either_one one other h = elim (or_cases one other text h) [ inl e ↦ inr e | inr e ↦ inl e.1 ]

    by : (a b c : Bool) → (if a then ours else (if b then theirs else (if c then ours else option_or theirs ours))) ≡ Some text → (ours ≡ Some text) ⊎ (theirs ≡ Some text)
    by true b c h = inl h
    by false true c h = inr h
    by false false true h = inl h
    by false false false h = either_one theirs ours h

-- a change of theirs stands
theirs_stands : (base ours : Side) (text : List ℕ) → base ≢ Some text → standing base ours (Some text) ≡ Some text
theirs_stands base ours text change = by (is_same ours (Some text)) refl (is_same ours base) (is_same (Some text) base) refl
  where
    by : (a : Bool) → is_same ours (Some text) ≡ a → (b c : Bool) → is_same (Some text) base ≡ c → (if a then ours else (if b then Some text else (if c then ours else Some text))) ≡ Some text
    by true e b c g = same_side ours (Some text) e
    by false e true c g = refl
    by false e false true g = absurd (change (sym (same_side (Some text) base g)))
    by false e false false g = refl

-- a change of ours stands, or there is a conflict
ours_stands : (base theirs : Side) (text : List ℕ) → base ≢ Some text → (standing base (Some text) theirs ≡ Some text) ⊎ (is_conflict base (Some text) theirs ≡ true)
ours_stands base theirs text change = by theirs (is_same (Some text) theirs) refl (is_same (Some text) base) refl (is_same theirs base)
  where
    last : (theirs : Side) → (option_or theirs (Some text) ≡ Some text) ⊎ ((is_some theirs && true) ≡ true)
    last None = inl refl
    last (Some other) = inr refl

    by : (theirs : Side) (a : Bool) → is_same (Some text) theirs ≡ a → (b : Bool) → is_same (Some text) base ≡ b → (c : Bool)
        → ((if a then Some text else (if b then theirs else (if c then Some text else option_or theirs (Some text)))) ≡ Some text) ⊎ ((is_some theirs && (not a && (not b && not c))) ≡ true)
    by theirs true e b g c = inl refl
    by theirs false e true g c = absurd (change (sym (same_side (Some text) base g)))
    by theirs false e false g true = inl refl
    by theirs false e false g false = last theirs

-- ---- lists of files

exact : (x y : List ℕ) → bytes_eq x y ≡ true → x ≡ y
exact x y = (bytes_eq-Decides x y).0

-- a text that stands at a path is in the list
in_list : (files : FileList) (path text : List ℕ) → text_at files path ≡ Some text → Contains files (path, text)
in_list files path text h = Contains-from_lookup exact path text files h

-- and the other way where the paths rise
at_path : (files : FileList) (path text : List ℕ) → IsStrictlySortedBy (slice_cmp nat_cmp) (keys_of files) → Contains files (path, text) → text_at files path ≡ Some text
at_path files path text rising h =
    sym (lookup_by_order path files) ∙ lookup-from_Contains (eq_by_cmp_equiv nat_list_cmp_total) path text files (IsDistinct-from_sorted (slice_cmp nat_cmp) (keys_of files) rising) h

key_in : (files : FileList) (path text : List ℕ) → text_at files path ≡ Some text → Contains (keys_of files) path
key_in files path text h = map_has (λ (f : List ℕ × List ℕ). f.0) files (path, text) (in_list files path text h)

some_of : (o : Side) (text : List ℕ) → o ≡ Some text → IsSome o
some_of o text h = ap (λ (x : Side). is_some x) h

-- rising lists with the same texts are one
pub same_texts : (one other : FileList) → IsStrictlySortedBy (slice_cmp nat_cmp) (keys_of one) → IsStrictlySortedBy (slice_cmp nat_cmp) (keys_of other) → ((path : List ℕ) → text_at one path ≡ text_at other path) → one ≡ other
same_texts one other p q same =
    rising_same one other p q
    (λ f h. in_list other f.0 f.1 (sym (same f.0) ∙ at_path one f.0 f.1 p h))
    (λ f h. in_list one f.0 f.1 (same f.0 ∙ at_path other f.0 f.1 q h))

-- the path is a directory of a file
is_above : FileList → List ℕ → Bool
is_above files path = list_any (λ g. is_directory_of path g.0) files

above : (files : FileList) (dir path : List ℕ) → IsSome (text_at files path) → IsDirectoryOf dir path → is_above files dir ≡ true
unfolding is_above
above files dir path here d = by (is_above files dir) refl
  where
    by : (b : Bool) → is_above files dir ≡ b → b ≡ true
    by true e = refl
    by false e = absurd (false≢true (sym (none_at (λ p. is_directory_of dir p) files path e here) ∙ (directory_Decides dir path).1 d))

-- what stands there of the files at directories of others
at_directory : (files : FileList) (path : List ℕ) (b : Bool) → is_above files path ≡ b → text_at (directories files) path ≡ cond b (text_at files path) None
unfolding is_above
at_directory files path b e =
    lookup-filter-keys (bytes_eq path) (λ q. list_any (λ g. is_directory_of q g.0) files) b (λ k same. ap (λ (q : List ℕ). list_any (λ g. is_directory_of q g.0) files) (sym (exact path k same)) ∙ e) files

-- what was found is there and passes
find_from : (p : List ℕ → Bool) (names : List (List ℕ)) (name : List ℕ) → find p names ≡ Some name → Contains names name × (p name ≡ true)
find_from p [] name h = absurd cc
find_from p (n ∷ names) name h = by (p n) refl h (find_from p names name)
  where
    by : (b : Bool) → p n ≡ b → cond b (Some n) (find p names) ≡ Some name → (find p names ≡ Some name → Contains names name × (p name ≡ true)) → Contains (n ∷ names) name × (p name ≡ true)
    by true e h later = let same : n ≡ name = cc in (subst (λ (x : List ℕ). Contains (n ∷ names) x) same (in_here n names), ap p (sym same) ∙ e)
    by false e h later = let r = later h in (in_later n names name r.0, r.1)

short_parts : (parts : List (List ℕ)) → All (λ part. length part ≤ 200) parts → long_part parts ≤ 200
short_parts [] h = omega arith
short_parts (part ∷ parts) h =
    let here : length part ≤ 200 = All-head (λ part. length part ≤ 200) part parts h in
    let off : nat_lt 200 (length part) ≡ false = le-ltb _ _ here in
    let rest : long_part parts ≤ 200 = short_parts parts (All-tail (λ part. length part ≤ 200) part parts h) in
    rw off rest

-- the first files have no more bytes than all
front_total : (place : ℕ) (files : FileList) → total_of (take place files) ≤ total_of files
front_total place files =
    let whole : total_of (take place files ++ drop place files) ≡ total_of files = ap total_of (take-append-drop place files) in
    let values = ap (sum_by length) (map-append (λ (f : List ℕ × List ℕ). f.1) (take place files) (drop place files)) in
    let split = sum_by-append length (values_of (take place files)) (values_of (drop place files)) in
    omega (arith, whole, values, split)

-- ---- where the files of a merge come from

module _ {base ours theirs : FileList} {tag : List ℕ} (may : MayMerge base ours theirs tag) where
  -- a file of ours or theirs with this text, below whose directories the path lies
  record Source (path text : List ℕ) : Type 0 where
    origin : List ℕ
    side : (text_at ours origin ≡ Some text) ⊎ (text_at theirs origin ≡ Some text)
    below : (dir : List ℕ) → IsDirectoryOf dir path → IsDirectoryOf dir origin
    row : IsRow path text

  -- no name that is fresh is a directory of it
  not_over : (given : List (List ℕ)) (name path text : List ℕ) → IsFresh base ours theirs given name → Source path text → IsDirectoryOf name path → ⊥
  not_over given name path text f s d =
      elim s.side [
        | inl here ↦ f.of_ours.no_directory s.origin (some_of (text_at ours s.origin) text here) (s.below name d)
        | inr here ↦ f.of_theirs.no_directory s.origin (some_of (text_at theirs s.origin) text here) (s.below name d)
      ]

  at_itself : (path text : List ℕ) → (text_at ours path ≡ Some text) ⊎ (text_at theirs path ≡ Some text) → Source path text
  at_itself path text h = record {
    origin = path;
    side = h;
    below = λ dir d. d;
    row = elim h [ inl here ↦ row_of_file path text (may.ours_whole.each path text here) | inr here ↦ row_of_file path text (may.theirs_whole.each path text here) ];
  }

  at_tagged : (name path text : List ℕ) (k : ℕ) → name ≡ tagged tag path k → Source path text → Source name text
  at_tagged name path text k spelled s = record {
    origin = s.origin;
    side = s.side;
    below = λ dir d. s.below dir (directory_of_tagged tag path dir k may.is_tag (subst (λ (q : List ℕ). IsDirectoryOf dir q) spelled d));
    row = subst (λ (q : List ℕ). IsRow q text) (sym spelled) (tagged_row tag path text k may.is_tag s.row);
  }

  is_file : (path text : List ℕ) → (text_at ours path ≡ Some text) ⊎ (text_at theirs path ≡ Some text) → IsFile path text
  is_file path text h = elim h [ inl here ↦ may.ours_whole.each path text here | inr here ↦ may.theirs_whole.each path text here ]

  -- at the path of a fresh name nothing stands by the paths alone
  fresh_stands : (given : List (List ℕ)) (name : List ℕ) → IsFresh base ours theirs given name → standing (text_at base name) (text_at ours name) (text_at theirs name) ≡ None
  fresh_stands given name f = rw (f.of_base.no_path, f.of_ours.no_path, f.of_theirs.no_path) refl

  module _ {files : FileList} (m : IsMerge base ours theirs tag files) where
    settled_cases : (path text : List ℕ) → text_at m.settled path ≡ Some text → (text_at m.doubled path ≡ Some text) ⊎ ((text_at ours path ≡ Some text) ⊎ (text_at theirs path ≡ Some text))
    settled_cases path text h =
        elim (or_cases (text_at m.doubled path) (standing (text_at base path) (text_at ours path) (text_at theirs path)) text (sym (m.are_settled path) ∙ h)) [
          | inl named ↦ inl named
          | inr plain ↦ inr (stands_from (text_at base path) (text_at ours path) (text_at theirs path) text plain.1)
        ]

    doubled_source : (name text : List ℕ) → text_at m.doubled name ≡ Some text → Source name text
    doubled_source name text h =
        let f = has_file base ours theirs tag (conflicts base ours theirs) m.doubled [] m.are_doubled name text h in
        let there = (filter_from (λ (g : List ℕ × List ℕ). is_conflict (text_at base g.0) (Some g.1) (text_at theirs g.0)) ours (f.path, text) f.inside).0 in
        at_tagged name f.path text f.number f.spelled (at_itself f.path text (inl (at_path ours f.path text may.ours_whole.rising there)))

    settled_source : (path text : List ℕ) → text_at m.settled path ≡ Some text → Source path text
    settled_source path text h = elim (settled_cases path text h) [ inl named ↦ doubled_source path text named | inr plain ↦ at_itself path text plain ]

    moved_file : (name text : List ℕ) → text_at m.moved name ≡ Some text → HasFile base ours theirs tag (keys_of m.doubled) (directories m.settled) name text
    moved_file name text h = has_file base ours theirs tag (directories m.settled) m.moved (keys_of m.doubled) m.are_moved name text h

    moved_source : (name text : List ℕ) → text_at m.moved name ≡ Some text → Source name text
    moved_source name text h =
        let f = moved_file name text h in
        let there = (filter_from (λ (g : List ℕ × List ℕ). list_any (λ (o : List ℕ × List ℕ). is_directory_of g.0 o.0) m.settled) m.settled (f.path, text) f.inside).0 in
        at_tagged name f.path text f.number f.spelled (settled_source f.path text (at_path m.settled f.path text m.settled_rise there))

    -- a file was moved there, or settled there and is no directory
    record IsStill (path text : List ℕ) : Type 0 where
      stands : text_at m.settled path ≡ Some text
      no_directory : is_above m.settled path ≡ false

    still : (path text : List ℕ) → (if is_some (text_at (directories m.settled) path) then None else text_at m.settled path) ≡ Some text → IsStill path text
    still path text h = by (is_above m.settled path) refl
      where
        no_more : (o : Side) → (if is_some (cond true o None) then None else o) ≡ Some text → ⊥
        no_more None h = cc
        no_more (Some x) h = cc

        by : (b : Bool) → is_above m.settled path ≡ b → IsStill path text
        by true e = absurd (no_more (text_at m.settled path) (subst (λ (o : Side). (if is_some o then None else text_at m.settled path) ≡ Some text) (at_directory m.settled path true e) h))
        by false e = record { stands = subst (λ (o : Side). (if is_some o then None else text_at m.settled path) ≡ Some text) (at_directory m.settled path false e) h; no_directory = e }

    file_cases : (path text : List ℕ) → text_at files path ≡ Some text → (text_at m.moved path ≡ Some text) ⊎ IsStill path text
    file_cases path text h =
        elim (or_cases (text_at m.moved path) (if is_some (text_at (directories m.settled) path) then None else text_at m.settled path) text (sym (m.are_files path) ∙ h)) [
          | inl named ↦ inl named
          | inr rest ↦ inr (still path text rest.1)
        ]

    file_source : (path text : List ℕ) → text_at files path ≡ Some text → Source path text
    file_source path text h = elim (file_cases path text h) [ inl named ↦ moved_source path text named | inr here ↦ settled_source path text here.stands ]

    -- what the path lies below, it lay below when it was settled
    lay_below : (path text : List ℕ) → text_at files path ≡ Some text → (dir : List ℕ) → IsDirectoryOf dir path → (old : List ℕ) × IsSome (text_at m.settled old) × IsDirectoryOf dir old
    lay_below path text h dir d =
        elim (file_cases path text h) [
          | inl named ↦
              (let f = moved_file path text named in
              let there = (filter_from (λ (g : List ℕ × List ℕ). list_any (λ (o : List ℕ × List ℕ). is_directory_of g.0 o.0) m.settled) m.settled (f.path, text) f.inside).0 in
              (f.path, some_of (text_at m.settled f.path) text (at_path m.settled f.path text m.settled_rise there), directory_of_tagged tag f.path dir f.number may.is_tag (subst (λ (q : List ℕ). IsDirectoryOf dir q) f.spelled d)))
          | inr here ↦ (path, some_of (text_at m.settled path) text here.stands, d)
        ]

    some_text : (o : Side) → IsSome o → (text : List ℕ) × (o ≡ Some text)
    some_text None h = absurd (false≢true h)
    some_text (Some text) h = (text, refl)

    -- no path of the merge is a directory of another
    apart : (dir path : List ℕ) → IsSome (text_at files dir) → IsSome (text_at files path) → IsDirectoryOf dir path → ⊥
    apart dir path here there d =
        let a = some_text (text_at files dir) here in
        let b = some_text (text_at files path) there in
        elim (file_cases dir a.0 a.1) [
          | inl named ↦ (let f = moved_file dir a.0 named in not_over (keys_of m.doubled) dir path b.0 f.is_fresh (file_source path b.0 b.1) d)
          | inr stays ↦ (let old = lay_below path b.0 b.1 dir d in false≢true (sym stays.no_directory ∙ above m.settled dir old.0 old.1 old.2))
        ]

    -- a path of the merge is a name that was given, or that of a file of ours or theirs
    path_cases : (path text : List ℕ) → text_at files path ≡ Some text → Contains (names_of m) path ⊎ IsFile path text
    path_cases path text h =
        elim (file_cases path text h) [
          | inl named ↦ inl (Contains-append_right (keys_of m.doubled) (keys_of m.moved) path (key_in m.moved path text named))
          | inr here ↦ elim (settled_cases path text here.stands) [
            | inl named ↦ inl (Contains-append_left (keys_of m.doubled) (keys_of m.moved) path (key_in m.doubled path text named))
            | inr plain ↦ inr (is_file path text plain)
          ]
        ]

    pub merge_short : All (λ f. length f.1 ≤ 1073741824) files
    merge_short = all_from (λ f. length f.1 ≤ 1073741824) files (λ f h. (file_source f.0 f.1 (at_path files f.0 f.1 m.rise h)).row.text_short)

    each : KeepsLimits files (names_of m) → (path text : List ℕ) → text_at files path ≡ Some text → IsFile path text
    each fits path text h =
        elim (path_cases path text h) [
          | inl named ↦ (let row = (file_source path text h).row in record {
            path_is = row.path_is;
            path_short = All-contains (λ name. length name ≤ 1024) (names_of m) path fits.short named;
            parts_short = all_short (parts_of path) (All-contains (λ name. long_part (parts_of name) ≤ 200) (names_of m) path fits.parts_short named);
            levels = row.levels;
            text_short = row.text_short;
          })
          | inr plain ↦ plain
        ]

    -- the merge keeps all rules of files where it keeps the limits
    pub merge_whole : KeepsLimits files (names_of m) → IsFiles files
    merge_whole fits = record { rising = m.rise; each = each fits; apart = λ dir path here there d. apart dir path here there d; count = fits.few; total = fits.small }

    -- ---- where changes stand

    -- where a file of a side stands, no name was given
    not_moved : (path : List ℕ) → ((given : List (List ℕ)) → IsFresh base ours theirs given path → ⊥) → (text_at m.doubled path ≡ None) × (text_at m.moved path ≡ None)
    not_moved path old = (none (text_at m.doubled path) refl, none' (text_at m.moved path) refl)
      where
        none : (o : Side) → text_at m.doubled path ≡ o → o ≡ None
        none None e = refl
        none (Some text) e = absurd (old [] (has_file base ours theirs tag (conflicts base ours theirs) m.doubled [] m.are_doubled path text e).is_fresh)

        none' : (o : Side) → text_at m.moved path ≡ o → o ≡ None
        none' None e = refl
        none' (Some text) e = absurd (old (keys_of m.doubled) (moved_file path text e).is_fresh)

    -- a file that is settled and no directory stays
    stays : (path text : List ℕ) → text_at m.settled path ≡ Some text → is_above m.settled path ≡ false → text_at m.moved path ≡ None → text_at files path ≡ Some text
    stays path text here off none = m.are_files path ∙ rw (none, at_directory m.settled path false off) here

    -- a file that is settled stands in the merge, at its path or at a tagged name of it
    stands_on : (path text : List ℕ) → text_at m.settled path ≡ Some text → text_at m.moved path ≡ None → (text_at files path ≡ Some text) ⊎ ((k : ℕ) × (text_at files (tagged tag path k) ≡ Some text))
    unfolding is_above
    stands_on path text here none = by (is_above m.settled path) refl
      where
        by : (b : Bool) → is_above m.settled path ≡ b → (text_at files path ≡ Some text) ⊎ ((k : ℕ) × (text_at files (tagged tag path k) ≡ Some text))
        by false e = inl (stays path text here e none)
        by true e =
            let inside = filter_has (λ (g : List ℕ × List ℕ). list_any (λ (o : List ℕ × List ℕ). is_directory_of g.0 o.0) m.settled) m.settled (path, text) (in_list m.settled path text here) e in
            let n = has_name base ours theirs tag (directories m.settled) m.moved (keys_of m.doubled) m.are_moved path text inside in
            inr (n.number, subst (λ (q : List ℕ). text_at files q ≡ Some text) n.spelled (m.are_files n.name ∙ rw n.stands refl))

    -- at the path of a side's file the standing text is settled
    settles : (path text : List ℕ) → text_at m.doubled path ≡ None → standing (text_at base path) (text_at ours path) (text_at theirs path) ≡ Some text → text_at m.settled path ≡ Some text
    settles path text none stands = m.are_settled path ∙ rw none stands

    none_is_not_some : (o : Side) (text : List ℕ) → o ≡ None → o ≡ Some text → ⊥
    none_is_not_some o text e f = cc

    pub keeps_theirs : KeepsChanges base theirs tag files
    keeps_theirs path text here change =
        let none = not_moved path (λ given f. none_is_not_some (text_at theirs path) text f.of_theirs.no_path here) in
        stands_on path text (settles path text none.0 (rw here (theirs_stands (text_at base path) (text_at ours path) text change))) none.1

    some_above : (name : List ℕ) → is_above m.settled name ≡ true → (path : List ℕ) × IsSome (text_at m.settled path) × IsDirectoryOf name path
    unfolding is_above
    some_above name e = let q = some_at (λ p. is_directory_of name p) m.settled e in (q.0, q.1, (directory_Decides name q.0).0 q.2)

    given_is : (name : List ℕ) (given : List (List ℕ)) → Contains given name → list_any (bytes_eq name) given ≡ true
    given_is name given h = list_any-from_Contains nat_list_eq_equiv name given h

    no_directory : (name : List ℕ) → IsFresh base ours theirs [] name → is_above m.settled name ≡ false
    no_directory name f = false_from_ne_true (is_above m.settled name) (λ e. let q = some_above name e in let t = some_text (text_at m.settled q.0) q.1 in not_over [] name q.0 t.0 f (settled_source q.0 t.0 t.1) q.2)

    not_again : (name : List ℕ) → Contains (keys_of m.doubled) name → text_at m.moved name ≡ None
    not_again name given = by (text_at m.moved name) refl
      where
        by : (o : Side) → text_at m.moved name ≡ o → o ≡ None
        by None e = refl
        by (Some t) e = absurd (false≢true (sym (moved_file name t e).is_fresh.not_given ∙ given_is name (keys_of m.doubled) given))

    -- a name that ours was given stays
    name_stays : (name text : List ℕ) → text_at m.doubled name ≡ Some text → IsFresh base ours theirs [] name → text_at files name ≡ Some text
    name_stays name text here f = stays name text (m.are_settled name ∙ rw here refl) (no_directory name f) (not_again name (key_in m.doubled name text here))

    doubled_stays : (path text : List ℕ) → Contains (conflicts base ours theirs) (path, text) → (k : ℕ) × (text_at files (tagged tag path k) ≡ Some text)
    doubled_stays path text there =
        let n = has_name base ours theirs tag (conflicts base ours theirs) m.doubled [] m.are_doubled path text there in
        (n.number, subst (λ (q : List ℕ). text_at files q ≡ Some text) n.spelled (name_stays n.name text n.stands n.is_fresh))

    pub keeps_ours : KeepsChanges base ours tag files
    keeps_ours path text here change =
        let none = not_moved path (λ given f. none_is_not_some (text_at ours path) text f.of_ours.no_path here) in
        elim (ours_stands (text_at base path) (text_at theirs path) text change) [
          | inl stands ↦ stands_on path text (settles path text none.0 (rw here stands)) none.1
          | inr conflict ↦ inr (doubled_stays path text (filter_has (λ (g : List ℕ × List ℕ). is_conflict (text_at base g.0) (Some g.1) (text_at theirs g.0)) ours (path, text) (in_list ours path text here) conflict))
        ]

    -- ---- a merge that keeps all rules passes no limit

    text_of_key : (list : FileList) (name : List ℕ) → Contains (keys_of list) name → (text : List ℕ) × (text_at list name ≡ Some text)
    text_of_key list name h = some_text (text_at list name) (is_some-lookup (bytes_eq name) list ∙ given_is name (keys_of list) h)

    name_stands : (name : List ℕ) → Contains (names_of m) name → (text : List ℕ) × (text_at files name ≡ Some text)
    name_stands name h =
        elim (Contains-append_cases (keys_of m.doubled) (keys_of m.moved) name h) [
          | inl first ↦ (let t = text_of_key m.doubled name first in
              (t.0, name_stays name t.0 t.1 (has_file base ours theirs tag (conflicts base ours theirs) m.doubled [] m.are_doubled name t.0 t.1).is_fresh))
          | inr later ↦ (let t = text_of_key m.moved name later in (t.0, m.are_files name ∙ (let here : text_at m.moved name ≡ Some t.0 = t.1 in rw here refl)))
        ]

    -- no name is too long
    no_long : (measure : List ℕ → ℕ) (most : ℕ) (value : ℕ) → IsFiles files → ((path text : List ℕ) → IsFile path text → measure path ≤ most) → IsFirstLong measure most (names_of m) value → ⊥
    no_long measure most value whole short long =
        let f = find_from (λ name. nat_lt most (measure name)) (names_of m) long.0 long.1 in
        let t = name_stands long.0 f.0 in
        let fits : measure long.0 ≤ most = short long.0 t.0 (whole.each long.0 t.0 t.1) in
        false≢true (sym (le-ltb _ _ fits) ∙ f.1)

    pub merge_exact : IsFiles files → (what : Quantity) (value : ℕ) → PassesLimit files (names_of m) what value → ⊥
    merge_exact whole quantities.Files value passed = omega (arith, passed.0, whole.count)
    merge_exact whole quantities.Total value passed = omega (arith, passed.1.is, passed.1.past, whole.total, front_total (passed.1.place + 1) files)
    merge_exact whole quantities.Path value passed = no_long length 1024 value whole (λ path text f. f.path_short) passed.2
    merge_exact whole quantities.Part value passed = no_long (λ name. long_part (parts_of name)) 200 value whole (λ path text f. short_parts (parts_of path) f.parts_short) passed.3
    merge_exact whole other value passed = passed
