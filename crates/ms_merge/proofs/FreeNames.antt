-- Free tagged names: fewer names are taken than are tried.
use Rattle.std.proofs.Common.{◌≡◌, ◌≢◌, ℕ, zero, suc, ◌+◌, ◌*◌, ◌^◌, ◌<◌, ◌≤◌, Bool, true, false, not, ◌||◌, List, [], ◌∷◌, ◌++◌, length, length-append, map, All, Contains, Some, None, IsSome, is_some, refl, sym, ◌∙◌, ap, subst, append-nil, inl, inr, ◌⊎◌, arith, lit<, below_more}
use Rattle.std.specs.Fmt.{decimal}
use Rattle.std.specs.List.{list_any, AllByRecursion, IsDistinct}
use Rattle.std.specs.Map.{keys_of}
use Rattle.std.specs.Str.{bytes_eq}
use Rattle.std.proofs.lemmas.Bool.{false≢true, false_from_ne_true}
use Rattle.std.proofs.lemmas.Cmp.{nat_list_eq_equiv}
use Rattle.std.proofs.lemmas.Fmt.{decimal_injective}
use Rattle.std.proofs.lemmas.List.{append_cancel_left, length-map}
use Rattle.std.proofs.lemmas.List.Elements.{All-head, All-tail, Contains-append_left, Contains-append_right}
use Rattle.std.proofs.lemmas.Map.Keys.{IsDistinct-cons}
use Rattle.std.proofs.lemmas.Map.Made.{is_some-lookup, length-le_from_is_member}
use Rattle.std.proofs.lemmas.Map.Views.{Contains-from_any, list_any-from_Contains}
use Rattle.std.proofs.lemmas.Slice.Eq.{bytes_eq-Decides}
use Rattle.ms_base.specs.Places.{in_here, in_later, in_cases, in_none, map_has, all_from}
use Rattle.ms_tree.specs.Paths.{is_directory_of}
use Rattle.ms_tree.specs.Files.{FileList, text_at, IsFiles}
use Rattle.ms_tree.specs.Merging.{Side, tagged, is_taken, is_free, IsTagged, MayMerge}
use Rattle.ms_merge.proofs.TreeLaws.{DirectoryLaw}

-- ---- what is taken begins a path

-- the beginnings of a path, itself among them
prefixes : List ℕ → List (List ℕ)
prefixes [] = [] ∷ []
prefixes (b ∷ path) = [] ∷ map (λ front. b ∷ front) (prefixes path)

length-prefixes : (path : List ℕ) → length (prefixes path) ≡ length path + 1
unfolding prefixes
length-prefixes [] = refl
length-prefixes (b ∷ path) = omega (arith, length-map (prefixes path) (λ front. b ∷ front), length-prefixes path)

has_prefix : (front rest : List ℕ) → Contains (prefixes (front ++ rest)) front
unfolding prefixes
has_prefix [] [] = in_here [] []
has_prefix [] (b ∷ rest) = in_here [] (map (λ front. b ∷ front) (prefixes rest))
has_prefix (b ∷ front) rest = in_later [] (map (λ f. b ∷ f) (prefixes (front ++ rest))) (b ∷ front) (map_has (λ f. b ∷ f) (prefixes (front ++ rest)) front (has_prefix front rest))

-- the beginnings of all paths
pub beginnings : List (List ℕ) → List (List ℕ)
beginnings [] = []
beginnings (path ∷ paths) = prefixes path ++ beginnings paths

begins : (paths : List (List ℕ)) (path front rest : List ℕ) → Contains paths path → path ≡ front ++ rest → Contains (beginnings paths) front
unfolding beginnings
begins [] path front rest h e = absurd (in_none path h)
begins (first ∷ paths) path front rest h e =
    elim (in_cases first paths path h) [
      | inl same ↦ Contains-append_left (prefixes first) (beginnings paths) front (subst (λ (p : List ℕ). Contains (prefixes p) front) (sym (same ∙ e)) (has_prefix front rest))
      | inr later ↦ Contains-append_right (prefixes first) (beginnings paths) front (begins paths path front rest later e)
    ]

length-beginnings : (paths : List (List ℕ)) → All (λ path. length path ≤ 1024) paths → length (beginnings paths) ≤ 1025 * length paths
unfolding beginnings
length-beginnings [] h = omega arith
length-beginnings (path ∷ paths) h =
    let short : length path ≤ 1024 = All-head (λ p. length p ≤ 1024) path paths h in
    let rest = length-beginnings paths (All-tail (λ p. length p ≤ 1024) path paths h) in
    omega (arith, length-append (prefixes path) (beginnings paths), length-prefixes path)

-- a path at which a text stands is in the list
pub key_at : (files : FileList) (path : List ℕ) → IsSome (text_at files path) → Contains (keys_of files) path
key_at files path here = Contains-from_any (λ x y e. (bytes_eq-Decides x y).0 e) path (keys_of files) (sym (is_some-lookup (bytes_eq path) files) ∙ here)

some_text : (o : Side) → IsSome o → (text : List ℕ) × (o ≡ Some text)
some_text None h = absurd (false≢true h)
some_text (Some text) h = (text, refl)

short_paths : (files : FileList) → IsFiles files → All (λ path. length path ≤ 1024) (keys_of files)
short_paths files whole = all_from (λ path. length path ≤ 1024) (keys_of files) (λ path has.
    let here = some_text (text_at files path) (is_some-lookup (bytes_eq path) files ∙ list_any-from_Contains nat_list_eq_equiv path (keys_of files) has) in
    (whole.each path here.0 here.1).path_short)

either : (a b : Bool) → (a || b) ≡ true → (a ≡ true) ⊎ (b ≡ true)
either true b h = inl refl
either false b h = inr h

-- a file whose path passes
passing : (test : List ℕ → Bool) (files : FileList) → list_any (λ f. test f.0) files ≡ true → (path : List ℕ) × Contains (keys_of files) path × (test path ≡ true)
passing test [] h = absurd (false≢true h)
passing test (f ∷ files) h = by (test f.0) refl h (passing test files)
  where
    by : (b : Bool) → test f.0 ≡ b → (b || list_any (λ f. test f.0) files) ≡ true → (list_any (λ f. test f.0) files ≡ true → (path : List ℕ) × Contains (keys_of files) path × (test path ≡ true))
        → (path : List ℕ) × Contains (f.0 ∷ keys_of files) path × (test path ≡ true)
    by true e h rest = (f.0, in_here f.0 (keys_of files), e)
    by false e h rest = let r = rest h in (r.0, in_later f.0 (keys_of files) r.0 r.1, r.2)

taken_begins : DirectoryLaw → (files : FileList) (name : List ℕ) → is_taken files name ≡ true → Contains (beginnings (keys_of files)) name
taken_begins law files name h =
    elim (either (is_some (text_at files name)) (list_any (λ f. is_directory_of name f.0) files) h) [
      | inl path ↦ begins (keys_of files) name name [] (key_at files name path) (sym (append-nil name))
      | inr above ↦ (let q = passing (λ p. is_directory_of name p) files above in
          let d = (law name q.0).0 q.2 in
          begins (keys_of files) q.0 name (47 ∷ d.0) q.1 d.1)
    ]

-- ---- all names that are not free

abbrev pub obstacles : FileList → FileList → FileList → List (List ℕ) → List (List ℕ)
obstacles base ours theirs given = beginnings (keys_of base) ++ (beginnings (keys_of ours) ++ (beginnings (keys_of theirs) ++ given))

four_ways : (a b c d : Bool) → not (a || (b || (c || d))) ≡ false → (a ≡ true) ⊎ ((b ≡ true) ⊎ ((c ≡ true) ⊎ (d ≡ true)))
four_ways true b c d h = inl refl
four_ways false true c d h = inr (inl refl)
four_ways false false true d h = inr (inr (inl refl))
four_ways false false false true h = inr (inr (inr refl))
four_ways false false false false h = absurd (false≢true (sym h))

not_free : DirectoryLaw → (base ours theirs : FileList) (given : List (List ℕ)) (name : List ℕ) → is_free base ours theirs given name ≡ false → Contains (obstacles base ours theirs given) name
not_free law base ours theirs given name h =
    let one : List (List ℕ) = beginnings (keys_of base) in
    let two : List (List ℕ) = beginnings (keys_of ours) in
    let three : List (List ℕ) = beginnings (keys_of theirs) in
    elim (four_ways (is_taken base name) (is_taken ours name) (is_taken theirs name) (list_any (bytes_eq name) given) h) [
      | inl a ↦ Contains-append_left one (two ++ (three ++ given)) name (taken_begins law base name a)
      | inr rest ↦ Contains-append_right one (two ++ (three ++ given)) name (elim rest [
        | inl b ↦ Contains-append_left two (three ++ given) name (taken_begins law ours name b)
        | inr rest ↦ Contains-append_right two (three ++ given) name (elim rest [
          | inl c ↦ Contains-append_left three given name (taken_begins law theirs name c)
          | inr d ↦ Contains-append_right three given name (Contains-from_any (λ x y e. (bytes_eq-Decides x y).0 e) name given d)
        ])
      ])
    ]

few_obstacles : {base ours theirs : FileList} {tag : List ℕ} → MayMerge base ours theirs tag → (given : List (List ℕ)) → length (obstacles base ours theirs given) ≤ 307500000 + length given
few_obstacles {base} {ours} {theirs} may given =
    let one : List (List ℕ) = beginnings (keys_of base) in
    let two : List (List ℕ) = beginnings (keys_of ours) in
    let three : List (List ℕ) = beginnings (keys_of theirs) in
    let a : length one ≤ 1025 * length base = few base may.base_whole in
    let b : length two ≤ 1025 * length ours = few ours may.ours_whole in
    let c : length three ≤ 1025 * length theirs = few theirs may.theirs_whole in
    omega (arith, may.base_whole.count, may.ours_whole.count, may.theirs_whole.count, length-append one (two ++ (three ++ given)), length-append two (three ++ given), length-append three given)
  where
    few : (files : FileList) → IsFiles files → length (beginnings (keys_of files)) ≤ 1025 * length files
    few files whole = omega (arith, length-beginnings (keys_of files) (short_paths files whole), length-map files (λ (f : List ℕ × List ℕ). f.0))

-- ---- tagged names differ

differ : (tag path : List ℕ) (j k : ℕ) → j < k → k + 1 < 2 ^ 64 → tagged tag path k ≢ tagged tag path j
differ tag path j zero less small e = absurd (omega arith)
differ tag path zero (suc k) less small e =
    let last : List ℕ = 46 ∷ decimal (suc (suc k)) in
    let n : length ((path ++ 46 ∷ tag) ++ last) ≡ length (path ++ 46 ∷ tag) = ap length e in
    let some : 1 ≤ length last = omega arith in
    omega (arith, n, length-append (path ++ 46 ∷ tag) last)
differ tag path (suc j) (suc k) less small e =
    let numbers : 46 ∷ decimal (suc (suc k)) ≡ 46 ∷ decimal (suc (suc j)) = append_cancel_left (path ++ 46 ∷ tag) _ _ e in
    let digits : decimal (suc (suc k)) ≡ decimal (suc (suc j)) = append_cancel_left (46 ∷ []) _ _ numbers in
    let same : suc (suc k) ≡ suc (suc j) = decimal_injective (suc (suc k)) (suc (suc j)) (omega arith) (omega arith) digits in
    omega (arith, same)

-- the first names that are tried, the last of them first
candidates : List ℕ → List ℕ → ℕ → List (List ℕ)
candidates tag path zero = []
candidates tag path (suc n) = tagged tag path n ∷ candidates tag path n

length-candidates : (tag path : List ℕ) (n : ℕ) → length (candidates tag path n) ≡ n
unfolding candidates
length-candidates tag path zero = refl
length-candidates tag path (suc n) = ap suc (length-candidates tag path n)

not_among : (tag path : List ℕ) (n k : ℕ) → k ≤ n → n + 1 < 2 ^ 64 → AllByRecursion (λ name. bytes_eq (tagged tag path n) name ≡ false) (candidates tag path k)
unfolding candidates
not_among tag path n zero below small = tt
not_among tag path n (suc k) below small =
    (false_from_ne_true (bytes_eq (tagged tag path n) (tagged tag path k)) (λ e. differ tag path k n (omega arith) small ((bytes_eq-Decides (tagged tag path n) (tagged tag path k)).0 e)), not_among tag path n k (omega arith) small)

all_differ : (tag path : List ℕ) (n : ℕ) → n < 2 ^ 64 → IsDistinct bytes_eq (candidates tag path n)
unfolding candidates IsDistinct
all_differ tag path zero small = tt
all_differ tag path (suc n) small = IsDistinct-cons bytes_eq (tagged tag path n) (candidates tag path n) (not_among tag path n n (omega arith) (omega arith)) (all_differ tag path n (omega arith))

candidate_is : (tag path : List ℕ) (n : ℕ) (name : List ℕ) → Contains (candidates tag path n) name → (k : ℕ) × (k < n) × (tagged tag path k ≡ name)
unfolding candidates
candidate_is tag path zero name h = absurd (in_none name h)
candidate_is tag path (suc n) name h =
    elim (in_cases (tagged tag path n) (candidates tag path n) name h) [
      | inl same ↦ (n, omega arith, same)
      | inr later ↦ (let r = candidate_is tag path n name later in (r.0, omega (arith, r.1), r.2))
    ]

-- ---- the first that is free

-- the first number that passes the test, or none below the bound does
pub record First (test : ℕ → Bool) (bound : ℕ) : Type 0 where
  pub number : ℕ
  pub below : number < bound
  pub passes : test number ≡ true
  pub before : (k : ℕ) → k < number → test k ≡ false

pub first_of_all : (test : ℕ → Bool) (bound : ℕ) → First test bound ⊎ ((k : ℕ) → k < bound → test k ≡ false)
first_of_all test zero = inr (λ k less. absurd (omega arith))
first_of_all test (suc n) =
    elim (first_of_all test n) [
      | inl f ↦ inl (record { number = f.number; below = omega (arith, f.below); passes = f.passes; before = f.before })
      | inr none ↦ by (test n) refl none
    ]
  where
    by : (b : Bool) → test n ≡ b → ((k : ℕ) → k < n → test k ≡ false) → First test (suc n) ⊎ ((k : ℕ) → k < suc n → test k ≡ false)
    by true e none = inl (record { number = n; below = omega arith; passes = e; before = none })
    by false e none = inr (λ k less. below_more (λ k. test k ≡ false) n none e k (omega arith))

-- the names that are tried cannot all be taken
not_all_taken : DirectoryLaw → (base ours theirs : FileList) (tag : List ℕ) (given : List (List ℕ)) (path : List ℕ) (n : ℕ) → n < 2 ^ 64 → length (obstacles base ours theirs given) < n
    → ((k : ℕ) → k < n → is_free base ours theirs given (tagged tag path k) ≡ false) → ⊥
not_all_taken law base ours theirs tag given path n small many none =
    let less : length (candidates tag path n) ≤ length (obstacles base ours theirs given) =
    length-le_from_is_member nat_list_eq_equiv (candidates tag path n) (obstacles base ours theirs given) (all_differ tag path n small)
    (λ name has.
    let c = candidate_is tag path n name (Contains-from_any (λ x y e. (bytes_eq-Decides x y).0 e) name (candidates tag path n) has) in
    list_any-from_Contains nat_list_eq_equiv name (obstacles base ours theirs given)
    (subst (λ (p : List ℕ). Contains (obstacles base ours theirs given) p) c.2 (not_free law base ours theirs given (tagged tag path c.0) (none c.0 c.1)))) in
    omega (arith, length-candidates tag path n)

-- a free tagged name, and the number of tries below it
pub record HasFree (base ours theirs : FileList) (tag : List ℕ) (given : List (List ℕ)) (path : List ℕ) : Type 0 where
  pub name : List ℕ
  pub is : IsTagged base ours theirs tag given path name
  pub near : is.number < 4294967295

pub has_free : DirectoryLaw → {base ours theirs : FileList} {tag : List ℕ} → MayMerge base ours theirs tag → (given : List (List ℕ)) (path : List ℕ) → length given ≤ 2147483648 → HasFree base ours theirs tag given path
has_free law {base} {ours} {theirs} {tag} may given path few =
    let bound = few_obstacles may given in
    elim (first_of_all (λ k. is_free base ours theirs given (tagged tag path k)) 4294967295) [
      | inl f ↦ record { name = tagged tag path f.number; is = record { number = f.number; spelled = refl; free = f.passes; first = f.before }; near = f.below }
      | inr none ↦ absurd (not_all_taken law base ours theirs tag given path 4294967295 (lit< tt) (omega arith) none)
    ]

-- so the tries never end without a free name
pub all_tried : DirectoryLaw → {base ours theirs : FileList} {tag : List ℕ} → MayMerge base ours theirs tag → (given : List (List ℕ)) (path : List ℕ) (tried : ℕ) → length given ≤ 2147483648 → 4294967295 ≤ tried
    → ((k : ℕ) → k < tried → is_free base ours theirs given (tagged tag path k) ≡ false) → ⊥
all_tried law {base} {ours} {theirs} may given path tried few end none =
    let f = has_free law may given path few in
    false≢true (sym (none f.is.number (omega (arith, f.near))) ∙ ap (is_free base ours theirs given) (sym f.is.spelled) ∙ f.is.free)
