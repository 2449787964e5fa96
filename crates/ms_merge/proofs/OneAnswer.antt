-- A merge has one answer: the same names, and so the same limit first.
use Rattle.std.proofs.Common.{◌≡◌, ◌≢◌, ℕ, ◌+◌, ◌<◌, ◌≤◌, false, nat_lt, List, [], ◌∷◌, length, take, find, sum_by, All, Some, None, Result, Ok, Err, refl, sym, ◌∙◌, ap, subst, inl, inr, arith}
use Rattle.std.specs.Map.{values_of}
use Rattle.std.proofs.lemmas.Bool.{cases_lt, le-ltb}
use Rattle.std.proofs.lemmas.List.{take-map, take-take}
use Rattle.std.proofs.lemmas.List.Elements.{All-head, All-tail}
use Rattle.std.proofs.lemmas.List.Sums.{sum_by-take-le}
use Rattle.ms_base.specs.declared.names.Quantity.{Quantity}
use Rattle.ms_base.specs.declared.names.Quantity.TheVariants as quantities
use Rattle.ms_record.specs.declared.refusal.Refusal.{Refusal}
use Rattle.ms_record.specs.declared.refusal.Refusal.TheVariants as refusals
use Rattle.ms_tree.specs.Paths.{parts_of, long_part}
use Rattle.ms_tree.specs.Files.{FileList, total_of, IsFiles}
use Rattle.ms_tree.specs.Merging.{MayMerge, IsMerge, names_of, IsMerged, IsFirstPast, IsFirstLong, PassesLimit, Merges}
use Rattle.ms_tree.specs.MergeLaws.{MergeLaws}

-- ---- the limit

front_total : (place : ℕ) (files : FileList) → total_of (take place files) ≤ total_of files
front_total place files =
    let values : values_of (take place files) ≡ take place (values_of files) = sym (take-map (λ (f : List ℕ × List ℕ). f.1) place files) in
    omega (arith, ap (sum_by length) values, sum_by-take-le length (values_of files) place)

-- a front within the limit is no longer than one that is past it
too_early : (files : FileList) (one other : ℕ) (a : IsFirstPast files one) (b : IsFirstPast files other) → a.place < b.place → ⊥
too_early files one other a b less =
    let front : take (a.place + 1) (take b.place files) ≡ take (a.place + 1) files = take-take (a.place + 1) b.place files (omega arith) in
    omega (arith, a.is, a.past, b.before, ap total_of front, front_total (a.place + 1) (take b.place files))

one_past : (files : FileList) (one other : ℕ) → IsFirstPast files one → IsFirstPast files other → one ≡ other
one_past files one other a b =
    elim (cases_lt a.place b.place) [
      | inl less ↦ absurd (too_early files one other a b less)
      | inr back ↦ elim (cases_lt b.place a.place) [
        | inl less ↦ absurd (too_early files other one b a less)
        | inr fore ↦ (let same : a.place ≡ b.place = omega arith in a.is ∙ ap (λ (place : ℕ). total_of (take (place + 1) files)) same ∙ sym b.is)
      ]
    ]

within_all : (files : FileList) (sum : ℕ) → total_of files ≤ 1073741824 → IsFirstPast files sum → ⊥
within_all files sum small p = omega (arith, small, p.is, p.past, front_total (p.place + 1) files)

one_long : (measure : List ℕ → ℕ) (most : ℕ) (names : List (List ℕ)) (value other : ℕ) → IsFirstLong measure most names value → IsFirstLong measure most names other → value ≡ other
one_long measure most names value other a b =
    let found : Some a.0 ≡ Some b.0 = sym a.1 ∙ b.1 in
    let same : a.0 ≡ b.0 = cc in
    a.2 ∙ ap measure same ∙ sym b.2

none_found : (measure : List ℕ → ℕ) (most : ℕ) (names : List (List ℕ)) → All (λ name. measure name ≤ most) names → find (λ name. nat_lt most (measure name)) names ≡ None
none_found measure most [] short = refl
none_found measure most (name ∷ names) short =
    let off : nat_lt most (measure name) ≡ false = le-ltb _ _ (All-head (λ name. measure name ≤ most) name names short) in
    rw off (none_found measure most names (All-tail (λ name. measure name ≤ most) name names short))

none_long : (measure : List ℕ → ℕ) (most : ℕ) (names : List (List ℕ)) (value : ℕ) → All (λ name. measure name ≤ most) names → IsFirstLong measure most names value → ⊥
none_long measure most names value short long = let found : Some long.0 ≡ None = sym long.1 ∙ none_found measure most names short in cc

abbrev Same : Quantity → ℕ → Quantity → ℕ → Type 0
Same what value that other = refusals.Limit what value ≡ refusals.Limit that other

module _ (files : FileList) (names : List (List ℕ)) where
  one_files : (that : Quantity) (value other : ℕ) → PassesLimit files names quantities.Files value → PassesLimit files names that other → Same quantities.Files value that other
  one_files quantities.Files value other p q = ap (refusals.Limit quantities.Files) (p.1 ∙ sym q.1)
  one_files quantities.Total value other p q = absurd (omega (arith, p.0, q.0))
  one_files quantities.Path value other p q = absurd (omega (arith, p.0, q.0))
  one_files quantities.Part value other p q = absurd (omega (arith, p.0, q.0))
  one_files that value other p q = absurd q

  one_total : (that : Quantity) (value other : ℕ) → PassesLimit files names quantities.Total value → PassesLimit files names that other → Same quantities.Total value that other
  one_total quantities.Files value other p q = absurd (omega (arith, p.0, q.0))
  one_total quantities.Total value other p q = ap (refusals.Limit quantities.Total) (one_past files value other p.1 q.1)
  one_total quantities.Path value other p q = absurd (within_all files value q.1 p.1)
  one_total quantities.Part value other p q = absurd (within_all files value q.1 p.1)
  one_total that value other p q = absurd q

  one_path : (that : Quantity) (value other : ℕ) → PassesLimit files names quantities.Path value → PassesLimit files names that other → Same quantities.Path value that other
  one_path quantities.Files value other p q = absurd (omega (arith, p.0, q.0))
  one_path quantities.Total value other p q = absurd (within_all files other p.1 q.1)
  one_path quantities.Path value other p q = ap (refusals.Limit quantities.Path) (one_long length 1024 names value other p.2 q.2)
  one_path quantities.Part value other p q = absurd (none_long length 1024 names value q.2 p.2)
  one_path that value other p q = absurd q

  one_part : (that : Quantity) (value other : ℕ) → PassesLimit files names quantities.Part value → PassesLimit files names that other → Same quantities.Part value that other
  one_part quantities.Files value other p q = absurd (omega (arith, p.0, q.0))
  one_part quantities.Total value other p q = absurd (within_all files other p.1 q.1)
  one_part quantities.Path value other p q = absurd (none_long length 1024 names other p.2 q.2)
  one_part quantities.Part value other p q = ap (refusals.Limit quantities.Part) (one_long (λ name. long_part (parts_of name)) 200 names value other p.3 q.3)
  one_part that value other p q = absurd q

  one_limit : (what that : Quantity) (value other : ℕ) → PassesLimit files names what value → PassesLimit files names that other → Same what value that other
  one_limit quantities.Files that value other p q = one_files that value other p q
  one_limit quantities.Total that value other p q = one_total that value other p q
  one_limit quantities.Path that value other p q = one_path that value other p q
  one_limit quantities.Part that value other p q = one_part that value other p q
  one_limit what that value other p q = absurd p

-- ---- the answer

module _ (laws : MergeLaws) {base ours theirs : FileList} {tag : List ℕ} (may : MayMerge base ours theirs tag) where
  same_limit : (files others : FileList) (a : IsMerge base ours theirs tag files) (b : IsMerge base ours theirs tag others) (what that : Quantity) (value other : ℕ)
      → PassesLimit files (names_of a) what value → PassesLimit others (names_of b) that other → Same what value that other
  same_limit files others a b what that value other p q =
      let one : files ≡ others = laws.one base ours theirs tag files others a b in
      let names : names_of a ≡ names_of b = laws.names base ours theirs tag files others a b in
      one_limit files (names_of a) what that value other p
      (subst (λ (l : List (List ℕ)). PassesLimit files l that other) (sym names) (subst (λ (l : FileList). PassesLimit l (names_of b) that other) (sym one) q))

  not_both : (files others : FileList) (what : Quantity) (value : ℕ) → IsMerged base ours theirs tag files → (b : IsMerge base ours theirs tag others) → PassesLimit others (names_of b) what value → ⊥
  not_both files others what value a b passed =
      laws.exact base ours theirs tag others what value may b passed (subst (λ (l : FileList). IsFiles l) (laws.one base ours theirs tag files others a.merge b) a.whole)

  pub answers_same : (one other : Result FileList Refusal) → one ≢ Err refusals.NoMemory → other ≢ Err refusals.NoMemory → Merges base ours theirs tag one → Merges base ours theirs tag other → one ≡ other
  answers_same (Ok files) (Ok others) room more a b = ap (λ (l : FileList). Ok l) (laws.one base ours theirs tag files others a.merge b.merge)
  answers_same (Ok files) (Err (refusals.Limit what value)) room more a b = absurd (not_both files b.0 what value a b.1 b.2)
  answers_same (Ok files) (Err refusals.NoMemory) room more a b = absurd (more refl)
  answers_same (Ok files) (Err other) room more a b = absurd b
  answers_same (Err (refusals.Limit what value)) (Ok files) room more a b = absurd (not_both files a.0 what value b a.1 a.2)
  answers_same (Err (refusals.Limit what value)) (Err (refusals.Limit that other)) room more a b = ap (λ (r : Refusal). Err r) (same_limit a.0 b.0 a.1 b.1 what that value other a.2 b.2)
  answers_same (Err (refusals.Limit what value)) (Err refusals.NoMemory) room more a b = absurd (more refl)
  answers_same (Err (refusals.Limit what value)) (Err other) room more a b = absurd b
  answers_same (Err refusals.NoMemory) other room more a b = absurd (room refl)
  answers_same (Err one) other room more a b = absurd a
