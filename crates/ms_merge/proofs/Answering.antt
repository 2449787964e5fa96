-- Each merge has an answer: the files, or the first limit that they pass.
use Rattle.std.proofs.Common.{◌≡◌, ◌≢◌, ℕ, zero, suc, ◌+◌, ◌<◌, ◌≤◌, Bool, true, false, cond, nat_lt, List, [], ◌∷◌, length, take, take_all, find, All, Option, Some, None, Result, Ok, Err, refl, ap, subst, inl, inr, ◌⊎◌, arith}
use Rattle.std.proofs.lemmas.Bool.{cases_lt}
use Rattle.std.proofs.lemmas.Bool.Decides.{nat_tests}
use Rattle.std.proofs.lemmas.List.Elements.{All-nil, All-cons}
use Rattle.ms_base.specs.declared.names.Quantity.{Quantity}
use Rattle.ms_base.specs.declared.names.Quantity.TheVariants as quantities
use Rattle.ms_record.specs.declared.refusal.Refusal.{Refusal}
use Rattle.ms_record.specs.declared.refusal.Refusal.TheVariants as refusals
use Rattle.ms_tree.specs.Paths.{parts_of, long_part}
use Rattle.ms_tree.specs.Files.{FileList, total_of}
use Rattle.ms_tree.specs.Merging.{MayMerge, IsMerge, names_of, IsFirstPast, IsFirstLong, PassesLimit, Merges}
use Rattle.ms_merge.proofs.TreeLaws.{TreeLaws}
use Rattle.ms_merge.proofs.FreeNames.{first_of_all}
use Rattle.ms_merge.proofs.Existing.{has_merge}

above : (a b : ℕ) → nat_lt a b ≡ true → a < b
above a b e = grind (arith, nat_tests)

within : (a b : ℕ) → nat_lt a b ≡ false → b ≤ a
within a b e = grind (arith, nat_tests)

-- ---- the bytes of all files

-- as long as no sum passes the limit
small_front : (files : FileList) (place : ℕ) → ((k : ℕ) → k < place → nat_lt 1073741824 (total_of (take (k + 1) files)) ≡ false) → total_of (take place files) ≤ 1073741824
small_front files zero none = omega arith
small_front files (suc k) none =
    let next : k + 1 ≡ suc k = omega arith in
    subst (λ (n : ℕ). total_of (take n files) ≤ 1073741824) next (within 1073741824 (total_of (take (k + 1) files)) (none k (omega arith)))

first_past : (files : FileList) → 1073741824 < total_of files → (sum : ℕ) × IsFirstPast files sum
first_past files past =
    elim (first_of_all (λ k. nat_lt 1073741824 (total_of (take (k + 1) files))) (length files)) [
      | inl f ↦ (
        total_of (take (f.number + 1) files),
        record { place = f.number; there = f.below; before = small_front files f.number f.before; is = refl; past = above 1073741824 (total_of (take (f.number + 1) files)) f.passes },
      )
      | inr none ↦ absurd (omega (arith, small_front files (length files) none, ap total_of (take_all (length files) files (omega arith))))
    ]

-- ---- the names

none_long : (measure : List ℕ → ℕ) (most : ℕ) (names : List (List ℕ)) → find (λ name. nat_lt most (measure name)) names ≡ None → All (λ name. measure name ≤ most) names
none_long measure most [] h = All-nil (λ name. measure name ≤ most)
none_long measure most (name ∷ names) h = by (nat_lt most (measure name)) refl h (none_long measure most names)
  where
    by : (b : Bool) → nat_lt most (measure name) ≡ b → cond b (Some name) (find (λ name. nat_lt most (measure name)) names) ≡ None
        → (find (λ name. nat_lt most (measure name)) names ≡ None → All (λ name. measure name ≤ most) names) → All (λ name. measure name ≤ most) (name ∷ names)
    by true e h rest = absurd (let q : Some name ≡ None = h in cc)
    by false e h rest = All-cons (λ name. measure name ≤ most) name names (within most (measure name) e) (rest h)

first_long : (measure : List ℕ → ℕ) (most : ℕ) (names : List (List ℕ)) → ((value : ℕ) × IsFirstLong measure most names value) ⊎ All (λ name. measure name ≤ most) names
first_long measure most names = by (find (λ name. nat_lt most (measure name)) names) refl
  where
    by : (o : Option (List ℕ)) → find (λ name. nat_lt most (measure name)) names ≡ o → ((value : ℕ) × IsFirstLong measure most names value) ⊎ All (λ name. measure name ≤ most) names
    by None e = inr (none_long measure most names e)
    by (Some name) e = inl (measure name, (name, e, refl))

-- ---- the answer

pub record HasAnswer (base ours theirs : FileList) (tag : List ℕ) : Type 0 where
  pub answer : Result FileList Refusal
  pub has_room : answer ≢ Err refusals.NoMemory
  pub is : Merges base ours theirs tag answer

refused : {base ours theirs : FileList} {tag : List ℕ} (files : FileList) (merge : IsMerge base ours theirs tag files) (what : Quantity) (value : ℕ) → PassesLimit files (names_of merge) what value → HasAnswer base ours theirs tag
refused files merge what value passed = record { answer = Err (refusals.Limit what value); has_room = λ e. cc; is = (files, merge, passed) }

pub has_answer : TreeLaws → {base ours theirs : FileList} {tag : List ℕ} → MayMerge base ours theirs tag → HasAnswer base ours theirs tag
has_answer laws {base} {ours} {theirs} {tag} may = answered (has_merge laws may).0 (has_merge laws may).1
  where
    answered : (files : FileList) → IsMerge base ours theirs tag files → HasAnswer base ours theirs tag
    answered files merge =
        elim (cases_lt 100000 (length files)) [
          | inl many ↦ refused files merge quantities.Files 100001 (many, refl)
          | inr few ↦ elim (cases_lt 1073741824 (total_of files)) [
            | inl past ↦ (let p = first_past files past in refused files merge quantities.Total p.0 (few, p.1))
            | inr small ↦ elim (first_long length 1024 (names_of merge)) [
              | inl long ↦ refused files merge quantities.Path long.0 (few, small, long.1)
              | inr short ↦ elim (first_long (λ name. long_part (parts_of name)) 200 (names_of merge)) [
                | inl long ↦ refused files merge quantities.Part long.0 (few, small, short, long.1)
                | inr parts ↦ record { answer = Ok files; has_room = λ e. cc; is = record { merge = merge; whole = laws.merges.whole base ours theirs tag files may merge (record { few = few; small = small; short = short; parts_short = parts }) } }
              ]
            ]
          ]
        ]
