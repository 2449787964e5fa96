-- The bytes of files that are shown.
use Rattle.std.proofs.Common.{◌≡◌, ℕ, ◌+◌, ◌*◌, ◌<◌, ◌≤◌, List, [], ◌∷◌, ◌++◌, length, take, get_or, sum_by, refl, sym, ap, ◌∙◌, arith}
use Rattle.std.specs.Map.{values_of}
use Rattle.std.proofs.lemmas.List.{take_more, take_all}
use Rattle.std.proofs.lemmas.List.Sums.{sum_by-append, sum_by-cons}
use Rattle.ms_tree.specs.declared.files.FileRef.{FileRef}
use Rattle.ms_tree.specs.Files.{total_of}
use Rattle.ms_tree.specs.Folders.{AreSmall, shown_from}

abbrev pub bytes_in : FileRef → ℕ
bytes_in file = length file.text.now

shown_total : (skip : ℕ) (files : List FileRef) → total_of (shown_from skip files) ≡ sum_by bytes_in files
shown_total skip [] = refl
shown_total skip (file ∷ files) =
    omega (arith, sum_by-cons length file.text.now (values_of (shown_from skip files)), sum_by-cons bytes_in file files, shown_total skip files)

-- the files before a place
pub record IsSum (files : List FileRef) (i total : ℕ) : Type 0 where
  pub sum : total ≡ sum_by bytes_in (take i files)
  pub small : total ≤ i * 1073741824

pub sum_none : (files : List FileRef) → IsSum files 0 0
sum_none files = record { sum = refl; small = omega arith }

-- one more is no number above 64 bits
pub sum_within : (files : List FileRef) (i total : ℕ) (d : FileRef) → AreSmall files → IsSum files i total → i < length files → (total + length (get_or files i d).text.now ≤ (i + 1) * 1073741824) × (i + 1 ≤ 100000)
sum_within files i total d small so_far within =
    let one : length (get_or files i d).text.now ≤ 1073741824 = small.each i d within in
    (omega (arith, one, so_far.small), omega (arith, within, small.few))

pub sum_more : (files : List FileRef) (i total : ℕ) (d : FileRef) → AreSmall files → IsSum files i total → i < length files → IsSum files (i + 1) (total + length (get_or files i d).text.now)
sum_more files i total d small so_far within =
    let file = get_or files i d in
    let next : take (i + 1) files ≡ take i files ++ file ∷ [] = take_more files i d within in
    let whole : sum_by bytes_in (take (i + 1) files) ≡ sum_by bytes_in (take i files) + sum_by bytes_in (file ∷ []) = ap (sum_by bytes_in) next ∙ sum_by-append bytes_in (take i files) (file ∷ []) in
    let one : sum_by bytes_in (file ∷ []) ≡ length file.text.now = omega (arith, sum_by-cons bytes_in file []) in
    record {
      sum = omega (arith, whole, one, so_far.sum);
      small = omega (arith, (sum_within files i total d small so_far within).0);
    }

pub sum_all : (files : List FileRef) (i total skip : ℕ) → IsSum files i total → length files ≤ i → total ≡ total_of (shown_from skip files)
sum_all files i total skip so_far past = so_far.sum ∙ ap (sum_by bytes_in) (take_all i files past) ∙ sym (shown_total skip files)
