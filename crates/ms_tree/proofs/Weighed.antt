-- A walk over sizes beside one over bytes.
use Rattle.std.proofs.Common.{◌≡◌, ℕ, zero, suc, ◌+◌, ◌==◌, Bool, true, false, cond, ltb, List, [], ◌∷◌, ◌++◌, length, map, Option, Some, None, Result, Ok, Err, refl, sym, ap, ◌∙◌, append_assoc}
use Rattle.std.specs.List.{flat_map}
use Rattle.std.proofs.lemmas.List.{map-append}
use Rattle.ms_base.specs.declared.names.Name.{Name}
use Rattle.ms_base.specs.declared.names.Quantity.TheVariants as quantities
use Rattle.ms_object.specs.declared.fault.GatherError.{GatherError}
use Rattle.ms_object.specs.declared.fault.GatherError.TheVariants as faults
use Rattle.ms_object.specs.declared.format.Format.{Format}
use Rattle.ms_object.specs.declared.object.Kind.{Kind}
use Rattle.ms_object.specs.declared.object.Kind.TheVariants as kinds
use Rattle.ms_object.specs.declared.object.SizedRow.{SizedRow}
use Rattle.ms_object.specs.Trees.{Texts, Met, or_fault, object_named, file_of, inner_rows_of, file_named, blobs_joined, met_file, met_below, met_by_kind, if_short, bytes_met, size_fault, with_size, walk_rows, first_fault}
use Rattle.ms_tree.specs.Looking.{HaveBytes}
use Rattle.ms_tree.specs.Sizes.{AreWhole, SizeMet, weigh, sum_met, with_sum, if_path_fits, file_size, sizes_below, sizes_by_kind, sizes_rows, first_excess}

sum_weighed : (met : List Met) → bytes_met met ≡ sum_met (map weigh met)
sum_weighed [] = refl
sum_weighed (Err e ∷ met) = sum_weighed met
sum_weighed (Ok file ∷ met) = ap (λ (n : ℕ). length file.1 + n) (sum_weighed met)

weighed_sized : (format : Format) (row : SizedRow) (met : List Met) (sizes : List SizeMet) → map weigh met ≡ sizes → map weigh (with_size format row met) ≡ with_sum format row sizes
weighed_sized format row met sizes e =
    map-append weigh met (size_fault format row (bytes_met met))
    ∙ ap (λ (n : ℕ). map weigh met ++ map weigh (size_fault format row n)) (sum_weighed met)
    ∙ ap (with_sum format row) e

weighed_short : (path : List ℕ) (met : List Met) (sizes : List SizeMet) → map weigh met ≡ sizes → map weigh (if_short path met) ≡ if_path_fits path sizes
weighed_short path met sizes e = by (ltb 1024 (length path))
  where
    by : (b : Bool) → map weigh (cond b (Err (faults.Limit quantities.Path (length path)) ∷ []) met) ≡ cond b (Err (faults.Limit quantities.Path (length path)) ∷ []) sizes
    by true = refl
    by false = e

weighed_flat : (f : SizedRow → List Met) (g : SizedRow → List SizeMet) (rows : List SizedRow) → ((row : SizedRow) → map weigh (f row) ≡ g row) → map weigh (flat_map f rows) ≡ flat_map g rows
weighed_flat f g [] each = refl
weighed_flat f g (row ∷ rows) each =
    map-append weigh (f row) (flat_map f rows) ∙ ap (λ (l : List SizeMet). l ++ map weigh (flat_map f rows)) (each row) ∙ ap (λ (l : List SizeMet). g row ++ l) (weighed_flat f g rows each)

weighed_file : (format : Format) (store : Texts) (path : List ℕ) (name : Name) → AreWhole format store → weigh (met_file path (file_named format store name)) ≡ file_size format store name
unfolding file_named
weighed_file format store path name whole = by (or_fault (object_named store name) (file_of format name)) refl
  where
    joined : (size : ℕ) (blobs : List Name) → HaveBytes format store size blobs → weigh (met_file path (blobs_joined format store size blobs)) ≡ Ok size
    joined size blobs h = ap (λ (r : Result (List ℕ) GatherError). weigh (met_file path r)) h.1 ∙ ap (λ (n : ℕ). Ok n) h.2

    by : (r : Result (ℕ × List Name) GatherError) → or_fault (object_named store name) (file_of format name) ≡ r
        → weigh (met_file path (or_fault r (λ file. blobs_joined format store file.0 file.1))) ≡ or_fault r (λ file. Ok file.0)
    by (Err e) there = refl
    by (Ok (size, blobs)) there = joined size blobs (whole name size blobs there)

weighed_below : (rows : Result (List SizedRow) GatherError) (f : List SizedRow → List Met) (g : List SizedRow → List SizeMet) → ((inner : List SizedRow) → map weigh (f inner) ≡ g inner) → map weigh (met_below rows f) ≡ sizes_below rows g
weighed_below (Err e) f g each = refl
weighed_below (Ok inner) f g each = each inner

weighed_kind : (format : Format) (f : List ℕ → List SizedRow → List Met) (g : List ℕ → List SizedRow → List SizeMet) (store : Texts) (path : List ℕ) (name : Name) (kind : Kind) → AreWhole format store
    → ((before : List ℕ) (rows : List SizedRow) → map weigh (f before rows) ≡ g before rows) → map weigh (met_by_kind format f store path name kind) ≡ sizes_by_kind format g store path name kind
weighed_kind format f g store path name kinds.File whole lower = ap (λ (m : SizeMet). m ∷ []) (weighed_file format store path name whole)
weighed_kind format f g store path name kinds.Dir whole lower =
    weighed_below (or_fault (object_named store name) (inner_rows_of format name)) (f (path ++ 47 ∷ [])) (g (path ++ 47 ∷ [])) (λ inner. lower (path ++ 47 ∷ []) inner)

pub weighed_rows : (format : Format) (left : ℕ) (store : Texts) (before : List ℕ) (rows : List SizedRow) → AreWhole format store → map weigh (walk_rows format left store before rows) ≡ sizes_rows format left store before rows
unfolding walk_rows sizes_rows
weighed_rows format zero store before rows whole =
    weighed_flat _ _ rows (λ row. weighed_short (before ++ row.label) (Err (faults.Limit quantities.Levels 65) ∷ []) (Err (faults.Limit quantities.Levels 65) ∷ []) refl)
weighed_rows format (suc left) store before rows whole =
    weighed_flat _ _ rows (λ row. weighed_sized format row _ _ (weighed_short (before ++ row.label) _ _
    (weighed_kind format (walk_rows format left store) (sizes_rows format left store) store (before ++ row.label) row.name row.kind whole (λ front inner. weighed_rows format left store front inner whole))))

pub judged_alike : (count total : ℕ) (met : List Met) → first_fault count total met ≡ first_excess count total (map weigh met)
judged_alike count total [] = refl
judged_alike count total (Err e ∷ met) = refl
judged_alike count total (Ok file ∷ met) =
    ap (λ (r : Option GatherError). cond (ltb 100000 (count + 1)) (Some (faults.Limit quantities.Files (count + 1))) (cond (ltb 1073741824 (total + length file.1)) (Some (faults.Limit quantities.Total (total + length file.1))) r))
    (judged_alike (count + 1) (total + length file.1) met)
