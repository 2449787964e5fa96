-- The paths below a directory: their parts, and that they may be files' paths.
use Rattle.std.proofs.Common.{◌≡◌, ℕ, zero, suc, ◌-◌, ◌<◌, ◌≤◌, ltb, false, List, [], ◌∷◌, ◌++◌, length, get_or, refl, sym, ap, subst, ◌∙◌, append_assoc, append-nil, eqb, arith}
use Rattle.std.specs.Prelude.{All, flat_map}
use Rattle.std.specs.Str.{IsUtf8}
use Rattle.std.proofs.lemmas.Bool.{ne_eqb, le-ltb}
use Rattle.std.proofs.lemmas.List.{get_or_default, length_push}
use Rattle.std.proofs.lemmas.List.Concat.{flat_map-append}
use Rattle.std.proofs.lemmas.List.Elements.{All-head, All-tail, All-push, All-weaker}
use Rattle.std.proofs.lemmas.List.Splits.{slice_split_none, slice_split_at}
use Rattle.std.proofs.lemmas.Str.{IsUtf8-append, IsUtf8-nil, IsUtf8-from_ascii}
use Rattle.ms_object.specs.Labels.{IsLabel}
use Rattle.ms_tree.specs.Paths.{parts_of, long_part, IsPart, IsPath}
use Rattle.ms_tree.specs.Gathering.{IsFront, IsFilePath}
use Rattle.ms_tree.proofs.PathLaws.{path_Decides}

-- a label with a slash
abbrev slashed : List ℕ → List ℕ
slashed label = label ++ 47 ∷ []

pub no_slash : (label : List ℕ) → IsLabel label → All (λ b. eqb b 47 ≡ false) label
no_slash label h k d lt = ne_eqb (get_or label k d) 47 (λ e. h.no_slash (k, lt, get_or_default label k 47 d lt ∙ e))

part_from_label : (label : List ℕ) → IsLabel label → IsPart label
part_from_label label h = record {
  filled = λ e. (let q : length label ≡ 0 = ap (λ (t : List ℕ). length t) e in omega (arith, q, h.some));
  not_here = h.not_here;
  not_above = h.not_above;
  no_nul = h.no_nul;
}

parts_of_labels : (labels : List (List ℕ)) (label : List ℕ) → All IsLabel labels → IsLabel label → parts_of (flat_map slashed labels ++ label) ≡ labels ++ label ∷ []
parts_of_labels [] label each h = slice_split_none (λ b. eqb b 47) label (no_slash label h)
parts_of_labels (first ∷ labels) label each h =
    let rest = flat_map slashed labels ++ label in
    let together : (slashed first ++ flat_map slashed labels) ++ label ≡ first ++ 47 ∷ rest =
    append_assoc (slashed first) (flat_map slashed labels) label ∙ append_assoc first (47 ∷ []) rest in
    ap parts_of together ∙ slice_split_at (λ b. eqb b 47) first 47 rest (no_slash first (All-head IsLabel first labels each)) refl
    ∙ ap (λ (parts : List (List ℕ)). first ∷ parts) (parts_of_labels labels label (All-tail IsLabel first labels each) h)

slash_utf8 : IsUtf8 (47 ∷ [])
slash_utf8 = IsUtf8-from_ascii (47 ∷ []) (λ i. small i)
  where
    small : (i : ℕ) → get_or (47 ∷ []) i 0 < 128
    small zero = omega arith
    small (suc i) = omega arith

labels_utf8 : (labels : List (List ℕ)) → All IsLabel labels → IsUtf8 (flat_map slashed labels)
labels_utf8 [] each = IsUtf8-nil
labels_utf8 (first ∷ labels) each =
    let h : IsLabel first = All-head IsLabel first labels each in
    IsUtf8-append (slashed first) (flat_map slashed labels) (IsUtf8-append first (47 ∷ []) h.text slash_utf8) (labels_utf8 labels (All-tail IsLabel first labels each))

none_long : (parts : List (List ℕ)) → All IsLabel parts → long_part parts ≤ 200
none_long [] each = omega arith
none_long (part ∷ parts) each =
    let h : IsLabel part = All-head IsLabel part parts each in
    let short : ltb 200 (length part) ≡ false = le-ltb 200 (length part) h.few in
    rw short (none_long parts (All-tail IsLabel part parts each))

-- the labels of a path below a directory
parts_below : (left : ℕ) (before label : List ℕ) (f : IsFront left before) → IsLabel label → parts_of (before ++ label) ≡ f.labels ++ label ∷ []
parts_below left before label f h = ap (λ (b : List ℕ). parts_of (b ++ label)) f.spelled ∙ parts_of_labels f.labels label f.each h

pub file_path : (left : ℕ) (before label : List ℕ) → IsFront left before → IsLabel label → 1 ≤ left → length (before ++ label) ≤ 1024 → IsFilePath (before ++ label)
file_path left before label f h some short =
    let parts = parts_below left before label f h in
    let each : All IsLabel (f.labels ++ label ∷ []) = All-push IsLabel f.labels label f.each h in
    let utf8 : IsUtf8 (before ++ label) = IsUtf8-append before label (subst IsUtf8 (sym f.spelled) (labels_utf8 f.labels f.each)) h.text in
    let is : IsPath (before ++ label) = record { utf8 = utf8; parts = subst (All IsPart) (sym parts) (All-weaker IsLabel IsPart part_from_label (f.labels ++ label ∷ []) each) } in
    record {
      path_is = (path_Decides (before ++ label)).1 is;
      short = short;
      parts_short = subst (λ (p : List (List ℕ)). long_part p ≤ 200) (sym parts) (none_long (f.labels ++ label ∷ []) each);
      levels = subst (λ (p : List (List ℕ)). length p ≤ 64) (sym parts) (omega (arith, length_push f.labels label, f.levels));
    }

-- below a row of a directory
pub front_below : (left : ℕ) (before label : List ℕ) → IsFront left before → IsLabel label → 1 ≤ left → IsFront (left - 1) ((before ++ label) ++ 47 ∷ [])
front_below left before label f h some = record {
  labels = f.labels ++ label ∷ [];
  spelled = append_assoc before label (47 ∷ []) ∙ ap (λ (b : List ℕ). b ++ slashed label) f.spelled
      ∙ ap (λ (t : List ℕ). flat_map slashed f.labels ++ t) (sym (append-nil (slashed label))) ∙ sym (flat_map-append slashed f.labels (label ∷ []));
  each = All-push IsLabel f.labels label f.each h;
  levels = omega (arith, length_push f.labels label, f.levels);
}
