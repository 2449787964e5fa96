-- Files as a folder of their own.
use Rattle.std.proofs.Common.{◌≡◌, ℕ, cond, Bool, zero, suc, ◌+◌, ◌<◌, ◌≤◌, ◌==◌, true, false, List, [], ◌∷◌, ◌++◌, inl, inr, refl, sym, ap, ◌∙◌, subst, length, get_or, All, Contains, IsUtf8, Option, Some, map, None, slice_get, length-append, take_at, arith}
use Rattle.std.proofs.lemmas.List.{get_or_at}
use Rattle.std.proofs.lemmas.List.Elements.{All-contains, All-cons, All-nil}
use Rattle.std.proofs.lemmas.Str.{IsUtf8-take, IsUtf8-drop, IsCharBoundary-before_ascii, IsCharBoundary-after_ascii}
use Rattle.ms_base.specs.Places.{in_cases, all_from}
use Rattle.ms_object.specs.declared.format.Format.{Format}
use Rattle.ms_object.specs.Labels.{IsLabel}
use Rattle.ms_object.specs.Trees.{FileText}
use Rattle.ms_tree.specs.Files.{IsFile, IsFiles, text_at}
use Rattle.std.specs.Prelude.{find, nat_lt}
use Rattle.std.proofs.lemmas.Bool.{ltb-false}
use Rattle.ms_object.specs.Objects.{most_file}
use Rattle.ms_tree.specs.Planting.{first_large}
use Rattle.ms_tree.specs.Folders.{IsFolder, IsFileBelow}
use Rattle.ms_tree.specs.Paths.{IsPart, parts_of}
use Rattle.ms_tree.specs.Planting.{first_part}
use Rattle.ms_tree.proofs.Cutting.{IsClear, rest_of, path_cases, first_part_clear}
use Rattle.ms_tree.proofs.FileLaws.{text_at-place}
use Rattle.ms_tree.proofs.Inside.{drop_part, parts_of_cut, parts_of_whole}

slash_at : (part rest : List ℕ) → get_or (part ++ 47 ∷ rest) (length part) 0 < 128
slash_at part rest = let e : get_or (part ++ 47 ∷ rest) (length part) 0 ≡ 47 = get_or_at part 47 rest 0 (length part) refl in omega (arith, e)

slash_inside : (part rest : List ℕ) → length part < length (part ++ 47 ∷ rest)
slash_inside part rest = omega (arith, length-append part (47 ∷ rest))

-- what is behind a slash is text, where all is, and what is before it
text_behind : (part rest : List ℕ) → IsUtf8 (part ++ 47 ∷ rest) → IsUtf8 rest
text_behind part rest u =
    let whole = part ++ 47 ∷ rest in
    subst IsUtf8 (drop_part part rest) (IsUtf8-drop whole (length part + 1) u (IsCharBoundary-after_ascii whole (length part) u (slash_inside part rest) (slash_at part rest)))

text_before : (part rest : List ℕ) → IsUtf8 (part ++ 47 ∷ rest) → IsUtf8 part
text_before part rest u =
    let whole = part ++ 47 ∷ rest in
    subst IsUtf8 (take_at part (47 ∷ rest) (length part) refl) (IsUtf8-take whole (length part) u (IsCharBoundary-before_ascii whole (length part) (slash_inside part rest) (slash_at part rest)))

abbrev IsTextPart : List ℕ → Type 0
IsTextPart part = IsUtf8 part × IsClear part

one_text_part : (path : List ℕ) → first_part path ≡ path → IsUtf8 path → All IsTextPart (parts_of path)
one_text_part path whole u =
    let clear : IsClear path = subst IsClear whole (first_part_clear path) in
    subst (All IsTextPart) (sym (parts_of_whole path clear)) (All-cons IsTextPart path [] (u, clear) (All-nil IsTextPart))

-- each part of a text is text, without a slash
text_parts : (most : ℕ) (path : List ℕ) → length path ≤ most → IsUtf8 path → All IsTextPart (parts_of path)
text_parts zero path short u =
    elim (path_cases path) [
      | inl whole ↦ one_text_part path whole u
      | inr cut ↦ absurd (omega (arith, ap length cut, length-append (first_part path) (47 ∷ rest_of path), short))
    ]
text_parts (suc most) path short u =
    elim (path_cases path) [
      | inl whole ↦ one_text_part path whole u
      | inr cut ↦ (
          let part = first_part path in
          let rest = rest_of path in
          let clear = first_part_clear path in
          let text : IsUtf8 (part ++ 47 ∷ rest) = subst IsUtf8 cut u in
          let shorter : length rest ≤ most = omega (arith, ap length cut, length-append part (47 ∷ rest), short) in
          let parts : parts_of path ≡ part ∷ parts_of rest = ap parts_of cut ∙ parts_of_cut part rest clear in
          subst (All IsTextPart) (sym parts) (All-cons IsTextPart part (parts_of rest) (text_before part rest text, clear) (text_parts most rest shorter (text_behind part rest text))))
    ]

filled_some : (part : List ℕ) → (part ≡ [] → ⊥) → 1 ≤ length part
filled_some [] filled = absurd (filled refl)
filled_some (b ∷ part) filled = omega arith

-- the parts of a path that keep the limits are labels
label_from : (part : List ℕ) → IsUtf8 part → IsClear part → IsPart part → length part ≤ 200 → IsLabel part
label_from part text clear is short = record {
  text = text;
  some = filled_some part is.filled;
  few = short;
  not_here = is.not_here;
  not_above = is.not_above;
  no_slash = λ has. let e : true ≡ false = All-contains (λ b. (b == 47) ≡ false) part 47 clear has in cc;
  no_nul = is.no_nul;
}

pub file_below : (format : Format) (path text : List ℕ) → IsFile path text → length text ≤ most_file format → IsFileBelow format 64 (path, text)
file_below format path text is fit = record {
  labels = all_from IsLabel (parts_of path) (λ part has.
      let t = All-contains IsTextPart (parts_of path) part (text_parts (length path) path (omega arith) is.path_is.utf8) has in
      label_from part t.0 t.1 (All-contains IsPart (parts_of path) part is.path_is.parts has) (All-contains (λ p. length p ≤ 200) (parts_of path) part is.parts_short has));
  levels = is.levels;
  fits = fit;
}

place_of : (files : List FileText) (k : ℕ) (file : FileText) → k < length files → get_or files k file ≡ file → slice_get files k ≡ Some file
place_of [] k file below e = absurd (omega arith)
place_of (first ∷ files) zero file below e = ap (λ (f : FileText). let o : Option FileText = Some f in o) e
place_of (first ∷ files) (suc k) file below e = place_of files k file (omega arith) e

pub text_here : (files : List FileText) → IsFiles files → (file : FileText) → Contains files file → text_at files file.0 ≡ Some file.1
text_here files is file has = text_at-place files has.0 file.0 file.1 is.rising (place_of files has.0 file has.1 has.2)

-- no file is larger than what is looked for
none_larger : (most : ℕ) (files : List FileText) → find (nat_lt most) (map (λ file. length file.1) files) ≡ None → (file : FileText) → Contains files file → length file.1 ≤ most
none_larger most [] none file has = absurd (omega (arith, has.1))
none_larger most (first ∷ files) none file has = by (nat_lt most (length first.1)) refl (none_larger most files) none
  where
    by : (b : Bool) → nat_lt most (length first.1) ≡ b → (find (nat_lt most) (map (λ file. length file.1) files) ≡ None → (file : FileText) → Contains files file → length file.1 ≤ most)
        → cond b (Some (length first.1)) (find (nat_lt most) (map (λ file. length file.1) files)) ≡ None → length file.1 ≤ most
    by true e rest n = absurd (let q : Some (length first.1) ≡ None = n in cc)
    by false e rest n = elim (in_cases first files file has) [
      | inl same ↦ subst (λ (f : FileText). length f.1 ≤ most) same (ltb-false most (length first.1) e)
      | inr later ↦ rest n file later
    ]

pub whole_folder : (format : Format) (files : List FileText) → IsFiles files → first_large format files ≡ None → IsFolder format 64 files
whole_folder format files is none = record {
  rising = is.rising;
  apart = λ dir file hd hf d. is.apart dir.0 file.0 (rw (text_here files is dir hd) refl) (rw (text_here files is file hf) refl) d;
  each = all_from (IsFileBelow format 64) files (λ file has. file_below format file.0 file.1 (is.each file.0 file.1 (text_here files is file has)) (none_larger (most_file format) files none file has));
  few = is.count;
}
