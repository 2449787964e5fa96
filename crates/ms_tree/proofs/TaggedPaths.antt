-- Tagged names of paths: they are paths with the same directories.
use Rattle.std.proofs.Common.{◌≡◌, ◌≢◌, ℕ, zero, suc, ◌+◌, ◌<◌, ◌≤◌, Bool, true, false, cond, eqb, if◌then◌else◌, List, [], ◌∷◌, ◌++◌, length, length-append, All, refl, sym, ◌∙◌, ap, subst, append_assoc, inl, inr, arith, lit<, ltb, ◌/◌, ◌%◌}
use Rattle.std.specs.Fmt.{decimal, digits, digits_onto, digit_glyph}
use Rattle.std.specs.List.{onto_first}
use Rattle.std.proofs.lemmas.Bool.{false_from_ne_true}
use Rattle.std.proofs.lemmas.Bool.Decides.{Decides-eqb, nat_tests}
use Rattle.std.proofs.lemmas.List.Elements.{All-nil, All-cons, All-head, All-tail, All-append, All-contains, All-weaker, Contains-append_right, Contains-append_cases}
use Rattle.std.proofs.lemmas.List.Splits.{slice_split_none}
use Rattle.std.proofs.lemmas.Str.{IsUtf8-append, IsUtf8-from_ascii}
use Rattle.std.proofs.lemmas.Str.Ascii.{IsAscii-from_all}
use Rattle.ms_base.specs.Places.{in_here}
use Rattle.ms_tree.specs.Paths.{parts_of, IsPart, IsPath, IsDirectoryOf}
use Rattle.ms_tree.specs.Files.{IsFile}
use Rattle.ms_tree.specs.Merging.{tagged}
use Rattle.ms_text.specs.Labels.{IsClientLabel, is_label_byte}

-- ---- what is put behind a path

-- no slash and no NUL, and ASCII
pub record IsPlainByte (b : ℕ) : Type 0 where
  pub ascii : b < 128
  pub no_slash : b ≢ 47
  pub no_nul : b ≢ 0

abbrev pub IsPlain : List ℕ → Type 0
IsPlain text = All IsPlainByte text

letter_plain : (b : ℕ) → is_label_byte b ≡ true → IsPlainByte b
letter_plain b h = record { ascii = grind (arith, nat_tests); no_slash = grind (arith, nat_tests); no_nul = grind (arith, nat_tests) }

glyph_plain : (d : ℕ) → d < 10 → IsPlainByte (digit_glyph false d)
glyph_plain d small = by (ltb d 10) refl
  where
    by : (b : Bool) → ltb d 10 ≡ b → IsPlainByte (if b then 48 + d else 87 + d)
    by true e = record { ascii = omega arith; no_slash = omega arith; no_nul = omega arith }
    by false e = record { ascii = omega arith; no_slash = omega arith; no_nul = omega arith }

digits_plain : (k n : ℕ) (behind : List ℕ) → IsPlain behind → IsPlain (digits_onto k 10 false n behind)
digits_plain zero n behind h = h
digits_plain (suc k) n behind h =
    let glyphs : IsPlain (digit_glyph false (n % 10) ∷ behind) = All-cons IsPlainByte (digit_glyph false (n % 10)) behind (glyph_plain (n % 10) (omega arith)) h in
    by (eqb (n / 10) 0) _ _ glyphs (digits_plain k (n / 10) (digit_glyph false (n % 10) ∷ behind) glyphs)
  where
    by : (b : Bool) (one other : List ℕ) → IsPlain one → IsPlain other → IsPlain (if b then one else other)
    by true one other h k = h
    by false one other h k = k

decimal_plain : (n : ℕ) → IsPlain (decimal n)
unfolding digits
decimal_plain n = digits_plain 64 n [] (All-nil IsPlainByte)

-- what a tagged name has behind its path
pub ending : List ℕ → ℕ → List ℕ
ending tag zero = 46 ∷ tag
ending tag (suc k) = (46 ∷ tag) ++ 46 ∷ decimal (suc (suc k))

pub tagged_is : (tag path : List ℕ) (k : ℕ) → tagged tag path k ≡ path ++ ending tag k
unfolding ending
tagged_is tag path zero = refl
tagged_is tag path (suc k) = append_assoc path (46 ∷ tag) (46 ∷ decimal (suc (suc k)))

dot_plain : (rest : List ℕ) → IsPlain rest → IsPlain (46 ∷ rest)
dot_plain rest h = All-cons IsPlainByte 46 rest (record { ascii = lit< tt; no_slash = omega arith; no_nul = omega arith }) h

ending_plain : (tag : List ℕ) (k : ℕ) → IsClientLabel tag → IsPlain (ending tag k)
unfolding ending
ending_plain tag zero is = dot_plain tag (All-weaker (λ (b : ℕ). is_label_byte b ≡ true) IsPlainByte letter_plain tag is.bytes)
ending_plain tag (suc k) is =
    All-append IsPlainByte (46 ∷ tag) (46 ∷ decimal (suc (suc k))) (dot_plain tag (All-weaker (λ (b : ℕ). is_label_byte b ≡ true) IsPlainByte letter_plain tag is.bytes)) (dot_plain (decimal (suc (suc k))) (decimal_plain (suc (suc k))))

not_short : (part : List ℕ) → part ≢ [] → 1 ≤ length part
not_short [] h = absurd (h refl)
not_short (b ∷ part) h = omega arith

ending_long : (tag : List ℕ) (k : ℕ) → IsClientLabel tag → 2 ≤ length (ending tag k)
unfolding ending
ending_long tag zero is = omega (arith, is.some)
ending_long tag (suc k) is = omega (arith, is.some, length-append (46 ∷ tag) (46 ∷ decimal (suc (suc k))))

-- ---- the directories of a path with such an end

cut_end : (dir rest path end : List ℕ) → IsPlain end → path ++ end ≡ dir ++ 47 ∷ rest → IsDirectoryOf dir path
cut_end [] rest [] end plain e = absurd ((All-head IsPlainByte 47 rest (subst IsPlain e plain)).no_slash refl)
cut_end [] rest (x ∷ path) end plain e = let same : x ≡ 47 = cc in (path, ap (λ (b : ℕ). b ∷ path) same)
cut_end (y ∷ dir) rest [] end plain e =
    absurd ((All-contains IsPlainByte (y ∷ dir ++ 47 ∷ rest) 47 (subst IsPlain e plain) (Contains-append_right (y ∷ dir) (47 ∷ rest) 47 (in_here 47 rest))).no_slash refl)
cut_end (y ∷ dir) rest (x ∷ path) end plain e =
    let same : x ≡ y = cc in
    let d = cut_end dir rest path end plain (let q : path ++ end ≡ dir ++ 47 ∷ rest = cc in q) in
    (d.0, ap (λ (b : ℕ). b ∷ path) same ∙ ap (λ (l : List ℕ). y ∷ l) d.1)

pub directory_of_tagged : (tag path dir : List ℕ) (k : ℕ) → IsClientLabel tag → IsDirectoryOf dir (tagged tag path k) → IsDirectoryOf dir path
directory_of_tagged tag path dir k is d = cut_end dir d.0 path (ending tag k) (ending_plain tag k is) (sym (tagged_is tag path k) ∙ d.1)

-- ---- the parts of a path with such an end

-- the end stands behind the last part
extended : List ℕ → List (List ℕ) → List (List ℕ)
extended end [] = end ∷ []
extended end (part ∷ []) = (part ++ end) ∷ []
extended end (part ∷ next ∷ parts) = part ∷ extended end (next ∷ parts)

onto_extended : (x : ℕ) (end : List ℕ) (parts : List (List ℕ)) → onto_first x (extended end parts) ≡ extended end (onto_first x parts)
unfolding extended
onto_extended x end [] = refl
onto_extended x end (part ∷ []) = refl
onto_extended x end (part ∷ next ∷ parts) = refl

some_parts : (path : List ℕ) → 0 < length (parts_of path)
some_parts [] = omega arith
some_parts (x ∷ path) = by (eqb x 47) (parts_of path)
  where
    by : (b : Bool) (parts : List (List ℕ)) → 0 < length (cond b ([] ∷ parts) (onto_first x parts))
    by true parts = omega arith
    by false [] = omega arith
    by false (part ∷ parts) = omega arith

slash_extended : (end : List ℕ) (parts : List (List ℕ)) → 0 < length parts → [] ∷ extended end parts ≡ extended end ([] ∷ parts)
unfolding extended
slash_extended end [] some = absurd (omega arith)
slash_extended end (part ∷ parts) some = refl

no_slashes : (end : List ℕ) → IsPlain end → All (λ b. eqb b 47 ≡ false) end
no_slashes end plain = All-weaker IsPlainByte (λ b. eqb b 47 ≡ false) (λ b h. false_from_ne_true (eqb b 47) (λ e. h.no_slash ((Decides-eqb b 47).0 e))) end plain

parts_extended : (path end : List ℕ) → IsPlain end → parts_of (path ++ end) ≡ extended end (parts_of path)
unfolding extended
parts_extended [] end plain = slice_split_none (λ b. eqb b 47) end (no_slashes end plain)
parts_extended (x ∷ path) end plain = by (eqb x 47) (parts_extended path end plain)
  where
    by : (b : Bool) → parts_of (path ++ end) ≡ extended end (parts_of path)
        → cond b ([] ∷ parts_of (path ++ end)) (onto_first x (parts_of (path ++ end))) ≡ extended end (cond b ([] ∷ parts_of path) (onto_first x (parts_of path)))
    by true r = ap (λ (l : List (List ℕ)). [] ∷ l) r ∙ slash_extended end (parts_of path) (some_parts path)
    by false r = ap (onto_first x) r ∙ onto_extended x end (parts_of path)

length-extended : (end : List ℕ) (parts : List (List ℕ)) → 0 < length parts → length (extended end parts) ≡ length parts
unfolding extended
length-extended end [] some = absurd (omega arith)
length-extended end (part ∷ []) some = refl
length-extended end (part ∷ next ∷ parts) some = ap suc (length-extended end (next ∷ parts) (omega arith))

All-extended : (P : List ℕ → Type 0) (end : List ℕ) (parts : List (List ℕ)) → ((part : List ℕ) → P part → P (part ++ end)) → 0 < length parts → All P parts → All P (extended end parts)
unfolding extended
All-extended P end [] more some h = absurd (omega arith)
All-extended P end (part ∷ []) more some h = All-cons P (part ++ end) [] (more part (All-head P part [] h)) (All-nil P)
All-extended P end (part ∷ next ∷ parts) more some h =
    All-cons P part (extended end (next ∷ parts)) (All-head P part (next ∷ parts) h) (All-extended P end (next ∷ parts) more (omega arith) (All-tail P part (next ∷ parts) h))

filled_long : (part : List ℕ) → part ≢ [] → 1 ≤ length part
filled_long part h = not_short part h

part_with_end : (end : List ℕ) → IsPlain end → 2 ≤ length end → (part : List ℕ) → IsPart part → IsPart (part ++ end)
part_with_end end plain long part is =
    let some = filled_long part is.filled in
    record {
      filled = λ e. let n : length (part ++ end) ≡ 0 = ap length e in omega (arith, n, length-append part end);
      not_here = λ e. let n : length (part ++ end) ≡ 1 = ap length e in omega (arith, n, length-append part end);
      not_above = λ e. let n : length (part ++ end) ≡ 2 = ap length e in omega (arith, n, length-append part end);
      no_nul = λ h. elim (Contains-append_cases part end 0 h) [ inl there ↦ is.no_nul there | inr there ↦ (All-contains IsPlainByte end 0 plain there).no_nul refl ];
    }

-- ---- what files have at tagged names

-- a path and a text, whatever the path's length and that of its parts
pub record IsRow (path text : List ℕ) : Type 0 where
  pub path_is : IsPath path
  pub levels : length (parts_of path) ≤ 64
  pub text_short : length text ≤ 1073741824

pub row_of_file : (path text : List ℕ) → IsFile path text → IsRow path text
row_of_file path text is = record { path_is = is.path_is; levels = is.levels; text_short = is.text_short }

ended_row : (path end text : List ℕ) → IsPlain end → 2 ≤ length end → IsRow path text → IsRow (path ++ end) text
ended_row path end text plain long is =
    let parts = parts_extended path end plain in
    record {
      path_is = record {
        utf8 = IsUtf8-append path end is.path_is.utf8 (IsUtf8-from_ascii end (IsAscii-from_all end (All-weaker IsPlainByte (λ b. b < 128) (λ b h. h.ascii) end plain)));
        parts = subst (λ (l : List (List ℕ)). All IsPart l) (sym parts) (All-extended IsPart end (parts_of path) (part_with_end end plain long) (some_parts path) is.path_is.parts);
      };
      levels = let n : length (parts_of (path ++ end)) ≡ length (parts_of path) = ap length parts ∙ length-extended end (parts_of path) (some_parts path) in omega (arith, n, is.levels);
      text_short = is.text_short;
    }

pub tagged_row : (tag path text : List ℕ) (k : ℕ) → IsClientLabel tag → IsRow path text → IsRow (tagged tag path k) text
tagged_row tag path text k is row = subst (λ (p : List ℕ). IsRow p text) (sym (tagged_is tag path k)) (ended_row path (ending tag k) text (ending_plain tag k is) (ending_long tag k is) row)
