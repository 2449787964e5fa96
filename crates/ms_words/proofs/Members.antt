-- The lines of the members that are left.
use Rattle.std.proofs.Common.{◌≡◌, ℕ, ◌+◌, ◌<◌, List, ◌∷◌, ◌++◌, sym, ap, ◌∙◌, length, drop, get_or, append_assoc, add-one, drop-cons}
use Rattle.ms_record.specs.declared.entry.Entry.{Entry}
use Rattle.ms_words.specs.Texts.{member_line, member_lines, known_line, known_lines}

pub members_on : (entries : List Entry) (i : ℕ) (d : Entry) (out line all : List ℕ) → i < length entries → line ≡ member_line (i + 1) (get_or entries i d)
    → out ++ member_lines (i + 1) (drop i entries) ≡ all → (out ++ line) ++ member_lines (i + 1 + 1) (drop (i + 1) entries) ≡ all
members_on entries i d out line all within is e =
    rw (is, append_assoc out (member_line (i + 1) (get_or entries i d)) (member_lines (i + 1 + 1) (drop (i + 1) entries))) (
    let g : drop i entries ≡ get_or entries i d ∷ drop (i + 1) entries = rw add-one (drop-cons entries i d within) in
    let f : member_lines (i + 1) (drop i entries) ≡ member_line (i + 1) (get_or entries i d) ++ member_lines (i + 1 + 1) (drop (i + 1) entries) = ap (λ (es : List Entry). member_lines (i + 1) es) g in
    ap (λ (r : List ℕ). out ++ r) (sym f) ∙ e)

-- seven texts that were put at the end, one after another
pub seven_pushed : (out a b c d e f g x1 x2 x3 x4 x5 x6 x7 : List ℕ) → x1 ≡ out ++ a → x2 ≡ x1 ++ b → x3 ≡ x2 ++ c → x4 ≡ x3 ++ d → x5 ≡ x4 ++ e → x6 ≡ x5 ++ f → x7 ≡ x6 ++ g
    → x7 ≡ out ++ (a ++ b ++ c ++ d ++ e ++ f ++ g)
seven_pushed out a b c d e f g x1 x2 x3 x4 x5 x6 x7 p1 p2 p3 p4 p5 p6 p7 = rw (p7, p6, p5, p4, p3, p2, p1) (simp append_assoc)

pub known_on : (known : List ℕ) (i d : ℕ) (out line all : List ℕ) → i < length known → line ≡ known_line i (get_or known i d)
    → out ++ known_lines i (drop i known) ≡ all → (out ++ line) ++ known_lines (i + 1) (drop (i + 1) known) ≡ all
known_on known i d out line all within is e =
    rw (is, append_assoc out (known_line i (get_or known i d)) (known_lines (i + 1) (drop (i + 1) known))) (
    let g : drop i known ≡ get_or known i d ∷ drop (i + 1) known = rw add-one (drop-cons known i d within) in
    let f : known_lines i (drop i known) ≡ known_line i (get_or known i d) ++ known_lines (i + 1) (drop (i + 1) known) = ap (λ (ks : List ℕ). known_lines i ks) g in
    ap (λ (r : List ℕ). out ++ r) (sym f) ∙ e)
