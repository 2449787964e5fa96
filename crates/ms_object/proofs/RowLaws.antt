-- Rows that are read are spelled so, and what is spelled so is read again.
use Rattle.std.proofs.Common.{◌≡◌, ℕ, zero, suc, ◌^◌, ◌<◌, ◌≤◌, Bool, true, false, cond, List, [], ◌∷◌, ◌++◌, length, map, get_or, Option, Some, None, refl, sym, ap, subst, ◌∙◌, append_assoc, append-nil, arith, ◌⊎◌, inl, inr}
use Rattle.std.specs.Prelude.{◌==◌, All, flat_map}
use Rattle.std.specs.Int.{w64, to_be_bytes}
use Rattle.std.specs.List.{AllByRecursion}
use Rattle.std.specs.List.Sorted.{IsStrictlySortedBy}
use Rattle.std.specs.declared.cmp.Ordering.{Ordering}
use Rattle.std.specs.declared.cmp.Ordering.TheVariants.{Less, Equal, Greater}
use Rattle.std.specs.Ordering.{nat_cmp, is_lt}
use Rattle.std.specs.Cmp.Lexicographic.{slice_cmp}
use Rattle.std.proofs.lemmas.Bool.{eqb-true}
use Rattle.std.proofs.lemmas.Cmp.{nat_list_cmp_total}
use Rattle.std.proofs.lemmas.List.Concat.{flat_map-cons}
use Rattle.ms_base.specs.Places.{some_same}
use Rattle.ms_base.specs.Options.{◌>>=◌, bind_some, both}
use Rattle.ms_base.specs.declared.names.Name.{Name}
use Rattle.ms_object.specs.declared.object.Kind.{Kind}
use Rattle.ms_object.specs.declared.object.Kind.TheVariants as kinds
use Rattle.ms_object.specs.declared.object.Row.{Row}
use Rattle.ms_object.specs.declared.object.SizedRow.{SizedRow}
use Rattle.ms_base.specs.Fields.{IsBytes, Field, byte_at, bytes_at, number_at, name_at, many_at, at_end}
use Rattle.ms_base.specs.FieldLaws.{Takes, FieldsRead, FieldsSpelled, ended, Takes-then, Takes-all}
use Rattle.ms_object.specs.Labels.{IsLabel, IsBefore, is_label}
use Rattle.ms_object.specs.Objects.{front_text, kind_byte, row_text, sized_row_text}
use Rattle.ms_object.specs.Reading.{RowReader, given_if, kind_of, label_if, front_at, row_at, sized_row_at, rows_at}
use Rattle.ms_object.proofs.FieldLaws.{given_is, All-cons, All-rest, All-first}
use Rattle.ms_object.proofs.LabelLaws.{label_passes, label_keeps}

-- ---- the order of labels

is_less : (o : Ordering) → is_lt o ≡ true → o ≡ Less
is_less Less h = refl
is_less Equal h = absurd cc
is_less Greater h = absurd cc

abbrev pub Rise : List (List ℕ) → Type 0
Rise labels = IsStrictlySortedBy (slice_cmp nat_cmp) labels

abbrev AllBehind : List ℕ → List (List ℕ) → Type 0
AllBehind label labels = AllByRecursion (λ (next : List ℕ). slice_cmp nat_cmp label next ≡ Less) labels

all_behind : (before label : List ℕ) (labels : List (List ℕ)) → IsBefore before label → AllBehind label labels → AllBehind before labels
all_behind before label [] lt h = tt
all_behind before label (l ∷ ls) lt h = (nat_list_cmp_total.trans before label l lt h.0, all_behind before label ls lt h.1)

rise_behind : (before label : List ℕ) (labels : List (List ℕ)) → IsBefore before label → Rise (label ∷ labels) → Rise (before ∷ label ∷ labels)
unfolding IsStrictlySortedBy
rise_behind before label labels lt h = ((lt, all_behind before label labels lt h.0), h)

rise_alone : (before : List ℕ) → Rise (before ∷ [])
unfolding IsStrictlySortedBy
rise_alone before = (tt, tt)

first_behind : (before label : List ℕ) (labels : List (List ℕ)) → Rise (before ∷ label ∷ labels) → IsBefore before label
unfolding IsStrictlySortedBy
first_behind before label labels h = h.0.0

others_rise : (before : List ℕ) (labels : List (List ℕ)) → Rise (before ∷ labels) → Rise labels
unfolding IsStrictlySortedBy
others_rise before labels h = h.1

-- labels that are not empty come behind nothing
all_some : {R : Type 0} (label_of : R → List ℕ) (rows : List R) → All (λ (row : R). IsLabel (label_of row)) rows → AllBehind [] (map label_of rows)
all_some label_of [] h = tt
all_some {R} label_of (r ∷ rs) h =
    let label : IsLabel (label_of r) = All-first (λ (row : R). IsLabel (label_of row)) r rs h in
    (some_label (label_of r) label.some, all_some label_of rs (All-rest (λ (row : R). IsLabel (label_of row)) r rs h))
  where
    some_label : (label : List ℕ) → 1 ≤ length label → slice_cmp nat_cmp [] label ≡ Less
    some_label [] some = absurd (omega arith)
    some_label (b ∷ bs) some = refl

rise_from_nothing : {R : Type 0} (label_of : R → List ℕ) (rows : List R) → All (λ (row : R). IsLabel (label_of row)) rows → Rise (map label_of rows) → Rise ([] ∷ map label_of rows)
unfolding IsStrictlySortedBy
rise_from_nothing label_of rows labels h = (all_some label_of rows labels, h)

-- ---- one row

either_some : {A : Type 0} (a b : Bool) (x y z : A) → cond a (Some x) (cond b (Some y) None) ≡ Some z → ((a ≡ true) × (x ≡ z)) ⊎ ((b ≡ true) × (y ≡ z))
either_some true b x y z e = inl (refl, some_same x z e)
either_some false true x y z e = inr (refl, some_same y z e)
either_some false false x y z e = absurd cc

kind_is : (byte : ℕ) (kind : Kind) → kind_of byte ≡ Some kind → byte ≡ kind_byte kind
kind_is byte kind e =
    elim (either_some (byte == 102) (byte == 100) kinds.File kinds.Dir kind e) [
      | inl h ↦ eqb-true byte 102 h.0 ∙ ap kind_byte h.1
      | inr h ↦ eqb-true byte 100 h.0 ∙ ap kind_byte h.1
    ]

kind_again : (kind : Kind) → kind_of (kind_byte kind) ≡ Some kind
kind_again kinds.File = refl
kind_again kinds.Dir = refl

-- a row was taken from the front
pub record TakesRow {R : Type 0} (text_of label_of : R → List ℕ) (fits : R → Type 0) (before text : List ℕ) (x : R × (List ℕ × List ℕ)) : Type 0 where
  pub takes : Takes text (text_of x.0) x.1.1
  pub fit : fits x.0
  pub behind : IsBefore before (label_of x.0)
  pub last : x.1.0 ≡ label_of x.0

-- rows of one kind that are read are spelled so, and what is spelled so is read again
pub record IsRowGrammar {R : Type 0} (one : RowReader R) (text_of label_of : R → List ℕ) (fits : R → Type 0) : Type 0 where
  pub takes : (before text : List ℕ) (x : R × (List ℕ × List ℕ)) → IsBytes text → one (before, text) ≡ Some x → TakesRow text_of label_of fits before text x
  pub again : (before : List ℕ) (row : R) (rest : List ℕ) → fits row → IsBefore before (label_of row) → one (before, text_of row ++ rest) ≡ Some (row, (label_of row, rest))
  pub label : (row : R) → fits row → IsLabel (label_of row)

-- ---- the front of a row

record TakesFront (before text : List ℕ) (x : (Kind × List ℕ) × List ℕ) : Type 0 where
  takes : Takes text (front_text x.0.0 x.0.1) x.1
  label : IsLabel x.0.1
  behind : IsBefore before x.0.1

abbrev with_label : List ℕ → Kind → List ℕ × List ℕ → Field (Kind × List ℕ)
with_label before kind label = given_if (label_if before label.0) ((kind, label.0), label.1)

abbrev with_count : List ℕ → Kind → ℕ × List ℕ → Field (Kind × List ℕ)
with_count before kind count = bytes_at count.0 count.1 >>= with_label before kind

abbrev with_kind : List ℕ → List ℕ → Kind → Field (Kind × List ℕ)
with_kind before rest kind = byte_at rest >>= with_count before kind

abbrev pieces : ℕ → ℕ → List ℕ → List ℕ
pieces kind count label = kind ∷ count ∷ [] ++ label

front_takes : FieldsSpelled → (before text : List ℕ) (x : (Kind × List ℕ) × List ℕ) → IsBytes text → front_at before text ≡ Some x → TakesFront before text x
unfolding front_at
front_takes law before text x fits e =
    let b = bind_some (byte_at text) (λ byte. kind_of byte.0 >>= with_kind before byte.1) x e in
    let k = bind_some (kind_of b.0.0) (with_kind before b.0.1) x b.2 in
    let c = bind_some (byte_at b.0.1) (with_count before k.0) x k.2 in
    let l = bind_some (bytes_at c.0.0 c.0.1) (with_label before k.0) x c.2 in
    let made : (Kind × List ℕ) × List ℕ = ((k.0, l.0.0), l.0.1) in
    let g = given_is (label_if before l.0.0) made x l.2 in
    let tests = both (is_label l.0.0) (is_lt (slice_cmp nat_cmp before l.0.0)) g.0 in
    let t0 = law.byte text b.0 fits b.1 in
    let t1 = law.byte b.0.1 c.0 t0.bytes c.1 in
    let t2 = law.bytes c.0.0 c.0.1 l.0 t1.bytes l.1 in
    let e1 = Takes-then text (b.0.0 ∷ []) b.0.1 (c.0.0 ∷ []) c.0.1 t0 t1 in
    let e2 : Takes text (pieces b.0.0 c.0.0 l.0.0) l.0.1 = Takes-then text (b.0.0 ∷ c.0.0 ∷ []) c.0.1 l.0.0 l.0.1 e1 t2.0 in
    let kind : b.0.0 ≡ kind_byte k.0 = kind_is b.0.0 k.0 k.1 in
    let count : c.0.0 ≡ length l.0.0 = sym t2.1 in
    let spelled : pieces b.0.0 c.0.0 l.0.0 ≡ front_text k.0 l.0.0 = (λ i. pieces (kind i) (count i) l.0.0) in
    subst (TakesFront before text) g.1
    (record { takes = subst (λ (t : List ℕ). Takes text t l.0.1) spelled e2; label = label_passes l.0.0 tests.0; behind = is_less _ tests.1 })

front_again : FieldsRead → (before : List ℕ) (kind : Kind) (label rest : List ℕ) → IsLabel label → IsBefore before label → front_at before (front_text kind label ++ rest) ≡ Some ((kind, label), rest)
unfolding front_at
front_again law before kind label rest is behind =
    let test : label_if before label ≡ true = rw (label_keeps label is, behind) refl in
    rw (kind_again kind, law.bytes label rest, test) refl

-- ---- a row of format 1

pub record RowFits (row : Row) : Type 0 where
  pub label : IsLabel row.label
  pub name : length row.name.0 ≡ 32

abbrev named_row : Kind → List ℕ → Name × List ℕ → Option (Row × (List ℕ × List ℕ))
named_row kind label name = Some (record { kind = kind; label = label; name = name.0 }, (label, name.1))

row_takes : FieldsSpelled → (before text : List ℕ) (x : Row × (List ℕ × List ℕ)) → IsBytes text → row_at (before, text) ≡ Some x → TakesRow row_text (λ (row : Row). row.label) RowFits before text x
unfolding row_at
row_takes law before text x fits e =
    let f = bind_some (front_at before text) (λ front. name_at front.1 >>= named_row front.0.0 front.0.1) x e in
    let n = bind_some (name_at f.0.1) (named_row f.0.0.0 f.0.0.1) x f.2 in
    let front = front_takes law before text f.0 fits f.1 in
    let name = law.name f.0.1 n.0 front.takes.bytes n.1 in
    let made : Row × (List ℕ × List ℕ) = (record { kind = f.0.0.0; label = f.0.0.1; name = n.0.0 }, (f.0.0.1, n.0.1)) in
    subst (TakesRow row_text (λ (row : Row). row.label) RowFits before text) (some_same made x n.2)
    (record {
      takes = Takes-then text (front_text f.0.0.0 f.0.0.1) f.0.1 n.0.0.0 n.0.1 front.takes name.0;
      fit = record { label = front.label; name = name.1 };
      behind = front.behind;
      last = refl;
    })

row_again : FieldsRead → (before : List ℕ) (row : Row) (rest : List ℕ) → RowFits row → IsBefore before row.label → row_at (before, row_text row ++ rest) ≡ Some (row, (row.label, rest))
unfolding row_at
row_again law before row rest fit behind =
    let regrouped : row_text row ++ rest ≡ front_text row.kind row.label ++ (row.name.0 ++ rest) = append_assoc (front_text row.kind row.label) row.name.0 rest in
    ap (λ (t : List ℕ). row_at (before, t)) regrouped ∙ rw (front_again law before row.kind row.label (row.name.0 ++ rest) fit.label behind, law.name row.name rest fit.name) refl

pub row_grammar : FieldsSpelled → FieldsRead → IsRowGrammar row_at row_text (λ (row : Row). row.label) RowFits
row_grammar law read = record { takes = row_takes law; again = row_again read; label = λ row fit. fit.label }

-- ---- a row of format 2

pub record SizedRowFits (row : SizedRow) : Type 0 where
  pub label : IsLabel row.label
  pub size : row.size < 2 ^ 64
  pub name : length row.name.0 ≡ 32

abbrev named_sized_row : Kind → List ℕ → ℕ → Name × List ℕ → Option (SizedRow × (List ℕ × List ℕ))
named_sized_row kind label size name = Some (record { kind = kind; label = label; size = size; name = name.0 }, (label, name.1))

abbrev sized_row : Kind → List ℕ → ℕ × List ℕ → Option (SizedRow × (List ℕ × List ℕ))
sized_row kind label size = name_at size.1 >>= named_sized_row kind label size.0

sized_row_takes : FieldsSpelled → (before text : List ℕ) (x : SizedRow × (List ℕ × List ℕ)) → IsBytes text → sized_row_at (before, text) ≡ Some x → TakesRow sized_row_text (λ (row : SizedRow). row.label) SizedRowFits before text x
unfolding sized_row_at
sized_row_takes law before text x fits e =
    let f = bind_some (front_at before text) (λ front. number_at w64 front.1 >>= sized_row front.0.0 front.0.1) x e in
    let s = bind_some (number_at w64 f.0.1) (sized_row f.0.0.0 f.0.0.1) x f.2 in
    let n = bind_some (name_at s.0.1) (named_sized_row f.0.0.0 f.0.0.1 s.0.0) x s.2 in
    let front = front_takes law before text f.0 fits f.1 in
    let size = law.eight f.0.1 s.0 front.takes.bytes s.1 in
    let name = law.name s.0.1 n.0 size.0.bytes n.1 in
    let made : SizedRow × (List ℕ × List ℕ) = (record { kind = f.0.0.0; label = f.0.0.1; size = s.0.0; name = n.0.0 }, (f.0.0.1, n.0.1)) in
    subst (TakesRow sized_row_text (λ (row : SizedRow). row.label) SizedRowFits before text) (some_same made x n.2)
    (record {
      takes = Takes-then text (front_text f.0.0.0 f.0.0.1 ++ to_be_bytes w64 s.0.0) s.0.1 n.0.0.0 n.0.1 (Takes-then text (front_text f.0.0.0 f.0.0.1) f.0.1 (to_be_bytes w64 s.0.0) s.0.1 front.takes size.0) name.0;
      fit = record { label = front.label; size = size.1; name = name.1 };
      behind = front.behind;
      last = refl;
    })

sized_row_again : FieldsRead → (before : List ℕ) (row : SizedRow) (rest : List ℕ) → SizedRowFits row → IsBefore before row.label → sized_row_at (before, sized_row_text row ++ rest) ≡ Some (row, (row.label, rest))
unfolding sized_row_at
sized_row_again law before row rest fit behind =
    let after = to_be_bytes w64 row.size ++ (row.name.0 ++ rest) in
    let regrouped : sized_row_text row ++ rest ≡ front_text row.kind row.label ++ after =
    append_assoc (front_text row.kind row.label ++ to_be_bytes w64 row.size) row.name.0 rest
    ∙ append_assoc (front_text row.kind row.label) (to_be_bytes w64 row.size) (row.name.0 ++ rest) in
    ap (λ (t : List ℕ). sized_row_at (before, t)) regrouped
    ∙ rw (front_again law before row.kind row.label after fit.label behind, law.eight row.size (row.name.0 ++ rest) fit.size, law.name row.name rest fit.name) refl

pub sized_row_grammar : FieldsSpelled → FieldsRead → IsRowGrammar sized_row_at sized_row_text (λ (row : SizedRow). row.label) SizedRowFits
sized_row_grammar law read = record { takes = sized_row_takes law; again = sized_row_again read; label = λ row fit. fit.label }

-- ---- rows

pub record TakesRows {R : Type 0} (text_of label_of : R → List ℕ) (fits : R → Type 0) (count : ℕ) (before text : List ℕ) (x : List R × (List ℕ × List ℕ)) : Type 0 where
  pub takes : Takes text (flat_map text_of x.0) x.1.1
  pub all : length x.0 ≡ count
  pub fit : All fits x.0
  pub rise : Rise (before ∷ map label_of x.0)

pub rows_take : {R : Type 0} (one : RowReader R) (text_of label_of : R → List ℕ) (fits : R → Type 0) → IsRowGrammar one text_of label_of fits → (count : ℕ) (before text : List ℕ) (x : List R × (List ℕ × List ℕ)) → IsBytes text
    → many_at one count (before, text) ≡ Some x → TakesRows text_of label_of fits count before text x
unfolding many_at
rows_take one text_of label_of fits g zero before text x bytes e =
    subst (TakesRows text_of label_of fits zero before text) (some_same ([], (before, text)) x e)
    (record { takes = record { parts = refl; bytes = bytes }; all = refl; fit = λ k d lt. absurd (omega arith); rise = rise_alone before })
rows_take {R} one text_of label_of fits g (suc n) before text x bytes e =
    let a = bind_some (one (before, text)) (λ first. many_at one n first.1 >>= λ others. Some (first.0 ∷ others.0, others.1)) x e in
    let b = bind_some (many_at one n a.0.1) (λ others. Some (a.0.0 ∷ others.0, others.1)) x a.2 in
    let first = g.takes before text a.0 bytes a.1 in
    let others = rows_take one text_of label_of fits g n a.0.1.0 a.0.1.1 b.0 first.takes.bytes b.1 in
    let made : List R × (List ℕ × List ℕ) = (a.0.0 ∷ b.0.0, b.0.1) in
    let whole = Takes-then text (text_of a.0.0) a.0.1.1 (flat_map text_of b.0.0) b.0.1.1 first.takes others.takes in
    let rise = subst (λ (l : List ℕ). Rise (l ∷ map label_of b.0.0)) first.last others.rise in
    subst (TakesRows text_of label_of fits (suc n) before text) (some_same made x b.2)
    (record {
      takes = rw flat_map-cons whole;
      all = ap suc others.all;
      fit = All-cons fits a.0.0 b.0.0 first.fit others.fit;
      rise = rise_behind before (label_of a.0.0) (map label_of b.0.0) first.behind rise;
    })

-- the label of the last row
last_label : {R : Type 0} → (R → List ℕ) → List ℕ → List R → List ℕ
last_label label_of before [] = before
last_label label_of before (r ∷ rs) = last_label label_of (label_of r) rs

rows_again : {R : Type 0} (one : RowReader R) (text_of label_of : R → List ℕ) (fits : R → Type 0) → IsRowGrammar one text_of label_of fits → (before : List ℕ) (rows : List R) (rest : List ℕ) → All fits rows → Rise (before ∷ map label_of rows)
    → many_at one (length rows) (before, flat_map text_of rows ++ rest) ≡ Some (rows, (last_label label_of before rows, rest))
unfolding many_at last_label
rows_again one text_of label_of fits g before [] rest fit rise = refl
rows_again {R} one text_of label_of fits g before (r ∷ rs) rest fit rise =
    let others = flat_map text_of rs ++ rest in
    let regrouped : flat_map text_of (r ∷ rs) ++ rest ≡ text_of r ++ others = ap (λ (x : List ℕ). x ++ rest) (flat_map-cons text_of r rs) ∙ append_assoc (text_of r) (flat_map text_of rs) rest in
    let one_row : one (before, text_of r ++ others) ≡ Some (r, (label_of r, others)) = g.again before r others (All-first fits r rs fit) (first_behind before (label_of r) (map label_of rs) rise) in
    let more : many_at one (length rs) (label_of r, others) ≡ Some (rs, (last_label label_of (label_of r) rs, rest)) =
    rows_again one text_of label_of fits g (label_of r) rs rest (All-rest fits r rs fit) (others_rise before (label_of r ∷ map label_of rs) rise) in
    ap (λ (t : List ℕ). many_at one (suc (length rs)) (before, t)) regrouped ∙ rw (one_row, more) refl

-- ---- all rows of a directory

pub record AreRead {R : Type 0} (text_of label_of : R → List ℕ) (fits : R → Type 0) (count : ℕ) (text : List ℕ) (rows : List R) : Type 0 where
  pub spelled : text ≡ flat_map text_of rows
  pub all : length rows ≡ count
  pub fit : All fits rows
  pub rise : Rise (map label_of rows)

pub rows_are_read : {R : Type 0} (one : RowReader R) (text_of label_of : R → List ℕ) (fits : R → Type 0) → IsRowGrammar one text_of label_of fits → (count : ℕ) (text : List ℕ) (rows : List R) → IsBytes text
    → rows_at one count text ≡ Some rows → AreRead text_of label_of fits count text rows
unfolding rows_at
rows_are_read one text_of label_of fits g count text rows bytes e =
    let r = bind_some (many_at one count ([], text)) (λ x. at_end (x.0, x.1.1)) rows e in
    let h = rows_take one text_of label_of fits g count [] text r.0 bytes r.1 in
    let k = ended (r.0.0, r.0.1.1) rows r.2 in
    subst (AreRead text_of label_of fits count text) k.0
    (record { spelled = Takes-all text (flat_map text_of r.0.0) r.0.1.1 h.takes k.1; all = h.all; fit = h.fit; rise = others_rise [] (map label_of r.0.0) h.rise })

pub rows_are_read_again : {R : Type 0} (one : RowReader R) (text_of label_of : R → List ℕ) (fits : R → Type 0) → IsRowGrammar one text_of label_of fits → (rows : List R) → All fits rows → Rise (map label_of rows)
    → rows_at one (length rows) (flat_map text_of rows) ≡ Some rows
unfolding rows_at
rows_are_read_again one text_of label_of fits g rows fit rising =
    let read : many_at one (length rows) ([], flat_map text_of rows ++ []) ≡ Some (rows, (last_label label_of [] rows, [])) =
    rows_again one text_of label_of fits g [] rows [] fit (rise_from_nothing label_of rows (λ k d lt. g.label (get_or rows k d) (fit k d lt)) rising) in
    let whole : many_at one (length rows) ([], flat_map text_of rows) ≡ Some (rows, (last_label label_of [] rows, [])) = ap (λ (t : List ℕ). many_at one (length rows) ([], t)) (sym (append-nil (flat_map text_of rows))) ∙ read in
    rw whole refl
