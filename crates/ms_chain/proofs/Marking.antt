-- The first mark of greatest number.
use Rattle.std.proofs.Common.{◌≡◌, ℕ, zero, suc, ◌+◌, ◌<◌, ◌≤◌, List, [], ◌∷◌, ◌++◌, Option, Some, None, inl, inr, refl, sym, ap, ◌∙◌, subst, slice_index_or, length, take, arith, append_assoc, Contains}
use Rattle.std.specs.List.{cons_option}
use Rattle.std.proofs.lemmas.List.{append-nil}
use Rattle.std.proofs.lemmas.List.Elements.{Contains-append_cases, filter_map-append}
use Rattle.std.proofs.lemmas.Option.{slice_get-get_or}
use Rattle.ms_base.specs.Places.{take_next}
use Rattle.ms_record.specs.declared.mark.RefMark.{RefMark}
use Rattle.ms_record.specs.Marks.{mark_at}
use Rattle.ms_chain.specs.Refs.{IsFirstGreatest, marks_of}

one_of : {A : Type 0} (x y : A) → Contains (x ∷ []) y → y ≡ x
one_of x y (zero, lt, is) = sym is
one_of x y (suc k, lt, is) = absurd (omega arith)

none_in : {A : Type 0} (y : A) → Contains [] y → ⊥
none_in y (k, lt, is) = omega arith

-- the mark is no greater than the one before it
pub stays_first : (before : List RefMark) (best mark : RefMark) → mark.number ≤ best.number → IsFirstGreatest before (Some best) → IsFirstGreatest (before ++ mark ∷ []) (Some best)
stays_first before best mark le (front, rest, is, below, most) = (
  front,
  rest ++ mark ∷ [],
  ap (λ ms. ms ++ mark ∷ []) is ∙ append_assoc front (best ∷ rest) (mark ∷ []),
  below,
  λ m c. elim (Contains-append_cases rest (mark ∷ []) m c) [
    | inl r ↦ most m r
    | inr r ↦ subst (λ (x : RefMark). x.number ≤ best.number) (sym (one_of mark m r)) le
  ],
)

-- each of the marks is at most the first one of greatest number
pub at_most : (marks : List RefMark) (best m : RefMark) → IsFirstGreatest marks (Some best) → Contains marks m → m.number ≤ best.number
at_most marks best m (front, rest, is, below, most) c =
    elim (Contains-append_cases front (best ∷ rest) m (subst (λ (ms : List RefMark). Contains ms m) is c)) [
      | inl f ↦ (let lt = below m f in omega arith)
      | inr r ↦ behind r
    ]
  where
    behind : Contains (best ∷ rest) m → m.number ≤ best.number
    behind (zero, lt, e) = let same : best ≡ m = e in subst (λ (x : RefMark). x.number ≤ best.number) same (omega arith)
    behind (suc k, lt, e) = most m (k, omega arith, e)

pub comes_first : (before : List RefMark) (best mark : RefMark) → best.number < mark.number → IsFirstGreatest before (Some best) → IsFirstGreatest (before ++ mark ∷ []) (Some mark)
comes_first before best mark lt h = (before, [], refl, λ m c. (let le = at_most before best m h c in omega arith), λ m c. absurd (none_in m c))

pub is_first : (before : List RefMark) (mark : RefMark) → IsFirstGreatest before None → IsFirstGreatest (before ++ mark ∷ []) (Some mark)
is_first before mark none = (before, [], refl, λ m c. absurd (none_in m (subst (λ (ms : List RefMark). Contains ms m) none c)), λ m c. absurd (none_in m c))

-- one text more, which spells a mark or none
marks_next : (items : List (List ℕ)) (i : ℕ) (text : List ℕ) → i < length items → text ≡ slice_index_or items i text → marks_of (take (i + 1) items) ≡ marks_of (take i items) ++ cons_option (mark_at text) []
marks_next items i text lt is =
    ap marks_of (take_next items i text (slice_get-get_or items i text lt ∙ ap (λ (t : List ℕ). Some t) (sym is))) ∙ filter_map-append mark_at (take i items) (text ∷ [])

pub marks_more : (items : List (List ℕ)) (i : ℕ) (text : List ℕ) (mark : RefMark) → i < length items → text ≡ slice_index_or items i text → mark_at text ≡ Some mark → marks_of (take (i + 1) items) ≡ marks_of (take i items) ++ mark ∷ []
marks_more items i text mark lt is e = marks_next items i text lt is ∙ ap (λ (o : Option RefMark). marks_of (take i items) ++ cons_option o []) e

pub marks_none : (items : List (List ℕ)) (i : ℕ) (text : List ℕ) → i < length items → text ≡ slice_index_or items i text → mark_at text ≡ None → marks_of (take (i + 1) items) ≡ marks_of (take i items)
marks_none items i text lt is e = marks_next items i text lt is ∙ (ap (λ (o : Option RefMark). marks_of (take i items) ++ cons_option o []) e ∙ append-nil (marks_of (take i items)))

pub none_of : (o : Option RefMark) → ((mark : RefMark) → o ≡ Some mark → ⊥) → o ≡ None
none_of None h = refl
none_of (Some mark) h = absurd (h mark refl)
