-- The line that reading answers is the first wrong one.
use Rattle.std.proofs.Common.{◌≡◌, ℕ, ◌+◌, List, [], ◌∷◌, ◌++◌, Option, Some, None, Result, Ok, Err, ◌⊎◌, inl, inr, refl, sym, ap, ◌∙◌, length, append-nil, arith}
use Rattle.std.specs.Option.{option_and_then}
use Rattle.ms_base.specs.Places.{some_same}
use Rattle.ms_text.specs.Lines.{read_lines, or_wrong, on_or_wrong}
use Rattle.ms_text.specs.Firsts.{after_lines, CanEnd, FirstLaws, IsFirstCut, IsFirstWrong, Says}

goes_on_by : {A B : Type 0} (o : Option A) (f : A → Option B) (y : B) → option_and_then f o ≡ Some y → (x : A) × (o ≡ Some x) × (f x ≡ Some y)
goes_on_by (Some x) f y e = (x, refl, e)
goes_on_by None f y e = absurd cc

-- the same, counted from any line
record IsWrongFrom {S V : Type 0} (step : S → List ℕ → Option S) (finish : S → Option V) (from : ℕ) (start : S) (texts : List (List ℕ)) (line : ℕ) : Type 0 where
  front : List (List ℕ)
  so_far : S
  goes_on : after_lines step start front ≡ Some so_far
  line_is : line ≡ from + length front
  wrong : ((text : List ℕ) × (rest : List (List ℕ)) × (texts ≡ front ++ text ∷ rest) × (step so_far text ≡ None)) ⊎ ((texts ≡ front) × (finish so_far ≡ None))

ends_wrong : {S V : Type 0} (step : S → List ℕ → Option S) (finish : S → Option V) (from line : ℕ) (start : S) (o : Option V) → finish start ≡ o → or_wrong from o ≡ Err line → IsWrongFrom step finish from start [] line
ends_wrong step finish from line start None e h = record { front = []; so_far = start; goes_on = refl; line_is = let l : from ≡ line = cc in omega arith; wrong = inr (refl, e) }
ends_wrong step finish from line start (Some v) e h = absurd cc

wrong_on : {S V : Type 0} (step : S → List ℕ → Option S) (finish : S → Option V) (from line : ℕ) (start : S) (text : List ℕ) (texts : List (List ℕ)) (o : Option S) → step start text ≡ o
    → on_or_wrong from (λ next. read_lines step finish (from + 1) next texts) o ≡ Err line
    → ((next : S) → read_lines step finish (from + 1) next texts ≡ Err line → IsWrongFrom step finish (from + 1) next texts line) → IsWrongFrom step finish from start (text ∷ texts) line
wrong_on step finish from line start text texts None e h on = record { front = []; so_far = start; goes_on = refl; line_is = let l : from ≡ line = cc in omega arith; wrong = inl (text, texts, refl, e) }
wrong_on step finish from line start text texts (Some next) e h on =
    let w = on next h in record {
      front = text ∷ w.front;
      so_far = w.so_far;
      goes_on = rw e w.goes_on;
      line_is = omega (arith, w.line_is);
      wrong = elim w.wrong [
        | inl r ↦ inl (r.0, r.1, ap (λ (xs : List (List ℕ)). text ∷ xs) r.2, r.3)
        | inr r ↦ inr (ap (λ (xs : List (List ℕ)). text ∷ xs) r.0, r.1)
      ];
    }

wrong_from : {S V : Type 0} (step : S → List ℕ → Option S) (finish : S → Option V) (from line : ℕ) (start : S) (texts : List (List ℕ)) → read_lines step finish from start texts ≡ Err line → IsWrongFrom step finish from start texts line
wrong_from step finish from line start [] h = ends_wrong step finish from line start (finish start) refl h
wrong_from step finish from line start (text ∷ texts) h = wrong_on step finish from line start text texts (step start text) refl h (λ next k. wrong_from step finish (from + 1) line next texts k)

pub first_wrong : {S V : Type 0} (step : S → List ℕ → Option S) (finish : S → Option V) (line : ℕ) (start : S) (texts : List (List ℕ)) → read_lines step finish 1 start texts ≡ Err line → IsFirstWrong step finish start texts line
first_wrong step finish line start texts h = let w = wrong_from step finish 1 line start texts h in record { front = w.front; so_far = w.so_far; goes_on = w.goes_on; line_is = w.line_is; wrong = w.wrong }

-- ---- the other way

after_wrong : {S V : Type 0} (step : S → List ℕ → Option S) (finish : S → Option V) (from : ℕ) (start so_far : S) (front texts : List (List ℕ)) → after_lines step start front ≡ Some so_far
    → read_lines step finish from start (front ++ texts) ≡ read_lines step finish (from + length front) so_far texts
after_wrong step finish from start so_far [] texts goes =
    let same : start ≡ so_far = some_same start so_far goes in
    let n : from ≡ from + 0 = omega arith in
    ap (λ s. read_lines step finish from s texts) same ∙ ap (λ m. read_lines step finish m so_far texts) n
after_wrong step finish from start so_far (text ∷ front) texts goes =
    let p = goes_on_by (step start text) (λ next. after_lines step next front) so_far goes in
    let n : (from + 1) + length front ≡ from + length (text ∷ front) = omega arith in
    rw p.1 (after_wrong step finish (from + 1) p.0 so_far front texts p.2 ∙ ap (λ m. read_lines step finish m so_far texts) n)

pub wrong_again : {S V : Type 0} (step : S → List ℕ → Option S) (finish : S → Option V) (start : S) (texts : List (List ℕ)) (line : ℕ) → IsFirstWrong step finish start texts line → read_lines step finish 1 start texts ≡ Err line
wrong_again step finish start texts line h =
    elim h.wrong [
      | inl r ↦ ap (λ ts. read_lines step finish 1 start ts) r.2 ∙ after_wrong step finish 1 start h.so_far h.front (r.0 ∷ r.1) h.goes_on ∙ rw (r.3, h.line_is) refl
      | inr r ↦ ap (λ ts. read_lines step finish 1 start ts) (r.0 ∙ sym (append-nil h.front)) ∙ after_wrong step finish 1 start h.so_far h.front [] h.goes_on ∙ rw (r.1, h.line_is) refl
    ]

-- ---- without the fold

said : {S V : Type 0} (step : S → List ℕ → Option S) (finish : S → Option V) (from : ℕ) (start last : S) (value : V) (more : List (List ℕ)) → after_lines step start more ≡ Some last → finish last ≡ Some value
    → read_lines step finish from start more ≡ Ok value
said step finish from start last value more goes ends =
    ap (λ ts. read_lines step finish from start ts) (sym (append-nil more)) ∙ after_wrong step finish from start last more [] goes ∙ rw ends refl

err_no_ok : {V : Type 0} (line : ℕ) (value : V) (r : Result V ℕ) → r ≡ Err line → r ≡ Ok value → ⊥
err_no_ok line value r e o = let f = sym e ∙ o in cc

pub first_cut : {S V : Type 0} (step : S → List ℕ → Option S) (finish : S → Option V) (start : S) (texts : List (List ℕ)) (line : ℕ) → CanEnd step finish start → read_lines step finish 1 start texts ≡ Err line
    → IsFirstCut (Says step finish start) texts line
first_cut step finish start texts line ends e =
    let h = first_wrong step finish line start texts e in
    let on = ends h.front h.so_far h.goes_on in
    record {
      front = h.front;
      line_is = h.line_is;
      may_go_on = (on.0, (on.2, after_wrong step finish 1 start h.so_far h.front on.0 h.goes_on ∙ said step finish (1 + length h.front) h.so_far on.1 on.2 on.0 on.3 on.4));
      cut = elim h.wrong [
        | inl r ↦ inl (
          r.0,
          r.1,
          r.2,
          λ more s.
              let stops : read_lines step finish 1 start (h.front ++ r.0 ∷ more) ≡ Err (1 + length h.front) = after_wrong step finish 1 start h.so_far h.front (r.0 ∷ more) h.goes_on ∙ rw (r.3) refl in
              err_no_ok (1 + length h.front) s.0 (read_lines step finish 1 start (h.front ++ r.0 ∷ more)) stops s.1,
        )
        | inr r ↦ inr (r.0, λ s. err_no_ok line s.0 (read_lines step finish 1 start texts) e s.1)
      ];
    }

pub first_laws : {S V : Type 0} → FirstLaws S V
first_laws = record {
  found = λ step finish start texts line h. first_wrong step finish line start texts h;
  only = wrong_again;
  cut = first_cut;
}
