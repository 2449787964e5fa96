-- Two words with a space between them.
use Rattle.std.proofs.Common.{◌≡◌, ◌≢◌, ℕ, suc, ◌+◌, ◌<◌, Bool, true, false, List, [], ◌∷◌, ◌++◌, Option, Some, None, refl, sym, ap, ◌∙◌, subst, length, take, drop, get_or, arith, add-one, lt-ltb, drop-cons, take-append-drop, length-append}
use Rattle.std.specs.Prelude.{◌==◌, position, nat_lt}
use Rattle.std.specs.List.{position_or_len}
use Rattle.std.specs.Option.{option_map}
use Rattle.std.proofs.lemmas.Bool.{eqb-true}
use Rattle.std.proofs.lemmas.List.{take_at, get_or-take, length-take}
use Rattle.std.proofs.lemmas.List.Quantifiers.{position-Some}
use Rattle.ms_base.specs.Places.{some_same}
use Rattle.ms_text.specs.Words.{HasNoSpace, WordsAreJoined, two_words}

abbrev is_space : ℕ → Bool
is_space b = b == 32

other_than : (b : ℕ) → b ≢ 32 → is_space b ≡ false
other_than b d = by (is_space b) refl
  where
    by : (t : Bool) → is_space b ≡ t → is_space b ≡ false
    by true e = absurd (d (eqb-true b 32 e))
    by false e = e

space_at : (first rest : List ℕ) → HasNoSpace first → position_or_len is_space (first ++ 32 ∷ rest) ≡ length first
space_at [] rest none = refl
space_at (b ∷ bs) rest none =
    let e : 1 + length bs ≡ length (b ∷ bs) = omega arith in
    rw (other_than b (none 0 (omega arith)), space_at bs rest (λ i l. none (suc i) (omega arith))) e

behind : (first rest : List ℕ) → drop (suc (length first)) (first ++ 32 ∷ rest) ≡ rest
behind [] rest = refl
behind (b ∷ bs) rest = behind bs rest

joined : (first rest : List ℕ) → HasNoSpace first → two_words (first ++ 32 ∷ rest) ≡ Some (first, rest)
joined first rest none =
    let at = space_at first rest none in
    let within : nat_lt (length first) (length (first ++ 32 ∷ rest)) ≡ true = lt-ltb _ _ (omega (arith, length-append first (32 ∷ rest))) in
    rw (at, within, add-one, take_at first (32 ∷ rest) (length first) refl, behind first rest) refl

abbrev parts : List ℕ → ℕ → List ℕ × List ℕ
parts line at = (take at line, drop (at + 1) line)

cut_at : (line : List ℕ) (o : Option ℕ) (first rest : List ℕ) → position is_space line ≡ o → option_map (parts line) o ≡ Some (first, rest)
    → (line ≡ first ++ 32 ∷ rest) × HasNoSpace first
cut_at line None first rest is e = absurd cc
cut_at line (Some at) first rest is e =
    let p = position-Some is_space line at 0 is in
    let here : get_or line at 0 ≡ 32 = eqb-true (get_or line at 0) 32 p.1 in
    let whole : line ≡ take at line ++ 32 ∷ drop (at + 1) line =
    sym (take-append-drop at line) ∙ ap (λ (r : List ℕ). take at line ++ r) (drop-cons line at 0 p.0 ∙ ap (λ (b : ℕ). b ∷ drop (suc at) line) here ∙ ap (λ (n : ℕ). 32 ∷ drop n line) (sym (add-one at))) in
    let clear : HasNoSpace (take at line) = λ i l s. clash (get_or line i 0) (p.2 i (before at i line l)) (sym (get_or-take at line i 0 (before at i line l)) ∙ s) in
    subst (λ (w : List ℕ × List ℕ). (line ≡ w.0 ++ 32 ∷ w.1) × HasNoSpace w.0) (some_same (take at line, drop (at + 1) line) (first, rest) e) (whole, clear)
  where
    clash : (b : ℕ) → is_space b ≡ false → b ≡ 32 → ⊥
    clash b f e = let g : is_space b ≡ true = rw e refl in absurd cc

    before : (at i : ℕ) (line : List ℕ) → i < length (take at line) → i < at
    before at i line l = omega (arith, length-take at line)

pub words_joined : WordsAreJoined
words_joined = record {
  joined = joined;
  parted = λ line first rest e. cut_at line (position is_space line) first rest refl e;
}
