-- Where a text of a list stands, and its record.
use Rattle.std.proofs.Common.{◌≡◌, ℕ, zero, suc, ◌==◌, Bool, true, false, cond, List, [], ◌∷◌, Option, Some, None, ◌⊎◌, inl, inr, refl, ap, ◌∙◌, slice_get, arith}
use Rattle.std.proofs.lemmas.Bool.Decides.{nat_tests}
use Rattle.ms_record.specs.declared.log.ListId.{ListId}
use Rattle.ms_record.specs.declared.log.LogEvent.{LogEvent}
use Rattle.ms_record.specs.declared.log.LogEvent.TheVariants.{Rec, Put, Drop}
use Rattle.ms_record.specs.declared.record.Record.{Record}
use Rattle.ms_record.specs.Logs.{texts_in}
use Rattle.ms_record.specs.Reading.{record_at, votes_of, with_record}

text_step : (first : List ℕ) (rest : List (List ℕ)) (text : List ℕ) (t : Bool) → t ≡ true ⊎ ((j : ℕ) × (slice_get rest j ≡ Some text)) → (t ≡ true → first ≡ text) → (j : ℕ) × (slice_get (cond t (first ∷ rest) rest) j ≡ Some text)
text_step first rest text true h same = (zero, ap (λ (x : List ℕ). Some x) (same refl))
text_step first rest text false (inl h) same = absurd (let q : false ≡ true = h in cc)
text_step first rest text false (inr h) same = h

text_later : (first : List ℕ) (rest : List (List ℕ)) (text : List ℕ) (t : Bool) → (j : ℕ) × (slice_get rest j ≡ Some text) → (j : ℕ) × (slice_get (cond t (first ∷ rest) rest) j ≡ Some text)
text_later first rest text true h = (suc h.0, h.1)
text_later first rest text false h = h

-- a text of the list stands among its texts
pub text_there : (number : ℕ) (log : List LogEvent) (i : ℕ) (list : ListId) (text : List ℕ) → slice_get log i ≡ Some (Rec list text) → list.0 ≡ number → (j : ℕ) × (slice_get (texts_in number log) j ≡ Some text)
text_there number [] i list text at is = absurd (let q : None ≡ Some (Rec list text) = at in cc)
text_there number (Rec other first ∷ log) zero list text at is =
    let q : Some (Rec other first) ≡ Some (Rec list text) = at in
    let one : other.0 ≡ number = ap list_in (some_one q) ∙ is in
    let same : first ≡ text = ap text_in (some_one q) in
    let passes : (other.0 == number) ≡ true = grind (arith, nat_tests) in
    text_step first (texts_in number log) text (other.0 == number) (inl passes) (λ _. same)
  where
    some_one : Some (Rec other first) ≡ Some (Rec list text) → Rec other first ≡ Rec list text
    some_one e = cc

    list_in : LogEvent → ℕ
    list_in (Rec l t) = l.0
    list_in (Put g n t) = 0
    list_in (Drop f) = 0

    text_in : LogEvent → List ℕ
    text_in (Rec l t) = t
    text_in (Put g n t) = t
    text_in (Drop f) = []
text_there number (Rec other first ∷ log) (suc i) list text at is = text_later first (texts_in number log) text (other.0 == number) (text_there number log i list text at is)
text_there number (Put g n t ∷ log) zero list text at is = absurd (let q : Some (Put g n t) ≡ Some (Rec list text) = at in cc)
text_there number (Put g n t ∷ log) (suc i) list text at is = text_there number log i list text at is
text_there number (Drop f ∷ log) zero list text at is = absurd (let q : Some (Drop f) ≡ Some (Rec list text) = at in cc)
text_there number (Drop f ∷ log) (suc i) list text at is = text_there number log i list text at is

record_later : (o : Option Record) (rest : List Record) (r : Record) → (j : ℕ) × (slice_get rest j ≡ Some r) → (j : ℕ) × (slice_get (with_record o rest) j ≡ Some r)
record_later None rest r h = h
record_later (Some first) rest r h = (suc h.0, h.1)

-- the record of a text stands among the records of the texts
pub record_there : (texts : List (List ℕ)) (j : ℕ) (text : List ℕ) (r : Record) → slice_get texts j ≡ Some text → record_at text ≡ Some r → (p : ℕ) × (slice_get (votes_of texts) p ≡ Some r)
record_there [] j text r at is = absurd (let q : None ≡ Some text = at in cc)
record_there (first ∷ texts) zero text r at is =
    let same : first ≡ text = (let q : Some first ≡ Some text = at in cc) in
    (zero, ap (λ (o : Option Record). slice_get (with_record o (votes_of texts)) zero) (ap record_at same ∙ is))
record_there (first ∷ texts) (suc j) text r at is = record_later (record_at first) (votes_of texts) r (record_there texts j text r at is)
