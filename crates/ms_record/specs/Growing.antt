-- What lists of records show stays as it is when they grow, and so do the votes of logs.
use Rattle.std.proofs.Common.{◌≡◌, ℕ, ◌+◌, ◌<◌, ◌≤◌, ◌==◌, Bool, true, false, cond, suc, zero, List, [], ◌∷◌, ◌++◌, Option, Some, None, refl, sym, ap, ◌∙◌, slice_get, length, take, arith}
use Rattle.std.proofs.lemmas.Option.{slice_get_within}
use Rattle.ms_record.specs.declared.ballot.Ballot.{Ballot}
use Rattle.ms_record.specs.declared.entry.Entry.{Entry}
use Rattle.ms_record.specs.declared.ballot.Vote.{Vote}
use Rattle.ms_record.specs.declared.record.Record.{Record}
use Rattle.ms_record.specs.declared.log.LogEvent.{LogEvent}
use Rattle.ms_record.specs.declared.log.LogEvent.TheVariants.{Rec, Put, Drop}
use Rattle.ms_record.specs.Logs.{texts_in, vote_texts, votes_in}
use Rattle.ms_record.specs.Reading.{record_at, votes_of, with_record}
use Rattle.ms_record.specs.Chains.{Origin, IsLinked, IsChosen, voters_behind}
use Rattle.ms_record.specs.Offers.{IsFirstPromised, Shows, JustifiedBy, IsJustified, GrowsTo}
use Rattle.ms_record.specs.Votes.{NoneAbove, IsTaken, IsPromised, IsGreatestTaken, IsBest, ChosenBy}

-- the two lists agree at each place below n
abbrev pub SameBelow : List Record → List Record → ℕ → Type 0
SameBelow xs ys n = (i : ℕ) → i < n → slice_get ys i ≡ slice_get xs i

slice_get-append : (xs ys : List Record) (i : ℕ) → i < length xs → slice_get (xs ++ ys) i ≡ slice_get xs i
slice_get-append [] ys i h = absurd (omega arith)
slice_get-append (x ∷ xs) ys zero h = refl
slice_get-append (x ∷ xs) ys (suc i) h = slice_get-append xs ys i (omega arith)

pub same_grown : (xs ys more : List Record) → xs ++ more ≡ ys → SameBelow xs ys (length xs)
same_grown xs ys more e i h = ap (λ zs. slice_get zs i) (sym e) ∙ slice_get-append xs more i h

pub same_back : (xs ys : List Record) (n : ℕ) → SameBelow xs ys n → SameBelow ys xs n
same_back xs ys n same i h = sym (same i h)

pub none_above_same : (xs ys : List Record) (n : ℕ) (same : SameBelow xs ys n) (p k : ℕ) (b : Ballot) → p ≤ n → NoneAbove xs p k b → NoneAbove ys p k b
none_above_same xs ys n same p k b l h i r m g e = h i r m (sym (same i (omega arith)) ∙ g) e

pub taken_same : (xs ys : List Record) (n : ℕ) (same : SameBelow xs ys n) (p k : ℕ) (b : Ballot) (e : Entry) → p < n → IsTaken xs p k b e → IsTaken ys p k b e
taken_same xs ys n same p k b e l h = record { stands = same p l ∙ h.stands; none_above = none_above_same xs ys n same p k b (omega arith) h.none_above }

pub promised_same : (xs ys : List Record) (n : ℕ) (same : SameBelow xs ys n) (p k : ℕ) (b : Ballot) → p < n → IsPromised xs p k b → IsPromised ys p k b
promised_same xs ys n same p k b l h = record { stands = same p l ∙ h.stands; none_above = none_above_same xs ys n same p k b (omega arith) h.none_above }

pub first_promised_same : (xs ys : List Record) (n : ℕ) (same : SameBelow xs ys n) (p k : ℕ) (b : Ballot) → p < n → IsFirstPromised xs p k b → IsFirstPromised ys p k b
first_promised_same xs ys n same p k b l h = record {
  promised = promised_same xs ys n same p k b l h.promised;
  first = λ i m q. h.first i m (promised_same ys xs n (same_back xs ys n same) i k b (omega arith) q);
}

greatest_same : (xs ys : List Record) (n : ℕ) (same : SameBelow xs ys n) (k p : ℕ) (v : Vote) → p ≤ n → IsGreatestTaken xs k p v → IsGreatestTaken ys k p v
greatest_same xs ys n same k p v l h = record {
  at = h.at;
  before = h.before;
  taken = taken_same xs ys n same h.at k v.ballot v.entry (omega (arith, h.before)) h.taken;
  greatest = λ i b e m t. h.greatest i b e m (taken_same ys xs n (same_back xs ys n same) i k b e (omega arith) t);
  last = λ i e m t. h.last i e m (taken_same ys xs n (same_back xs ys n same) i k v.ballot e (omega arith) t);
}

pub best_same : (xs ys : List Record) (n : ℕ) (same : SameBelow xs ys n) (k p : ℕ) (best : Option Vote) → p ≤ n → IsBest xs k p best → IsBest ys k p best
best_same xs ys n same k p None l h = λ i b e m t. h i b e m (taken_same ys xs n (same_back xs ys n same) i k b e (omega arith) t)
best_same xs ys n same k p (Some v) l h = greatest_same xs ys n same k p v l h

pub taken_grows : (xs ys more : List Record) (p k : ℕ) (b : Ballot) (e : Entry) → xs ++ more ≡ ys → IsTaken xs p k b e → IsTaken ys p k b e
taken_grows xs ys more p k b e g h = taken_same xs ys (length xs) (same_grown xs ys more g) p k b e (slice_get_within xs p _ h.stands) h

pub shows_grows : (xs ys more : List Record) (k : ℕ) (b : Ballot) (best : Option Vote) → xs ++ more ≡ ys → Shows xs k b best → Shows ys k b best
shows_grows xs ys more k b best g h =
    let same = same_grown xs ys more g in
    let within : h.place < length xs = slice_get_within xs h.place _ h.first.promised.stands in
    record {
      place = h.place;
      first = first_promised_same xs ys (length xs) same h.place k b within h.first;
      best_is = best_same xs ys (length xs) same k h.place best (omega arith) h.best_is;
      below = h.below;
    }

-- what is chosen stays chosen
pub chosen_grows : (old new : ℕ → List Record) (voters : List ℕ) (k : ℕ) (e : Entry) → GrowsTo old new → ChosenBy old voters k e → ChosenBy new voters k e
chosen_grows old new voters k e g h = record {
  ballot = h.ballot;
  part = h.part;
  majority = h.majority;
  taken = λ s m. let t = h.taken s m in (t.0, taken_grows (old s) (new s) (g s).0 t.0 k h.ballot e (g s).1 t.1);
}

-- what is justified stays justified
pub justified_grows : (old new : ℕ → List Record) (voters : List ℕ) (k : ℕ) (b : Ballot) (e : Entry) → GrowsTo old new → JustifiedBy old voters k b e → JustifiedBy new voters k b e
justified_grows old new voters k b e g h = record {
  part = h.part;
  bests = h.bests;
  majority = h.majority;
  shown = λ s m. shows_grows (old s) (new s) (g s).0 k b (h.bests s) (g s).1 (h.shown s m);
  entry_is = h.entry_is;
}

-- a linked list stays linked
pub linked_grows : (old new : ℕ → List Record) (origin : Origin) (c : List Entry) → GrowsTo old new → IsLinked old origin c → IsLinked new origin c
linked_grows old new origin c g h = record {
  chosen = λ i e at. chosen_grows old new (voters_behind origin (take i c)) (i + 1) e g (h.chosen i e at);
  links = h.links;
}

-- a master stays chosen
pub is_chosen_grows : (old new : ℕ → List Record) (origin : Origin) (k : ℕ) (e : Entry) → GrowsTo old new → IsChosen old origin k e → IsChosen new origin k e
is_chosen_grows old new origin k e g h = record {
  members = h.members;
  linked = linked_grows old new origin h.members g h.linked;
  at = h.at;
  chosen = chosen_grows old new (voters_behind origin h.members) k e g h.chosen;
}

-- an offer stays justified
pub is_justified_grows : (old new : ℕ → List Record) (origin : Origin) (k : ℕ) (b : Ballot) (e : Entry) → GrowsTo old new → IsJustified old origin k b e → IsJustified new origin k b e
is_justified_grows old new origin k b e g h = record {
  members = h.members;
  linked = linked_grows old new origin h.members g h.linked;
  at = h.at;
  justified = justified_grows old new (voters_behind origin h.members) k b e g h.justified;
}

-- each log goes on from the old one
abbrev pub LogsGrow : (ℕ → List LogEvent) → (ℕ → List LogEvent) → Type 0
LogsGrow old new = (s : ℕ) → (more : List LogEvent) × (old s ++ more ≡ new s)

pub texts_append : (number : ℕ) (a b : List LogEvent) → texts_in number (a ++ b) ≡ texts_in number a ++ texts_in number b
texts_append number [] b = refl
texts_append number (Rec list text ∷ a) b = by (list.0 == number) (texts_append number a b)
  where
    by : (t : Bool) → texts_in number (a ++ b) ≡ texts_in number a ++ texts_in number b
        → cond t (text ∷ texts_in number (a ++ b)) (texts_in number (a ++ b)) ≡ cond t (text ∷ texts_in number a) (texts_in number a) ++ texts_in number b
    by true e = ap (λ (l : List (List ℕ)). text ∷ l) e
    by false e = e
texts_append number (Put generation name text ∷ a) b = texts_append number a b
texts_append number (Drop floor ∷ a) b = texts_append number a b

records_append : (a b : List (List ℕ)) → votes_of (a ++ b) ≡ votes_of a ++ votes_of b
records_append [] b = refl
records_append (text ∷ a) b = ap (with_record (record_at text)) (records_append a b) ∙ by (record_at text)
  where
    by : (o : Option Record) → with_record o (votes_of a ++ votes_of b) ≡ with_record o (votes_of a) ++ votes_of b
    by None = refl
    by (Some r) = refl

pub votes_append : (a b : List LogEvent) → votes_in (a ++ b) ≡ votes_in a ++ votes_in b
votes_append a b = ap votes_of (texts_append 0 a b) ∙ records_append (vote_texts a) (vote_texts b)

pub votes_grow : (old new : ℕ → List LogEvent) → LogsGrow old new → GrowsTo (λ s. votes_in (old s)) (λ s. votes_in (new s))
votes_grow old new g s = (votes_in (g s).0, sym (votes_append (old s) (g s).0) ∙ ap votes_in (g s).1)
