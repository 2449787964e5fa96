-- What lists show at a position is one thing.
use Rattle.std.proofs.Common.{◌≡◌, ℕ, zero, suc, List, [], ◌∷◌, Option, Some, None, refl, sym, ap, ◌∙◌, subst, slice_get}
use Rattle.std.proofs.lemmas.Option.{none-some}
use Rattle.ms_record.specs.declared.ballot.Ballot.{Ballot}
use Rattle.ms_record.specs.declared.ballot.Vote.{Vote}
use Rattle.ms_record.specs.declared.entry.Entry.{Entry}
use Rattle.ms_record.specs.declared.record.Record.{Record}
use Rattle.ms_record.specs.declared.record.Record.TheVariants.{Accept}
use Rattle.ms_record.specs.Entries.{IsEntry, entry_text}
use Rattle.ms_base.specs.Fields.{IsBytes}
use Rattle.ms_record.specs.Reading.{entry_at, record_at, votes_of, with_record}
use Rattle.ms_record.specs.Records.{IsRecord, record_text}
use Rattle.ms_record.specs.Votes.{IsTaken, ChosenBy}
use Rattle.ms_replay.specs.declared.standing.Standing.{Standing}
use Rattle.ms_replay.specs.declared.standing.Standing.TheVariants.{Unseen, Seen, Chosen, Split}
use Rattle.ms_replay.specs.Laws.{AreInRange, AreAmong}
use Rattle.ms_replay.specs.Standings.{IsNoLater, IsGreatestVote, IsFirstChosen, IsOnlyChosen, IsStanding}
use Rattle.ms_replay.proofs.Agreeing.{one_took, none_taken}
use Rattle.ms_replay.proofs.Groups.{ballots_meet, texts_meet}

-- an entry's spelling is read again
abbrev pub SpellsOnce : Type 0
SpellsOnce = (e : Entry) → IsEntry e → entry_at (entry_text e) ≡ Some e

-- entries of one spelling are one
same_entry : (e f : Entry) → SpellsOnce → IsEntry e → IsEntry f → entry_text e ≡ entry_text f → e ≡ f
same_entry e f again he hf t = let p : Some e ≡ Some f = sym (again e he) ∙ ap entry_at t ∙ again f hf in cc

-- what a service has taken is in its ranges
taken_ranges : (lists : ℕ → List Record) (s place k : ℕ) (b : Ballot) (e : Entry) → AreInRange lists → IsTaken (lists s) place k b e → IsEntry e
taken_ranges lists s place k b e ranges t = (ranges s place (Accept k b e) t.stands).2

chosen_ranges : (lists : ℕ → List Record) (voters : List ℕ) (k : ℕ) (e : Entry) → AreInRange lists → ChosenBy lists voters k e → IsEntry e
chosen_ranges lists voters k e ranges c = let o = one_took lists voters k e c in taken_ranges lists o.service o.place k c.ballot e ranges o.taken

-- two entries of which none is later have one spelling
pub no_later_meet : (b c : Ballot) (e f : Entry) → IsNoLater b e c f → IsNoLater c f b e → entry_text e ≡ entry_text f
no_later_meet b c e f l m =
    let same : c ≡ b = ballots_meet b c l.0 m.0 in
    texts_meet (entry_text e) (entry_text f) (m.1 (sym same)) (l.1 same)

pub first_meet : (lists : ℕ → List Record) (voters : List ℕ) (k : ℕ) (but : Option Entry) (e f : Entry) → IsFirstChosen lists voters k but e → IsFirstChosen lists voters k but f → entry_text e ≡ entry_text f
first_meet lists voters k but e f h g = no_later_meet h.chosen.ballot g.chosen.ballot e f (h.first f g.chosen g.differs) (g.first e h.chosen h.differs)

first_same : (lists : ℕ → List Record) (voters : List ℕ) (k : ℕ) (but : Option Entry) (e f : Entry) → SpellsOnce → AreInRange lists → IsFirstChosen lists voters k but e → IsFirstChosen lists voters k but f → e ≡ f
first_same lists voters k but e f again ranges h g =
    same_entry e f again (chosen_ranges lists voters k e ranges h.chosen) (chosen_ranges lists voters k f ranges g.chosen) (first_meet lists voters k but e f h g)

vote_same : (lists : ℕ → List Record) (services : List ℕ) (k : ℕ) (v w : Vote) → SpellsOnce → AreInRange lists → IsGreatestVote lists services k v → IsGreatestVote lists services k w → v ≡ w
vote_same lists services k v w again ranges h g =
    let same : w.ballot ≡ v.ballot = ballots_meet v.ballot w.ballot (g.greatest h.service h.place v.ballot v.entry h.one h.taken) (h.greatest g.service g.place w.ballot w.entry g.one g.taken) in
    let low = h.least g.service g.place w.entry g.one (subst (λ (b : Ballot). IsTaken (lists g.service) g.place k b w.entry) same g.taken) in
    let high = g.least h.service h.place v.entry h.one (subst (λ (b : Ballot). IsTaken (lists h.service) h.place k b v.entry) (sym same) h.taken) in
    let entry : v.entry ≡ w.entry =
    same_entry v.entry w.entry again (taken_ranges lists h.service h.place k v.ballot v.entry ranges h.taken) (taken_ranges lists g.service g.place k w.ballot w.entry ranges g.taken)
    (texts_meet (entry_text v.entry) (entry_text w.entry) high low) in
    let ballot : v.ballot ≡ w.ballot = sym same in
    λ i. record { ballot = ballot i; entry = entry i }

only_no_split : (lists : ℕ → List Record) (voters : List ℕ) (k : ℕ) (entry first second : Entry) → IsOnlyChosen lists voters k entry → IsFirstChosen lists voters k None first → IsFirstChosen lists voters k (Some first) second → ⊥
only_no_split lists voters k entry first second only h g = g.differs (only second g.chosen ∙ sym (only first h.chosen))

pub standings_meet : (lists : ℕ → List Record) (services voters : List ℕ) (k : ℕ) (a b : Standing) → SpellsOnce → AreInRange lists → AreAmong services voters
    → IsStanding lists services voters k a → IsStanding lists services voters k b → a ≡ b
standings_meet lists services voters k Unseen Unseen again ranges among h g = refl
standings_meet lists services voters k Unseen (Seen w) again ranges among h g = absurd (h g.0.service g.0.place w.ballot w.entry g.0.one g.0.taken)
standings_meet lists services voters k Unseen (Chosen f) again ranges among h g = absurd (none_taken lists services voters k f among h g.0)
standings_meet lists services voters k Unseen (Split f s) again ranges among h g = absurd (none_taken lists services voters k f among h g.0.chosen)
standings_meet lists services voters k (Seen v) Unseen again ranges among h g = absurd (g h.0.service h.0.place v.ballot v.entry h.0.one h.0.taken)
standings_meet lists services voters k (Seen v) (Seen w) again ranges among h g = ap (λ (x : Vote). Seen x) (vote_same lists services k v w again ranges h.0 g.0)
standings_meet lists services voters k (Seen v) (Chosen f) again ranges among h g = absurd (h.1 f g.0)
standings_meet lists services voters k (Seen v) (Split f s) again ranges among h g = absurd (h.1 f g.0.chosen)
standings_meet lists services voters k (Chosen e) Unseen again ranges among h g = absurd (none_taken lists services voters k e among g h.0)
standings_meet lists services voters k (Chosen e) (Seen w) again ranges among h g = absurd (g.1 e h.0)
standings_meet lists services voters k (Chosen e) (Chosen f) again ranges among h g = ap (λ (x : Entry). Chosen x) (g.1 e h.0)
standings_meet lists services voters k (Chosen e) (Split f s) again ranges among h g = absurd (only_no_split lists voters k e f s h.1 g.0 g.1)
standings_meet lists services voters k (Split e s) Unseen again ranges among h g = absurd (none_taken lists services voters k e among g h.0.chosen)
standings_meet lists services voters k (Split e s) (Seen w) again ranges among h g = absurd (g.1 e h.0.chosen)
standings_meet lists services voters k (Split e s) (Chosen f) again ranges among h g = absurd (only_no_split lists voters k f e s g.1 h.0 h.1)
standings_meet lists services voters k (Split e s) (Split f t) again ranges among h g =
    let first : e ≡ f = first_same lists voters k None e f again ranges h.0 g.0 in
    let second : s ≡ t = first_same lists voters k (Some f) s t again ranges (subst (λ (x : Entry). IsFirstChosen lists voters k (Some x) s) first h.1) g.1 in
    λ i. Split (first i) (second i)

-- ---- what is read of bytes is in its ranges

one_more_ranges : (rest : List Record) (o : Option Record) → ((r : Record) → o ≡ Some r → IsRecord r) → ((place : ℕ) (r : Record) → slice_get rest place ≡ Some r → IsRecord r)
    → (place : ℕ) (r : Record) → slice_get (with_record o rest) place ≡ Some r → IsRecord r
one_more_ranges rest None own later place r g = later place r g
one_more_ranges rest (Some q) own later zero r g = let same : q ≡ r = cc in subst (λ (x : Record). IsRecord x) same (own q refl)
one_more_ranges rest (Some q) own later (suc place) r g = later place r g

read_ranges : (texts : List (List ℕ)) → ((text : List ℕ) (r : Record) → IsBytes text → record_at text ≡ Some r → IsRecord r × (text ≡ record_text r))
    → ((i : ℕ) (text : List ℕ) → slice_get texts i ≡ Some text → IsBytes text) → (place : ℕ) (r : Record) → slice_get (votes_of texts) place ≡ Some r → IsRecord r
read_ranges [] read bytes place r g = absurd (none-some r g)
read_ranges (text ∷ texts) read bytes place r g =
    one_more_ranges (votes_of texts) (record_at text) (λ q e. (read text q (bytes 0 text refl) e).0) (read_ranges texts read (λ i t at. bytes (suc i) t at)) place r g

pub all_in_range : (texts : ℕ → List (List ℕ)) → ((text : List ℕ) (r : Record) → IsBytes text → record_at text ≡ Some r → IsRecord r × (text ≡ record_text r))
    → ((s i : ℕ) (text : List ℕ) → slice_get (texts s) i ≡ Some text → IsBytes text) → AreInRange (λ s. votes_of (texts s))
all_in_range texts read bytes s place r g = read_ranges (texts s) read (bytes s) place r g
