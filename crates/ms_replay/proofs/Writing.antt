-- What is written at one position of a tally, and taken back.
use Rattle.std.proofs.Common.{◌≡◌, ◌≢◌, ℕ, zero, suc, ◌<◌, ◌≤◌, Bool, true, false, cond, List, [], ◌∷◌, ◌++◌, Option, Some, None, ◌⊎◌, inl, inr, refl, sym, ap, ◌∙◌, subst, slice_get, length, get_or, set, replicate, arith}
use Rattle.std.specs.Prelude.{Result, Ok, Err, OnErr}
use Rattle.std.specs.BTreeMap.{is_at, insert_entry}
use Rattle.std.specs.List.{insert, remove}
use Rattle.std.specs.Map.{lookup, remove_entry, set_value}
use Rattle.std.specs.Option.{unwrap_or}
use Rattle.std.specs.Ordering.{nat_cmp, is_eq, match_ordering}
use Rattle.std.specs.declared.cmp.Ordering.{Ordering}
use Rattle.std.specs.declared.cmp.Ordering.TheVariants.{Less, Equal, Greater}
use Rattle.std.proofs.lemmas.Bool.{cases_eq}
use Rattle.std.proofs.lemmas.List.{get_or-set_same, get_or-set_other, length-set, length-replicate, set-get_or}
use Rattle.ms_record.specs.declared.ballot.Ballot.{Ballot}
use Rattle.ms_record.specs.declared.record.Record.{Record}
use Rattle.ms_record.specs.declared.record.Record.TheVariants.{Prepare, Accept}
use Rattle.ms_record.specs.Reading.{record_at}
use Rattle.ms_record.specs.Records.{record_text}
use Rattle.ms_record.specs.Votes.{position_of}
use Rattle.ms_replay.specs.declared.place.Put.{Put}
use Rattle.ms_replay.specs.declared.voted.Voted.{Voted}
use Rattle.ms_replay.specs.Places.{AreInOrder, AreKept, FitsAt, IsPlace, IsPutAt, IsPutIn, IsRaised, IsVoteAt, IsVoteOf, all_taken_back, blank, lowered, maybe_taken_back, without_vote}
use Rattle.ms_replay.specs.Tallies.{PlaceView, TallyView, AreSorted, AreVotes, found_at, nothing_there, place_at, top_of}
use Rattle.ms_replay.proofs.PutIn.{insert_cases, taken_out}
use Rattle.ms_replay.proofs.ReadingOn.{is_at_other, is_at_same}

-- ---- one place

-- a blank place shows nothing
pub blank_top : (n q : ℕ) → top_of (blank n) q ≡ None
blank_top zero q = refl
blank_top (suc n) zero = refl
blank_top (suc n) (suc q) = blank_top n q

pub raised_by : (s : ℕ) (b : Ballot) (vote : Option Voted) (at : Option ℕ) (old new : PlaceView) → s < length old.tops → new.tops ≡ set old.tops s (Some b) → IsPutIn vote at old.votes new.votes
    → IsRaised s b vote at old new
raised_by s b vote at old new l is put = record {
  top = ap (λ (ts : List (Option Ballot)). get_or ts s None) is ∙ get_or-set_same old.tops s (Some b) None l;
  others = λ q n. ap (λ (ts : List (Option Ballot)). get_or ts q None) is ∙ get_or-set_other old.tops s q (Some b) None n;
  votes = put;
}

-- a place that was blank
pub raised_blank : (n s : ℕ) (b : Ballot) (vote : Option Voted) (at : Option ℕ) (first new : PlaceView) → first ≡ blank n → s < n → new.tops ≡ set first.tops s (Some b) → IsPutIn vote at first.votes new.votes
    → IsRaised s b vote at nothing_there new
raised_blank n s b vote at first new start l is put =
    let wide : length first.tops ≡ n = ap (λ (p : PlaceView). length p.tops) start ∙ length-replicate n None in
    let h = raised_by s b vote at first new (omega (arith, wide)) is put in
    record {
      top = h.top;
      others = λ q m. h.others q m ∙ ap (λ (p : PlaceView). top_of p q) start ∙ blank_top n q;
      votes = subst (λ (vs : List Voted). IsPutIn vote at vs new.votes) (ap (λ (p : PlaceView). p.votes) start) put;
    }

-- each vote is an old one, or the one that was put in
put_from : (vote : Option Voted) (at : Option ℕ) (old new : List Voted) → IsPutIn vote at old new → (i : ℕ) (v : Voted) → slice_get new i ≡ Some v
    → ((q : ℕ) × (slice_get old q ≡ Some v)) ⊎ (vote ≡ Some v)
put_from None None old new h i v g = inl (i, ap (λ (vs : List Voted). slice_get vs i) (sym h) ∙ g)
put_from None (Some at) old new h i v g = absurd h
put_from (Some w) None old new h i v g = absurd h
put_from (Some w) (Some at) old new h i v g = elim (insert_cases old at w i v (ap (λ (vs : List Voted). slice_get vs i) (sym h.1) ∙ g)) [
  | inl o ↦ inl o
  | inr same ↦ inr (ap (λ (x : Voted). Some x) same)
]

fits : (n k : ℕ) (vote : Option Voted) (v : Voted) → IsVoteAt n k vote → vote ≡ Some v → FitsAt n k v
fits n k None v h e = (let q : None ≡ Some v = e in cc)
fits n k (Some w) v h e = subst (FitsAt n k) (let q : Some w ≡ Some v = e in cc) h

pub place_put : (n k s : ℕ) (b : Option Ballot) (vote : Option Voted) (at : Option ℕ) (old new : PlaceView) → IsPlace n k old → IsVoteAt n k vote → new.tops ≡ set old.tops s b → IsPutIn vote at old.votes new.votes
    → IsPlace n k new
place_put n k s b vote at old new h ok is put = record {
  wide = ap length is ∙ length-set old.tops s b ∙ h.wide;
  votes = λ i v g. elim (put_from vote at old.votes new.votes put i v g) [ inl o ↦ h.votes o.0 v o.1 | inr e ↦ (fits n k vote v ok e).vote ];
  here = λ i v g. elim (put_from vote at old.votes new.votes put i v g) [ inl o ↦ h.here o.0 v o.1 | inr e ↦ (fits n k vote v ok e).here ];
  known = λ i v g. elim (put_from vote at old.votes new.votes put i v g) [ inl o ↦ h.known o.0 v o.1 | inr e ↦ (fits n k vote v ok e).known ];
}

none_in : (i : ℕ) (v : Voted) → slice_get [] i ≡ Some v → ⊥
none_in i v g = (let q : None ≡ Some v = g in cc)

pub blank_place : (n k : ℕ) → IsPlace n k (blank n)
blank_place n k = record {
  wide = length-replicate n None;
  votes = λ i v g. absurd (none_in i v g);
  here = λ i v g. absurd (none_in i v g);
  known = λ i v g. absurd (none_in i v g);
}

pub blank_sorted : (n : ℕ) → AreSorted (blank n).votes
blank_sorted n = λ k d from within. absurd (omega arith)

-- ---- all places

-- this stands at the position, and nothing else has changed
abbrev pub Writes : ℕ → PlaceView → List (ℕ × PlaceView) → List (ℕ × PlaceView) → Type 0
Writes k p old new = (q : ℕ) → found_at new q ≡ cond (is_at (nat_cmp k) q) (Some p) (found_at old q)

written_here : (k q : ℕ) (p : PlaceView) (old new : List (ℕ × PlaceView)) → Writes k p old new → k ≡ q → found_at new q ≡ Some p
written_here k q p old new h e = h q ∙ ap (λ (b : Bool). cond b (Some p) (found_at old q)) (is_at_same k q e)

written_other : (k q : ℕ) (p : PlaceView) (old new : List (ℕ × PlaceView)) → Writes k p old new → (k ≡ q → ⊥) → found_at new q ≡ found_at old q
written_other k q p old new h n = h q ∙ ap (λ (b : Bool). cond b (Some p) (found_at old q)) (is_at_other k q n)

pub put_at : (s k : ℕ) (b : Ballot) (vote : Option Voted) (at : Option ℕ) (was p : PlaceView) (old new : List (ℕ × PlaceView)) → Writes k p old new → place_at old k ≡ was → IsRaised s b vote at was p
    → IsPutAt s k b vote at old new
put_at s k b vote at was p old new h is raised = record {
  here = subst (λ (x : PlaceView). IsRaised s b vote at x (place_at new k)) (sym is)
      (subst (λ (y : PlaceView). IsRaised s b vote at was y) (sym (ap (λ (o : Option PlaceView). unwrap_or o nothing_there) (written_here k k p old new h refl))) raised);
  elsewhere = λ q n. ap (λ (o : Option PlaceView). unwrap_or o nothing_there) (written_other k q p old new h (λ e. n (sym e)));
}

-- what holds of each place
each_written : (P : ℕ → PlaceView → Type 0) (k : ℕ) (p : PlaceView) (old new : List (ℕ × PlaceView)) → Writes k p old new → P k p → ((q : ℕ) (x : PlaceView) → found_at old q ≡ Some x → P q x)
    → (q : ℕ) (x : PlaceView) → found_at new q ≡ Some x → P q x
each_written P k p old new h here all q x g = elim (cases_eq k q) [
  | inl e ↦
      let two : Some p ≡ Some x = sym (written_here k q p old new h e) ∙ g in
      let one : p ≡ x = cc in
      subst (P q) one (subst (λ (n : ℕ). P n p) e here)
  | inr n ↦ all q x (sym (written_other k q p old new h n) ∙ g)
]

pub kept_written : (k : ℕ) (p : PlaceView) (t u : TallyView) → u.services ≡ t.services → Writes k p t.places u.places → IsPlace t.services k p → AreKept t → AreKept u
kept_written k p t u same h here all =
    subst (λ (n : ℕ). (q : ℕ) (x : PlaceView) → found_at u.places q ≡ Some x → IsPlace n q x) (sym same) (each_written (IsPlace t.services) k p t.places u.places h here all)

pub order_written : (k : ℕ) (p : PlaceView) (t u : TallyView) → Writes k p t.places u.places → AreSorted p.votes → AreInOrder t → AreInOrder u
order_written k p t u h here all = each_written (λ q x. AreSorted x.votes) k p t.places u.places h here all

-- ---- taking back

same_key : (k : ℕ) → is_eq (nat_cmp k k) ≡ true
same_key k = is_at_same k k refl

-- an entry that is put in and taken out
pub back_begun : (k : ℕ) (p : PlaceView) (es : List (ℕ × PlaceView)) → found_at es k ≡ None → remove_entry (is_at (nat_cmp k)) (insert_entry nat_cmp es k p) ≡ es
back_begun k p [] none = ap (λ (b : Bool). cond b [] ((k, p) ∷ [])) (same_key k)
back_begun k p (e ∷ es) none = step (back_begun k p es) (nat_cmp k e.0) refl none
  where
    step : (found_at es k ≡ None → remove_entry (is_at (nat_cmp k)) (insert_entry nat_cmp es k p) ≡ es) → (o : Ordering) → nat_cmp k e.0 ≡ o → cond (is_eq o) (Some e.1) (found_at es k) ≡ None
        → remove_entry (is_at (nat_cmp k)) (match_ordering o ((k, p) ∷ e ∷ es) ((e.0, p) ∷ es) (e ∷ insert_entry nat_cmp es k p)) ≡ e ∷ es
    step rest Less is none = ap (λ (b : Bool). cond b (e ∷ es) ((k, p) ∷ remove_entry (is_at (nat_cmp k)) (e ∷ es))) (same_key k)
    step rest Equal is none = (let q : Some e.1 ≡ None = none in cc)
    step rest Greater is none =
        ap (λ (o : Ordering). cond (is_eq o) (insert_entry nat_cmp es k p) (e ∷ remove_entry (is_at (nat_cmp k)) (insert_entry nat_cmp es k p))) is
        ∙ ap (λ (xs : List (ℕ × PlaceView)). e ∷ xs) (rest none)

-- a value that is written and then written back
pub back_raised : (test : ℕ → Bool) (p q : PlaceView) (es : List (ℕ × PlaceView)) → lookup test es ≡ Some q → set_value test (set_value test es p) q ≡ es
back_raised test p q [] h = refl
back_raised test p q (e ∷ es) h = step (back_raised test p q es) (test e.0) refl h
  where
    step : (lookup test es ≡ Some q → set_value test (set_value test es p) q ≡ es) → (b : Bool) → test e.0 ≡ b → cond b (Some e.1) (lookup test es) ≡ Some q → set_value test (cond b ((e.0, p) ∷ es) (e ∷ set_value test es p)) q ≡ e ∷ es
    step rest true is h =
        ap (λ (b : Bool). cond b ((e.0, q) ∷ es) ((e.0, p) ∷ set_value test es q)) is
        ∙ (let two : Some e.1 ≡ Some q = h in let one : e.1 ≡ q = cc in ap (λ (x : PlaceView). (e.0, x) ∷ es) (sym one))
    step rest false is h =
        ap (λ (b : Bool). cond b ((e.0, q) ∷ set_value test es p) (e ∷ set_value test (set_value test es p) q)) is
        ∙ ap (λ (xs : List (ℕ × PlaceView)). e ∷ xs) (rest h)

set_back : (ts : List (Option Ballot)) (s : ℕ) (b : Option Ballot) → set (set ts s b) s (get_or ts s None) ≡ ts
set_back [] s b = refl
set_back (t ∷ ts) zero b = refl
set_back (t ∷ ts) (suc s) b = ap (λ (xs : List (Option Ballot)). t ∷ xs) (set_back ts s b)

pub back_place : (s : ℕ) (b : Option Ballot) (vote : Option Voted) (at : Option ℕ) (old new : PlaceView) (before : Option Ballot) → before ≡ top_of old s → new.tops ≡ set old.tops s b → IsPutIn vote at old.votes new.votes
    → record { tops = set new.tops s before; votes = without_vote at new.votes } ≡ old
back_place s b vote at old new before was is put =
    let tops : set new.tops s before ≡ old.tops = ap (λ (ts : List (Option Ballot)). set ts s before) is ∙ ap (set (set old.tops s b) s) was ∙ set_back old.tops s b in
    let votes : without_vote at new.votes ≡ old.votes = taken_out vote at old.votes new.votes put in
    λ i. record { tops = tops i; votes = votes i }

-- the places before a later record of the position was put there
pub back_at : (k s : ℕ) (put : Put) (b : Option Ballot) (vote : Option Voted) (old new : PlaceView) (es fs : List (ℕ × PlaceView)) → found_at es k ≡ Some old → fs ≡ set_value (is_at (nat_cmp k)) es new → Writes k new es fs
    → put.before ≡ top_of old s → new.tops ≡ set old.tops s b → IsPutIn vote put.vote old.votes new.votes → set_value (is_at (nat_cmp k)) fs (lowered s put (place_at fs k)) ≡ es
back_at k s put b vote old new es fs found is writes before tops votes =
    let here : place_at fs k ≡ new = ap (λ (o : Option PlaceView). unwrap_or o nothing_there) (written_here k k new es fs writes refl) in
    let back : lowered s put (place_at fs k) ≡ old = ap (lowered s put) here ∙ back_place s b vote put.vote old new put.before before tops votes in
    ap (set_value (is_at (nat_cmp k)) fs) back ∙ ap (λ (xs : List (ℕ × PlaceView)). set_value (is_at (nat_cmp k)) xs old) is ∙ back_raised (is_at (nat_cmp k)) new old es found

-- nothing is written where nothing stands
pub set_absent : (test : ℕ → Bool) (p : PlaceView) (es : List (ℕ × PlaceView)) → lookup test es ≡ None → set_value test es p ≡ es
set_absent test p [] h = refl
set_absent test p (e ∷ es) h = step (set_absent test p es) (test e.0) h
  where
    step : (lookup test es ≡ None → set_value test es p ≡ es) → (b : Bool) → cond b (Some e.1) (lookup test es) ≡ None → cond b ((e.0, p) ∷ es) (e ∷ set_value test es p) ≡ e ∷ es
    step rest true h = (let q : Some e.1 ≡ None = h in cc)
    step rest false h = ap (λ (xs : List (ℕ × PlaceView)). e ∷ xs) (rest h)

-- the last is taken back first
pub all_back_push : (s : ℕ) (puts : List (Option Put)) (put : Option Put) (es : List (ℕ × PlaceView)) → all_taken_back s (puts ++ put ∷ []) es ≡ all_taken_back s puts (maybe_taken_back s put es)
all_back_push s [] put es = refl
all_back_push s (p ∷ puts) put es = ap (maybe_taken_back s p) (all_back_push s puts put es)

-- ---- votes of records

pub vote_fits : (n s k : ℕ) (text : List ℕ) (r : Record) (vote : Option Voted) → s < n → text ≡ record_text r → record_at text ≡ Some r → k ≡ position_of r → IsVoteOf s text r vote → IsVoteAt n k vote
vote_fits n s k text (Prepare q b) vote l spells reads here is = subst (IsVoteAt n k) (sym is) tt
vote_fits n s k text (Accept q b e) vote l spells reads here is =
    subst (IsVoteAt n k) (sym is) (record { vote = record { entry = e; reads = reads; spells = spells }; here = sym here; known = l })

pub on_err : {X Y : Type 0} (r : Result X Y) (P : Type 0) → P → OnErr r P
on_err (Ok x) P h = tt
on_err (Err e) P h = h
