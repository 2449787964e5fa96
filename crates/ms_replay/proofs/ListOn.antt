-- A tally goes on by the texts of a list, and by whole lists.
use Rattle.std.proofs.Common.{◌≡◌, ℕ, ◌+◌, ◌<◌, ◌≤◌, Bool, true, false, cond, List, [], ◌∷◌, ◌++◌, Option, Some, None, inl, inr, refl, sym, ap, ◌∙◌, subst, slice_get, length, take, get_or, ltb, eqb, append_assoc, arith}
use Rattle.std.proofs.lemmas.Bool.{cases_eq, cases_lt}
use Rattle.std.proofs.lemmas.Bool.Decides.{nat_tests}
use Rattle.std.proofs.lemmas.List.{take_all}
use Rattle.ms_record.specs.declared.ballot.Ballot.{Ballot}
use Rattle.ms_record.specs.declared.record.Record.{Record}
use Rattle.ms_record.specs.declared.record.Record.TheVariants.{Accept}
use Rattle.ms_record.specs.Ballots.{IsAtMost}
use Rattle.ms_record.specs.Reading.{record_at, votes_of, with_record}
use Rattle.ms_record.specs.Records.{IsRecord}
use Rattle.ms_record.specs.Votes.{position_of, ballot_of}
use Rattle.ms_replay.specs.declared.voted.Voted.{Voted}
use Rattle.ms_replay.specs.Audits.{lists_of}
use Rattle.ms_replay.specs.Places.{IsPutAt, IsVoteOf, position_where}
use Rattle.ms_replay.specs.Tallies.{PlaceView, TallyView, IsPlaceOf, IsTallyOf, IsVotedAt, goes_on, place_at, top_of}
use Rattle.ms_replay.proofs.PlaceOn.{tally_lists, tally_put, voted_put}
use Rattle.ms_replay.proofs.ReadingOn.{votes_more}

-- ---- one record

-- a record that counts, by its position and ballot
pub record Counts (lists : ℕ → List Record) (s : ℕ) (r : Record) (t : TallyView) (p : ℕ) (b : Ballot) : Type 0 where
  pub position : p ≡ position_of r
  pub ballot : b ≡ ballot_of r
  pub up : (c : Ballot) → top_of (place_at t.places p) s ≡ Some c → IsAtMost c b

up_by : (lists : ℕ → List Record) (s : ℕ) (r : Record) (t : TallyView) (p : ℕ) (b : Ballot) → Counts lists s r t p b → (c : Ballot) → top_of (place_at t.places (position_of r)) s ≡ Some c → IsAtMost c (ballot_of r)
up_by lists s r t p b h c e = subst (IsAtMost c) h.ballot (h.up c (ap (λ (n : ℕ). top_of (place_at t.places n) s) h.position ∙ e))

put_by : (s : ℕ) (r : Record) (t u : TallyView) (p : ℕ) (b : Ballot) (vote : Option Voted) (at : Option ℕ) → p ≡ position_of r → b ≡ ballot_of r → IsPutAt s p b vote at t.places u.places → IsPutAt s (position_of r) (ballot_of r) vote at t.places u.places
put_by s r t u p b vote at ep eb h =
    subst (λ (n : ℕ). IsPutAt s n (ballot_of r) vote at t.places u.places) ep (subst (λ (c : Ballot). IsPutAt s p c vote at t.places u.places) eb h)

pub tally_counts : (lists : ℕ → List Record) (s : ℕ) (r : Record) (text : List ℕ) (t u : TallyView) (p : ℕ) (b : Ballot) (vote : Option Voted) (at : Option ℕ) → Counts lists s r t p b → s < t.services → u.services ≡ t.services
    → IsRecord r → IsVoteOf s text r vote → record_at text ≡ Some r → IsPutAt s p b vote at t.places u.places → IsTallyOf lists t → IsTallyOf (goes_on lists s (r ∷ [])) u
tally_counts lists s r text t u p b vote at c l same ok is reads put h =
    tally_put lists s r text t u vote at l same ok is reads (up_by lists s r t p b c) (put_by s r t u p b vote at c.position c.ballot put) h

pub voted_counts : (lists : ℕ → List Record) (s : ℕ) (r : Record) (text : List ℕ) (t u : TallyView) (p q : ℕ) (b : Ballot) (vote : Option Voted) (at : Option ℕ) → Counts lists s r t p b → s < t.services → q ≡ p
    → IsVoteOf s text r vote → IsPutAt s p b vote at t.places u.places → IsTallyOf lists t → IsVotedAt (lists s) (Some r) (position_where q at)
voted_counts lists s r text t u p q b vote at c l here is put h =
    let by = put_by s r t u p b vote at c.position c.ballot put in
    voted_put s (lists s) r text (place_at t.places (position_of r)) (place_at u.places (position_of r)) vote at q (here ∙ c.position) by.here is (up_by lists s r t p b c) (h.places s (position_of r) l)

-- ---- one list

-- a list that goes on twice
goes_on_twice : (lists : ℕ → List Record) (s : ℕ) (xs ys : List Record) (q : ℕ) → goes_on (goes_on lists s xs) s ys q ≡ goes_on lists s (xs ++ ys) q
goes_on_twice lists s xs ys q = twice (eqb q s)
  where
    twice : (b : Bool) → cond b (cond b (lists q ++ xs) (lists q) ++ ys) (cond b (lists q ++ xs) (lists q)) ≡ cond b (lists q ++ (xs ++ ys)) (lists q)
    twice true = append_assoc (lists q) xs ys
    twice false = refl

pub list_more : (lists : ℕ → List Record) (s : ℕ) (more : List (List ℕ)) (i : ℕ) (item text : List ℕ) (t : TallyView) → i < length more → item ≡ get_or more i item → text ≡ item
    → IsTallyOf (goes_on (goes_on lists s (votes_of (take i more))) s (with_record (record_at text) [])) t → IsTallyOf (goes_on lists s (votes_of (take (i + 1) more))) t
list_more lists s more i item text t l at is h =
    let same : votes_of (take i more) ++ with_record (record_at text) [] ≡ votes_of (take (i + 1) more) =
    ap (λ (x : List ℕ). votes_of (take i more) ++ with_record (record_at x) []) (is ∙ at) ∙ sym (votes_more more i item [] l) in
    subst (λ (rs : List Record). IsTallyOf (goes_on lists s rs) t) same
    (tally_lists (goes_on (goes_on lists s (votes_of (take i more))) s (with_record (record_at text) [])) (goes_on lists s (votes_of (take i more) ++ with_record (record_at text) [])) t
    (goes_on_twice lists s (votes_of (take i more)) (with_record (record_at text) [])) h)

pub list_ends : (lists : ℕ → List Record) (s : ℕ) (more : List (List ℕ)) (i : ℕ) (t : TallyView) → length more ≤ i → IsTallyOf (goes_on lists s (votes_of (take i more))) t → IsTallyOf (goes_on lists s (votes_of more)) t
list_ends lists s more i t all h = subst (λ (ts : List (List ℕ)). IsTallyOf (goes_on lists s (votes_of ts)) t) (take_all i more all) h

-- ---- all lists

-- the lists below a number, and none behind it
abbrev pub lists_below : ℕ → (ℕ → List Record) → ℕ → List Record
lists_below n lists q = cond (ltb q n) (lists q) []

pub lists_more : (lists : ℕ → List Record) (n : ℕ) (t : TallyView) → IsTallyOf (goes_on (lists_below n lists) n (lists n)) t → IsTallyOf (lists_below (n + 1) lists) t
lists_more lists n t h = tally_lists (goes_on (lists_below n lists) n (lists n)) (lists_below (n + 1) lists) t one_more h
  where
    below : (q m : ℕ) → (q ≡ m → ⊥) → ltb q m ≡ ltb q (m + 1)
    below q m a = elim (cases_lt q m) [
      | inl l ↦ (let f : ltb q m ≡ true = grind (arith, nat_tests) in let g : ltb q (m + 1) ≡ true = grind (arith, nat_tests) in f ∙ sym g)
      | inr l ↦ (let f : ltb q m ≡ false = grind (arith, nat_tests) in let g : ltb q (m + 1) ≡ false = grind (arith, nat_tests) in f ∙ sym g)
    ]

    one_more : (q : ℕ) → goes_on (lists_below n lists) n (lists n) q ≡ lists_below (n + 1) lists q
    one_more q = elim (cases_eq q n) [
      | inl e ↦
          ap (λ (b : Bool). cond b (cond (ltb q n) (lists q) [] ++ lists n) (cond (ltb q n) (lists q) [])) (let f : eqb q n ≡ true = grind (arith, nat_tests) in f)
          ∙ ap (λ (b : Bool). cond b (lists q) [] ++ lists n) (let f : ltb q n ≡ false = grind (arith, nat_tests) in f)
          ∙ ap lists (sym e)
          ∙ ap (λ (b : Bool). cond b (lists q) []) (let f : true ≡ ltb q (n + 1) = grind (arith, nat_tests) in f)
      | inr a ↦
          ap (λ (b : Bool). cond b (cond (ltb q n) (lists q) [] ++ lists n) (cond (ltb q n) (lists q) [])) (let f : eqb q n ≡ false = grind (arith, nat_tests) in f)
          ∙ ap (λ (b : Bool). cond b (lists q) []) (let f : ltb q n ≡ ltb q (n + 1) = below q n a in f)
    ]

-- above the last list are no more
pub lists_end : (lists : ℕ → List Record) (n : ℕ) (t : TallyView) → t.services ≡ n → IsTallyOf (lists_below n lists) t → IsTallyOf lists t
lists_end lists n t same h = record {
  positions = λ s place r l g. h.positions s place r l (ap (λ (rs : List Record). slice_get rs place) (low s l) ∙ g);
  places = λ s k l. subst (λ (rs : List Record). IsPlaceOf s rs k (place_at t.places k)) (low s l) (h.places s k l);
}
  where
    low : (s : ℕ) → s < t.services → lists_below n lists s ≡ lists s
    low s l = ap (λ (b : Bool). cond b (lists s) []) (let f : ltb s n ≡ true = grind (arith, nat_tests) in f)

-- of no records nothing was read
pub nothing_read : (lists : ℕ → List Record) (t : TallyView) → ((q : ℕ) → lists q ≡ []) → t.places ≡ [] → IsTallyOf lists t
nothing_read lists t none empty = tally_lists (λ s. []) lists t (λ q. sym (none q)) (record {
  positions = λ s place r l g. (let q : None ≡ Some r = g in cc);
  places = λ s k l. subst (λ (es : List (ℕ × PlaceView)). IsPlaceOf s [] k (place_at es k)) (sym empty) (record {
    top = λ i r g. (let q : None ≡ Some r = g in cc);
    taken = λ b e w. absurd (let q : None ≡ Some w.vote = w.stands in cc);
    kept = λ p b e u. (let q : None ≡ Some (Accept k b e) = u.stands in cc);
  });
})
