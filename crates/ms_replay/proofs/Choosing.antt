-- What the votes of a tally show is what the lists show.
use Rattle.std.proofs.Common.{◌≡◌, ℕ, ◌+◌, ◌<◌, ◌≤◌, Bool, true, false, ◌&&◌, cond, List, [], ◌∷◌, Option, Some, None, refl, sym, ap, ◌∙◌, subst, slice_get, length, count_by, zero-add, arith}
use Rattle.std.specs.Prelude.{bytes_eq, ◌==◌}
use Rattle.std.specs.Cmp.Lexicographic.{same_text}
use Rattle.std.specs.List.{Contains, list_any}
use Rattle.std.proofs.lemmas.Bool.Decides.{nat_tests}
use Rattle.std.proofs.lemmas.List.FromFn.{length-range_with_len, get_or-range_with_len}
use Rattle.std.proofs.lemmas.List.Sums.{sum_by-cons}
use Rattle.std.proofs.lemmas.Option.{slice_get_within, slice_get-get_or, get_or_from_slice_get}
use Rattle.ms_record.specs.declared.ballot.Ballot.{Ballot}
use Rattle.ms_record.specs.declared.ballot.Vote.{Vote}
use Rattle.ms_record.specs.declared.entry.Entry.{Entry}
use Rattle.ms_record.specs.declared.record.Record.{Record}
use Rattle.ms_record.specs.declared.record.Record.TheVariants.{Accept}
use Rattle.ms_record.specs.Ballots.{IsAtMost}
use Rattle.ms_record.specs.Reading.{record_at}
use Rattle.ms_record.specs.Records.{record_text}
use Rattle.ms_record.specs.Votes.{IsTaken, ChosenBy, services_below}
use Rattle.ms_replay.specs.declared.standing.Standing.{Standing}
use Rattle.ms_replay.specs.declared.standing.Standing.TheVariants.{Unseen, Seen, Chosen, Split}
use Rattle.ms_replay.specs.declared.voted.Voted.{Voted}
use Rattle.ms_replay.specs.Standings.{IsNoLater, NoneTaken, IsGreatestVote, NoneChosen, IsFirstChosen, IsStanding}
use Rattle.ms_replay.specs.Places.{AreKept}
use Rattle.ms_replay.specs.Tallies.{TallyView, AreVotes, AreKnown, HasVote, IsTallyOf, place_at}
use Rattle.ms_replay.specs.Winners.{has_text, IsWinner, IsFirstWinner, IsGreatestHere, StandsBeside}
use Rattle.ms_replay.proofs.Groups.{fixes, bytes_same, number_is, entries_order}
use Rattle.ms_replay.proofs.PlacesKept.{kept_at}
use Rattle.ms_base.specs.Options.{both}
use Rattle.ms_replay.proofs.ListPlaces.{any_at, at_any, bool_same, count_congr_in}

-- the voters are the services below n
pub below_voter : (n s : ℕ) → s < n → Contains (services_below n) s
below_voter n s l = (s, omega (arith, length-range_with_len 0 n), get_or-range_with_len 0 n s s l ∙ zero-add s)

pub voter_below : (n s : ℕ) → Contains (services_below n) s → s < n
voter_below n s h = let l : h.0 < n = omega (arith, length-range_with_len 0 n, h.1) in let e = get_or-range_with_len 0 n h.0 s l in let f = h.2 in omega (arith, e, f)

-- the tally's votes at a position, and the lists
pub record ShowsAt (lists : ℕ → List Record) (n k : ℕ) (part : List Voted) : Type 0 where
  pub votes : AreVotes part
  pub known : AreKnown n part
  pub taken : (i : ℕ) (v : Voted) (b : Ballot) (e : Entry) → slice_get part i ≡ Some v → record_at v.text ≡ Some (Accept k b e) → (p : ℕ) × IsTaken (lists v.service) p k b e
  pub kept : (s p : ℕ) (b : Ballot) (e : Entry) → s < n → IsTaken (lists s) p k b e → HasVote part s k b e

pub shows_here : (lists : ℕ → List Record) (t : TallyView) (k : ℕ) (part : List Voted) → part ≡ (place_at t.places k).votes → IsTallyOf lists t → AreKept t → ShowsAt lists t.services k part
shows_here lists t k part is tally kept =
    let place = kept_at t k kept in
    subst (ShowsAt lists t.services k) (sym is) (record {
      votes = place.votes;
      known = place.known;
      taken = λ i v b e g reads. (tally.places v.service k (place.known i v g)).taken b e (record { place = i; vote = v; stands = g; service_is = refl; reads = reads });
      kept = λ s p b e l taken. (tally.places s k l).kept p b e taken;
    })

text_is : (n k : ℕ) (lists : ℕ → List Record) (part : List Voted) (h : ShowsAt lists n k part) (i : ℕ) (v : Voted) (b : Ballot) (e : Entry) → slice_get part i ≡ Some v → record_at v.text ≡ Some (Accept k b e) → v.text ≡ record_text (Accept k b e)
text_is n k lists part h i v b e g reads = (fixes v k b e (h.votes i v g) reads).spells

-- a service that has a vote of the winner's text has taken it
text_taken : (n k : ℕ) (lists : ℕ → List Record) (part : List Voted) (h : ShowsAt lists n k part) (b : Ballot) (e : Entry) (text : List ℕ) → record_at text ≡ Some (Accept k b e) → (s : ℕ) → has_text part text s ≡ true
    → (s < n) × ((p : ℕ) × IsTaken (lists s) p k b e)
text_taken n k lists part h b e text reads s t =
    let a = any_at (λ (v : Voted). bytes_eq v.text text && (v.service == s)) part t in
    let two = both (bytes_eq a.1.text text) (a.1.service == s) a.3 in
    let of_s : a.1.service ≡ s = number_is a.1.service s two.1 in
    let same : a.1.text ≡ text = same_text a.1.text text (sym two.0) in
    (omega (arith, of_s, h.known a.0 a.1 a.2), subst (λ (q : ℕ). (p : ℕ) × IsTaken (lists q) p k b e) of_s (h.taken a.0 a.1 b e a.2 (ap record_at same ∙ reads)))

taken_text : (n k : ℕ) (lists : ℕ → List Record) (part : List Voted) (h : ShowsAt lists n k part) (b : Ballot) (e : Entry) (text : List ℕ) → text ≡ record_text (Accept k b e) → (s p : ℕ) → s < n → IsTaken (lists s) p k b e
    → has_text part text s ≡ true
taken_text n k lists part h b e text spells s p l t =
    let w = h.kept s p b e l t in
    let same : w.vote.text ≡ text = text_is n k lists part h w.place w.vote b e w.stands w.reads ∙ sym spells in
    at_any (λ (v : Voted). bytes_eq v.text text && (v.service == s)) part w.place w.vote w.stands
    (ap (λ (x : Bool). x && (w.vote.service == s)) (bytes_same w.vote.text text same) ∙ (let q : (w.vote.service == s) ≡ true = number_same w.vote.service s w.service_is in q))
  where
    number_same : (m q : ℕ) → m ≡ q → (m == q) ≡ true
    number_same m q e = grind (arith, nat_tests)

-- these are among the services below n
abbrev pub AreBelow : ℕ → List ℕ → Type 0
AreBelow n voters = (s : ℕ) → Contains voters s → s < n

-- the first m services are
pub first_below : (m n : ℕ) (voters : List ℕ) → voters ≡ services_below m → m ≤ n → AreBelow n voters
first_below m n voters are l s c = let below : s < m = voter_below m s (subst (λ (v : List ℕ). Contains v s) are c) in omega (arith, below, l)

-- whether the number is in the list
is_among : List ℕ → ℕ → Bool
is_among voters s = list_any (λ v. v == s) voters

is_in : (voters : List ℕ) (s : ℕ) → is_among voters s ≡ true → Contains voters s
unfolding is_among
is_in voters s h =
    let a = any_at (λ v. v == s) voters h in
    let l = slice_get_within voters a.0 a.1 a.2 in
    (a.0, l, get_or_from_slice_get voters a.0 a.1 s a.2 ∙ number_is a.1 s a.3)

in_is : (voters : List ℕ) (s : ℕ) → Contains voters s → is_among voters s ≡ true
unfolding is_among
in_is voters s c = at_any (λ v. v == s) voters c.0 s (slice_get-get_or voters c.0 s c.1 ∙ ap (λ (n : ℕ). Some n) c.2) (grind (arith, nat_tests))

-- a test of the voters, narrowed to them, counts as many
narrowed : (p : ℕ → Bool) (voters : List ℕ) → count_by (λ s. p s && is_among voters s) voters ≡ count_by p voters
narrowed p voters = count_congr_in (λ s. p s && is_among voters s) p voters
    (λ s c. bool_same (p s && is_among voters s) (p s) (λ h. (both (p s) (is_among voters s) h).0) (λ h. ap (λ (x : Bool). x && is_among voters s) h ∙ in_is voters s c))

pub winner_chosen : (n k : ℕ) (voters : List ℕ) (lists : ℕ → List Record) (part : List Voted) (b : Ballot) (e : Entry) → ShowsAt lists n k part → IsWinner part voters k b e → (c : ChosenBy lists voters k e) × (c.ballot ≡ b)
winner_chosen n k voters lists part b e h w = (
  record {
    ballot = b;
    part = λ s. has_text part w.vote.text s && is_among voters s;
    majority = record {
      within = λ s t. is_in voters s (both (has_text part w.vote.text s) (is_among voters s) t).1;
      more_than_half = omega (arith, w.majority, narrowed (has_text part w.vote.text) voters);
    };
    taken = λ s t. (text_taken n k lists part h b e w.vote.text w.reads s (both (has_text part w.vote.text s) (is_among voters s) t).0).1;
  },
  refl,
)

count_cons : (p : ℕ → Bool) (x : ℕ) (xs : List ℕ) → count_by p (x ∷ xs) ≡ cond (p x) 1 0 + count_by p xs
count_cons p x xs = sum_by-cons (λ s. cond (p s) 1 0) x xs

cond_le : (a b : Bool) → (a ≡ true → b ≡ true) → cond a 1 0 ≤ cond b 1 0
cond_le true true h = omega arith
cond_le true false h = (let q : false ≡ true = h refl in cc)
cond_le false b h = omega arith

count_le : (p q : ℕ → Bool) (xs : List ℕ) → ((s : ℕ) → p s ≡ true → q s ≡ true) → count_by p xs ≤ count_by q xs
count_le p q [] h = omega arith
count_le p q (x ∷ xs) h = omega (arith, count_cons p x xs, count_cons q x xs, cond_le (p x) (q x) (h x), count_le p q xs h)

pub count_some : (p : ℕ → Bool) (xs : List ℕ) → 0 < count_by p xs → (s : ℕ) × (p s ≡ true)
count_some p [] h = absurd (omega arith)
count_some p (x ∷ xs) h = some_step p x xs (p x) refl (count_some p xs) (omega (arith, count_cons p x xs))
  where
    some_step : (p : ℕ → Bool) (x : ℕ) (xs : List ℕ) (b : Bool) → p x ≡ b → (0 < count_by p xs → (s : ℕ) × (p s ≡ true)) → 0 < cond b 1 0 + count_by p xs → (s : ℕ) × (p s ≡ true)
    some_step p x xs true e rest h = (x, e)
    some_step p x xs false e rest h = rest (omega arith)

pub chosen_winner : (n k : ℕ) (voters : List ℕ) (lists : ℕ → List Record) (part : List Voted) (e : Entry) → AreBelow n voters → ShowsAt lists n k part → (c : ChosenBy lists voters k e) → IsWinner part voters k c.ballot e
chosen_winner n k voters lists part e below h c =
    let half = c.majority.more_than_half in
    let some = count_some c.part voters (omega arith) in
    let t = c.taken some.0 some.1 in
    let w = h.kept some.0 t.0 c.ballot e (below some.0 (c.majority.within some.0 some.1)) t.1 in
    let spells = text_is n k lists part h w.place w.vote c.ballot e w.stands w.reads in
    let more = count_le c.part (has_text part w.vote.text) voters
    (λ s p. let u = c.taken s p in taken_text n k lists part h c.ballot e w.vote.text spells s u.0 (below s (c.majority.within s p)) u.1) in
    record { place = w.place; vote = w.vote; stands = w.stands; reads = w.reads; majority = omega (arith, half, more) }

pub first_is : (n k : ℕ) (voters : List ℕ) (lists : ℕ → List Record) (part : List Voted) (but : Option Entry) (e : Entry) → AreBelow n voters → ShowsAt lists n k part → IsFirstWinner part voters k but e → IsFirstChosen lists voters k but e
first_is n k voters lists part but e below h w =
    let c = winner_chosen n k voters lists part w.ballot e h w.winner in
    record {
      chosen = c.0;
      differs = w.differs;
      first = λ f other d. subst (λ (b : Ballot). IsNoLater b e other.ballot f) (sym c.1) (w.first other.ballot f (chosen_winner n k voters lists part f below h other) d);
    }

pub none_is : (n k : ℕ) (voters : List ℕ) (lists : ℕ → List Record) (part : List Voted) → AreBelow n voters → ShowsAt lists n k part → ((b : Ballot) (e : Entry) → IsWinner part voters k b e → ⊥) → NoneChosen lists voters k
none_is n k voters lists part below h none e c = none c.ballot e (chosen_winner n k voters lists part e below h c)

pub greatest_is : (n k : ℕ) (lists : ℕ → List Record) (part : List Voted) (vote : Vote) → ShowsAt lists n k part → IsGreatestHere part k vote → IsGreatestVote lists (services_below n) k vote
greatest_is n k lists part vote h g =
    let t = h.taken g.place g.voted vote.ballot vote.entry g.stands g.reads in
    record {
      service = g.voted.service;
      one = below_voter n g.voted.service (h.known g.place g.voted g.stands);
      place = t.0;
      taken = t.1;
      greatest = λ s p b e c u.
          let w = h.kept s p b e (voter_below n s c) u in
          subst (λ (x : Ballot). IsAtMost x vote.ballot) (fixes w.vote k b e (h.votes w.place w.vote w.stands) w.reads).ballot (g.greatest w.place w.vote w.stands);
      least = λ s p e c u.
          let w = h.kept s p vote.ballot e (voter_below n s c) u in
          let f = fixes w.vote k vote.ballot e (h.votes w.place w.vote w.stands) w.reads in
          entries_order g.voted w.vote k vote.ballot vote.entry e (text_is n k lists part h g.place g.voted vote.ballot vote.entry g.stands g.reads) f.spells (g.least w.place w.vote w.stands f.ballot);
    }

pub unseen_is : (n k : ℕ) (lists : ℕ → List Record) (part : List Voted) → ShowsAt lists n k part → length part ≡ 0 → NoneTaken lists (services_below n) k
unseen_is n k lists part h none s p b e c u =
    let w = h.kept s p b e (voter_below n s c) u in
    let l = slice_get_within part w.place w.vote w.stands in omega arith

pub beside_is : (n k : ℕ) (voters : List ℕ) (lists : ℕ → List Record) (part : List Voted) (first : Entry) (standing : Standing) → AreBelow n voters → ShowsAt lists n k part → IsFirstWinner part voters k None first
    → StandsBeside part voters k first standing → IsStanding lists (services_below n) voters k standing
beside_is n k voters lists part first Unseen below h w b = absurd b
beside_is n k voters lists part first (Seen vote) below h w b = absurd b
beside_is n k voters lists part first (Chosen entry) below h w b = (
  subst (λ (e : Entry). ChosenBy lists voters k e) (sym b.0) (winner_chosen n k voters lists part w.ballot first h w.winner).0,
  λ f c. b.1 c.ballot f (chosen_winner n k voters lists part f below h c) ∙ sym b.0,
)
beside_is n k voters lists part first (Split one second) below h w b = (
  subst (λ (e : Entry). IsFirstChosen lists voters k None e) (sym b.0) (first_is n k voters lists part None first below h w),
  subst (λ (e : Entry). IsFirstChosen lists voters k (Some e) second) (sym b.0) (first_is n k voters lists part (Some first) second below h b.1),
)
