-- What stands at a position when a list goes on by one record.
use Rattle.std.proofs.Common.{◌≡◌, ◌≢◌, ℕ, ◌<◌, ◌≤◌, Bool, true, false, cond, List, [], ◌∷◌, ◌++◌, Option, Some, None, inl, inr, refl, sym, ap, ◌∙◌, subst, slice_get, length, eqb, append-nil, arith}
use Rattle.std.specs.List.{insert}
use Rattle.std.proofs.lemmas.Bool.{cases_eq}
use Rattle.std.proofs.lemmas.Bool.Decides.{nat_tests}
use Rattle.std.proofs.lemmas.Option.{slice_get_within}
use Rattle.ms_record.specs.declared.ballot.Ballot.{Ballot}
use Rattle.ms_record.specs.declared.entry.Entry.{Entry}
use Rattle.ms_record.specs.declared.record.Record.{Record}
use Rattle.ms_record.specs.declared.record.Record.TheVariants.{Prepare, Accept}
use Rattle.ms_record.specs.Acceptors.{IsGreatestBallot, IsTop}
use Rattle.ms_record.specs.BallotOrder.{below_at_most}
use Rattle.ms_record.specs.Ballots.{IsBelow, IsAtMost}
use Rattle.ms_record.specs.Pushing.{none_above_taken, none_above_top, outbid_not_taken, taken_next, top_keeps, top_takes}
use Rattle.ms_record.specs.Reading.{record_at}
use Rattle.ms_record.specs.Records.{IsRecord, IsPosition}
use Rattle.ms_record.specs.Votes.{position_of, ballot_of, NoneAbove, IsTaken}
use Rattle.ms_replay.specs.declared.voted.Voted.{Voted}
use Rattle.ms_replay.specs.Places.{IsPutAt, IsPutIn, IsRaised, IsVoteOf, position_where}
use Rattle.ms_replay.specs.Tallies.{PlaceView, TallyView, HasVote, IsPlaceOf, IsTallyOf, IsVotedAt, goes_on, place_at, top_of}
use Rattle.ms_replay.proofs.PutIn.{has_put, put_cases, put_none, put_some, vote_put}
use Rattle.ms_replay.proofs.ReadingOn.{position_ok, positions_on, taken_cases, taken_on}

-- ---- one place

-- a record of another position, or below the greatest ballot, changes nothing
pub place_idle : (s k : ℕ) (xs : List Record) (r : Record) (p : PlaceView) → (position_of r ≡ k → (t : Ballot) × (top_of p s ≡ Some t) × IsBelow (ballot_of r) t)
    → IsPlaceOf s xs k p → IsPlaceOf s (xs ++ r ∷ []) k p
place_idle s k xs r p low h = record {
  top = top_keeps xs r k (top_of p s) (λ here. let t = low here in (t.0, t.1, below_at_most (ballot_of r) t.0 t.2)) h.top;
  taken = λ b e v. taken_on xs r k b e (h.taken b e v);
  kept = λ q b e u. elim (taken_cases xs r q k b e u) [
    | inl o ↦ h.kept q b e o
    | inr n ↦
        let t = low (ap position_of n.0) in
        let g : IsGreatestBallot xs k t.0 = subst (λ (o : Option Ballot). IsTop xs k o) t.1 h.top in
        absurd (outbid_not_taken xs r k t.0 g t.2 b e (subst (λ (m : Record). IsTaken (xs ++ m ∷ []) (length xs) k b e) (sym n.0) (taken_next xs k b e n.1)))
  ];
}

place_prepare : (s k : ℕ) (b : Ballot) (xs : List Record) (old new : PlaceView) → top_of new s ≡ Some b → new.votes ≡ old.votes → NoneAbove xs (length xs) k b
    → IsPlaceOf s xs k old → IsPlaceOf s (xs ++ Prepare k b ∷ []) k new
place_prepare s k b xs old new top same none h = record {
  top = subst (λ (o : Option Ballot). IsTop (xs ++ Prepare k b ∷ []) k o) (sym top) (top_takes xs (Prepare k b) k b refl refl none);
  taken = λ c e v. taken_on xs (Prepare k b) k c e (h.taken c e (subst (λ (vs : List Voted). HasVote vs s k c e) same v));
  kept = λ q c e u. elim (taken_cases xs (Prepare k b) q k c e u) [
    | inl o ↦ subst (λ (vs : List Voted). HasVote vs s k c e) (sym same) (h.kept q c e o)
    | inr n ↦ (let w : Prepare k b ≡ Accept k c e = n.0 in cc)
  ];
}

place_accept : (s k : ℕ) (b : Ballot) (e : Entry) (xs : List Record) (old new : PlaceView) (i : ℕ) (v : Voted) → top_of new s ≡ Some b → new.votes ≡ insert old.votes i v → v.service ≡ s
    → record_at v.text ≡ Some (Accept k b e) → NoneAbove xs (length xs) k b → IsPlaceOf s xs k old → IsPlaceOf s (xs ++ Accept k b e ∷ []) k new
place_accept s k b e xs old new i v top is of_s reads none h = record {
  top = subst (λ (o : Option Ballot). IsTop (xs ++ Accept k b e ∷ []) k o) (sym top) (top_takes xs (Accept k b e) k b refl refl none);
  taken = λ c f w. elim (put_cases old.votes i v s k c f (subst (λ (vs : List Voted). HasVote vs s k c f) is w)) [
    | inl o ↦ taken_on xs (Accept k b e) k c f (h.taken c f o)
    | inr n ↦
        let two : Some (Accept k b e) ≡ Some (Accept k c f) = sym reads ∙ n.1 in
        let one : Accept k b e ≡ Accept k c f = cc in
        (length xs, subst (λ (m : Record). IsTaken (xs ++ m ∷ []) (length xs) k c f) (sym one) (taken_next xs k c f (subst (λ (m : Record). NoneAbove xs (length xs) k (ballot_of m)) one none)))
  ];
  kept = λ q c f u. subst (λ (vs : List Voted). HasVote vs s k c f) (sym is) (elim (taken_cases xs (Accept k b e) q k c f u) [
    | inl o ↦ has_put old.votes i v s k c f (h.kept q c f o)
    | inr n ↦ vote_put old.votes i v s k c f of_s (reads ∙ ap (λ (m : Record). Some m) n.0)
  ]);
}

-- the record that raises the ballot of its service
pub place_raised : (s : ℕ) (xs : List Record) (r : Record) (text : List ℕ) (old new : PlaceView) (vote : Option Voted) (at : Option ℕ) → IsRaised s (ballot_of r) vote at old new → IsVoteOf s text r vote
    → record_at text ≡ Some r → ((t : Ballot) → top_of old s ≡ Some t → IsAtMost t (ballot_of r)) → IsPlaceOf s xs (position_of r) old → IsPlaceOf s (xs ++ r ∷ []) (position_of r) new
place_raised s xs (Prepare k b) text old new vote at raised is reads up h =
    place_prepare s k b xs old new raised.top (put_none vote at old.votes new.votes is raised.votes).0 (none_above_top xs k (top_of old s) b h.top up) h
place_raised s xs (Accept k b e) text old new vote at raised is reads up h =
    let v : Voted = record { position = k; ballot = b; text = text; service = s } in
    let p = put_some vote at old.votes new.votes v is raised.votes in
    place_accept s k b e xs old new p.0 v raised.top p.2 refl reads (none_above_top xs k (top_of old s) b h.top up) h

-- another service's record changes nothing of this one
other_votes : (q s k : ℕ) (vote : Option Voted) (at : Option ℕ) (old new : List Voted) → (q ≡ s → ⊥) → (r : Record) (text : List ℕ) → IsVoteOf s text r vote → IsPutIn vote at old new → (b : Ballot) (e : Entry)
    → (HasVote new q k b e → HasVote old q k b e) × (HasVote old q k b e → HasVote new q k b e)
other_votes q s k vote at old new apart (Prepare p c) text is h b e =
    let same = (put_none vote at old new is h).0 in
    (subst (λ (vs : List Voted). HasVote vs q k b e) same, subst (λ (vs : List Voted). HasVote vs q k b e) (sym same))
other_votes q s k vote at old new apart (Accept p c f) text is h b e =
    let v : Voted = record { position = p; ballot = c; text = text; service = s } in
    let w = put_some vote at old new v is h in (
      λ has. elim (put_cases old w.0 v q k b e (subst (λ (vs : List Voted). HasVote vs q k b e) w.2 has)) [ inl o ↦ o | inr n ↦ absurd (apart (sym n.0)) ],
      λ has. subst (λ (vs : List Voted). HasVote vs q k b e) (sym w.2) (has_put old w.0 v q k b e has),
    )

place_other : (q s k : ℕ) (xs : List Record) (r : Record) (text : List ℕ) (b : Ballot) (old new : PlaceView) (vote : Option Voted) (at : Option ℕ) → (q ≡ s → ⊥) → IsRaised s b vote at old new → IsVoteOf s text r vote
    → IsPlaceOf q xs k old → IsPlaceOf q xs k new
place_other q s k xs r text b old new vote at apart raised is h = record {
  top = subst (λ (o : Option Ballot). IsTop xs k o) (sym (raised.others q apart)) h.top;
  taken = λ c e v. h.taken c e ((other_votes q s k vote at old.votes new.votes apart r text is raised.votes c e).0 v);
  kept = λ p c e u. (other_votes q s k vote at old.votes new.votes apart r text is raised.votes c e).1 (h.kept p c e u);
}

-- ---- all places

here : (lists : ℕ → List Record) (s : ℕ) (more : List Record) → goes_on lists s more s ≡ lists s ++ more
here lists s more = ap (λ (v : Bool). cond v (lists s ++ more) (lists s)) (let e : eqb s s ≡ true = grind (arith, nat_tests) in e)

elsewhere : (lists : ℕ → List Record) (s q : ℕ) (more : List Record) → (q ≡ s → ⊥) → goes_on lists s more q ≡ lists q
elsewhere lists s q more n = ap (λ (v : Bool). cond v (lists q ++ more) (lists q)) (let e : eqb q s ≡ false = grind (arith, nat_tests) in e)

-- one list goes on, the others stay
tally_step : (lists : ℕ → List Record) (s : ℕ) (more : List Record) (t u : TallyView) → u.services ≡ t.services
    → ((place : ℕ) (r : Record) → slice_get (lists s ++ more) place ≡ Some r → IsPosition (position_of r))
    → ((k : ℕ) → IsPlaceOf s (lists s ++ more) k (place_at u.places k))
    → ((q k : ℕ) → q < t.services → (q ≡ s → ⊥) → IsPlaceOf q (lists q) k (place_at u.places k)) → IsTallyOf lists t → IsTallyOf (goes_on lists s more) u
tally_step lists s more t u same ranges own others h = record {
  positions = λ q place r l g. elim (cases_eq q s) [
    | inl e ↦ ranges place r (ap (λ (rs : List Record). slice_get rs place) (sym (here lists s more) ∙ ap (goes_on lists s more) (sym e)) ∙ g)
    | inr n ↦ h.positions q place r (omega (arith, same, l)) (ap (λ (rs : List Record). slice_get rs place) (sym (elsewhere lists s q more n)) ∙ g)
  ];
  places = λ q k l. elim (cases_eq q s) [
    | inl e ↦
        let a : IsPlaceOf s (goes_on lists s more s) k (place_at u.places k) = subst (λ (rs : List Record). IsPlaceOf s rs k (place_at u.places k)) (sym (here lists s more)) (own k) in
        subst (λ (n : ℕ). IsPlaceOf n (goes_on lists s more n) k (place_at u.places k)) (sym e) a
    | inr n ↦ subst (λ (rs : List Record). IsPlaceOf q rs k (place_at u.places k)) (sym (elsewhere lists s q more n)) (others q k (omega (arith, same, l)) n)
  ];
}

-- a record below the greatest ballot of its service changes nothing
pub tally_outbid : (lists : ℕ → List Record) (s : ℕ) (r : Record) (t : TallyView) (top : Ballot) → s < t.services → IsRecord r → top_of (place_at t.places (position_of r)) s ≡ Some top → IsBelow (ballot_of r) top
    → IsTallyOf lists t → IsTallyOf (goes_on lists s (r ∷ [])) t
tally_outbid lists s r t top l ok is low h =
    tally_step lists s (r ∷ []) t t refl (positions_on (lists s) r (position_ok r ok) (λ place m. h.positions s place m l))
    (λ k. place_idle s k (lists s) r (place_at t.places k) (λ e. (top, ap (λ (n : ℕ). top_of (place_at t.places n) s) (sym e) ∙ is, low)) (h.places s k l))
    (λ q k m n. h.places q k m) h

-- a record that counts
pub tally_put : (lists : ℕ → List Record) (s : ℕ) (r : Record) (text : List ℕ) (t u : TallyView) (vote : Option Voted) (at : Option ℕ) → s < t.services → u.services ≡ t.services → IsRecord r → IsVoteOf s text r vote
    → record_at text ≡ Some r → ((b : Ballot) → top_of (place_at t.places (position_of r)) s ≡ Some b → IsAtMost b (ballot_of r)) → IsPutAt s (position_of r) (ballot_of r) vote at t.places u.places
    → IsTallyOf lists t → IsTallyOf (goes_on lists s (r ∷ [])) u
tally_put lists s r text t u vote at l same ok is reads up put h =
    tally_step lists s (r ∷ []) t u same (positions_on (lists s) r (position_ok r ok) (λ place m. h.positions s place m l)) own others h
  where
    own : (k : ℕ) → IsPlaceOf s (lists s ++ r ∷ []) k (place_at u.places k)
    own k = elim (cases_eq k (position_of r)) [
      | inl e ↦
          subst (λ (n : ℕ). IsPlaceOf s (lists s ++ r ∷ []) n (place_at u.places n)) (sym e)
          (place_raised s (lists s) r text (place_at t.places (position_of r)) (place_at u.places (position_of r)) vote at put.here is reads up (h.places s (position_of r) l))
      | inr n ↦
          subst (λ (p : PlaceView). IsPlaceOf s (lists s ++ r ∷ []) k p) (sym (put.elsewhere k n))
          (place_idle s k (lists s) r (place_at t.places k) (λ e. absurd (n (sym e))) (h.places s k l))
    ]

    others : (q k : ℕ) → q < t.services → (q ≡ s → ⊥) → IsPlaceOf q (lists q) k (place_at u.places k)
    others q k m n = elim (cases_eq k (position_of r)) [
      | inl e ↦
          subst (λ (i : ℕ). IsPlaceOf q (lists q) i (place_at u.places i)) (sym e)
          (place_other q s (position_of r) (lists q) r text (ballot_of r) (place_at t.places (position_of r)) (place_at u.places (position_of r)) vote at n put.here is (h.places q (position_of r) m))
      | inr o ↦ subst (λ (p : PlaceView). IsPlaceOf q (lists q) k p) (sym (put.elsewhere k o)) (h.places q k m)
    ]

-- the same lists
pub tally_lists : (lists same : ℕ → List Record) (t : TallyView) → ((q : ℕ) → lists q ≡ same q) → IsTallyOf lists t → IsTallyOf same t
tally_lists lists same t e h = subst (λ (ls : ℕ → List Record). IsTallyOf ls t) (λ i q. e q i) h

goes_on_none : (lists : ℕ → List Record) (s : ℕ) (q : ℕ) → lists q ≡ goes_on lists s [] q
goes_on_none lists s q = none_step (eqb q s)
  where
    none_step : (b : Bool) → lists q ≡ cond b (lists q ++ []) (lists q)
    none_step true = sym (append-nil (lists q))
    none_step false = refl

-- a text that is no record changes nothing
pub tally_skips : (lists : ℕ → List Record) (s : ℕ) (t : TallyView) → IsTallyOf lists t → IsTallyOf (goes_on lists s []) t
tally_skips lists s t h = tally_lists lists (goes_on lists s []) t (goes_on_none lists s) h

-- ---- where a vote was taken

pub voted_not : (xs : List Record) (r : Record) (top : Ballot) → IsTop xs (position_of r) (Some top) → IsBelow (ballot_of r) top → IsVotedAt xs (Some r) None
voted_not xs r top g low = λ k b e u.
    let w = none_above_taken xs r k b e u in
    outbid_not_taken xs r k top (subst (λ (n : ℕ). IsGreatestBallot xs n top) (ap position_of w.0) g) low b e u

voted_prepare : (xs : List Record) (k : ℕ) (b : Ballot) → IsVotedAt xs (Some (Prepare k b)) None
voted_prepare xs k b = λ q c e u. let w : Prepare k b ≡ Accept q c e = (none_above_taken xs (Prepare k b) q c e u).0 in cc

pub voted_put : (s : ℕ) (xs : List Record) (r : Record) (text : List ℕ) (old new : PlaceView) (vote : Option Voted) (at : Option ℕ) (k : ℕ) → k ≡ position_of r → IsRaised s (ballot_of r) vote at old new → IsVoteOf s text r vote
    → ((t : Ballot) → top_of old s ≡ Some t → IsAtMost t (ballot_of r)) → IsPlaceOf s xs (position_of r) old → IsVotedAt xs (Some r) (position_where k at)
voted_put s xs (Prepare q b) text old new vote at k here raised is up h =
    subst (λ (o : Option ℕ). IsVotedAt xs (Some (Prepare q b)) (position_where k o)) (sym (put_none vote at old.votes new.votes is raised.votes).1) (voted_prepare xs q b)
voted_put s xs (Accept q b e) text old new vote at k here raised is up h =
    let v : Voted = record { position = q; ballot = b; text = text; service = s } in
    let p = put_some vote at old.votes new.votes v is raised.votes in
    subst (λ (o : Option ℕ). IsVotedAt xs (Some (Accept q b e)) (position_where k o)) (sym p.1)
    (subst (λ (n : ℕ). IsVotedAt xs (Some (Accept q b e)) (Some n)) (sym here) (b, e, taken_next xs q b e (none_above_top xs q (top_of old s) b h.top up)))

pub voted_skips : (xs : List Record) → IsVotedAt xs None None
voted_skips xs = λ k b e u.
    let w = slice_get_within (xs ++ []) (length xs) (Accept k b e) u.stands in
    let same : length (xs ++ []) ≡ length xs = ap length (append-nil xs) in omega arith
