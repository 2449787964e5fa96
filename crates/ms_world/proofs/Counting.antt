-- A list of votes that goes on by one record: what it has taken, and what a look at it shows.
use Rattle.std.proofs.Common.{◌≡◌, ◌≢◌, ℕ, ◌+◌, ◌<◌, ◌≤◌, Bool, true, false, ◌&&◌, nat_eq, List, [], ◌∷◌, ◌++◌, Option, Some, None, Result, Ok, Err, OnOk, IfSome, IfNone, ◌⊎◌, inl, inr, refl, sym, ap, ◌∙◌, subst, slice_get, length, option_to_list, Contains, take, drop, get_or, append_assoc, take-append-drop, arith}
use Rattle.std.proofs.lemmas.List.{append-nil, take_all, take_more}
use Rattle.std.proofs.lemmas.List.Elements.{Contains-append_left, Contains-push, Contains-push_cases}
use Rattle.std.proofs.lemmas.Option.{get_or_from_slice_get, slice_get_within}
use Rattle.ms_world.specs.Passes.{AreRising, AreTaken, IsReadOf}
use Rattle.ms_record.specs.Growing.{votes_append}
use Rattle.ms_base.specs.Places.{some_same, append_left, append_cases, alone}
use Rattle.ms_record.specs.declared.acceptor.Acceptor.{Acceptor}
use Rattle.ms_record.specs.declared.acceptor.Verdict.{Verdict}
use Rattle.ms_record.specs.declared.acceptor.Verdict.TheVariants.{Promised, Taken, Outbid, Elsewhere}
use Rattle.ms_record.specs.declared.ballot.Ballot.{Ballot}
use Rattle.ms_record.specs.declared.ballot.Vote.{Vote}
use Rattle.ms_record.specs.declared.entry.Entry.{Entry}
use Rattle.ms_record.specs.declared.log.LogEvent.{LogEvent}
use Rattle.ms_record.specs.declared.record.Record.{Record}
use Rattle.ms_record.specs.declared.record.Record.TheVariants.{Prepare, Accept}
use Rattle.ms_record.specs.Acceptors.{IsAcceptorOf, IsVerdict, TakesNext}
use Rattle.ms_record.specs.Ballots.{IsAtMost}
use Rattle.ms_record.specs.declared.look.Look.{Look}
use Rattle.ms_record.specs.declared.sight.Sight.{Sight}
use Rattle.ms_record.specs.Looks.{HasShown, IsOfBid}
use Rattle.ms_record.specs.Pushing.{outbid_not_taken}
use Rattle.ms_record.specs.Sights.{IsSight}
use Rattle.ms_record.specs.Logs.{votes_in}
use Rattle.ms_record.specs.Votes.{position_of, ballot_of, NoneAbove, IsPromised, IsTaken, IsBest}

-- ---- the front of a longer list

stands_back : (xs ys : List Record) (p : ℕ) (r : Record) → p < length xs → slice_get (xs ++ ys) p ≡ Some r → slice_get xs p ≡ Some r
stands_back xs ys p r l h = elim (append_cases xs ys p r h) [ inl s ↦ s | inr t ↦ absurd (omega (arith, t.1)) ]

none_above_back : (xs ys : List Record) (p k : ℕ) (b : Ballot) → NoneAbove (xs ++ ys) p k b → NoneAbove xs p k b
none_above_back xs ys p k b h i m l g = h i m l (append_left xs ys i m g)

none_above_on : (xs ys : List Record) (p k : ℕ) (b : Ballot) → p ≤ length xs → NoneAbove xs p k b → NoneAbove (xs ++ ys) p k b
none_above_on xs ys p k b w h i m l g = h i m l (stands_back xs ys i m (omega arith) g)

taken_back : (xs ys : List Record) (p k : ℕ) (b : Ballot) (e : Entry) → p < length xs → IsTaken (xs ++ ys) p k b e → IsTaken xs p k b e
taken_back xs ys p k b e l h = record { stands = stands_back xs ys p (Accept k b e) l h.stands; none_above = none_above_back xs ys p k b h.none_above }

taken_on : (xs ys : List Record) (p k : ℕ) (b : Ballot) (e : Entry) → IsTaken xs p k b e → IsTaken (xs ++ ys) p k b e
taken_on xs ys p k b e h =
    let l = slice_get_within xs p (Accept k b e) h.stands in
    record { stands = append_left xs ys p (Accept k b e) h.stands; none_above = none_above_on xs ys p k b (omega arith) h.none_above }

-- ---- one record more

stands_next : (xs ys : List Record) (r : Record) → slice_get (xs ++ r ∷ ys) (length xs) ≡ Some r
stands_next [] ys r = refl
stands_next (x ∷ xs) ys r = stands_next xs ys r

next_is : (xs ys : List Record) (r m : Record) → slice_get (xs ++ r ∷ ys) (length xs) ≡ Some m → r ≡ m
next_is xs ys r m h = some_same r m (sym (stands_next xs ys r) ∙ h)

-- a place of the longer list is one of the old list, or the new one
place_cases : (xs : List Record) (r m : Record) (i : ℕ) → slice_get (xs ++ r ∷ []) i ≡ Some m → (i < length xs) ⊎ (i ≡ length xs)
place_cases xs r m i h =
    elim (append_cases xs (r ∷ []) i m h) [
      | inl s ↦ inl (slice_get_within xs i m s)
      | inr t ↦ inr (omega (arith, t.1, (alone r m t.0 t.2).0))
    ]

-- nothing is taken at the new place
abbrev NotTaken : List Record → Record → ℕ → Type 0
NotTaken xs r k = (b : Ballot) (e : Entry) → IsTaken (xs ++ r ∷ []) (length xs) k b e → ⊥

-- a record is taken only by a verdict that says so
pub not_taken : (xs : List Record) (r : Record) (k : ℕ) (v : Verdict) → IsVerdict xs r k v → (v ≡ Taken → ⊥) → NotTaken xs r k
not_taken xs r k (Promised best) h other b e t = (let q : Prepare k h.0.ballot ≡ Accept k b e = sym (next_is xs [] r (Prepare k h.0.ballot) h.0.promised.stands) ∙ next_is xs [] r (Accept k b e) t.stands in cc)
not_taken xs r k Taken h other b e t = other refl
not_taken xs r k (Outbid top) h other b e t = outbid_not_taken xs r k top h.1 h.2 b e t
not_taken xs r k Elsewhere h other b e t = h (ap position_of (next_is xs [] r (Accept k b e) t.stands))

-- ---- the votes that were taken

rising_push : (votes : List Vote) (vote : Vote) → AreRising votes → ((v : Vote) → Contains votes v → IsAtMost v.ballot vote.ballot) → AreRising (votes ++ vote ∷ [])
rising_push votes vote old top i j v w l av aw =
    elim (append_cases votes (vote ∷ []) j w aw) [
      | inl jo ↦ elim (append_cases votes (vote ∷ []) i v av) [
        | inl io ↦ old i j v w l io jo
        | inr new ↦ (let m = slice_get_within votes j w jo in absurd (omega (arith, new.1)))
      ]
      | inr jn ↦ subst (λ (x : Vote). IsAtMost v.ballot x.ballot) (alone vote w jn.0 jn.2).1
          (elim (append_cases votes (vote ∷ []) i v av) [
            | inl io ↦ top v (i, slice_get_within votes i v io, get_or_from_slice_get votes i v v io)
            | inr new ↦ subst (λ (x : Vote). IsAtMost x.ballot vote.ballot) (alone vote v new.0 new.2).1 (omega arith, λ _. omega arith)
          ])
    ]

-- what is taken is an Accept
pub takes_accept : (xs : List Record) (r : Record) (k : ℕ) (t : TakesNext xs r k) → r ≡ Accept k t.ballot t.entry
takes_accept xs r k t = next_is xs [] r (Accept k t.ballot t.entry) t.taken.stands

pub reads_nothing : (xs : List Record) (r : Record) (a new : Acceptor) (votes : List Vote) → new.position ≡ a.position → IsAcceptorOf (xs ++ r ∷ []) new → NotTaken xs r a.position → IsReadOf xs a votes
    → IsReadOf (xs ++ r ∷ []) new votes
reads_nothing xs r a new votes same read free h =
    let k = a.position in
    record {
      read = read;
      are_taken = subst (λ (n : ℕ). AreTaken (xs ++ r ∷ []) n votes) (sym same) (record {
        taken = λ v c. let t = h.are_taken.taken v c in (t.0, taken_on xs (r ∷ []) t.0 k v.ballot v.entry t.1);
        kept = λ p b e t. elim (place_cases xs r (Accept k b e) p t.stands) [
          | inl o ↦ h.are_taken.kept p b e (taken_back xs (r ∷ []) p k b e o t)
          | inr n ↦ absurd (free b e (subst (λ (i : ℕ). IsTaken (xs ++ r ∷ []) i k b e) n t))
        ];
        rising = h.are_taken.rising;
      });
    }

pub reads_taken : (xs : List Record) (r : Record) (k : ℕ) (votes : List Vote) (t : TakesNext xs r k) → AreTaken xs k votes → AreTaken (xs ++ r ∷ []) k (votes ++ record { ballot = t.ballot; entry = t.entry } ∷ [])
reads_taken xs r k votes t old =
    let q = takes_accept xs r k t in
    let vote : Vote = record { ballot = t.ballot; entry = t.entry } in
    record {
      taken = λ v there. elim (Contains-push_cases votes vote v there) [
        | inl o ↦ (let u = old.taken v o in (u.0, taken_on xs (r ∷ []) u.0 k v.ballot v.entry u.1))
        | inr n ↦ (length xs, subst (λ (w : Vote). IsTaken (xs ++ r ∷ []) (length xs) k w.ballot w.entry) n t.taken)
      ];
      kept = λ i b f u. elim (place_cases xs r (Accept k b f) i u.stands) [
        | inl o ↦ Contains-append_left votes (vote ∷ []) (record { ballot = b; entry = f }) (old.kept i b f (taken_back xs (r ∷ []) i k b f o u))
        | inr n ↦
            let same : Accept k t.ballot t.entry ≡ Accept k b f = sym q ∙ next_is xs [] r (Accept k b f) (subst (λ (j : ℕ). slice_get (xs ++ r ∷ []) j ≡ Some (Accept k b f)) n u.stands) in
            let eb : t.ballot ≡ b = ap ballot_of same in
            let ee : t.entry ≡ f = cc in
            let ev : vote ≡ record { ballot = b; entry = f } = λ j. record { ballot = eb j; entry = ee j } in
            subst (λ (w : Vote). Contains (votes ++ vote ∷ []) w) ev (Contains-push votes vote)
      ];
      rising = rising_push votes vote old.rising (λ v there.
          let u = old.taken v there in
          let l = slice_get_within xs u.0 (Accept k v.ballot v.entry) u.1.stands in
          none_above_back xs (r ∷ []) (length xs) k t.ballot t.taken.none_above u.0 (Accept k v.ballot v.entry) l u.1.stands refl);
    }

pub reads_accept : (xs : List Record) (r : Record) (a new : Acceptor) (votes more : List Vote) → new.position ≡ a.position → IsAcceptorOf (xs ++ r ∷ []) new → (t : TakesNext xs r a.position)
    → more ≡ votes ++ record { ballot = t.ballot; entry = t.entry } ∷ [] → IsReadOf xs a votes → IsReadOf (xs ++ r ∷ []) new more
reads_accept xs r a new votes more same read t is h = record {
  read = read;
  are_taken = subst (λ (n : ℕ). AreTaken (xs ++ r ∷ []) n more) (sym same) (subst (λ (vs : List Vote). AreTaken (xs ++ r ∷ []) a.position vs) (sym is) (reads_taken xs r a.position votes t h.are_taken));
}

pub on_ok : {T E : Type 0} (r : Result T E) {P Q : Type 0} → OnOk r P → (P → Q) → OnOk r Q
on_ok (Ok x) h f = f h
on_ok (Err x) h f = h

-- ---- events

-- what one event adds to the votes
pub event_adds : (log more : List LogEvent) (event : LogEvent) (o : Option Record) → votes_in (event ∷ []) ≡ option_to_list o → votes_in (log ++ event ∷ more) ≡ votes_in log ++ (option_to_list o ++ votes_in more)
event_adds log more event o h =
    votes_append log (event ∷ more) ∙ ap (λ (zs : List Record). votes_in log ++ zs) (votes_append (event ∷ []) more ∙ ap (λ (zs : List Record). zs ++ votes_in more) h)

pub event_none : (log : List LogEvent) (event : LogEvent) → votes_in (event ∷ []) ≡ [] → votes_in (log ++ event ∷ []) ≡ votes_in log
event_none log event h = event_adds log [] event None h ∙ append-nil (votes_in log)

-- the item at a place ends the front up to it, and the rest stands behind it
pub take_item : {X : Type 0} (xs : List X) (i : ℕ) (x : X) → i < length xs → x ≡ get_or xs i x → take (i + 1) xs ≡ take i xs ++ x ∷ []
take_item xs i x l is = take_more xs i x l ∙ ap (λ y. take i xs ++ y ∷ []) (sym is)

-- reading along a log
pub read_on : (log : List LogEvent) (i : ℕ) (event : LogEvent) (a new : Acceptor) (votes more : List Vote) → i < length log → event ≡ get_or log i event
    → ((front : List LogEvent) → IsReadOf (votes_in front) a votes → IsReadOf (votes_in (front ++ event ∷ [])) new more) → IsReadOf (votes_in (take i log)) a votes → IsReadOf (votes_in (take (i + 1) log)) new more
read_on log i event a new votes more l is goes h = subst (λ (zs : List LogEvent). IsReadOf (votes_in zs) new more) (sym (take_item log i event l is)) (goes (take i log) h)

-- looking along a log
pub look_on : (log : List LogEvent) (i : ℕ) (event : LogEvent) (old new : Look) → i < length log → event ≡ get_or log i event
    → ((front : List LogEvent) → HasShown (votes_in front) old → HasShown (votes_in (front ++ event ∷ [])) new) → HasShown (votes_in (take i log)) old → HasShown (votes_in (take (i + 1) log)) new
look_on log i event old new l is goes h = subst (λ (zs : List LogEvent). HasShown (votes_in zs) new) (sym (take_item log i event l is)) (goes (take i log) h)

pub look_ends : (log : List LogEvent) (i k : ℕ) (b : Ballot) (look : Look) (sight : Sight) → length log ≤ i → IsOfBid k b look → HasShown (votes_in (take i log)) look
    → ((records : List Record) → HasShown records look → IsSight records look.acceptor.position look.ballot sight) → IsSight (votes_in log) k b sight
look_ends log i k b look sight all of h shows =
    subst (λ (zs : List LogEvent). IsSight (votes_in zs) k b sight) (take_all i log all)
    (subst (λ (n : ℕ). IsSight (votes_in (take i log)) n b sight) of.position_is
    (subst (λ (c : Ballot). IsSight (votes_in (take i log)) look.acceptor.position c sight) of.ballot_is (shows (votes_in (take i log)) h)))
