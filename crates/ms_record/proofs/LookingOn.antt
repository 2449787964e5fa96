-- A look goes on by one record.
use Rattle.std.proofs.Common.{◌≡◌, ◌≢◌, ℕ, ◌+◌, ◌<◌, ◌≤◌, Bool, true, false, List, [], ◌∷◌, ◌++◌, Option, inl, inr, sym, ap, ◌∙◌, subst, length, arith}
use Rattle.std.specs.Prelude.{if◌then◌else◌}
use Rattle.std.proofs.lemmas.Option.{slice_get_within}
use Rattle.ms_record.specs.declared.acceptor.Acceptor.{Acceptor}
use Rattle.ms_record.specs.declared.acceptor.Verdict.{Verdict}
use Rattle.ms_record.specs.declared.acceptor.Verdict.TheVariants.{Promised, Taken, Outbid, Elsewhere}
use Rattle.ms_record.specs.declared.ballot.Ballot.{Ballot}
use Rattle.ms_record.specs.declared.ballot.Vote.{Vote}
use Rattle.ms_record.specs.declared.entry.Entry.{Entry}
use Rattle.ms_record.specs.declared.record.Record.{Record}
use Rattle.ms_record.specs.declared.record.Record.TheVariants.{Prepare, Accept}
use Rattle.ms_record.specs.Acceptors.{IsAcceptorOf, IsVerdict}
use Rattle.ms_record.specs.Growing.{same_back, best_same, first_promised_same, promised_same, taken_same}
use Rattle.ms_record.specs.Pushing.{none_above_promised, none_above_taken, outbid_not_promised, outbid_not_taken, push_cases, same_pushed}
use Rattle.ms_record.specs.Sights.{ShowsPromise, ShowsTaken}
use Rattle.ms_record.specs.Votes.{position_of, ballot_of, IsBest, IsPromised, IsTaken}
use Rattle.ms_record.specs.declared.look.Look.{Look}
use Rattle.ms_record.specs.Looks.{HasShown, after_verdict, with_promise}

-- ---- the last record

-- no Prepare of the ballot is promised at the end, and no Accept of it taken
record IsIdle (xs : List Record) (r : Record) (k : ℕ) (b : Ballot) : Type 0 where
  no_promise : IsPromised (xs ++ r ∷ []) (length xs) k b → ⊥
  no_taken : (e : Entry) → IsTaken (xs ++ r ∷ []) (length xs) k b e → ⊥

idle_other : (xs : List Record) (r : Record) (k : ℕ) (b : Ballot) → ballot_of r ≢ b → IsIdle xs r k b
idle_other xs r k b other = record {
  no_promise = λ q. other (ap ballot_of (none_above_promised xs r k b q).0);
  no_taken = λ e t. other (ap ballot_of (none_above_taken xs r k b e t).0);
}

idle_elsewhere : (xs : List Record) (r : Record) (k : ℕ) (b : Ballot) → IsVerdict xs r k Elsewhere → IsIdle xs r k b
idle_elsewhere xs r k b other = record {
  no_promise = λ q. other (ap position_of (none_above_promised xs r k b q).0);
  no_taken = λ e t. other (ap position_of (none_above_taken xs r k b e t).0);
}

idle_outbid : (xs : List Record) (r : Record) (k : ℕ) (b top : Ballot) → IsVerdict xs r k (Outbid top) → IsIdle xs r k b
idle_outbid xs r k b top h = record {
  no_promise = outbid_not_promised xs r k top h.1 h.2 b;
  no_taken = outbid_not_taken xs r k top h.1 h.2 b;
}

promised_here : (xs : List Record) (r : Record) (k : ℕ) (b : Ballot) (best : Option Vote) → IsVerdict xs r k (Promised best) → ballot_of r ≡ b → IsPromised (xs ++ r ∷ []) (length xs) k b
promised_here xs r k b best h is =
    let made = (none_above_promised xs r k h.0.ballot h.0.promised).0 in
    subst (λ (c : Ballot). IsPromised (xs ++ r ∷ []) (length xs) k c) (sym (ap ballot_of made) ∙ is) h.0.promised

untaken_here : (xs : List Record) (r : Record) (k : ℕ) (b : Ballot) (best : Option Vote) → IsVerdict xs r k (Promised best) → (e : Entry) → IsTaken (xs ++ r ∷ []) (length xs) k b e → ⊥
untaken_here xs r k b best h e t =
    let prepare : r ≡ Prepare k h.0.ballot = (none_above_promised xs r k h.0.ballot h.0.promised).0 in
    let accept : r ≡ Accept k b e = (none_above_taken xs r k b e t).0 in
    cc

taken_here : (xs : List Record) (r : Record) (k : ℕ) (b : Ballot) → (h : IsVerdict xs r k Taken) → ballot_of r ≡ b → IsTaken (xs ++ r ∷ []) (length xs) k b h.entry
taken_here xs r k b h is =
    let made = (none_above_taken xs r k h.ballot h.entry h.taken).0 in
    subst (λ (c : Ballot). IsTaken (xs ++ r ∷ []) (length xs) k c h.entry) (sym (ap ballot_of made) ∙ is) h.taken

unpromised_here : (xs : List Record) (r : Record) (k : ℕ) (b : Ballot) → IsVerdict xs r k Taken → IsPromised (xs ++ r ∷ []) (length xs) k b → ⊥
unpromised_here xs r k b h q =
    let accept : r ≡ Accept k h.ballot h.entry = (none_above_taken xs r k h.ballot h.entry h.taken).0 in
    let prepare : r ≡ Prepare k b = (none_above_promised xs r k b q).0 in
    cc

-- ---- promises

promise_keeps : (xs : List Record) (r : Record) (k : ℕ) (b : Ballot) (p : Bool) (best : Option Vote) → (IsPromised (xs ++ r ∷ []) (length xs) k b → ⊥) → ShowsPromise xs k b p best
    → ShowsPromise (xs ++ r ∷ []) k b p best
promise_keeps xs r k b true best idle h =
    let within = slice_get_within xs h.0 (Prepare k b) h.1.promised.stands in
    (h.0, first_promised_same xs (xs ++ r ∷ []) (length xs) (same_pushed xs r) h.0 k b within h.1, best_same xs (xs ++ r ∷ []) (length xs) (same_pushed xs r) k h.0 best (omega (arith, within)) h.2)
promise_keeps xs r k b false best idle h = (
  λ place q. elim (push_cases xs r place (Prepare k b) q.stands) [
    | inl o ↦ h.0 place (promised_same (xs ++ r ∷ []) xs (length xs) (same_back xs (xs ++ r ∷ []) (length xs) (same_pushed xs r)) place k b o.0 q)
    | inr n ↦ idle (subst (λ (i : ℕ). IsPromised (xs ++ r ∷ []) i k b) n.0 q)
  ],
  h.1,
)

promise_made : (xs : List Record) (r : Record) (k : ℕ) (b : Ballot) (p : Bool) (old best : Option Vote) → IsPromised (xs ++ r ∷ []) (length xs) k b → IsBest xs k (length xs) best → ShowsPromise xs k b p old
    → ShowsPromise (xs ++ r ∷ []) k b true (if p then old else best)
promise_made xs r k b true old best q is h =
    let within = slice_get_within xs h.0 (Prepare k b) h.1.promised.stands in
    (h.0, first_promised_same xs (xs ++ r ∷ []) (length xs) (same_pushed xs r) h.0 k b within h.1, best_same xs (xs ++ r ∷ []) (length xs) (same_pushed xs r) k h.0 old (omega (arith, within)) h.2)
promise_made xs r k b false old best q is h = (
  length xs,
  record { promised = q; first = λ i l w. h.0 i (promised_same (xs ++ r ∷ []) xs (length xs) (same_back xs (xs ++ r ∷ []) (length xs) (same_pushed xs r)) i k b l w) },
  best_same xs (xs ++ r ∷ []) (length xs) (same_pushed xs r) k (length xs) best (omega arith) is,
)

-- ---- taken Accepts

taken_keeps : (xs : List Record) (r : Record) (k : ℕ) (b : Ballot) (t : Bool) → ((e : Entry) → IsTaken (xs ++ r ∷ []) (length xs) k b e → ⊥) → ShowsTaken xs k b t → ShowsTaken (xs ++ r ∷ []) k b t
taken_keeps xs r k b true idle h = (h.0, h.1, taken_same xs (xs ++ r ∷ []) (length xs) (same_pushed xs r) h.0 k b h.1 (slice_get_within xs h.0 (Accept k b h.1) h.2.stands) h.2)
taken_keeps xs r k b false idle h = λ place e w. elim (push_cases xs r place (Accept k b e) w.stands) [
  | inl o ↦ h place e (taken_same (xs ++ r ∷ []) xs (length xs) (same_back xs (xs ++ r ∷ []) (length xs) (same_pushed xs r)) place k b e o.0 w)
  | inr n ↦ idle e (subst (λ (i : ℕ). IsTaken (xs ++ r ∷ []) i k b e) n.0 w)
]

-- ---- looks

-- of another position, outbid, or of another ballot
look_idle : (xs : List Record) (r : Record) (look : Look) (a : Acceptor) → a.position ≡ look.acceptor.position → IsAcceptorOf (xs ++ r ∷ []) a → IsIdle xs r look.acceptor.position look.ballot → HasShown xs look
    → HasShown (xs ++ r ∷ []) (record look { acceptor = a })
look_idle xs r look a at fed idle h = record {
  acceptor = fed;
  promise = subst (λ (k : ℕ). ShowsPromise (xs ++ r ∷ []) k look.ballot look.promised look.best) (sym at) (promise_keeps xs r look.acceptor.position look.ballot look.promised look.best idle.no_promise h.promise);
  taken = subst (λ (k : ℕ). ShowsTaken (xs ++ r ∷ []) k look.ballot look.taken) (sym at) (taken_keeps xs r look.acceptor.position look.ballot look.taken idle.no_taken h.taken);
}

pub look_other : (xs : List Record) (r : Record) (look : Look) (a : Acceptor) → a.position ≡ look.acceptor.position → IsAcceptorOf (xs ++ r ∷ []) a → ballot_of r ≢ look.ballot → HasShown xs look
    → HasShown (xs ++ r ∷ []) (record look { acceptor = a })
look_other xs r look a at fed other h = look_idle xs r look a at fed (idle_other xs r look.acceptor.position look.ballot other) h

look_outbid : (xs : List Record) (r : Record) (look : Look) (a : Acceptor) (top : Ballot) → a.position ≡ look.acceptor.position → IsAcceptorOf (xs ++ r ∷ []) a
    → IsVerdict xs r look.acceptor.position (Outbid top) → HasShown xs look → HasShown (xs ++ r ∷ []) (record look { acceptor = a })
look_outbid xs r look a top at fed v h = look_idle xs r look a at fed (idle_outbid xs r look.acceptor.position look.ballot top v) h

look_elsewhere : (xs : List Record) (r : Record) (look : Look) (a : Acceptor) → a.position ≡ look.acceptor.position → IsAcceptorOf (xs ++ r ∷ []) a
    → IsVerdict xs r look.acceptor.position Elsewhere → HasShown xs look → HasShown (xs ++ r ∷ []) (record look { acceptor = a })
look_elsewhere xs r look a at fed v h = look_idle xs r look a at fed (idle_elsewhere xs r look.acceptor.position look.ballot v) h

look_promised : (xs : List Record) (r : Record) (look : Look) (a : Acceptor) (best : Option Vote) → a.position ≡ look.acceptor.position → IsAcceptorOf (xs ++ r ∷ []) a
    → IsVerdict xs r look.acceptor.position (Promised best) → ballot_of r ≡ look.ballot → HasShown xs look → HasShown (xs ++ r ∷ []) (with_promise (record look { acceptor = a }) best)
look_promised xs r look a best at fed v is h = record {
  acceptor = fed;
  promise = subst (λ (k : ℕ). ShowsPromise (xs ++ r ∷ []) k look.ballot true (if look.promised then look.best else best)) (sym at)
      (promise_made xs r look.acceptor.position look.ballot look.promised look.best best (promised_here xs r look.acceptor.position look.ballot best v is) v.1 h.promise);
  taken = subst (λ (k : ℕ). ShowsTaken (xs ++ r ∷ []) k look.ballot look.taken) (sym at)
      (taken_keeps xs r look.acceptor.position look.ballot look.taken (untaken_here xs r look.acceptor.position look.ballot best v) h.taken);
}

look_taken : (xs : List Record) (r : Record) (look : Look) (a : Acceptor) → a.position ≡ look.acceptor.position → IsAcceptorOf (xs ++ r ∷ []) a
    → IsVerdict xs r look.acceptor.position Taken → ballot_of r ≡ look.ballot → HasShown xs look → HasShown (xs ++ r ∷ []) (record look { acceptor = a; taken = true })
look_taken xs r look a at fed v is h = record {
  acceptor = fed;
  promise = subst (λ (k : ℕ). ShowsPromise (xs ++ r ∷ []) k look.ballot look.promised look.best) (sym at)
      (promise_keeps xs r look.acceptor.position look.ballot look.promised look.best (unpromised_here xs r look.acceptor.position look.ballot v) h.promise);
  taken = subst (λ (k : ℕ). ShowsTaken (xs ++ r ∷ []) k look.ballot true) (sym at) (length xs, v.entry, taken_here xs r look.acceptor.position look.ballot v is);
}

pub look_on : (xs : List Record) (r : Record) (look : Look) (a : Acceptor) (v : Verdict) → a.position ≡ look.acceptor.position → IsAcceptorOf (xs ++ r ∷ []) a
    → IsVerdict xs r look.acceptor.position v → ballot_of r ≡ look.ballot → HasShown xs look → HasShown (xs ++ r ∷ []) (after_verdict (record look { acceptor = a }) v)
look_on xs r look a (Promised best) at fed v is h = look_promised xs r look a best at fed v is h
look_on xs r look a Taken at fed v is h = look_taken xs r look a at fed v is h
look_on xs r look a (Outbid top) at fed v is h = look_outbid xs r look a top at fed v h
look_on xs r look a Elsewhere at fed v is h = look_elsewhere xs r look a at fed v h
