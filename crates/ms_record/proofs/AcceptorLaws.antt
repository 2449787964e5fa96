-- The acceptor goes on by one record.
use Rattle.std.proofs.Common.{◌≡◌, ◌≢◌, ℕ, List, [], ◌∷◌, ◌++◌, Option, Some, refl, sym, ap, ◌∙◌, subst}
use Rattle.ms_record.specs.declared.acceptor.Acceptor.{Acceptor}
use Rattle.ms_record.specs.declared.ballot.Ballot.{Ballot}
use Rattle.ms_record.specs.declared.entry.Entry.{Entry}
use Rattle.ms_record.specs.declared.record.Record.{Record}
use Rattle.ms_record.specs.declared.record.Record.TheVariants.{Prepare, Accept}
use Rattle.ms_record.specs.Acceptors.{IsGreatestBallot, IsTop, IsAcceptorOf, PromisesNext, TakesNext}
use Rattle.ms_record.specs.Ballots.{IsBelow, IsAtMost}
use Rattle.ms_record.specs.BallotOrder.{below_at_most}
use Rattle.ms_record.specs.Pushing.{slice_get-pushed, best_keeps, best_takes, top_keeps, top_takes, none_above_top, none_above_taken, outbid_not_taken, taken_next, promised_next}
use Rattle.ms_record.specs.Votes.{position_of, ballot_of}

-- a record of another position changes nothing
pub fed_elsewhere : (xs : List Record) (r : Record) (a : Acceptor) → position_of r ≢ a.position → IsAcceptorOf xs a → IsAcceptorOf (xs ++ r ∷ []) a
fed_elsewhere xs r a other h = record {
  top_is = top_keeps xs r a.position a.top (λ e. absurd (other e)) h.top_is;
  best_is = best_keeps xs r a.position a.best (λ b e t. other (let q : Some r ≡ Some (Accept a.position b e) = sym (slice_get-pushed xs r) ∙ t.stands in let w : r ≡ Accept a.position b e = cc in ap position_of w)) h.best_is;
}

-- a record below the greatest ballot changes nothing
pub fed_outbid : (xs : List Record) (r : Record) (a : Acceptor) (t : Ballot) → a.top ≡ Some t → IsBelow (ballot_of r) t → IsAcceptorOf xs a
    → IsAcceptorOf (xs ++ r ∷ []) a × IsGreatestBallot xs a.position t
fed_outbid xs r a t is low h =
    let g : IsTop xs a.position (Some t) = subst (λ (o : Option Ballot). IsTop xs a.position o) is h.top_is in (
      record {
        top_is = top_keeps xs r a.position a.top (λ e. (t, is, below_at_most (ballot_of r) t low)) h.top_is;
        best_is = best_keeps xs r a.position a.best (outbid_not_taken xs r a.position t g low) h.best_is;
      },
      g,
    )

-- the acceptor after a promised Prepare
pub fed_prepare : (xs : List Record) (a : Acceptor) (b : Ballot) → ((t : Ballot) → a.top ≡ Some t → IsAtMost t b) → IsAcceptorOf xs a
    → IsAcceptorOf (xs ++ Prepare a.position b ∷ []) (record { position = a.position; top = Some b; best = a.best }) × PromisesNext xs (Prepare a.position b) a.position
fed_prepare xs a b up h =
    let none = none_above_top xs a.position a.top b h.top_is up in (
      record {
        top_is = top_takes xs (Prepare a.position b) a.position b refl refl none;
        best_is = best_keeps xs (Prepare a.position b) a.position a.best (λ c e u. let w = (none_above_taken xs (Prepare a.position b) a.position c e u).0 in cc) h.best_is;
      },
      record { ballot = b; promised = promised_next xs a.position b none },
    )

-- the acceptor after a taken Accept
pub fed_accept : (xs : List Record) (a : Acceptor) (b : Ballot) (e : Entry) → ((t : Ballot) → a.top ≡ Some t → IsAtMost t b) → IsAcceptorOf xs a
    → IsAcceptorOf (xs ++ Accept a.position b e ∷ []) (record { position = a.position; top = Some b; best = Some record { ballot = b; entry = e } }) × TakesNext xs (Accept a.position b e) a.position
fed_accept xs a b e up h =
    let none = none_above_top xs a.position a.top b h.top_is up in (
      record {
        top_is = top_takes xs (Accept a.position b e) a.position b refl refl none;
        best_is = best_takes xs a.position b e (record { ballot = b; entry = e }) refl none;
      },
      record { ballot = b; entry = e; taken = taken_next xs a.position b e none },
    )

pub prepare_is : (r : Record) (p k : ℕ) (c b : Ballot) → r ≡ Prepare p c → position_of r ≡ k → b ≡ ballot_of r → r ≡ Prepare k b
prepare_is r p k c b is here bal =
    let pk : p ≡ k = sym (ap position_of is) ∙ here in
    let cb : c ≡ b = sym (bal ∙ ap ballot_of is) in
    is ∙ ap (λ (n : ℕ). Prepare n c) pk ∙ ap (λ (x : Ballot). Prepare k x) cb

pub accept_is : (r : Record) (p k : ℕ) (c b : Ballot) (e : Entry) → r ≡ Accept p c e → position_of r ≡ k → b ≡ ballot_of r → r ≡ Accept k b e
accept_is r p k c b e is here bal =
    let pk : p ≡ k = sym (ap position_of is) ∙ here in
    let cb : c ≡ b = sym (bal ∙ ap ballot_of is) in
    is ∙ ap (λ (n : ℕ). Accept n c e) pk ∙ ap (λ (x : Ballot). Accept k x e) cb

-- the same, of a record that is known to be such a Prepare, and to be such an Accept
pub goes_on_prepare : (xs : List Record) (r : Record) (a : Acceptor) (b : Ballot) → r ≡ Prepare a.position b → ((t : Ballot) → a.top ≡ Some t → IsAtMost t b) → IsAcceptorOf xs a
    → IsAcceptorOf (xs ++ r ∷ []) (record { position = a.position; top = Some b; best = a.best }) × PromisesNext xs r a.position
goes_on_prepare xs r a b is up h =
    subst (λ (m : Record). IsAcceptorOf (xs ++ m ∷ []) (record { position = a.position; top = Some b; best = a.best }) × PromisesNext xs m a.position) (sym is) (fed_prepare xs a b up h)

pub goes_on_accept : (xs : List Record) (r : Record) (a : Acceptor) (b : Ballot) (e : Entry) → r ≡ Accept a.position b e → ((t : Ballot) → a.top ≡ Some t → IsAtMost t b) → IsAcceptorOf xs a
    → IsAcceptorOf (xs ++ r ∷ []) (record { position = a.position; top = Some b; best = Some record { ballot = b; entry = e } }) × TakesNext xs r a.position
goes_on_accept xs r a b e is up h =
    subst (λ (m : Record). IsAcceptorOf (xs ++ m ∷ []) (record { position = a.position; top = Some b; best = Some record { ballot = b; entry = e } }) × TakesNext xs m a.position) (sym is) (fed_accept xs a b e up h)
