-- What holds in each world that a run reaches.
use Rattle.std.proofs.Common.{◌≡◌, ℕ, ◌<◌, ◌≤◌, false, List, Option, Some, None, inl, inr, refl, sym, ap, ◌∙◌, slice_get, length, Contains, arith}
use Rattle.std.proofs.lemmas.Bool.{cases_lt}
use Rattle.ms_base.specs.declared.limits.TheConstants.{LAST_NUMBER}
use Rattle.ms_world.specs.declared.client.Bidding.{Bidding}
use Rattle.ms_record.specs.declared.ballot.Ballot.{Ballot}
use Rattle.ms_record.specs.declared.entry.Entry.{Entry}
use Rattle.ms_record.specs.declared.log.LogEvent.{LogEvent}
use Rattle.ms_record.specs.declared.log.LogEvent.TheVariants.{Drop}
use Rattle.ms_record.specs.declared.record.Record.{Record}
use Rattle.ms_record.specs.declared.record.Record.TheVariants.{Prepare, Accept}
use Rattle.ms_record.specs.declared.setting.Setting.{Setting}
use Rattle.ms_record.specs.Chains.{LinksBehind, IsLinked}
use Rattle.ms_record.specs.Entries.{IsEntry}
use Rattle.ms_record.specs.Offers.{IsOffered, IsSound, IsJustified}
use Rattle.ms_record.specs.Records.{IsRecord, IsPosition}
use Rattle.ms_record.specs.Settings.{origin_of}
use Rattle.ms_record.specs.Votes.{ballot_of}
use Rattle.ms_core.specs.Placing.{IsPlaced}
use Rattle.ms_world.specs.PutTexts.{ArePutsNamed}
use Rattle.ms_core.specs.Growth.{linked_grows, placed_grows}
use Rattle.ms_core.specs.Valid.{IsBacked, IsValid, judging_plan, votes_of_logs}
use Rattle.ms_world.specs.Worlds.{ClientView, RequestView, WorldView, log_of, votes_of_world, offers_of, offers_in, next_of}
use Rattle.ms_record.specs.ChainLaws.{ChainLaws}
use Rattle.ms_base.specs.Places.{some_same}
use Rattle.ms_record.specs.Growing.{LogsGrow}

-- an entry that a client may offer behind its chain
pub record IsWanted (setting : Setting) (logs : ℕ → List LogEvent) (client : ℕ) (c : ClientView) (e : Entry) : Type 0 where
  pub own : e.client.0 ≡ client
  pub fits : IsEntry e
  pub links : LinksBehind (origin_of setting) c.chain e
  pub placed : IsPlaced logs (judging_plan setting c.chain e) e.version

pub record IsBid (setting : Setting) (logs : ℕ → List LogEvent) (client : ℕ) (c : ClientView) (bid : Bidding) : Type 0 where
  pub at : bid.position ≡ next_of c
  pub last : bid.position ≤ LAST_NUMBER
  pub kept : bid.round ≤ c.kept
  pub some_round : 1 ≤ bid.round
  pub last_round : bid.round ≤ LAST_NUMBER
  pub fresh : bid.offered ≡ false → (i : ℕ) (r : Record) → slice_get c.offers i ≡ Some r → (ballot_of r).round < bid.round
  pub want : (e : Entry) → bid.want ≡ Some e → IsWanted setting logs client c e

-- an offer is an Accept
abbrev pub IsAccept : Record → Type 0
IsAccept (Accept k b e) = Unit {0}
IsAccept (Prepare k b) = ⊥

pub record ClientOk (setting : Setting) (logs : ℕ → List LogEvent) (client : ℕ) (c : ClientView) : Type 0 where
  pub known : client < setting.clients
  pub accepts : (i : ℕ) (r : Record) → slice_get c.offers i ≡ Some r → IsAccept r
  pub own : (i : ℕ) (r : Record) → slice_get c.offers i ≡ Some r → ((ballot_of r).client.0 ≡ client) × ((ballot_of r).round ≤ c.kept)
  pub rising : (i j : ℕ) (r q : Record) → i < j → slice_get c.offers i ≡ Some r → slice_get c.offers j ≡ Some q → (ballot_of r).round < (ballot_of q).round
  pub linked : IsLinked (votes_of_logs logs) (origin_of setting) c.chain
  pub bid : (bid : Bidding) → c.bid ≡ Some bid → IsBid setting logs client c bid

pub record Inv (setting : Setting) (w : WorldView) : Type 0 where
  pub clients : (client : ℕ) (c : ClientView) → slice_get w.clients client ≡ Some c → ClientOk setting (log_of w) client c
  pub listed : (s p k : ℕ) (b : Ballot) (e : Entry) → slice_get (votes_of_world w s) p ≡ Some (Accept k b e) → IsOffered (offers_in w) k b e
  pub sent : (i : ℕ) (q : RequestView) (k : ℕ) (b : Ballot) (e : Entry) → slice_get w.requests i ≡ Some q → q.message ≡ Accept k b e → IsOffered (offers_in w) k b e
  pub sent_fits : (i : ℕ) (q : RequestView) → slice_get w.requests i ≡ Some q → IsRecord q.message
  pub fits : (k : ℕ) (b : Ballot) (e : Entry) → IsOffered (offers_in w) k b e → IsEntry e
  pub justified : (k : ℕ) (b : Ballot) (e : Entry) → IsOffered (offers_in w) k b e → IsJustified (votes_of_world w) (origin_of setting) k b e
  pub valid : (k : ℕ) (b : Ballot) (e : Entry) → IsOffered (offers_in w) k b e → IsValid setting (log_of w) k e
  pub dropped : (s floor : ℕ) → Contains (log_of w s) (Drop floor) → IsBacked setting (log_of w) floor
  pub positions : (k : ℕ) (b : Ballot) (e : Entry) → IsOffered (offers_in w) k b e → IsPosition k
  pub named : (s : ℕ) → ArePutsNamed (log_of w s)
  pub services : length w.logs ≡ setting.services
  pub present : length w.clients ≡ setting.clients

wanted_grows : (setting : Setting) (old new : ℕ → List LogEvent) (client : ℕ) (c : ClientView) (e : Entry) → LogsGrow old new → IsWanted setting old client c e → IsWanted setting new client c e
wanted_grows setting old new client c e g h = record {
  own = h.own;
  fits = h.fits;
  links = h.links;
  placed = placed_grows old new (judging_plan setting c.chain e) e.version g h.placed;
}

bid_grows : (setting : Setting) (old new : ℕ → List LogEvent) (client : ℕ) (c : ClientView) (bid : Bidding) → LogsGrow old new → IsBid setting old client c bid → IsBid setting new client c bid
bid_grows setting old new client c bid g h = record {
  at = h.at;
  last = h.last;
  kept = h.kept;
  some_round = h.some_round;
  last_round = h.last_round;
  fresh = h.fresh;
  want = λ e is. wanted_grows setting old new client c e g (h.want e is);
}

pub client_grows : (l : ChainLaws) (setting : Setting) (old new : ℕ → List LogEvent) (client : ℕ) (c : ClientView) → LogsGrow old new → ClientOk setting old client c → ClientOk setting new client c
client_grows l setting old new client c g h = record {
  known = h.known;
  accepts = h.accepts;
  own = h.own;
  rising = h.rising;
  linked = linked_grows setting old new c.chain g h.linked;
  bid = λ bid is. bid_grows setting old new client c bid g (h.bid bid is);
}

-- the same place of one client's offers
one_place : (setting : Setting) (logs : ℕ → List LogEvent) (client : ℕ) (c : ClientView) (ok : ClientOk setting logs client c) (i j : ℕ) (r q : Record)
    → slice_get c.offers i ≡ Some r → slice_get c.offers j ≡ Some q → (ballot_of r).round ≡ (ballot_of q).round → r ≡ q
one_place setting logs client c ok i j r q gr gq e =
    elim (cases_lt i j) [
      | inl l ↦ absurd (omega (arith, ok.rising i j r q l gr gq))
      | inr m ↦ elim (cases_lt j i) [
        | inl l ↦ absurd (omega (arith, ok.rising j i q r l gq gr))
        | inr n ↦ (let p : i ≡ j = omega arith in some_same r q (sym gr ∙ ap (λ (k : ℕ). slice_get c.offers k) p ∙ gq))
      ]
    ]

one_in : (setting : Setting) (logs : ℕ → List LogEvent) (client : ℕ) (o : Option ClientView) (ok : (c : ClientView) → o ≡ Some c → ClientOk setting logs client c)
    (i j : ℕ) (r q : Record) → slice_get (offers_of o) i ≡ Some r → slice_get (offers_of o) j ≡ Some q → (ballot_of r).round ≡ (ballot_of q).round → r ≡ q
one_in setting logs client None ok i j r q gr gq e = (let w : None ≡ Some r = gr in cc)
one_in setting logs client (Some c) ok i j r q gr gq e = one_place setting logs client c (ok c refl) i j r q gr gq e

entry_in : (k : ℕ) (b : Ballot) (e f : Entry) → Accept k b e ≡ Accept k b f → e ≡ f
entry_in k b e f h = cc

pub sound : (setting : Setting) (w : WorldView) → Inv setting w → IsSound (votes_of_world w) (offers_in w) (origin_of setting)
sound setting w h = record {
  one_offer = λ k b e f x y.
      entry_in k b e f (one_in setting (log_of w) b.client.0 (slice_get w.clients b.client.0) (λ c g. h.clients b.client.0 c g) x.0 y.0 (Accept k b e) (Accept k b f) x.1 y.1 refl);
  taken_offered = λ s p k b e t. h.listed s p k b e t.stands;
  justified = λ k b e o. h.justified k b e o;
}
