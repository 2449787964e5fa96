-- A change of one client, or an event more in one log, keeps what holds.
use Rattle.std.proofs.Common.{◌≡◌, ℕ, List, [], ◌∷◌, ◌++◌, Option, Some, None, ◌⊎◌, inl, inr, sym, ap, ◌∙◌, subst, slice_get, slice_set}
use Rattle.std.proofs.lemmas.List.{append-nil, length-set}
use Rattle.ms_base.specs.declared.names.Name.{Name}
use Rattle.ms_record.specs.declared.ballot.Ballot.{Ballot}
use Rattle.ms_record.specs.declared.entry.Entry.{Entry}
use Rattle.ms_record.specs.declared.log.LogEvent.{LogEvent}
use Rattle.ms_record.specs.declared.log.LogEvent.TheVariants.{Put, Drop}
use Rattle.ms_record.specs.declared.record.Record.{Record}
use Rattle.ms_record.specs.declared.record.Record.TheVariants.{Accept}
use Rattle.ms_record.specs.declared.setting.Setting.{Setting}
use Rattle.ms_record.specs.Entries.{IsEntry}
use Rattle.ms_record.specs.Logs.{votes_in}
use Rattle.ms_record.specs.Offers.{GrowsTo, IsOffered, IsJustified}
use Rattle.ms_record.specs.Records.{IsRecord, IsPosition}
use Rattle.ms_record.specs.Settings.{origin_of}
use Rattle.ms_core.specs.Valid.{IsValid}
use Rattle.ms_world.specs.Worlds.{ClientView, RequestView, WorldView, log_of, votes_of_world, offers_of, offers_in, changed, logged}
use Rattle.sha2.specs.Sha256.{sha256}
use Rattle.ms_record.specs.ChainLaws.{ChainLaws}
use Rattle.ms_base.specs.Places.{same_or_not, some_same, append_left, append_cases, set_here, set_there}
use Rattle.ms_record.specs.Growing.{is_justified_grows, votes_append, votes_grow}
use Rattle.ms_core.specs.Growth.{valid_grows, backed_grows}
use Rattle.ms_core.specs.Valid.{IsBacked}
use Rattle.ms_world.proofs.Logs.{logged_at, logged_grows, logged_cases}
use Rattle.ms_world.proofs.Invariant.{ClientOk, Inv, client_grows}

pub offered_grows : (old new : ℕ → List Record) (k : ℕ) (b : Ballot) (e : Entry) → GrowsTo old new → IsOffered old k b e → IsOffered new k b e
offered_grows old new k b e g h =
    (h.0, ap (λ (xs : List Record). slice_get xs h.0) (sym (g b.client.0).1) ∙ append_left (old b.client.0) (g b.client.0).0 h.0 (Accept k b e) h.1)

-- the offers after one client has changed, with more offers
pub offers_grow : (old : WorldView) (client : ℕ) (c d : ClientView) (sent : List RequestView) (more : List Record) → slice_get old.clients client ≡ Some c → d.offers ≡ c.offers ++ more
    → GrowsTo (offers_in old) (offers_in (changed old client d sent))
offers_grow old client c d sent more is adds j =
    elim (same_or_not j client) [
      | inl e ↦ (
        more,
        ap (λ (o : Option ClientView). offers_of o ++ more) (ap (slice_get old.clients) e ∙ is) ∙ sym adds
            ∙ ap offers_of (sym (ap (slice_get (slice_set old.clients client d)) e ∙ set_here old.clients client d c is)),
      )
      | inr n ↦ ([], append-nil (offers_in old j) ∙ ap offers_of (sym (set_there old.clients client j d n)))
    ]

-- an offer after the change was there, or is one of the new ones
offered_cases : (old : WorldView) (client : ℕ) (c d : ClientView) (sent : List RequestView) (more : List Record) → slice_get old.clients client ≡ Some c → d.offers ≡ c.offers ++ more
    → (k : ℕ) (b : Ballot) (e : Entry) → IsOffered (offers_in (changed old client d sent)) k b e → IsOffered (offers_in old) k b e ⊎ ((i : ℕ) × (slice_get more i ≡ Some (Accept k b e)))
offered_cases old client c d sent more is adds k b e h =
    elim (same_or_not b.client.0 client) [
      | inl q ↦
          let there : slice_get (c.offers ++ more) h.0 ≡ Some (Accept k b e) =
          ap (λ (xs : List Record). slice_get xs h.0) (sym adds ∙ ap offers_of (sym (ap (slice_get (slice_set old.clients client d)) q ∙ set_here old.clients client d c is))) ∙ h.1 in
          elim (append_cases c.offers more h.0 (Accept k b e) there) [
            | inl l ↦ inl (h.0, ap (λ (o : Option ClientView). slice_get (offers_of o) h.0) (ap (slice_get old.clients) q ∙ is) ∙ l)
            | inr r ↦ inr (r.0, r.2)
          ]
      | inr n ↦ inl (h.0, ap (λ (o : Option ClientView). slice_get (offers_of o) h.0) (sym (set_there old.clients client b.client.0 d n)) ∙ h.1)
    ]

-- what an offer must be
pub record MayOffer (setting : Setting) (w : WorldView) (k : ℕ) (b : Ballot) (e : Entry) : Type 0 where
  pub at : IsPosition k
  pub fits : IsEntry e
  pub justified : IsJustified (votes_of_world w) (origin_of setting) k b e
  pub valid : IsValid setting (log_of w) k e

-- one client changes as it may
pub keeps_client : (setting : Setting) (old : WorldView) (client : ℕ) (c d : ClientView) (sent : List RequestView) (more : List Record) → Inv setting old
    → slice_get old.clients client ≡ Some c → d.offers ≡ c.offers ++ more → ClientOk setting (log_of old) client d
    → ((i k : ℕ) (b : Ballot) (e : Entry) → slice_get more i ≡ Some (Accept k b e) → MayOffer setting old k b e)
    → ((i : ℕ) (q : RequestView) (k : ℕ) (b : Ballot) (e : Entry) → slice_get sent i ≡ Some q → q.message ≡ Accept k b e → IsOffered (offers_in (changed old client d sent)) k b e)
    → ((i : ℕ) (q : RequestView) → slice_get sent i ≡ Some q → IsRecord q.message)
    → Inv setting (changed old client d sent)
keeps_client setting old client c d sent more h is adds ok new_ok sent_ok sent_fits =
    let g = offers_grow old client c d sent more is adds in
    record {
      clients = λ j x at. elim (same_or_not j client) [
        | inl e ↦
            let w : d ≡ x = some_same d x (sym (set_here old.clients client d c is) ∙ ap (slice_get (slice_set old.clients client d)) (sym e) ∙ at) in
            subst (λ (y : ClientView). ClientOk setting (log_of old) j y) w (subst (λ (n : ℕ). ClientOk setting (log_of old) n d) (sym e) ok)
        | inr n ↦ h.clients j x (sym (set_there old.clients client j d n) ∙ at)
      ];
      listed = λ s p k b e at. offered_grows (offers_in old) (offers_in (changed old client d sent)) k b e g (h.listed s p k b e at);
      sent = λ i q k b e at m. elim (append_cases old.requests sent i q at) [
        | inl l ↦ offered_grows (offers_in old) (offers_in (changed old client d sent)) k b e g (h.sent i q k b e l m)
        | inr r ↦ sent_ok r.0 q k b e r.2 m
      ];
      sent_fits = λ i q at. elim (append_cases old.requests sent i q at) [ inl l ↦ h.sent_fits i q l | inr r ↦ sent_fits r.0 q r.2 ];
      fits = λ k b e o. elim (offered_cases old client c d sent more is adds k b e o) [ inl l ↦ h.fits k b e l | inr r ↦ (new_ok r.0 k b e r.1).fits ];
      justified = λ k b e o. elim (offered_cases old client c d sent more is adds k b e o) [ inl l ↦ h.justified k b e l | inr r ↦ (new_ok r.0 k b e r.1).justified ];
      valid = λ k b e o. elim (offered_cases old client c d sent more is adds k b e o) [ inl l ↦ h.valid k b e l | inr r ↦ (new_ok r.0 k b e r.1).valid ];
      dropped = h.dropped;
      positions = λ k b e o. elim (offered_cases old client c d sent more is adds k b e o) [ inl l ↦ h.positions k b e l | inr r ↦ (new_ok r.0 k b e r.1).at ];
      named = h.named;
      services = h.services;
      present = length-set old.clients client d ∙ h.present;
    }

adds_nothing : (c d : ClientView) → d.offers ≡ c.offers → d.offers ≡ c.offers ++ []
adds_nothing c d e = e ∙ sym (append-nil c.offers)

-- nothing is offered
pub keeps_silent : (setting : Setting) (old : WorldView) (client : ℕ) (c d : ClientView) (sent : List RequestView) → Inv setting old → slice_get old.clients client ≡ Some c → d.offers ≡ c.offers
    → ClientOk setting (log_of old) client d
    → ((i : ℕ) (q : RequestView) (k : ℕ) (b : Ballot) (e : Entry) → slice_get sent i ≡ Some q → q.message ≡ Accept k b e → ⊥)
    → ((i : ℕ) (q : RequestView) → slice_get sent i ≡ Some q → IsRecord q.message)
    → Inv setting (changed old client d sent)
keeps_silent setting old client c d sent h is same ok none fits =
    keeps_client setting old client c d sent [] h is (adds_nothing c d same) ok (λ i k b e g. absurd (let q : None ≡ Some (Accept k b e) = g in cc)) (λ i q k b e g m. absurd (none i q k b e g m)) fits

-- nothing is sent or offered
pub keeps_quiet : (setting : Setting) (old : WorldView) (client : ℕ) (c d : ClientView) → Inv setting old → slice_get old.clients client ≡ Some c → d.offers ≡ c.offers
    → ClientOk setting (log_of old) client d → Inv setting (changed old client d [])
keeps_quiet setting old client c d h is same ok =
    keeps_silent setting old client c d [] h is same ok (λ i q k b e g m. let w : None ≡ Some q = g in cc) (λ i q g. absurd (let w : None ≡ Some q = g in cc))

-- an event more in one log
pub keeps_logged : (l : ChainLaws) (setting : Setting) (old : WorldView) (t : ℕ) (event : LogEvent) → Inv setting old
    → ((p k : ℕ) (b : Ballot) (e : Entry) → slice_get (votes_in (event ∷ [])) p ≡ Some (Accept k b e) → IsOffered (offers_in old) k b e)
    → ((floor : ℕ) → event ≡ Drop floor → IsBacked setting (log_of old) floor)
    → ((generation : ℕ) (name : Name) (text : List ℕ) → event ≡ Put generation name text → name.0 ≡ sha256 text) → Inv setting (logged old t event)
keeps_logged l setting old t event h vote_ok drop_ok put_ok =
    let after = logged old t event in
    let g = logged_grows old t event in
    let v = votes_grow (log_of old) (log_of after) g in
    record {
      clients = λ client c is. client_grows l setting (log_of old) (log_of after) client c g (h.clients client c is);
      listed = λ s p k b e at.
          let d = logged_at old t event s in
          let grown : votes_of_world old s ++ votes_in d.0 ≡ votes_of_world after s = sym (votes_append (log_of old s) d.0) ∙ ap votes_in d.1 in
          elim (append_cases (votes_of_world old s) (votes_in d.0) p (Accept k b e) (ap (λ (xs : List Record). slice_get xs p) grown ∙ at)) [
            | inl there ↦ h.listed s p k b e there
            | inr new ↦ by d.0 d.2 new.0 k b e new.2
          ];
      sent = h.sent;
      sent_fits = h.sent_fits;
      fits = h.fits;
      justified = λ k b e o. is_justified_grows (votes_of_world old) (votes_of_world after) (origin_of setting) k b e v (h.justified k b e o);
      valid = λ k b e o. valid_grows setting (log_of old) (log_of after) k e g (h.valid k b e o);
      dropped = λ s floor has. backed_grows setting (log_of old) (log_of after) floor g (elim (logged_cases old t event s (Drop floor) has) [
        | inl there ↦ h.dropped s floor there
        | inr new ↦ drop_ok floor new
      ]);
      positions = h.positions;
      named = λ s generation name text has. elim (logged_cases old t event s (Put generation name text) has) [
        | inl there ↦ h.named s generation name text there
        | inr new ↦ put_ok generation name text new
      ];
      services = length-set old.logs t (log_of old t ++ event ∷ []) ∙ h.services;
      present = h.present;
    }
  where
    by : (more : List LogEvent) → (more ≡ []) ⊎ (more ≡ event ∷ []) → (p k : ℕ) (b : Ballot) (e : Entry) → slice_get (votes_in more) p ≡ Some (Accept k b e) → IsOffered (offers_in old) k b e
    by more (inl none) p k b e at = absurd (let q : None ≡ Some (Accept k b e) = ap (λ (xs : List LogEvent). slice_get (votes_in xs) p) (sym none) ∙ at in cc)
    by more (inr one) p k b e at = vote_ok p k b e (ap (λ (xs : List LogEvent). slice_get (votes_in xs) p) (sym one) ∙ at)
