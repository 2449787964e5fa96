-- What the items of a run's view rest on.
use Rattle.std.proofs.Common.{◌≡◌, ℕ, zero, suc, ◌<◌, ◌≤◌, List, [], ◌∷◌, ◌++◌, Option, Some, inl, inr, refl, sym, ap, ◌∙◌, subst, slice_get, slice_index_or, length, Contains, arith}
use Rattle.std.proofs.lemmas.Bool.{cases_lt}
use Rattle.std.proofs.lemmas.Option.{slice_get_within}
use Rattle.ms_world.proofs.Invariant.{Inv}
use Rattle.ms_base.specs.Places.{append_left, in_none}
use Rattle.ms_record.specs.ListTexts.{record_there, text_there}
use Rattle.ms_base.specs.Places.{contains_at}
use Rattle.ms_core.specs.Views.{SupportsEvent, MayDeclare}
use Rattle.ms_world.specs.Worlds.{ClientView, WorldView, log_of, offers_of, offers_in}
use Rattle.ms_record.specs.declared.log.LogEvent.{LogEvent}
use Rattle.ms_record.specs.declared.log.LogEvent.TheVariants.{Rec, Put, Drop}
use Rattle.ms_record.specs.declared.record.Record.{Record}
use Rattle.ms_record.specs.declared.record.Record.TheVariants.{Prepare, Accept}
use Rattle.ms_record.specs.declared.setting.Setting.{Setting}
use Rattle.ms_record.specs.Logs.{texts_in}
use Rattle.ms_record.specs.Offers.{IsOffered}

past_empty : (logs : List (List LogEvent)) (s : ℕ) → length logs ≤ s → slice_index_or logs s [] ≡ []
past_empty [] s le = refl
past_empty (log ∷ logs) zero le = absurd (omega arith)
past_empty (log ∷ logs) (suc s) le = past_empty logs s (omega arith)

service_below : (setting : Setting) (w : WorldView) (s : ℕ) (event : LogEvent) → Inv setting w → Contains (log_of w s) event → s < setting.services
service_below setting w s event h has =
    elim (cases_lt s (length w.logs)) [
      | inl below ↦ omega (arith, below, h.services)
      | inr past ↦ absurd (in_none event (subst (λ (log : List LogEvent). Contains log event) (past_empty w.logs s past) has))
    ]

event_supported : (setting : Setting) (w : WorldView) (s : ℕ) (event : LogEvent) → Inv setting w → Contains (log_of w s) event → SupportsEvent setting (log_of w) (offers_in w) event
event_supported setting w s (Rec list text) h has = λ votes k b e spells.
    let i = contains_at (log_of w s) (Rec list text) has in
    let j = text_there 0 (log_of w s) i.0 list text i.1 votes in
    let p = record_there (texts_in 0 (log_of w s)) j.0 text (Accept k b e) j.1 spells in
    h.listed s p.0 k b e p.1
event_supported setting w s (Put generation name text) h has = h.named s generation name text has
event_supported setting w s (Drop floor) h has = h.dropped s floor has

pub run_supported : (setting : Setting) (w : WorldView) (s : ℕ) (event : LogEvent) → Inv setting w → Contains (log_of w s) event → (s < setting.services) × SupportsEvent setting (log_of w) (offers_in w) event
run_supported setting w s event h has = (service_below setting w s event h has, event_supported setting w s event h has)

at_split : (before : List Record) (r : Record) (after : List Record) → slice_get (before ++ r ∷ after) (length before) ≡ Some r
at_split [] r after = refl
at_split (b ∷ before) r after = at_split before r after

declared : (setting : Setting) (w : WorldView) (client : ℕ) (c : ClientView) (before : List Record) (r : Record) (after : List Record) → Inv setting w → slice_get w.clients client ≡ Some c → before ++ r ∷ after ≡ c.offers
    → slice_get c.offers (length before) ≡ Some r → MayDeclare setting (log_of w) client before r
declared setting w client c before (Prepare k b) after h is splits at = (h.clients client c is).accepts (length before) (Prepare k b) at
declared setting w client c before (Accept k b e) after h is splits at =
    let ok = h.clients client c is in
    let own = (ok.own (length before) (Accept k b e) at).0 in
    let offered : IsOffered (offers_in w) k b e = (length before, ap (λ (o : Option ClientView). slice_get (offers_of o) (length before)) (ap (slice_get w.clients) own ∙ is) ∙ at) in
    record {
      own = own;
      later = λ j a f has.
          let p = contains_at before (Accept j a f) has in
          let there : slice_get c.offers p.0 ≡ Some (Accept j a f) = ap (λ (l : List Record). slice_get l p.0) (sym splits) ∙ append_left before (Accept k b e ∷ after) p.0 (Accept j a f) p.1 in
          ok.rising p.0 (length before) (Accept j a f) (Accept k b e) (slice_get_within before p.0 (Accept j a f) p.1) there at;
      justified = h.justified k b e offered;
      valid = h.valid k b e offered;
    }

pub run_declares : (setting : Setting) (w : WorldView) (client : ℕ) (c : ClientView) (before : List Record) (r : Record) (after : List Record) → Inv setting w → slice_get w.clients client ≡ Some c → before ++ r ∷ after ≡ c.offers
    → (client < setting.clients) × MayDeclare setting (log_of w) client before r
run_declares setting w client c before r after h is splits =
    ((h.clients client c is).known, declared setting w client c before r after h is splits (ap (λ (l : List Record). slice_get l (length before)) (sym splits) ∙ at_split before r after))
