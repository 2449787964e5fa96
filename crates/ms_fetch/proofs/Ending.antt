-- How the asking of all services goes on and ends.
use Rattle.std.proofs.Common.{◌≡◌, ℕ, zero, suc, ◌+◌, ◌<◌, List, [], ◌∷◌, ◌++◌, Some, Ok, Err, refl, sym, ap, ◌∙◌, subst, length, slice_get, slice_index_or, arith}
use Rattle.std.specs.Prelude.{Contains}
use Rattle.std.proofs.lemmas.List.{length-append}
use Rattle.ms_base.specs.Places.{at_contains, in_none}
use Rattle.ms_base.specs.declared.names.Name.{Name}
use Rattle.ms_base.specs.declared.names.ServiceId.{ServiceId}
use Rattle.ms_core.specs.Views.{log_in}
use Rattle.ms_record.specs.declared.log.LogEvent.{LogEvent}
use Rattle.ms_record.specs.declared.refusal.Refusal.{Refusal}
use Rattle.ms_record.specs.declared.refusal.Refusal.TheVariants.{BadInput, Broken, Collected, Contended, Limit, LocalDamaged, LostObject, NoMajority, NoMemory, NotEnabled, OutsideFault, Split, TooFew, Unlisted, Usage}
use Rattle.ms_local.specs.declared.deed.Deed.{Deed}
use Rattle.ms_local.specs.Calls.{DeskGoes}
use Rattle.ms_local.specs.Desks.{DeskView, HasFault}
use Rattle.ms_fetch.specs.declared.ask.Lack.{Lack}
use Rattle.ms_fetch.specs.declared.asked.Asked.{Asked}
use Rattle.ms_fetch.specs.Fetching.{AreBelow, AskedTo, AsksOne, Differ, Fetches, IsAsked, Tells}
use Rattle.ms_fetch.specs.Lacks.{Lacking, TrueLack}
use Rattle.ms_local.specs.Laying.{Lays, TellsObjects}
use Rattle.ms_fetch.proofs.Asks.{asks_cut, asks_next, finds}

pub next_service : (order : List ServiceId) (i : ℕ) (d : ServiceId) → i < length order → slice_get order i ≡ Some (slice_index_or order i d)
next_service [] i d within = absurd (omega (arith, within))
next_service (s ∷ order) zero d within = refl
next_service (s ∷ order) (suc i) d within = next_service order i d (omega (arith, within))

module _ (generation : ℕ) (order : List ServiceId) (name : Name) (old mid : DeskView) (place : ℕ) (asked : Asked) (h : AskedTo generation order name old mid place asked) where
  pub within : AreBelow order old.services → (s : ServiceId) → slice_get order place ≡ Some s → s.0 < mid.services
  within below s at = subst (λ (d : DeskView). s.0 < d.services) (sym h.asks.lays.effect.same) (below s (at_contains order place s at))

  module _ (new : DeskView)
      (events : (old new : DeskView) (service : ℕ) (event : LogEvent) → DeskGoes old new → Contains (log_in old.pass.lists service) event → Contains (log_in new.pass.lists service) event)
      (wider : (old low high new : DeskView) (service : ℕ) → DeskGoes old low → DeskGoes high new → HasFault low high service → HasFault old new service)
      (nothing : (desk : DeskView) → DeskGoes desk desk)
      (tells : (old new : DeskView) (s : ℕ) → DeskGoes old new → TellsObjects old s → TellsObjects new s)
      (on : (old mid new : DeskView) (deeds more : List Deed) → Lays old mid deeds → Lays mid new more → Lays old new (deeds ++ more)) where
    pub ends_cut : Lays mid new [] → Fetches generation order name old new (Err NoMemory)
    ends_cut lays = (h.lacks, asks_cut events wider nothing tells on generation name old mid new order h.lacks h.asks lays)

    module _ (s : ServiceId) (at : slice_get order place ≡ Some s) where
      here : slice_get order (length h.lacks) ≡ Some s
      here = ap (slice_get order) h.many ∙ at

      pub ends_found : (text : List ℕ) → Differ order → AsksOne mid new generation name s (Ok (Ok text)) → Fetches generation order name old new (Ok text)
      ends_found text differ k = finds events wider nothing tells on generation name old mid new order h.lacks h.asks s here text differ k

      module _ (lack : Lack) (k : AsksOne mid new generation name s (Ok (Err lack))) where
        pub ends_full : Fetches generation order name old new (Err NoMemory)
        ends_full = (h.lacks ++ (let l : Lacking = record { service = s; lack = lack } in l) ∷ [], asks_next events wider nothing tells on generation name old mid new order h.lacks h.asks s here lack k)

        pub goes_on : (next : Asked) → ((lacks : List Lacking) → IsAsked lacks asked.floor asked.reasons → IsAsked (lacks ++ (let l : Lacking = record { service = s; lack = lack } in l) ∷ []) next.floor next.reasons)
            → AskedTo generation order name old new (place + 1) next
        goes_on next noted =
            let l : Lacking = record { service = s; lack = lack } in
            record {
              lacks = h.lacks ++ l ∷ [];
              many = length-append h.lacks (l ∷ []) ∙ ap (λ (n : ℕ). n + 1) h.many;
              noted = noted h.lacks h.noted;
              asks = asks_next events wider nothing tells on generation name old mid new order h.lacks h.asks s here lack k;
            }

  -- the refusal behind all services
  pub ends_none : place ≡ length order → (refusal : Refusal) → ((lacks : List Lacking) → IsAsked lacks asked.floor asked.reasons → Tells name lacks refusal) → Fetches generation order name old mid (Err refusal)
  ends_none all refusal tells = by refusal (tells h.lacks h.noted)
    where
      by : (refusal : Refusal) → Tells name h.lacks refusal → Fetches generation order name old mid (Err refusal)
      by (Collected floor) t = (
        (let l = t.shown in (subst (λ (x : Lack). TrueLack old mid generation name l.0.service x) l.2 (h.asks.true_lacks l.0 l.1)).0),
        record { lacks = h.lacks; all = h.many ∙ all; asks = h.asks; because = t },
      )
      by (LostObject lost rows) t = (t.0, record { lacks = h.lacks; all = h.many ∙ all; asks = h.asks; because = t.1 })
      by NoMemory t = absurd t
      by Usage t = absurd t
      by (BadInput spot line) t = absurd t
      by (OutsideFault spot) t = absurd t
      by (NoMajority failed) t = absurd t
      by (Contended rivals) t = absurd t
      by (LocalDamaged key) t = absurd t
      by (Split position first second) t = absurd t
      by (Limit what value) t = absurd t
      by (TooFew lost failed) t = absurd t
      by (NotEnabled event why) t = absurd t
      by (Unlisted service ballot) t = absurd t
      by (Broken lost) t = absurd t

pub asked_none : (generation : ℕ) (order : List ServiceId) (name : Name) (desk : DeskView) (asked : Asked) → IsAsked [] asked.floor asked.reasons → Lays desk desk [] → AskedTo generation order name desk desk 0 asked
asked_none generation order name desk asked is lays = record {
  lacks = [];
  many = refl;
  noted = is;
  asks = record { first = refl; true_lacks = λ l there. absurd (in_none l there); lays = lays };
}
