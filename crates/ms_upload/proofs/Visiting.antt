-- What a visit leaves.
use Rattle.std.proofs.Common.{◌≡◌, ℕ, Bool, true, false, List, [], ◌∷◌, ◌++◌, Some, Result, Ok, Err, refl, sym, inr, subst, slice_get, arith}
use Rattle.std.specs.Prelude.{Contains}
use Rattle.std.proofs.lemmas.List.Elements.{Contains-append_right, filter_map-append}
use Rattle.ms_ken.specs.Prefixes.{get_splits}
use Rattle.ms_base.specs.declared.bytes.NoMemory.{NoMemory}
use Rattle.ms_base.specs.declared.names.Name.{Name}
use Rattle.ms_base.specs.declared.names.ServiceId.{ServiceId}
use Rattle.ms_core.specs.Views.{IsClosed}
use Rattle.ms_ken.specs.Lists.{list_at}
use Rattle.ms_record.specs.declared.item.Item.{Item}
use Rattle.ms_record.specs.declared.item.Item.TheVariants.{Log}
use Rattle.ms_record.specs.declared.log.LogEvent.{LogEvent}
use Rattle.ms_record.specs.declared.log.LogEvent.TheVariants.{Put as Stored}
use Rattle.ms_record.specs.Items.{event_in, events_of}
use Rattle.ms_local.specs.declared.deed.Deed.{Deed}
use Rattle.ms_local.specs.declared.objects.Miss.{Miss}
use Rattle.ms_local.specs.declared.objects.Miss.TheVariants.{Failed, Stale}
use Rattle.ms_local.specs.Calls.{DeskCalls}
use Rattle.ms_local.specs.Desks.{DeskView, IsDesk, with_deed}
use Rattle.ms_local.specs.ObjectCalls.{HasNoted, PutsNoted}
use Rattle.ms_local.specs.Truths.{IsTrueDeed}
use Rattle.ms_upload.specs.declared.visit.Met.{Met}
use Rattle.ms_local.specs.Laying.{IsObjectDeed, Lays}
use Rattle.ms_upload.specs.Asking.{AsksOne, PutsThere, Visits}
use Rattle.ms_upload.specs.Visits.{asked_deed, met_by, put_deed}

-- the event of an item is one of the log
event_there : (items : List Item) (place : ℕ) (event : LogEvent) → slice_get items place ≡ Some (Log event) → Contains (events_of items) event
event_there items place event at =
    let p = get_splits items place (Log event) at in
    subst (λ (xs : List Item). Contains (events_of xs) event) p.3
    (subst (λ (log : List LogEvent). Contains log event) (sym (filter_map-append event_in p.0 (Log event ∷ p.1)))
    (Contains-append_right (events_of p.0) (event ∷ events_of p.1) event (0, omega arith, refl)))

module _ (old new : DeskView) (called : (service : ℕ) (old new : DeskView) → IsDesk old → IsDesk new → IsClosed new.pass.lists → DeskCalls service old new → Lays old new [])
    (noted : (service : ℕ) (old new : DeskView) (deed : Deed) → IsDesk old → IsDesk new → IsClosed new.pass.lists → DeskCalls service (with_deed old deed) new → IsObjectDeed deed → IsTrueDeed old new deed → Lays old new (deed ∷ []))
    (before : IsDesk old) (after : IsDesk new) (closed : IsClosed new.pass.lists) where
  pub asked : (s : ServiceId) (generation : ℕ) (name : Name) (r : Result (Result Bool Miss) NoMemory) → HasNoted old new s generation name r → AsksOne old new s generation name r
  asked s generation name (Ok (Ok true)) h = noted s.0 old new (asked_deed s generation name (Ok true)) before after closed h.1 tt (λ setting known. (h.0 setting known).put)
  asked s generation name (Ok (Ok false)) h = noted s.0 old new (asked_deed s generation name (Ok false)) before after closed h.1 tt tt
  asked s generation name (Ok (Err Failed)) h = noted s.0 old new (asked_deed s generation name (Err Failed)) before after closed h.1 tt h.0
  asked s generation name (Ok (Err (Stale floor))) h = noted s.0 old new (asked_deed s generation name (Err (Stale floor))) before after closed h.1 tt (h.0.below, h.0.dropped)
  asked s generation name (Err error) h = called s.0 old new before after closed h

  pub put_met : (s : ServiceId) (generation : ℕ) (name : Name) (text : List ℕ) (r : Result Unit Miss) → PutsNoted old new s generation name text (Ok r) → PutsThere old new s generation name (Ok (met_by r))
  put_met s generation name text (Ok u) h = (
    put_deed s generation name (Ok tt),
    refl,
    noted s.0 old new (put_deed s generation name (Ok tt)) before after closed h.1 tt
        (λ setting known. let e = h.0.0 setting known in (text, event_there (list_at new.pass.lists s.0) e.0 (Stored generation name text) e.2)),
  )
  put_met s generation name text (Err Failed) h = (put_deed s generation name (Err Failed), refl, noted s.0 old new (put_deed s generation name (Err Failed)) before after closed h.1 tt h.0)
  put_met s generation name text (Err (Stale floor)) h =
      (put_deed s generation name (Err (Stale floor)), refl, noted s.0 old new (put_deed s generation name (Err (Stale floor))) before after closed h.1 tt (h.0.below, h.0.dropped))

  pub put_cut : (s : ServiceId) → DeskCalls s.0 old new → Lays old new []
  put_cut s h = called s.0 old new before after closed h

-- what was not there was put
pub both : (old mid new : DeskView) (s : ServiceId) (generation : ℕ) (name : Name) (r : Result Met NoMemory)
    → ((old mid new : DeskView) (deeds more : List Deed) → Lays old mid deeds → Lays mid new more → Lays old new (deeds ++ more))
    → Lays old mid (asked_deed s generation name (Ok false) ∷ []) → PutsThere mid new s generation name r → Visits old new s generation name r
both old mid new s generation name (Ok met) on h k = subst (Lays old new) (sym k.1) (on old mid new (asked_deed s generation name (Ok false) ∷ []) (k.0 ∷ []) h k.2)
both old mid new s generation name (Err error) on h k =
    (asked_deed s generation name (Ok false) ∷ [], inr refl, on old mid new (asked_deed s generation name (Ok false) ∷ []) [] h k)
