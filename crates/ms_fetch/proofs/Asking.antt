-- What the question at one service leaves.
use Rattle.std.proofs.Common.{◌≡◌, ◌≢◌, ℕ, ◌<◌, inl, inr, true, false, List, [], ◌∷◌, Some, None, Ok, Err, refl, sym, ap, ◌∙◌, subst, slice_get, slice_index_or, arith}
use Rattle.std.specs.Prelude.{Contains}
use Rattle.ms_base.specs.declared.bytes.NoMemory.{NoMemory}
use Rattle.ms_base.specs.declared.names.Name.{Name}
use Rattle.ms_base.specs.declared.names.ServiceId.{ServiceId}
use Rattle.ms_core.specs.Views.{IsClosed, IsSupported, View, configuration, log_in}
use Rattle.ms_ken.specs.Lists.{Begins, list_at}
use Rattle.ms_ken.specs.Prefixes.{get_splits}
use Rattle.ms_link.specs.Links.{LinkView}
use Rattle.ms_object.specs.Objects.{name_of as sha_name}
use Rattle.ms_record.specs.declared.item.Item.{Item}
use Rattle.ms_record.specs.declared.item.Item.TheVariants.{Log, Told, Untold}
use Rattle.ms_record.specs.declared.log.LogEvent.{LogEvent}
use Rattle.ms_record.specs.declared.log.LogEvent.TheVariants.{Put as Stored}
use Rattle.ms_record.specs.declared.refusal.Reason.TheVariants.{Absent, Altered, Failed}
use Rattle.ms_record.specs.declared.setting.Setting.{Setting}
use Rattle.ms_local.specs.declared.deed.Deed.{Deed}
use Rattle.ms_local.specs.declared.deed.Deed.TheVariants.{Got}
use Rattle.ms_local.specs.declared.objects.Found.{Found}
use Rattle.ms_local.specs.declared.objects.Miss.TheVariants as misses
use Rattle.ms_local.specs.Calls.{DeskCalls}
use Rattle.ms_local.specs.Desks.{DeskView, IsDesk, first_link, with_deed}
use Rattle.ms_local.specs.ObjectCalls.{GetsNoted}
use Rattle.ms_local.specs.Truths.{IsTrueDeed}
use Rattle.ms_fetch.specs.declared.ask.Lack.TheVariants.{Stale, Unread}
use Rattle.ms_fetch.specs.Fetching.{AsksOne, found_deed}
use Rattle.ms_local.specs.Laying.{IsObjectDeed, Lays, TellsObjects}

-- the first lane is one of the lanes
first_there : (lanes : List (List LinkView)) (s : ℕ) (link : LinkView) → slice_get (slice_index_or lanes 0 []) s ≡ Some link → (links : List LinkView) × (slice_get lanes 0 ≡ Some links) × (slice_get links s ≡ Some link)
first_there [] s link at = absurd (let q : None ≡ Some link = at in cc q)
first_there (links ∷ lanes) s link at = (links, refl, at)

pub tells_first : (desk : DeskView) (s : ℕ) → TellsObjects desk s → (link : LinkView) → first_link desk s ≡ Some link → link.objects ≡ true
tells_first desk s tells link at = let p = first_there desk.lanes s link at in tells 0 p.0 link p.1 p.2

-- where a setting is told, a text was put under its own name
supported_put : (setting : Setting) (view : View) (owner : ℕ) (before : List Item) (generation : ℕ) (name : Name) (text : List ℕ)
    → IsSupported setting view owner before (Log (Stored generation name text)) → name.0 ≡ sha_name text
supported_put setting view owner before generation name text (inl h) = h.1
supported_put setting view owner before generation name text (inr h) = absurd h.3

put_named : (view : View) (setting : Setting) (s place : ℕ) (generation : ℕ) (name : Name) (text : List ℕ) → IsClosed view → list_at view configuration ≡ Told setting ∷ [] → s ≢ configuration
    → slice_get (list_at view s) place ≡ Some (Log (Stored generation name text)) → name.0 ≡ sha_name text
put_named view setting s place generation name text (inl none) told other at = absurd (let q = sym (none configuration) ∙ told in cc q)
put_named view setting s place generation name text (inr (inl untold)) told other at = absurd (let q : Untold ∷ [] ≡ Told setting ∷ [] = sym untold ∙ told in cc q)
put_named view setting s place generation name text (inr (inr tells)) told other at =
    let split = get_splits (list_at view s) place (Log (Stored generation name text)) at in
    supported_put tells.0 view s split.0 generation name text (tells.1.supported s split.0 (Log (Stored generation name text)) split.1 other split.3)

name_same : (one other : Name) → one.0 ≡ other.0 → one ≡ other
name_same one other same = ap (λ (x : List ℕ). let n : Name = record { 0 = x } in n) same

module _ (old new : DeskView) (called : (service : ℕ) (old new : DeskView) → IsDesk old → IsDesk new → IsClosed new.pass.lists → DeskCalls service old new → Lays old new [])
    (noted : (service : ℕ) (old new : DeskView) (deed : Deed) → IsDesk old → IsDesk new → IsClosed new.pass.lists → DeskCalls service (with_deed old deed) new → IsObjectDeed deed → IsTrueDeed old new deed → Lays old new (deed ∷ []))
    (items : (view : View) (service : ℕ) (event : LogEvent) → Contains (log_in view service) event → (place : ℕ) × (slice_get (list_at view service) place ≡ Some (Log event)))
    (events : (one more : View) (service : ℕ) (event : LogEvent) → Begins one more → Contains (log_in one service) event → Contains (log_in more service) event)
    (before : IsDesk old) (after : IsDesk new) (closed : IsClosed new.pass.lists) where
  -- no service of a desk is the configuration
  other_owner : (s : ℕ) → s < old.services → s ≢ configuration
  other_owner s within same = absurd (omega (arith, within, same, before.few_services))

  pub found : (s : ServiceId) (generation : ℕ) (name : Name) (f : Found) → GetsNoted old new s generation name (Ok (Ok (Some f))) → f.name ≡ name
      → (name.0 ≡ sha_name f.text) × Lays old new (found_deed generation name s ∷ [])
  found s generation name f h same = (
    sym (ap (λ (n : Name). n.0) same) ∙ h.0,
    noted s.0 old new (found_deed generation name s) before after closed (subst (λ (n : Name). DeskCalls s.0 (with_deed old (Got s generation name (Some n) true None)) new) same h.2) tt tt,
  )

  pub altered : (s : ServiceId) (generation : ℕ) (name : Name) (f : Found) → s.0 < old.services → GetsNoted old new s generation name (Ok (Ok (Some f))) → f.name ≢ name
      → AsksOne old new generation name s (Ok (Err (Unread (Altered f.name))))
  altered s generation name f within h other =
      let lays = noted s.0 old new (Got s generation name (Some f.name) true None) before after closed h.2 tt tt in (
        (
          other,
          λ tells setting known.
              let kept = h.1 (tells_first old s.0 tells) setting known in
              let at = items new.pass.lists s.0 (Stored generation name f.text) kept.put in
              other (name_same f.name name (h.0 ∙ sym (put_named new.pass.lists setting s.0 at.0 generation name f.text closed (lays.told setting known) (other_owner s.0 within) at.1))),
        ),
        lays,
      )

  pub absent : (s : ServiceId) (generation : ℕ) (name : Name) → GetsNoted old new s generation name (Ok (Ok None)) → AsksOne old new generation name s (Ok (Err (Unread Absent)))
  absent s generation name h =
      let lays = noted s.0 old new (Got s generation name None true None) before after closed h.1 tt tt in
      ((λ tells setting known put. (h.0 (tells_first old s.0 tells) setting known).none (put.0, events old.pass.lists new.pass.lists s.0 (Stored generation name put.0) h.1.pass.more put.1)), lays)

  pub failed : (s : ServiceId) (generation : ℕ) (name : Name) → GetsNoted old new s generation name (Ok (Err misses.Failed)) → AsksOne old new generation name s (Ok (Err (Unread Failed)))
  failed s generation name h = (h.0, noted s.0 old new (Got s generation name None false None) before after closed h.1 tt h.0)

  pub stale : (s : ServiceId) (generation floor : ℕ) (name : Name) → GetsNoted old new s generation name (Ok (Err (misses.Stale floor))) → AsksOne old new generation name s (Ok (Err (Stale floor)))
  stale s generation floor name h = ((h.0.below, h.0.dropped), noted s.0 old new (Got s generation name None false (Some floor)) before after closed h.1 tt (h.0.below, h.0.dropped))

  pub cut : (s : ServiceId) (generation : ℕ) (name : Name) (error : NoMemory) → GetsNoted old new s generation name (Err error) → Lays old new []
  cut s generation name error h = called s.0 old new before after closed h
