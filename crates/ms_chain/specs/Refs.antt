-- Refs: what clients say of their bases, each in its own list on every service.
use Rattle.std.specs.Prelude.{◌≡◌, ◌↔◌, ◌<◌, ◌≤◌, ◌+◌, ℕ, zero, suc, Bool, true, false, List, [], ◌∷◌, ◌++◌, Option, Some, None, Result, Ok, Err, Contains, length, slice_get}
use Rattle.std.specs.List.{filter_map}
use mathlib.Core.List.{IsPrefix}
use Rattle.ms_core.specs.Views.{log_in}
use Rattle.ms_local.specs.declared.deed.Deed.{Deed}
use Rattle.ms_local.specs.declared.deed.Deed.TheVariants.{Appended, Listed}
use Rattle.ms_local.specs.declared.deed.Message.TheVariants.{Ref}
use Rattle.ms_local.specs.Desks.{DeskView, HasFault, KnowsTold, OnTold}
use Rattle.ms_base.specs.declared.bytes.NoMemory.{NoMemory}
use Rattle.ms_record.specs.declared.setting.Setting.{Setting}
use Rattle.ms_local.specs.Learning.{HasHalf}
use Rattle.ms_record.specs.declared.mark.RefMark.{RefMark}
use Rattle.ms_record.specs.declared.refusal.Refusal.{Refusal}
use Rattle.ms_record.specs.declared.refusal.Refusal.TheVariants as refusals
use Rattle.ms_record.specs.Logs.{texts_in}
use Rattle.ms_record.specs.Marks.{mark_at, mark_text}
use Rattle.ms_record.specs.Votes.{IsMajority, services_below}

-- the texts of a client's list of marks on a service, as far as the desk knows
abbrev pub ref_texts : DeskView → ℕ → ℕ → List (List ℕ)
ref_texts desk client s = texts_in (1 + client) (log_in desk.pass.lists s)

-- the marks among texts, in order
abbrev pub marks_of : List (List ℕ) → List RefMark
marks_of texts = filter_map mark_at texts

-- a call of which no answer came
abbrev pub IsUnanswered : Deed → Type 0
IsUnanswered (Listed service list from count ok) = ok ≡ false
IsUnanswered (Appended service list message ok) = ok ≡ false
IsUnanswered deed = ⊥

-- by one deed for each of the services below n, in their order; those of which no answer came failed
pub record IsRound (is : ℕ → Deed → Type 0) (old new : DeskView) (n : ℕ) (failed : List ℕ) : Type 0 where
  pub more : List Deed
  pub noted : new.deeds ≡ old.deeds ++ more
  pub all : length more ≡ n
  pub each : (s : ℕ) (deed : Deed) → slice_get more s ≡ Some deed → is s deed
  pub failed_are : (s : ℕ) → Contains failed s ↔ ((deed : Deed) × (slice_get more s ≡ Some deed) × IsUnanswered deed)

-- half of the services or more failed
abbrev pub HasFailed : DeskView → List ℕ → Type 0
HasFailed desk failed = HasHalf failed (services_below desk.services)

-- ---- writing

-- the mark was appended to the client's list on the service, which then has it; or the link failed
abbrev pub IsWrite : DeskView → DeskView → RefMark → ℕ → Deed → Type 0
IsWrite old new mark s (Appended service list (Ref text) true) = (service.0 ≡ s) × (list.0 ≡ 1 + old.client) × (text ≡ mark_text mark) × OnTold old (Contains (ref_texts new old.client s) text)
IsWrite old new mark s (Appended service list (Ref text) false) = (service.0 ≡ s) × (list.0 ≡ 1 + old.client) × (text ≡ mark_text mark) × HasFault old new s
IsWrite old new mark s deed = ⊥

abbrev pub Writes : DeskView → DeskView → RefMark → ℕ → List ℕ → Type 0
Writes old new mark n failed = IsRound (IsWrite old new mark) old new n failed

-- what writing a ref answers, and no other refusal
abbrev pub WritesRef : DeskView → DeskView → RefMark → Result Unit Refusal → Type 0
WritesRef old new mark (Ok u) = (failed : List ℕ) × Writes old new mark old.services failed × (HasFailed old failed → ⊥)
WritesRef old new mark (Err (refusals.NoMajority failed)) = Writes old new mark old.services failed × HasFailed old failed
WritesRef old new mark (Err refusals.NoMemory) = (n : ℕ) × (failed : List ℕ) × (n ≤ old.services) × Writes old new mark n failed
WritesRef old new mark (Err refusal) = ⊥

-- ---- reading

-- these texts of the client's list came from the service, where a setting is told all that were known among them; or the link
-- failed, and none came
abbrev pub IsLook : DeskView → DeskView → ℕ → List (List ℕ) → ℕ → Deed → Type 0
IsLook old new client texts s (Listed service list from count true) =
    (service.0 ≡ s) × (list.0 ≡ 1 + client) × (from ≡ 0) × (count ≡ length texts) × OnTold old (IsPrefix (ref_texts old client s) texts × IsPrefix texts (ref_texts new client s))
IsLook old new client texts s (Listed service list from count false) = (service.0 ≡ s) × (list.0 ≡ 1 + client) × (from ≡ 0) × (count ≡ 0) × (texts ≡ []) × HasFault old new s
IsLook old new client texts s deed = ⊥

abbrev pub Looks : DeskView → DeskView → ℕ → (ℕ → List (List ℕ)) → ℕ → List ℕ → Type 0
Looks old new client texts n failed = IsRound (λ s. IsLook old new client (texts s) s) old new n failed

-- the marks that came from the services below n, those of lower services first
abbrev pub marks_from : (ℕ → List (List ℕ)) → ℕ → List RefMark
marks_from texts zero = []
marks_from texts (suc n) = marks_from texts n ++ marks_of (texts n)

-- the mark of greatest number, of several such the first; none where there are none
abbrev pub IsFirstGreatest : List RefMark → Option RefMark → Type 0
IsFirstGreatest marks None = marks ≡ []
IsFirstGreatest marks (Some mark) =
    (front rest : List RefMark) × (marks ≡ front ++ mark ∷ rest) × ((m : RefMark) → Contains front m → m.number < mark.number) × ((m : RefMark) → Contains rest m → m.number ≤ mark.number)

-- what reading a ref answers, and no other refusal
abbrev pub ReadsRef : DeskView → DeskView → ℕ → Result (Option RefMark) Refusal → Type 0
ReadsRef old new client (Ok mark) =
    (texts : ℕ → List (List ℕ)) × (failed : List ℕ) × Looks old new client texts old.services failed × (HasFailed old failed → ⊥) × IsFirstGreatest (marks_from texts old.services) mark
ReadsRef old new client (Err (refusals.NoMajority failed)) = (texts : ℕ → List (List ℕ)) × Looks old new client texts old.services failed × HasFailed old failed
ReadsRef old new client (Err refusals.NoMemory) = (texts : ℕ → List (List ℕ)) × (n : ℕ) × (failed : List ℕ) × (n ≤ old.services) × Looks old new client texts n failed
ReadsRef old new client (Err refusal) = ⊥

-- a majority of the services has the mark in the client's list, as far as the desk knows
pub record KnownByMost (desk : DeskView) (client : ℕ) (mark : RefMark) : Type 0 where
  pub part : ℕ → Bool
  pub majority : IsMajority part (services_below desk.services)
  pub has : (s : ℕ) → part s ≡ true → Contains (marks_of (ref_texts desk client s)) mark

-- ---- one service of a round

-- the mark was appended by one deed, or its link failed; without memory nothing was noted
abbrev pub WritesOne : DeskView → DeskView → RefMark → ℕ → Result Bool NoMemory → Type 0
WritesOne old new mark s (Ok ok) = (deed : Deed) × (new.deeds ≡ old.deeds ++ deed ∷ []) × IsWrite old new mark s deed × (IsUnanswered deed ↔ (ok ≡ false))
WritesOne old new mark s (Err error) = new.deeds ≡ old.deeds

-- the texts of the client's list came by one deed, or its link failed
abbrev pub LooksOne : DeskView → DeskView → ℕ → ℕ → Result (Option (List (List ℕ))) NoMemory → Type 0
LooksOne old new client s (Ok (Some texts)) = (deed : Deed) × (new.deeds ≡ old.deeds ++ deed ∷ []) × IsLook old new client texts s deed × (IsUnanswered deed → ⊥)
LooksOne old new client s (Ok None) = (deed : Deed) × (new.deeds ≡ old.deeds ++ deed ∷ []) × IsLook old new client [] s deed × IsUnanswered deed
LooksOne old new client s (Err error) = new.deeds ≡ old.deeds

-- what was told stays told
abbrev pub TellsOn : DeskView → DeskView → Type 0
TellsOn old new = (setting : Setting) → KnowsTold old setting → KnowsTold new setting

-- what a whole round of writing leaves; without memory one of the first services
abbrev pub WritesAll : DeskView → DeskView → RefMark → Result (List ℕ) NoMemory → Type 0
WritesAll old new mark (Ok failed) = Writes old new mark old.services failed
WritesAll old new mark (Err error) = (n : ℕ) × (failed : List ℕ) × (n ≤ old.services) × Writes old new mark n failed

-- what a whole round of reading leaves: who failed, and the first mark of greatest number that came
abbrev pub LooksAll : DeskView → DeskView → ℕ → List ℕ → Option RefMark → Type 0
LooksAll old new client failed best = (texts : ℕ → List (List ℕ)) × Looks old new client texts old.services failed × IsFirstGreatest (marks_from texts old.services) best

abbrev pub GathersAll : DeskView → DeskView → ℕ → Result (List ℕ × Option RefMark) NoMemory → Type 0
GathersAll old new client (Ok r) = LooksAll old new client r.0 r.1
GathersAll old new client (Err error) = (texts : ℕ → List (List ℕ)) × (n : ℕ) × (failed : List ℕ) × (n ≤ old.services) × Looks old new client texts n failed
