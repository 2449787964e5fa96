-- Scripts of faults, and what each fault does to a call.
use Rattle.std.specs.Prelude.{◌≡◌, ℕ, ◌+◌, ◌≤◌, ◌&&◌, Bool, true, false, List, [], ◌∷◌, ◌++◌, length, min, bit_xor, Option, Some, None, Result, Ok, Err, ◌⊎◌, slice_index_or}
use Rattle.std.specs.List.{list_all}
use Rattle.ms_base.specs.declared.names.Name.{Name}
use Rattle.ms_fault.specs.Changes.{Changes}
use Rattle.ms_fault.specs.declared.fault.Fault.{Fault}
use Rattle.ms_fault.specs.declared.fault.Fault.TheVariants as faults
use Rattle.ms_base.specs.Counts.{one_more}
use Rattle.ms_fault.specs.declared.late.LateChange.{LateChange}
use Rattle.ms_fault.specs.Late.{waiting, sent_late}
use Rattle.ms_ken.specs.Known.{Known}
use Rattle.ms_link.specs.declared.fault.LinkError.{LinkError}
use Rattle.ms_link.specs.declared.fault.LinkError.TheVariants as errors
use Rattle.ms_link.specs.Links.{LinkView, Stays, WhereKept, IsKept, Lists, Has, Gets, log_known}
use Rattle.ms_record.specs.declared.item.Item.{Item}
use Rattle.ms_record.specs.declared.log.LogEvent.{LogEvent}

-- a link with faults: the link inside, the script, how many of its faults were met, the fault behind it, the changes that are
-- done later, how many calls were made, and how many of them were answered `Failed`
pub record FaultView : Type 0 where
  pub inner : LinkView
  pub script : List Fault
  pub at : ℕ
  pub rest : Fault
  pub late : List LateChange
  pub calls : ℕ
  pub faults : ℕ

-- the fault that the next call meets
abbrev pub due : FaultView → Fault
due f = slice_index_or f.script f.at f.rest

-- the fault hands out what is kept
abbrev pub shows_kept : Fault → Bool
shows_kept faults.Alter = false
shows_kept faults.Gone = false
shows_kept _ = true

-- as a link: it tells its lists where the link inside does, and its objects where that does and no fault alters or forgets
abbrev pub link_of : FaultView → LinkView
link_of f = record {
  board = f.inner.board;
  service = f.inner.service;
  faults = f.faults;
  lists = f.inner.lists;
  objects = f.inner.objects && (list_all shows_kept f.script && shows_kept f.rest);
}

-- a call later: the next fault is due
pub record IsNext (old new : FaultView) : Type 0 where
  pub inner : Stays old.inner new.inner
  pub script : new.script ≡ old.script
  pub rest : new.rest ≡ old.rest
  pub at : new.at ≡ min (old.at + 1) (length old.script)
  pub calls : new.calls ≡ one_more old.calls

-- the changes that still wait once this call has begun: all others were done, in the order in which they were sent
abbrev pub still_late : FaultView → List LateChange
still_late f = waiting (one_more f.calls) f.late

-- nobody was asked: where no late change was done before this call, the link inside is as it was
abbrev pub IsIdle : FaultView → FaultView → Type 0
IsIdle old new = still_late old ≡ old.late → new.inner ≡ old.inner

-- what waits behind a change under this fault: one that is late waits with what its caller knew
abbrev pub LateBy : Fault → FaultView → FaultView → Known Item → LogEvent → Result Unit LinkError → Type 0
LateBy (faults.Late later) old new before event (Err errors.Failed) = new.late ≡ still_late old ++ sent_late new.calls before event later ∷ []
LateBy _ old new before event result = new.late ≡ still_late old

-- a call of the link inside was made, and nothing else changed
pub record IsActed (old new : FaultView) : Type 0 where
  pub inner : Stays old.inner new.inner
  pub same : new ≡ record old { inner = new.inner }

-- a call of the link inside was made and counted
pub record IsCalled (old new : FaultView) : Type 0 where
  pub inner : Stays old.inner new.inner
  pub same : new ≡ record old { inner = new.inner; faults = new.faults }
  pub later : old.faults ≤ new.faults

-- the count of faults after this answer: one more after `Failed`
abbrev pub faults_after : {A : Type 0} → ℕ → Result A LinkError → ℕ
faults_after n (Ok a) = n
faults_after n (Err errors.Failed) = one_more n
faults_after n (Err (errors.Stale floor)) = n
faults_after n (Err errors.NoMemory) = n

-- a change under this fault: it fails, and nobody was asked where it is lost or late; or it is answered as the link inside does
abbrev pub ChangesBy : Fault → FaultView → FaultView → Known Item → Known Item → LogEvent → Result Unit LinkError → Type 0
ChangesBy faults.Lose old new before after event result = (result ≡ Err errors.Failed) × (after ≡ before) × IsIdle old new
ChangesBy faults.ActThenFail old new before after event result = result ≡ Err errors.Failed
ChangesBy (faults.Late later) old new before after event result = ((result ≡ Err errors.Failed) ⊎ (result ≡ Err errors.NoMemory)) × (after ≡ before) × IsIdle old new
ChangesBy _ old new before after event result = Changes old.inner new.inner before after event result

-- a call that reads, under this fault: it fails, and nobody was asked where it is lost; or it is answered as the link inside does
abbrev pub ReadsBy : {A : Type 0} → Fault → Type 0 → FaultView → FaultView → Known Item → Known Item → Result A LinkError → Type 0
ReadsBy faults.Lose Inside old new before after result = (result ≡ Err errors.Failed) × (after ≡ before) × IsIdle old new
ReadsBy faults.ActThenFail Inside old new before after result = result ≡ Err errors.Failed
ReadsBy _ Inside old new before after result = Inside

abbrev pub ListsBy : Fault → FaultView → FaultView → Known Item → Known Item → ℕ → ℕ → Result (List (List ℕ)) LinkError → Type 0
ListsBy fault old new before after list from result = ReadsBy fault (Lists old.inner new.inner after list from result) old new before after result

abbrev pub HasBy : Fault → FaultView → FaultView → Known Item → Known Item → ℕ → Name → Result Bool LinkError → Type 0
HasBy faults.Gone old new before after generation name result = (result ≡ Ok false) × (after ≡ before) × IsIdle old new
HasBy fault old new before after generation name result = ReadsBy fault (Has old.inner new.inner after generation name result) old new before after result

-- the lowest bit of the last byte is flipped; an empty text becomes one zero byte
abbrev pub IsAltered : List ℕ → List ℕ → Type 0
IsAltered text other =
    ((text ≡ []) × (other ≡ 0 ∷ [])) ⊎ ((front : List ℕ) × (last : ℕ) × (text ≡ front ++ last ∷ []) × (other ≡ front ++ bit_xor last 1 ∷ []))

-- as the link inside answers, but for the text: where that link tells its objects, it is a kept one, altered
abbrev pub AltersBy : FaultView → FaultView → Known Item → ℕ → Name → Result (Option (List ℕ)) LinkError → Type 0
AltersBy old new after generation name (Ok (Some other)) = WhereKept old.inner ((text : List ℕ) × IsKept (log_known old.inner after) generation name text × IsAltered text other)
AltersBy old new after generation name (Ok None) = Gets old.inner new.inner after generation name (Ok None)
AltersBy old new after generation name (Err e) = Gets old.inner new.inner after generation name (Err e)

abbrev pub GetsBy : Fault → FaultView → FaultView → Known Item → Known Item → ℕ → Name → Result (Option (List ℕ)) LinkError → Type 0
GetsBy faults.Gone old new before after generation name result = (result ≡ Ok None) × (after ≡ before) × IsIdle old new
GetsBy faults.Alter old new before after generation name result = AltersBy old new after generation name result
GetsBy fault old new before after generation name result = ReadsBy fault (Gets old.inner new.inner after generation name result) old new before after result
