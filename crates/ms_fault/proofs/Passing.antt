-- What a call of the link inside says of the link with faults.
use Rattle.std.proofs.Common.{◌≡◌, Result, Err, sym, ap, ◌∙◌, subst, ◌⊎◌, inl, inr}
use Rattle.ms_base.specs.Counts.{Rose}
use Rattle.ms_fault.proofs.Inside.{passes_out, counts_failed, rose_is}
use Rattle.ms_fault.specs.Changes.{Changes}
use Rattle.ms_fault.specs.declared.fault.Fault.{Fault}
use Rattle.ms_fault.specs.declared.fault.Fault.TheVariants as faults
use Rattle.ms_fault.specs.Faults.{FaultView, link_of, due, faults_after, ChangesBy}
use Rattle.ms_ken.specs.Known.{Known}
use Rattle.ms_link.specs.Composing.{learns_self, tells_on, puts_on, tells_out, puts_out}
use Rattle.ms_link.specs.declared.fault.LinkError.{LinkError}
use Rattle.ms_link.specs.declared.fault.LinkError.TheVariants as errors
use Rattle.ms_link.specs.Links.{LinkView, Stays, Learns}
use Rattle.ms_record.specs.declared.item.Item.{Item}
use Rattle.ms_record.specs.declared.log.LogEvent.{LogEvent}
use Rattle.ms_record.specs.declared.log.LogEvent.TheVariants.{Rec, Put, Drop}

-- ---- what a change leaves, by the event

pub changes_before : (link later after : LinkView) (k0 k1 k2 : Known Item) (event : LogEvent) (r : Result Unit LinkError) → Stays link later → Learns k0 k1 → Changes later after k1 k2 event r → Changes link after k0 k2 event r
changes_before link later after k0 k1 k2 (Rec list text) r stays learns h = tells_on link later after k0 k1 k2 (Rec list text) r stays learns h
changes_before link later after k0 k1 k2 (Put generation name text) r stays learns h = puts_on link later after k0 k1 k2 generation (Put generation name text) r stays learns h
changes_before link later after k0 k1 k2 (Drop floor) r stays learns h = tells_on link later after k0 k1 k2 (Drop floor) r stays learns h

pub changes_later : (link later after : LinkView) (k0 k1 : Known Item) (event : LogEvent) (r : Result Unit LinkError) → Stays link later → Changes later after k0 k1 event r → Changes link after k0 k1 event r
changes_later link later after k0 k1 event r stays h = changes_before link later after k0 k0 k1 event r stays (learns_self k0) h

changes_inside : (old new : FaultView) (k0 k1 : Known Item) (event : LogEvent) (r : Result Unit LinkError) → new.faults ≡ faults_after old.faults r → Changes old.inner new.inner k0 k1 event r
    → Changes (link_of old) (link_of new) k0 k1 event r
changes_inside old new k0 k1 (Rec list text) r count h = tells_out old.inner new.inner (link_of old) (link_of new) k0 k1 (Rec list text) r (passes_out old) (counts_failed old new r count) h
changes_inside old new k0 k1 (Put generation name text) r count h =
    puts_out old.inner new.inner (link_of old) (link_of new) k0 k1 generation (Put generation name text) r (passes_out old) (counts_failed old new r count) h
changes_inside old new k0 k1 (Drop floor) r count h = tells_out old.inner new.inner (link_of old) (link_of new) k0 k1 (Drop floor) r (passes_out old) (counts_failed old new r count) h

changes_failed : (old new : FaultView) (k0 k1 : Known Item) (event : LogEvent) (r : Result Unit LinkError) → new.faults ≡ faults_after old.faults r → r ≡ Err errors.Failed → Changes (link_of old) (link_of new) k0 k1 event r
changes_failed old new k0 k1 event r count is =
    subst (λ (x : Result Unit LinkError). Changes (link_of old) (link_of new) k0 k1 event x) (sym is) (by event (rose_is old.faults new.faults (count ∙ ap (λ (x : Result Unit LinkError). faults_after old.faults x) is)))
  where
    by : (event : LogEvent) → Rose old.faults new.faults → Changes (link_of old) (link_of new) k0 k1 event (Err errors.Failed)
    by (Rec list text) rose = rose
    by (Put generation name text) rose = rose
    by (Drop floor) rose = rose

changes_out_of_memory : (old new : FaultView) (k0 k1 : Known Item) (event : LogEvent) (r : Result Unit LinkError) → r ≡ Err errors.NoMemory → Changes (link_of old) (link_of new) k0 k1 event r
changes_out_of_memory old new k0 k1 event r is = subst (λ (x : Result Unit LinkError). Changes (link_of old) (link_of new) k0 k1 event x) (sym is) (by event)
  where
    by : (event : LogEvent) → Changes (link_of old) (link_of new) k0 k1 event (Err errors.NoMemory)
    by (Rec list text) = tt
    by (Put generation name text) = tt
    by (Drop floor) = tt

-- what the fault makes of a change is what a link may make of it
pub changes_shown : (fault : Fault) (old new : FaultView) (k0 k1 : Known Item) (event : LogEvent) (r : Result Unit LinkError) → ChangesBy fault old new k0 k1 event r → new.faults ≡ faults_after old.faults r
    → Changes (link_of old) (link_of new) k0 k1 event r
changes_shown faults.Pass old new k0 k1 event r h count = changes_inside old new k0 k1 event r count h
changes_shown faults.Lose old new k0 k1 event r h count = changes_failed old new k0 k1 event r count h.0
changes_shown faults.ActThenFail old new k0 k1 event r h count = changes_failed old new k0 k1 event r count h
changes_shown faults.Repeat old new k0 k1 event r h count = changes_inside old new k0 k1 event r count h
changes_shown (faults.Late after) old new k0 k1 event r h count = either h.0
  where
    either : ((r ≡ Err errors.Failed) ⊎ (r ≡ Err errors.NoMemory)) → Changes (link_of old) (link_of new) k0 k1 event r
    either (inl is) = changes_failed old new k0 k1 event r count is
    either (inr is) = changes_out_of_memory old new k0 k1 event r is
changes_shown faults.Alter old new k0 k1 event r h count = changes_inside old new k0 k1 event r count h
changes_shown faults.Gone old new k0 k1 event r h count = changes_inside old new k0 k1 event r count h

-- a change is passed on under each of these faults
pub passed : (fault : Fault) (old new : FaultView) (k0 k1 : Known Item) (event : LogEvent) (r : Result Unit LinkError) → fault ≡ due old → ((fault ≡ faults.Pass) ⊎ (fault ≡ faults.Alter) ⊎ (fault ≡ faults.Gone))
    → Changes old.inner new.inner k0 k1 event r → ChangesBy (due old) old new k0 k1 event r
passed fault old new k0 k1 event r is one h = subst (λ (f : Fault). ChangesBy f old new k0 k1 event r) is (by one)
  where
    by : ((fault ≡ faults.Pass) ⊎ (fault ≡ faults.Alter) ⊎ (fault ≡ faults.Gone)) → ChangesBy fault old new k0 k1 event r
    by (inl e) = subst (λ (f : Fault). ChangesBy f old new k0 k1 event r) (sym e) h
    by (inr (inl e)) = subst (λ (f : Fault). ChangesBy f old new k0 k1 event r) (sym e) h
    by (inr (inr e)) = subst (λ (f : Fault). ChangesBy f old new k0 k1 event r) (sym e) h
