-- The link inside, as the link with faults.
use Rattle.std.proofs.Common.{◌≡◌, ℕ, ◌&&◌, Bool, true, false, Result, Ok, Err, refl, ap, ◌∙◌, arith}
use Rattle.ms_base.specs.Counts.{Rose, one_more}
use Rattle.ms_fault.specs.Faults.{FaultView, link_of, faults_after}
use Rattle.ms_link.specs.Links.{PassesOut, CountsFailed}
use Rattle.ms_link.specs.declared.fault.LinkError.{LinkError}
use Rattle.ms_link.specs.declared.fault.LinkError.TheVariants as errors

pub both_first : (a b : Bool) → (a && b) ≡ true → a ≡ true
both_first true b h = refl
both_first false b h = h

pub passes_out : (f : FaultView) → PassesOut f.inner (link_of f)
passes_out f = record { service = refl; lists = λ told. told; objects = λ told. both_first f.inner.objects _ told }

pub rose_is : (a b : ℕ) → b ≡ one_more a → Rose a b
rose_is a b is = grind arith

pub counts_failed : {A : Type 0} → (old new : FaultView) (r : Result A LinkError) → new.faults ≡ faults_after old.faults r → CountsFailed (link_of old) (link_of new) r
counts_failed {A} old new r count failed = rose_is old.faults new.faults (count ∙ ap (λ (x : Result A LinkError). faults_after old.faults x) failed)
