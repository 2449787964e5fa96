-- Counts of visits.
use Rattle.std.proofs.Common.{◌≡◌, ◌≢◌, ℕ, ◌+◌, ◌<◌, ◌==◌, ◌&&◌, ◌||◌, inl, inr, Bool, true, false, List, [], ◌∷◌, ◌++◌, refl, sym, ap, ◌∙◌, subst, length, slice_set, arith}
use Rattle.std.proofs.lemmas.List.Folds.{list_any-append}
use Rattle.std.proofs.lemmas.List.{get_or-set_other, get_or-set_same, length-set}
use Rattle.std.proofs.lemmas.Bool.Decides.{nat_tests}
use Rattle.ms_base.specs.Places.{same_or_not}
use Rattle.ms_base.specs.declared.names.ServiceId.{ServiceId}
use Rattle.ms_bid.specs.Ends.{flag_at}
use Rattle.ms_upload.specs.declared.tally.Tally.{Tally}
use Rattle.ms_upload.specs.declared.visit.Met.{Met}
use Rattle.ms_upload.specs.Tallies.{IsTally}
use Rattle.ms_upload.specs.Visits.{Visit, counts_present, counts_put, did_fail, fails, present_in, puts_in}

pub present_more : (xs ys : List Visit) → present_in (xs ++ ys) ≡ present_in xs + present_in ys
present_more [] ys = omega arith
present_more (v ∷ xs) ys = omega (arith, present_more xs ys)

pub puts_more : (xs ys : List Visit) → puts_in (xs ++ ys) ≡ puts_in xs + puts_in ys
puts_more [] ys = omega arith
puts_more (v ∷ xs) ys = omega (arith, puts_more xs ys)

pub present_one : (visits : List Visit) (v : Visit) → present_in (visits ++ v ∷ []) ≡ present_in visits + counts_present v.met
present_one visits v = omega (arith, present_more visits (v ∷ []))

pub puts_one : (visits : List Visit) (v : Visit) → puts_in (visits ++ v ∷ []) ≡ puts_in visits + counts_put v.met
puts_one visits v = omega (arith, puts_more visits (v ∷ []))

or_false : (b : Bool) → (b || false) ≡ b
or_false true = refl
or_false false = refl

-- one visit, of which a failure is asked
single_no : (s : ServiceId) (met : Met) (k : ℕ) → fails met ≡ false → did_fail (record { service = s; met = met } ∷ []) k ≡ false
single_no s met k e = ap (λ (b : Bool). (b && s.0 == k) || false) e

single_yes : (s : ServiceId) (met : Met) (k : ℕ) → fails met ≡ true → did_fail (record { service = s; met = met } ∷ []) k ≡ (s.0 == k)
single_yes s met k e = ap (λ (b : Bool). (b && s.0 == k) || false) e ∙ or_false (s.0 == k)

did_one : (visits : List Visit) (v : Visit) (k : ℕ) → did_fail (visits ++ v ∷ []) k ≡ (did_fail visits k || did_fail (v ∷ []) k)
did_one visits v k = list_any-append (λ (w : Visit). fails w.met && w.service.0 == k) visits (v ∷ [])

same_test : (s k : ℕ) → s ≡ k → (s == k) ≡ true
same_test s k e = grind (arith, nat_tests)

other_test : (s k : ℕ) → s ≢ k → (s == k) ≡ false
other_test s k e = grind (arith, nat_tests)

or_true : (b : Bool) → (b || true) ≡ true
or_true true = refl
or_true false = refl

set_flag : (flags : List Bool) (s k : ℕ) → s < length flags → flag_at (slice_set flags s true) k ≡ (flag_at flags k || s == k)
set_flag flags s k lt = elim (same_or_not s k) [
  | inl e ↦ subst (λ (n : ℕ). flag_at (slice_set flags s true) n ≡ true) e (get_or-set_same flags s true false lt) ∙ sym (ap (λ (b : Bool). flag_at flags k || b) (same_test s k e) ∙ or_true (flag_at flags k))
  | inr n ↦ get_or-set_other flags s k true false (λ e. n (sym e)) ∙ sym (ap (λ (b : Bool). flag_at flags k || b) (other_test s k n) ∙ or_false (flag_at flags k))
]

module _ (visits : List Visit) (s : ServiceId) (met : Met) (old new : Tally) (h : IsTally visits old) (present : new.present ≡ old.present + counts_present met) (puts : new.puts ≡ old.puts + counts_put met) where
  abbrev v : Visit
  v = record { service = s; met = met }

  pub noted_same : fails met ≡ false → new.failed ≡ old.failed → IsTally (visits ++ v ∷ []) new
  noted_same isnt same = record {
    present = omega (arith, present, h.present, present_one visits v);
    puts = omega (arith, puts, h.puts, puts_one visits v);
    wide = ap length same ∙ h.wide;
    failed = λ k. ap (λ (flags : List Bool). flag_at flags k) same ∙ (h.failed k ∙ sym (did_one visits v k ∙ (ap (λ (b : Bool). did_fail visits k || b) (single_no s met k isnt) ∙ or_false (did_fail visits k))));
  }

  pub noted_failed : fails met ≡ true → s.0 < 16 → new.failed ≡ slice_set old.failed s.0 true → IsTally (visits ++ v ∷ []) new
  noted_failed did lt set = record {
    present = omega (arith, present, h.present, present_one visits v);
    puts = omega (arith, puts, h.puts, puts_one visits v);
    wide = ap length set ∙ (length-set old.failed s.0 true ∙ h.wide);
    failed = λ k.
        ap (λ (flags : List Bool). flag_at flags k) set
        ∙ (set_flag old.failed s.0 k (omega (arith, lt, h.wide))
        ∙ (ap (λ (b : Bool). b || s.0 == k) (h.failed k) ∙ sym (did_one visits v k ∙ ap (λ (b : Bool). did_fail visits k || b) (single_yes s met k did))));
  }
