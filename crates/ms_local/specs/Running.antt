-- Runs of deeds go on.
use Rattle.std.proofs.Common.{◌≡◌, ℕ, ◌+◌, Bool, List, [], ◌∷◌, ◌++◌, refl, sym, ap, ◌∙◌, subst, append_assoc}
use Rattle.std.proofs.lemmas.List.{append-nil}
use Rattle.ms_local.specs.declared.deed.Deed.{Deed}
use Rattle.ms_local.specs.declared.deed.Deed.TheVariants.{Kept}
use Rattle.ms_local.specs.Rules.{Bidding, Intent, done, bid_begun, Step, Run, HasRun, Did}

step_more : (who : ℕ) (s mid : Bidding) (own rest more : List Intent) (d : Deed) → Step who s own d mid rest → Step who s (own ++ more) d mid (rest ++ more)
step_more who s mid own rest more (Kept round ok) h = (h.0, ap (λ (xs : List Intent). xs ++ more) h.1, h.2, h.3)
step_more who s mid own rest more d h = (ap (λ (xs : List Intent). xs ++ more) h.0, h.1, h.2)

pub run_on : (who : ℕ) (s t u : Bidding) (own more : List Intent) (deeds later : List Deed) → Run who s own deeds t → Run who t more later u → Run who s (own ++ more) (deeds ++ later) u
run_on who s t u own more [] later h k =
    let same : more ≡ own ++ more = ap (λ (xs : List Intent). xs ++ more) (sym h.0) in
    subst (λ (xs : List Intent). Run who s xs later u) same (subst (λ (x : Bidding). Run who x more later u) h.1 k)
run_on who s t u own more (d ∷ deeds) later h k = (h.0, h.1 ++ more, step_more who s h.0 own h.1 more d h.2, run_on who h.0 t u h.1 more deeds later h.3 k)

step_less : (who : ℕ) (s mid : Bidding) (own rest : List Intent) (d : Deed) → Step who s own d mid rest → (have : List Intent) → (want : List Intent) × Step who s want d mid have
step_less who s mid own rest (Kept round ok) h have = (h.0 ∷ have, (h.0, refl, h.2, h.3))
step_less who s mid own rest d h have = (have, (refl, h.1, h.2))

pub run_prefix : (who : ℕ) (s u : Bidding) (own : List Intent) (deeds later : List Deed) → Run who s own (deeds ++ later) u → HasRun who s deeds
run_prefix who s u own [] later h = ([], s, (refl, refl))
run_prefix who s u own (d ∷ deeds) later h =
    let rest = run_prefix who h.0 u h.1 deeds later h.3 in
    let first = step_less who s h.0 own h.1 d h.2 rest.0 in
    (first.0, rest.1, (h.0, rest.0, first.1, rest.2))

-- one deed more
pub run_may : (who : ℕ) (s t : Bidding) (own : List Intent) (deeds : List Deed) (d : Deed) → Run who s own deeds t → Step who t [] d (done t d) [] → Run who s own (deeds ++ d ∷ []) (done t d)
run_may who s t own deeds d h may =
    subst (λ (xs : List Intent). Run who s xs (deeds ++ d ∷ []) (done t d)) (append-nil own) (run_on who s t (done t d) own [] deeds (d ∷ []) h (done t d, [], may, (refl, refl)))

-- a bid more
pub run_bid : (who : ℕ) (s t : Bidding) (own : List Intent) (e : Intent) (deeds : List Deed) (round : ℕ) (ok : Bool) → Run who s own deeds t → round ≡ t.top + 1
    → Run who s (own ++ e ∷ []) (deeds ++ Kept round ok ∷ []) (bid_begun t e round ok)
run_bid who s t own e deeds round ok h is = run_on who s t (bid_begun t e round ok) own (e ∷ []) deeds (Kept round ok ∷ []) h (bid_begun t e round ok, [], (e, refl, is, refl), (refl, refl))

pub did_nothing : (who : ℕ) (old : List Deed) (s : Bidding) → Did who old old s [] s
did_nothing who old s = record { deeds = []; grows = sym (append-nil old); run = (refl, refl) }

pub did_on : (who : ℕ) (old mid new : List Deed) (s t u : Bidding) (own more : List Intent) → Did who old mid s own t → Did who mid new t more u → Did who old new s (own ++ more) u
did_on who old mid new s t u own more h k = record {
  deeds = h.deeds ++ k.deeds;
  grows = k.grows ∙ (ap (λ (xs : List Deed). xs ++ k.deeds) h.grows ∙ append_assoc old h.deeds k.deeds);
  run = run_on who s t u own more h.deeds k.deeds h.run k.run;
}

pub did_may : (who : ℕ) (old mid new : List Deed) (s t : Bidding) (own : List Intent) (d : Deed) → Did who old mid s own t → new ≡ mid ++ d ∷ [] → Step who t [] d (done t d) [] → Did who old new s own (done t d)
did_may who old mid new s t own d h is may = record {
  deeds = h.deeds ++ d ∷ [];
  grows = is ∙ (ap (λ (xs : List Deed). xs ++ d ∷ []) h.grows ∙ append_assoc old h.deeds (d ∷ []));
  run = run_may who s t own h.deeds d h.run may;
}

pub did_bid : (who : ℕ) (old mid new : List Deed) (s t : Bidding) (own : List Intent) (e : Intent) (round : ℕ) (ok : Bool) → Did who old mid s own t → new ≡ mid ++ Kept round ok ∷ [] → round ≡ t.top + 1
    → Did who old new s (own ++ e ∷ []) (bid_begun t e round ok)
did_bid who old mid new s t own e round ok h is next = record {
  deeds = h.deeds ++ Kept round ok ∷ [];
  grows = is ∙ (ap (λ (xs : List Deed). xs ++ Kept round ok ∷ []) h.grows ∙ append_assoc old h.deeds (Kept round ok ∷ []));
  run = run_bid who s t own e h.deeds round ok h.run next;
}
