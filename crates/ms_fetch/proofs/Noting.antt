-- What is noted of services that gave no bytes of the name.
use Rattle.std.proofs.Common.{◌≡◌, ◌⊎◌, ℕ, zero, suc, ◌≤◌, inl, inr, List, [], ◌∷◌, ◌++◌, Option, Some, None, refl, sym, ap, ◌∙◌, subst, map, max, arith}
use Rattle.std.specs.Prelude.{Contains}
use Rattle.std.proofs.lemmas.List.{map-append}
use Rattle.std.proofs.lemmas.List.Elements.{Contains-append_cases, Contains-append_left, Contains-append_right}
use Rattle.ms_base.specs.Places.{in_cases, in_here, in_none}
use Rattle.ms_base.specs.declared.names.ServiceId.{ServiceId}
use Rattle.ms_record.specs.declared.refusal.Reason.{Reason}
use Rattle.ms_record.specs.declared.refusal.ReasonRow.{ReasonRow}
use Rattle.ms_fetch.specs.declared.ask.Lack.TheVariants.{Stale, Unread}
use Rattle.ms_fetch.specs.Fetching.{IsAsked}
use Rattle.ms_fetch.specs.Lacks.{IsGreatestFloor, Lacking, greater_floor, lacking_of}

unread_stale : (reason : Reason) (floor : ℕ) → Unread reason ≡ Stale floor → ⊥
unread_stale reason floor same = cc same

stale_same : (floor other : ℕ) → Stale floor ≡ Stale other → floor ≡ other
stale_same floor other same = cc same

-- the only one of a list of one
in_one : (x y : Lacking) → Contains (x ∷ []) y → x ≡ y
in_one x y there = elim (in_cases x [] y there) [ inl same ↦ same | inr later ↦ absurd (in_none y later) ]

no_floor : (rows : List ReasonRow) (l : Lacking) (floor : ℕ) → Contains (map lacking_of rows) l → l.lack ≡ Stale floor → ⊥
no_floor [] l floor there is = in_none l there
no_floor (row ∷ rows) l floor there is = elim (in_cases (lacking_of row) (map lacking_of rows) l there) [
  | inl same ↦ unread_stale row.reason floor (ap (λ (x : Lacking). x.lack) same ∙ is)
  | inr later ↦ no_floor rows l floor later is
]

pub noted_reason : (floor : Option ℕ) (rows new : List ReasonRow) (service : ServiceId) (reason : Reason) → (let row : ReasonRow = record { service = service; reason = reason } in new ≡ rows ++ row ∷ [])
    → (lacks : List Lacking) → IsAsked lacks floor rows → (let l : Lacking = record { service = service; lack = Unread reason } in IsAsked (lacks ++ l ∷ []) floor new)
noted_reason None rows new service reason is lacks h =
    let row : ReasonRow = record { service = service; reason = reason } in
    ap (λ (ls : List Lacking). ls ++ lacking_of row ∷ []) h ∙ (sym (map-append lacking_of rows (row ∷ [])) ∙ ap (map lacking_of) (sym is))
noted_reason (Some floor) rows new service reason is lacks h =
    let l : Lacking = record { service = service; lack = Unread reason } in
    record {
      shown = (h.shown.0, Contains-append_left lacks (l ∷ []) h.shown.0 h.shown.1, h.shown.2);
      greatest = λ other f there stale. elim (Contains-append_cases lacks (l ∷ []) other there) [
        | inl old ↦ h.greatest other f old stale
        | inr last ↦ absurd (unread_stale reason f (ap (λ (x : Lacking). x.lack) (in_one l other last) ∙ stale))
      ];
    }

one_first : (a b : ℕ) → (a ≤ b) ⊎ (b ≤ a)
one_first zero b = inl (omega arith)
one_first (suc a) zero = inr (omega arith)
one_first (suc a) (suc b) = elim (one_first a b) [ inl le ↦ inl (omega (arith, le)) | inr le ↦ inr (omega (arith, le)) ]

module _ (lacks : List Lacking) (rows : List ReasonRow) (service : ServiceId) (other : ℕ) where
  abbrev last : Lacking
  last = record { service = service; lack = Stale other }

  new_greatest : (floor : ℕ) → ((l : Lacking) (f : ℕ) → Contains lacks l → l.lack ≡ Stale f → f ≤ floor) → other ≤ floor
      → (l : Lacking) (f : ℕ) → Contains (lacks ++ last ∷ []) l → l.lack ≡ Stale f → f ≤ floor
  new_greatest floor all at_most l f there stale = elim (Contains-append_cases lacks (last ∷ []) l there) [
    | inl old ↦ all l f old stale
    | inr here ↦ (let same = stale_same other f (ap (λ (x : Lacking). x.lack) (in_one last l here) ∙ stale) in omega (arith, same, at_most))
  ]

  shown_last : (l : Lacking) × Contains (lacks ++ last ∷ []) l × (l.lack ≡ Stale other)
  shown_last = (last, Contains-append_right lacks (last ∷ []) last (in_here last []), refl)

  by_order : (floor : ℕ) → IsGreatestFloor lacks floor → (floor ≤ other) ⊎ (other ≤ floor) → IsGreatestFloor (lacks ++ last ∷ []) (max floor other)
  by_order floor h (inl le) =
      subst (IsGreatestFloor (lacks ++ last ∷ [])) (let e : other ≡ max floor other = omega (arith, le) in e)
      (record { shown = shown_last; greatest = new_greatest other (λ l f there stale. let le' = h.greatest l f there stale in omega (arith, le', le)) (omega arith) })
  by_order floor h (inr le) =
      subst (IsGreatestFloor (lacks ++ last ∷ [])) (let e : floor ≡ max floor other = omega (arith, le) in e)
      (record {
        shown = (h.shown.0, Contains-append_left lacks (last ∷ []) h.shown.0 h.shown.1, h.shown.2);
        greatest = new_greatest floor h.greatest le;
      })

  pub noted_stale : (floor : Option ℕ) → IsAsked lacks floor rows → IsGreatestFloor (lacks ++ last ∷ []) (greater_floor floor other)
  noted_stale None h = record {
    shown = shown_last;
    greatest = new_greatest other (λ l f there stale. absurd (no_floor rows l f (subst (λ (ls : List Lacking). Contains ls l) h there) stale)) (omega arith);
  }
  noted_stale (Some floor) h = by_order floor h (one_first floor other)
