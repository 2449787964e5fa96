-- Logs that grow: their votes, their puts, and their drops.
use Rattle.std.proofs.Common.{◌≡◌, ℕ, List, [], ◌∷◌, ◌++◌, ◌⊎◌, inl, inr, refl, sym, ap, ◌∙◌, subst, slice_set, slice_index_or, length, take, drop, Contains, take-append-drop}
use Rattle.std.proofs.lemmas.Bool.{cases_lt}
use Rattle.std.proofs.lemmas.List.{append-nil, get_or-set_same, get_or-set_other, set_past}
use Rattle.std.proofs.lemmas.List.Elements.{Contains-append_cases}
use Rattle.ms_world.specs.Worlds.{ClientView, WorldView, log_of, votes_of_world, known_votes, logged}
use Rattle.ms_base.specs.Places.{same_or_not, in_none, in_cases}
use Rattle.ms_record.specs.declared.log.LogEvent.{LogEvent}
use Rattle.ms_record.specs.Growing.{LogsGrow, votes_append}
use Rattle.ms_record.specs.Logs.{votes_in}
use Rattle.ms_record.specs.Offers.{GrowsTo}

-- what a client knows is the front of the votes
pub known_grows : (w : WorldView) (c : ClientView) → GrowsTo (known_votes w c) (votes_of_world w)
known_grows w c s =
    let n = slice_index_or c.known s 0 in
    let log = log_of w s in
    (votes_in (drop n log), sym (votes_append (take n log) (drop n log)) ∙ ap votes_in (take-append-drop n log))

-- the log of each service after an event more in one of them
pub logged_at : (old : WorldView) (t : ℕ) (event : LogEvent) (s : ℕ)
    → (more : List LogEvent) × (log_of old s ++ more ≡ log_of (logged old t event) s) × ((more ≡ []) ⊎ (more ≡ event ∷ []))
logged_at old t event s =
    elim (same_or_not s t) [
      | inl e ↦ elim (cases_lt t (length old.logs)) [
        | inl l ↦ (event ∷ [], ap (λ (n : ℕ). log_of old n ++ event ∷ []) e ∙ sym (ap (λ (n : ℕ). slice_index_or (slice_set old.logs t (log_of old t ++ event ∷ [])) n []) e ∙ get_or-set_same old.logs t (log_of old t ++ event ∷ []) [] l), inr refl)
        | inr g ↦ ([], append-nil (log_of old s) ∙ ap (λ (xs : List (List LogEvent)). slice_index_or xs s []) (sym (set_past old.logs t (log_of old t ++ event ∷ []) g)), inl refl)
      ]
      | inr n ↦ ([], append-nil (log_of old s) ∙ sym (get_or-set_other old.logs t s (log_of old t ++ event ∷ []) [] n), inl refl)
    ]

pub logged_grows : (old : WorldView) (t : ℕ) (event : LogEvent) → LogsGrow (log_of old) (log_of (logged old t event))
logged_grows old t event s = let d = logged_at old t event s in (d.0, d.1)

-- an event of a log after that was there, or is the new one
pub logged_cases : (old : WorldView) (t : ℕ) (event : LogEvent) (s : ℕ) (x : LogEvent) → Contains (log_of (logged old t event) s) x → Contains (log_of old s) x ⊎ (event ≡ x)
logged_cases old t event s x h =
    let d = logged_at old t event s in
    elim (Contains-append_cases (log_of old s) d.0 x (subst (λ (l : List LogEvent). Contains l x) (sym d.1) h)) [
      | inl there ↦ inl there
      | inr new ↦ inr (by d.0 d.2 new)
    ]
  where
    by : (more : List LogEvent) → (more ≡ []) ⊎ (more ≡ event ∷ []) → Contains more x → event ≡ x
    by more (inl none) h = absurd (in_none x (subst (λ (l : List LogEvent). Contains l x) none h))
    by more (inr one) h = elim (in_cases event [] x (subst (λ (l : List LogEvent). Contains l x) one h)) [ inl same ↦ same | inr none ↦ absurd (in_none x none) ]
