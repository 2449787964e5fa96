-- The greatest floor of a log that grows, and what it says.
use Rattle.std.proofs.Common.{◌≡◌, ℕ, ◌<◌, ◌≤◌, List, [], ◌∷◌, ◌++◌, inl, inr, sym, ◌∙◌, subst, Contains, arith}
use Rattle.std.proofs.lemmas.List.Elements.{Contains-append_left, Contains-append_right, Contains-push_cases}
use Rattle.ms_base.specs.Places.{in_here}
use Rattle.ms_record.specs.Floors.{IsFloor}
use Rattle.ms_record.specs.declared.log.LogEvent.{LogEvent}
use Rattle.ms_record.specs.declared.log.LogEvent.TheVariants.{Drop}

one_floor : (a b : ℕ) → Drop a ≡ Drop b → a ≡ b
one_floor a b e = cc

stays : (log : List LogEvent) (event : LogEvent) (floor : ℕ) → IsFloor log floor → ((other : ℕ) → event ≡ Drop other → other ≤ floor) → IsFloor (log ++ event ∷ []) floor
stays log event floor h fits = record {
  there = elim h.there [ inl none ↦ inl none | inr there ↦ inr (Contains-append_left log (event ∷ []) (Drop floor) there) ];
  greatest = λ other is. elim (Contains-push_cases log event (Drop other) is) [ inl old ↦ h.greatest other old | inr new ↦ fits other new ];
}

pub floor_kept : (log : List LogEvent) (event : LogEvent) (floor below : ℕ) → event ≡ Drop below → below ≤ floor → IsFloor log floor → IsFloor (log ++ event ∷ []) floor
floor_kept log event floor below is less h = stays log event floor h (λ other e. let same = one_floor below other (sym is ∙ e) in omega arith)

pub floor_raised : (log : List LogEvent) (event : LogEvent) (floor below : ℕ) → event ≡ Drop below → floor < below → IsFloor log floor → IsFloor (log ++ event ∷ []) below
floor_raised log event floor below is more h = record {
  there = inr (Contains-append_right log (event ∷ []) (Drop below) (subst (λ (x : LogEvent). Contains (event ∷ []) x) is (in_here event [])));
  greatest = λ other at. elim (Contains-push_cases log event (Drop other) at) [
    | inl old ↦ (let low = h.greatest other old in omega arith)
    | inr new ↦ (let same = one_floor below other (sym is ∙ new) in omega arith)
  ];
}

pub no_floor_rec : (log : List LogEvent) (event : LogEvent) (floor : ℕ) → ((other : ℕ) → event ≡ Drop other → ⊥) → IsFloor log floor → IsFloor (log ++ event ∷ []) floor
no_floor_rec log event floor none h = stays log event floor h (λ other e. absurd (none other e))
