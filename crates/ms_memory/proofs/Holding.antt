-- What a log with one event more leaves.
use Rattle.std.proofs.Common.{◌≡◌, ◌≢◌, ℕ, ◌<◌, ◌≤◌, Bool, true, false, List, [], ◌∷◌, ◌++◌, Option, Some, None, refl, sym, ap, ◌∙◌, subst, inl, inr, arith, append_assoc, append-nil, Contains}
use Rattle.std.proofs.lemmas.Bool.Decides.{nat_tests}
use Rattle.std.proofs.lemmas.List.Elements.{Contains-append_left, Contains-append_right, Contains-push_cases}
use Rattle.std.specs.Prelude.{◌==◌, if◌then◌else◌, unwrap_or}
use Rattle.ms_base.specs.declared.names.Name.{Name}
use Rattle.ms_record.specs.Floors.{IsFloor}
use Rattle.ms_link.specs.Composing.{texts_in-append}
use Rattle.ms_memory.specs.Shelves.{IsFirstPut}
use Rattle.ms_record.specs.declared.log.ListId.{ListId}
use Rattle.ms_record.specs.declared.log.LogEvent.{LogEvent}
use Rattle.ms_record.specs.declared.log.LogEvent.TheVariants.{Rec, Put, Drop}
use Rattle.ms_record.specs.Logs.{texts_in}

-- ---- the texts of a list

test_same : (n : ℕ) → (n == n) ≡ true
test_same n = grind (arith, nat_tests)

test_other : (m n : ℕ) → n ≢ m → (m == n) ≡ false
test_other m n ne = grind (arith, nat_tests)

pub texts_here : (log : List LogEvent) (list : ListId) (text : List ℕ) → texts_in list.0 (log ++ Rec list text ∷ []) ≡ texts_in list.0 log ++ text ∷ []
texts_here log list text = texts_in-append list.0 log (Rec list text ∷ []) ∙ ap (λ (b : Bool). texts_in list.0 log ++ (if b then text ∷ [] else [])) (test_same list.0)

pub texts_else : (log : List LogEvent) (list : ListId) (text : List ℕ) (number : ℕ) → number ≢ list.0 → texts_in number (log ++ Rec list text ∷ []) ≡ texts_in number log
texts_else log list text number ne =
    texts_in-append number log (Rec list text ∷ []) ∙ (ap (λ (b : Bool). texts_in number log ++ (if b then text ∷ [] else [])) (test_other list.0 number ne) ∙ append-nil (texts_in number log))

-- ---- the first text that was put

pub first_stays : (log : List LogEvent) (event : LogEvent) (generation : ℕ) (name : Name) (found : Option (List ℕ)) → ((text : List ℕ) → event ≡ Put generation name text → ⊥)
    → IsFirstPut log generation name found → IsFirstPut (log ++ event ∷ []) generation name found
first_stays log event generation name None other h = λ has. elim (Contains-push_cases log event (Put generation name has.0) has.1) [ inl old ↦ h (has.0, old) | inr new ↦ other has.0 new ]
first_stays log event generation name (Some text) other h =
    (h.0, h.1 ++ event ∷ [], sym (append_assoc h.0 (Put generation name text ∷ h.1) (event ∷ [])) ∙ ap (λ (l : List LogEvent). l ++ event ∷ []) h.2, h.3)

pub first_put : (log : List LogEvent) (generation : ℕ) (name : Name) (found : Option (List ℕ)) (text : List ℕ)
    → IsFirstPut log generation name found → IsFirstPut (log ++ Put generation name text ∷ []) generation name (Some (unwrap_or found text))
first_put log generation name None text h = (log, [], refl, h)
first_put log generation name (Some first) text h =
    (h.0, h.1 ++ Put generation name text ∷ [], sym (append_assoc h.0 (Put generation name first ∷ h.1) (Put generation name text ∷ [])) ∙ ap (λ (l : List LogEvent). l ++ Put generation name text ∷ []) h.2, h.3)

-- what stands first was put
pub first_has : (log : List LogEvent) (generation : ℕ) (name : Name) (text : List ℕ) → IsFirstPut log generation name (Some text) → Contains log (Put generation name text)
first_has log generation name text h =
    subst (λ (l : List LogEvent). Contains l (Put generation name text)) h.2 (Contains-append_right h.0 (Put generation name text ∷ h.1) (Put generation name text) (in_front (Put generation name text) h.1))
  where
    in_front : (event : LogEvent) (more : List LogEvent) → Contains (event ∷ more) event
    in_front event more = (0, omega arith, refl)

-- ---- the floor

one_floor : (a b : ℕ) → Drop a ≡ Drop b → a ≡ b
one_floor a b e = cc

pub floor_stays : (log : List LogEvent) (event : LogEvent) (floor : ℕ) → ((other : ℕ) → event ≡ Drop other → other ≤ floor) → IsFloor log floor → IsFloor (log ++ event ∷ []) floor
floor_stays log event floor fits h = record {
  there = elim h.there [ inl none ↦ inl none | inr there ↦ inr (Contains-append_left log (event ∷ []) (Drop floor) there) ];
  greatest = λ other is. elim (Contains-push_cases log event (Drop other) is) [ inl old ↦ h.greatest other old | inr new ↦ fits other new ];
}

pub floor_kept : (log : List LogEvent) (floor below : ℕ) → below ≤ floor → IsFloor log floor → IsFloor (log ++ Drop below ∷ []) floor
floor_kept log floor below less h = floor_stays log (Drop below) floor (λ other e. let same = one_floor below other e in omega arith) h

pub floor_raised : (log : List LogEvent) (floor below : ℕ) → floor < below → IsFloor log floor → IsFloor (log ++ Drop below ∷ []) below
floor_raised log floor below more h = record {
  there = inr (Contains-append_right log (Drop below ∷ []) (Drop below) (0, omega arith, refl));
  greatest = λ other at. elim (Contains-push_cases log (Drop below) (Drop other) at) [
    | inl old ↦ (let low = h.greatest other old in omega arith)
    | inr new ↦ (let same = one_floor below other new in omega arith)
  ];
}
