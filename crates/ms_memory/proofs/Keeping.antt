-- What is kept once an event was added is what the longer log leaves.
use Rattle.std.proofs.Common.{◌≡◌, ◌≢◌, ℕ, ◌<◌, ◌≤◌, List, [], ◌∷◌, ◌++◌, Option, Some, None, refl, sym, ap, ◌∙◌, subst, inl, inr, arith, append-nil}
use Rattle.std.specs.Prelude.{unwrap_or}
use mathlib.Core.Logic.{dite}
use native.Mathlib.Decide.{ℕ_discrete}
use Rattle.ms_base.specs.declared.names.Name.{Name}
use Rattle.ms_link.specs.Composing.{texts_in-append}
use Rattle.ms_memory.proofs.Holding.{texts_here, texts_else, first_stays, first_put, floor_stays, floor_kept, floor_raised}
use Rattle.ms_memory.proofs.Storing.{which_spot}
use Rattle.ms_memory.specs.Shelves.{Holds, IsFirstPut, texts_at, text_at}
use Rattle.ms_memory.specs.declared.lists.Lists.{Lists}
use Rattle.ms_memory.specs.declared.shelf.Shelf.{Shelf}
use Rattle.ms_memory.specs.declared.store.Store.{Store}
use Rattle.ms_record.specs.declared.log.ListId.{ListId}
use Rattle.ms_record.specs.declared.log.LogEvent.{LogEvent}
use Rattle.ms_record.specs.declared.log.LogEvent.TheVariants.{Rec, Put, Drop}
use Rattle.ms_record.specs.Logs.{texts_in}

pub rec_kept : (shelf : Shelf) (lists : Lists) (list : ListId) (text : List ℕ) → texts_at lists list.0 ≡ texts_at shelf.lists list.0 ++ text ∷ []
    → ((number : ℕ) → number ≢ list.0 → texts_at lists number ≡ texts_at shelf.lists number)
    → (log : List LogEvent) → Holds shelf log → Holds (record { lists = lists; store = shelf.store; floor = shelf.floor }) (log ++ Rec list text ∷ [])
rec_kept shelf lists list text here others log h = record {
  lists = λ number.
      dite (ℕ_discrete number list.0)
      (λ e. subst (λ (n : ℕ). texts_at lists n ≡ texts_in n (log ++ Rec list text ∷ [])) (sym e) (here ∙ (ap (λ (l : List (List ℕ)). l ++ text ∷ []) (h.lists list.0) ∙ sym (texts_here log list text))))
      (λ ne. others number ne ∙ (h.lists number ∙ sym (texts_else log list text number ne)));
  kept = λ generation name le. first_stays log (Rec list text) generation name (text_at shelf.store generation name) (λ t e. absurd cc) (h.kept generation name le);
  gone = h.gone;
  floor = floor_stays log (Rec list text) shelf.floor (λ other e. absurd cc) h.floor;
}

lists_stay : (shelf : Shelf) (log : List LogEvent) (event : LogEvent) (number : ℕ) → texts_in number (event ∷ []) ≡ [] → texts_at shelf.lists number ≡ texts_in number log → texts_at shelf.lists number ≡ texts_in number (log ++ event ∷ [])
lists_stay shelf log event number none h =
    h ∙ sym (texts_in-append number log (event ∷ []) ∙ (ap (λ (l : List (List ℕ)). texts_in number log ++ l) none ∙ append-nil (texts_in number log)))

pub put_kept : (shelf : Shelf) (store : Store) (generation : ℕ) (name : Name) (text : List ℕ) → shelf.floor ≤ generation
    → text_at store generation name ≡ Some (unwrap_or (text_at shelf.store generation name) text)
    → ((g : ℕ) (n : Name) → (g ≡ generation → n ≡ name → ⊥) → text_at store g n ≡ text_at shelf.store g n)
    → (log : List LogEvent) → Holds shelf log → Holds (record { lists = shelf.lists; store = store; floor = shelf.floor }) (log ++ Put generation name text ∷ [])
put_kept shelf store generation name text open_ here others log h =
    let event = Put generation name text in
    record {
      lists = λ number. lists_stay shelf log event number refl (h.lists number);
      kept = λ g n le. elim (which_spot generation name g n) [
        | inl same ↦
            subst (λ (s : ℕ × Name). IsFirstPut (log ++ event ∷ []) s.0 s.1 (text_at store s.0 s.1)) (λ i. (sym same.0 i, sym same.1 i))
            (subst (λ (o : Option (List ℕ)). IsFirstPut (log ++ event ∷ []) generation name o) (sym here) (first_put log generation name (text_at shelf.store generation name) text (h.kept generation name open_)))
        | inr other ↦
            subst (λ (o : Option (List ℕ)). IsFirstPut (log ++ event ∷ []) g n o) (sym (others g n other))
            (first_stays log event g n (text_at shelf.store g n) (λ t e. other (cc e) (cc e)) (h.kept g n le))
      ];
      gone = λ g n lt. others g n (λ e _. absurd (omega arith)) ∙ h.gone g n lt;
      floor = floor_stays log event shelf.floor (λ other e. absurd cc) h.floor;
    }

pub drop_raised : (shelf : Shelf) (store : Store) (floor : ℕ) → shelf.floor < floor
    → ((g : ℕ) (n : Name) → g < floor → text_at store g n ≡ None)
    → ((g : ℕ) (n : Name) → floor ≤ g → text_at store g n ≡ text_at shelf.store g n)
    → (log : List LogEvent) → Holds shelf log → Holds (record { lists = shelf.lists; store = store; floor = floor }) (log ++ Drop floor ∷ [])
drop_raised shelf store floor more gone kept log h = record {
  lists = λ number. lists_stay shelf log (Drop floor) number refl (h.lists number);
  kept = λ g n le.
      subst (λ (o : Option (List ℕ)). IsFirstPut (log ++ Drop floor ∷ []) g n o) (sym (kept g n le))
      (first_stays log (Drop floor) g n (text_at shelf.store g n) (λ t e. absurd cc) (h.kept g n (omega arith)));
  gone = gone;
  floor = floor_raised log shelf.floor floor more h.floor;
}

pub drop_kept : (shelf : Shelf) (floor : ℕ) → floor ≤ shelf.floor → (log : List LogEvent) → Holds shelf log → Holds shelf (log ++ Drop floor ∷ [])
drop_kept shelf floor less log h = record {
  lists = λ number. lists_stay shelf log (Drop floor) number refl (h.lists number);
  kept = λ g n le. first_stays log (Drop floor) g n (text_at shelf.store g n) (λ t e. absurd cc) (h.kept g n le);
  gone = h.gone;
  floor = floor_kept log shelf.floor floor less h.floor;
}
