-- What is chosen, from the votes that each log has taken.
use Rattle.std.proofs.Common.{◌≡◌, ℕ, ◌+◌, ◌<◌, false, List, [], ◌∷◌, ◌++◌, Option, Some, None, inl, inr, sym, ap, ◌∙◌, subst, length, get_or, All, Contains, IfNone, is_some, arith}
use Rattle.std.proofs.lemmas.Bool.{cases_lt}
use Rattle.std.proofs.lemmas.List.{get_or_append_left, get_or_default, get_or_push}
use Rattle.std.proofs.lemmas.List.Elements.{All-from_get_or}
use Rattle.ms_world.specs.Passes.{AreRising, AreTaken, HaveMost}
use Rattle.ms_record.specs.Voters.{voter_below}
use Rattle.ms_base.specs.CountLaws.{count_some}
use Rattle.ms_record.specs.declared.ballot.Vote.{Vote}
use Rattle.ms_record.specs.declared.entry.Entry.{Entry}
use Rattle.ms_record.specs.declared.log.LogEvent.{LogEvent}
use Rattle.ms_record.specs.declared.record.Record.{Record}
use Rattle.ms_record.specs.Logs.{votes_in}
use Rattle.ms_record.specs.Votes.{ChosenBy, IsMajority, services_below}

-- of a majority one list has the vote
pub member_has : (lists : List (List Vote)) (vote : Vote) → HaveMost lists vote → (s : ℕ) × (s < length lists) × Contains (get_or lists s []) vote
member_has lists vote m =
    let one = count_some m.part (services_below (length lists)) (omega (arith, m.majority.more_than_half)) in
    (one.0, voter_below (length lists) one.0 (m.majority.within one.0 one.1), m.have one.0 one.1)

pub at_none : {X : Type 0} (o : Option X) (P : Type 0) → false ≡ is_some o → IfNone o P → P
at_none None P e h = h
at_none (Some x) P e h = cc

pub at_none_is : {X : Type 0} (o : Option X) {P : Type 0} → o ≡ None → IfNone o P → P
at_none_is None e h = h
at_none_is (Some x) e h = cc

-- one list more in which no vote has a majority
pub none_more : (lists : List (List Vote)) (n : ℕ) (list votes : List Vote) → n < length lists → list ≡ get_or lists n list → votes ≡ list
    → ((i : ℕ) (v : Vote) → i < n → Contains (get_or lists i []) v → HaveMost lists v → ⊥) → ((v : Vote) → Contains votes v → HaveMost lists v → ⊥)
    → (i : ℕ) (v : Vote) → i < n + 1 → Contains (get_or lists i []) v → HaveMost lists v → ⊥
none_more lists n list votes l at same before here i v w c m =
    elim (cases_lt i n) [
      | inl less ↦ before i v less c m
      | inr last ↦
          let e : i ≡ n = omega arith in
          let is : get_or lists i [] ≡ votes = ap (λ (j : ℕ). get_or lists j []) e ∙ get_or_default lists n [] list l ∙ sym at ∙ sym same in
          here v (subst (λ (vs : List Vote). Contains vs v) is c) m
    ]

-- each list has the votes that its log has taken
abbrev pub AreAllTaken : (ℕ → List Record) → ℕ → ℕ → List (List Vote) → Type 0
AreAllTaken votes position n lists = (s : ℕ) → s < n → AreTaken (votes s) position (get_or lists s [])

pub all_taken_push : (logs : List (List LogEvent)) (k n : ℕ) (log events : List LogEvent) (lists new : List (List Vote)) (list : List Vote) → n < length logs → log ≡ get_or logs n log → events ≡ log → length lists ≡ n
    → new ≡ lists ++ list ∷ [] → AreTaken (votes_in events) k list → AreAllTaken (λ s. votes_in (get_or logs s [])) k n lists → AreAllTaken (λ s. votes_in (get_or logs s [])) k (n + 1) new
all_taken_push logs k n log events lists new list l at same each is taken before s w =
    elim (cases_lt s n) [
      | inl less ↦
          let e : get_or lists s [] ≡ get_or new s [] = sym (get_or_append_left lists (list ∷ []) [] s (omega arith)) ∙ ap (λ (xs : List (List Vote)). get_or xs s []) (sym is) in
          subst (λ (vs : List Vote). AreTaken (votes_in (get_or logs s [])) k vs) e (before s less)
      | inr last ↦
          let q : s ≡ n = omega arith in
          let e : list ≡ get_or new s [] = sym (get_or_push lists list [] s (each ∙ sym q)) ∙ ap (λ (xs : List (List Vote)). get_or xs s []) (sym is) in
          let f : events ≡ get_or logs s [] = same ∙ at ∙ get_or_default logs n log [] l ∙ ap (λ (j : ℕ). get_or logs j []) (sym q) in
          subst (λ (vs : List Vote). AreTaken (votes_in (get_or logs s [])) k vs) e (subst (λ (es : List LogEvent). AreTaken (votes_in es) k list) f taken)
    ]

pub most_chosen : (votes : ℕ → List Record) (k n : ℕ) (lists seen : List (List Vote)) (vote : Vote) (e : Entry) → length lists ≡ n → seen ≡ lists → AreAllTaken votes k n lists → vote.entry ≡ e → HaveMost seen vote
    → ChosenBy votes (services_below n) k e
most_chosen votes k n lists seen vote e each same all is most =
    let m : HaveMost lists vote = subst (λ (ls : List (List Vote)). HaveMost ls vote) same most in
    subst (λ (f : Entry). ChosenBy votes (services_below n) k f) is
    (record {
      ballot = vote.ballot;
      part = m.part;
      majority = subst (λ (c : ℕ). IsMajority m.part (services_below c)) each m.majority;
      taken = λ s t. (all s (let l = voter_below (length lists) s (m.majority.within s t) in omega arith)).taken vote (m.have s t);
    })

pub chosen_most : (votes : ℕ → List Record) (k n : ℕ) (lists seen : List (List Vote)) (e : Entry) → length lists ≡ n → seen ≡ lists → AreAllTaken votes k n lists → (c : ChosenBy votes (services_below n) k e)
    → HaveMost seen (record { ballot = c.ballot; entry = e })
chosen_most votes k n lists seen e each same all c =
    subst (λ (ls : List (List Vote)). HaveMost ls (record { ballot = c.ballot; entry = e })) (sym same)
    (record {
      part = c.part;
      majority = subst (λ (m : ℕ). IsMajority c.part (services_below m)) (sym each) c.majority;
      have = λ s t. let w = c.taken s t in (all s (voter_below n s (c.majority.within s t))).kept w.0 c.ballot e w.1;
    })

pub all_rising : (votes : ℕ → List Record) (k n : ℕ) (lists seen : List (List Vote)) → length lists ≡ n → seen ≡ lists → AreAllTaken votes k n lists → All AreRising seen
all_rising votes k n lists seen each same all =
    subst (λ (ls : List (List Vote)). All AreRising ls) (sym same) (All-from_get_or AreRising lists [] (λ s l. (all s (omega (arith, l, each))).rising))
