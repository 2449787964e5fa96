-- What stands at a position, and whether a chain is split there.
use Rattle.std.proofs.Common.{◌≡◌, ℕ, ◌+◌, ◌-◌, ◌<◌, ◌≤◌, List, Some, refl, sym, ap, ◌∙◌, subst, slice_get, length, take, arith, zero-add, Contains}
use Rattle.std.proofs.lemmas.List.FromFn.{length-range_with_len, get_or-range_with_len}
use Rattle.ms_base.specs.declared.limits.TheConstants.{LAST_NUMBER}
use Rattle.ms_local.specs.Learning.{IsNextRead, IsSplit}
use Rattle.ms_record.specs.declared.entry.Entry.{Entry}
use Rattle.ms_record.specs.declared.record.Record.{Record}
use Rattle.ms_record.specs.declared.record.Record.TheVariants.{Accept}
use Rattle.ms_record.specs.Chains.{LinksBehind, voters_behind}
use Rattle.ms_record.specs.Entries.{name_of}
use Rattle.ms_record.specs.Records.{IsPosition}
use Rattle.ms_record.specs.Settings.{origin_of}
use Rattle.ms_record.specs.Votes.{ChosenBy, position_of, services_below}
use Rattle.ms_replay.specs.Audits.{lists_of}
use Rattle.ms_replay.specs.declared.standing.Standing.{Standing}
use Rattle.ms_replay.specs.declared.standing.Standing.TheVariants.{Chosen, Seen, Split as TwoChosen, Unseen}
use Rattle.ms_replay.specs.Standings.{IsStanding, NoneChosen, NoneTaken}
use Rattle.ms_chain.specs.declared.split.Next.TheVariants.{End, Member, Two}
use Rattle.ms_chain.specs.declared.split.Split.{Split}
use Rattle.ms_chain.specs.Lines.{LineView}
use Rattle.ms_chain.specs.Splits.{IsNextOf, SplitsAt, chain_of}
use Rattle.ms_chain.proofs.Places.{some_passes, take_all}

below_in : (n s : ℕ) → s < n → Contains (services_below n) s
below_in n s lt = (s, omega (arith, length-range_with_len 0 n), get_or-range_with_len 0 n s s lt ∙ zero-add s)

-- where nothing is taken nothing is chosen
none_taken : (votes : ℕ → List Record) (n : ℕ) (voters : List ℕ) (k : ℕ) → ((s : ℕ) → Contains voters s → s < n) → NoneTaken votes (services_below n) k → NoneChosen votes voters k
none_taken votes n voters k below none e c =
    let most = c.majority.more_than_half in
    let w = some_passes c.part voters (omega arith) in
    let t = c.taken w.0 w.1 in
    none w.0 t.0 c.ballot e (below_in n w.0 (below w.0 (c.majority.within w.0 w.1))) t.1

-- two entries are chosen only where the standing says so
no_two : (votes : ℕ → List Record) (n : ℕ) (voters : List ℕ) (k : ℕ) (standing : Standing) → ((s : ℕ) → Contains voters s → s < n) → IsStanding votes (services_below n) voters k standing
    → ((a b : Entry) → standing ≡ TwoChosen a b → ⊥) → (e f : Entry) → ChosenBy votes voters k e → ChosenBy votes voters k f → (e ≡ f → ⊥) → ⊥
no_two votes n voters k Unseen below h apart e f c d differ = none_taken votes n voters k below h e c
no_two votes n voters k (Seen vote) below h apart e f c d differ = h.1 e c
no_two votes n voters k (Chosen entry) below h apart e f c d differ = differ (h.1 e c ∙ sym (h.1 f d))
no_two votes n voters k (TwoChosen a b) below h apart e f c d differ = apart a b refl

pub split_none : (line : LineView) (lists : List (List (List ℕ))) (position n : ℕ) (voters : List ℕ) (standing : Standing) → voters ≡ voters_behind (origin_of line.setting) (take (position - 1) line.members)
    → ((s : ℕ) → Contains voters s → s < n) → IsStanding (lists_of lists) (services_below n) voters position standing → ((a b : Entry) → standing ≡ TwoChosen a b → ⊥) → SplitsAt (chain_of line lists) position → ⊥
split_none line lists position n voters standing are below h apart w =
    let s = w.2 in
    let at = s.at in
    let members : s.members ≡ position - 1 = omega arith in
    let same : voters_behind (origin_of line.setting) (take s.members line.members) ≡ voters = ap (λ (m : ℕ). voters_behind (origin_of line.setting) (take m line.members)) members ∙ sym are in
    no_two (lists_of lists) n voters position standing below h apart s.one s.other
    (subst (λ (v : List ℕ). ChosenBy (lists_of lists) v position s.one) same s.one_chosen) (subst (λ (v : List ℕ). ChosenBy (lists_of lists) v position s.other) same s.other_chosen) s.differ

pub split_some : (line : LineView) (lists : List (List (List ℕ))) (position n : ℕ) (voters : List ℕ) (a b : Entry) (first second : List ℕ) → voters ≡ voters_behind (origin_of line.setting) (take (position - 1) line.members)
    → 1 ≤ position → position ≤ length line.members + 1 → IsStanding (lists_of lists) (services_below n) voters position (TwoChosen a b) → first ≡ name_of a → second ≡ name_of b
    → IsSplit (chain_of line lists) position first second
split_some line lists position n voters a b first second are some within h one other = record {
  members = position - 1;
  within = omega arith;
  at = omega arith;
  one = a;
  other = b;
  one_chosen = subst (λ (v : List ℕ). ChosenBy (lists_of lists) v position a) are h.0.chosen;
  other_chosen = subst (λ (v : List ℕ). ChosenBy (lists_of lists) v position b) are h.1.chosen;
  differ = λ e. h.1.differs (sym e);
  one_named = one;
  other_named = other;
}

-- ---- behind the end

-- nothing is chosen past the last position
pub none_past : (votes : ℕ → List Record) (voters : List ℕ) (k : ℕ) → ((s place : ℕ) (r : Record) → slice_get (votes s) place ≡ Some r → IsPosition (position_of r)) → LAST_NUMBER < k → NoneChosen votes voters k
none_past votes voters k positions past e c =
    let most = c.majority.more_than_half in
    let w = some_passes c.part voters (omega arith) in
    let t = c.taken w.0 w.1 in
    let p = positions w.0 t.0 (Accept k c.ballot e) t.1.stands in
    let le : k ≤ LAST_NUMBER = p.1 in
    absurd (omega arith)

abbrev Voters : LineView → List ℕ
Voters line = voters_behind (origin_of line.setting) line.members

-- what stands behind the members of a line, by the lists
abbrev pub StandsBehind : LineView → List (List (List ℕ)) → Standing → Type 0
StandsBehind line lists standing = IsStanding (lists_of lists) (services_below (length lists)) (Voters line) (length line.members + 1) standing

pub stands_behind : (line : LineView) (lists : List (List (List ℕ))) (end : ℕ) (voters : List ℕ) (standing : Standing) → end ≡ length line.members
    → voters ≡ voters_behind (origin_of line.setting) (take end line.members) → IsStanding (lists_of lists) (services_below (length lists)) voters (end + 1) standing → StandsBehind line lists standing
stands_behind line lists end voters standing at are h =
    let all : take end line.members ≡ line.members = ap (λ (n : ℕ). take n line.members) at ∙ take_all line.members in
    let here : voters ≡ Voters line = are ∙ ap (voters_behind (origin_of line.setting)) all in
    subst (λ (n : ℕ). IsStanding (lists_of lists) (services_below (length lists)) (Voters line) (n + 1) standing) at
    (subst (λ (v : List ℕ). IsStanding (lists_of lists) (services_below (length lists)) v (end + 1) standing) here h)

-- each entry that is chosen behind the members is this one
abbrev OneBehind : LineView → List (List (List ℕ)) → Type 0
OneBehind line lists = (e f : Entry) → ChosenBy (lists_of lists) (Voters line) (length line.members + 1) e → ChosenBy (lists_of lists) (Voters line) (length line.members + 1) f → e ≡ f

unsplit_of : (line : LineView) (lists : List (List (List ℕ))) → OneBehind line lists → SplitsAt (chain_of line lists) (length line.members + 1) → ⊥
unsplit_of line lists one w =
    let s = w.2 in
    let at = s.at in
    let front : take s.members line.members ≡ line.members = ap (λ (m : ℕ). take m line.members) (let e : s.members ≡ length line.members = omega arith in e) ∙ take_all line.members in
    let P : List Entry → Entry → Type 0 = λ xs f. ChosenBy (lists_of lists) (voters_behind (origin_of line.setting) xs) (length line.members + 1) f in
    s.differ (one s.one s.other (subst (λ (xs : List Entry). P xs s.one) front s.one_chosen) (subst (λ (xs : List Entry). P xs s.other) front s.other_chosen))

-- where there is a next member there is no split
pub unsplit_next : (line : LineView) (lists : List (List (List ℕ))) (e : Entry) → IsNextRead (chain_of line lists) line.members e → SplitsAt (chain_of line lists) (length line.members + 1) → ⊥
unsplit_next line lists e next = unsplit_of line lists (λ f g c d. next.only f c ∙ sym (next.only g d))

-- where nothing is chosen there is no next member and no split
pub next_none : (line : LineView) (lists : List (List (List ℕ))) → NoneChosen (lists_of lists) (Voters line) (length line.members + 1) → IsNextOf (chain_of line lists) End
next_none line lists none = (λ e next. none e next.chosen, unsplit_of line lists (λ e f c d. absurd (none e c)))

pub next_past : (line : LineView) (lists : List (List (List ℕ))) (end : ℕ) → end ≡ length line.members → LAST_NUMBER ≤ end
    → ((s place : ℕ) (r : Record) → slice_get (lists_of lists s) place ≡ Some r → IsPosition (position_of r)) → IsNextOf (chain_of line lists) End
next_past line lists end at last positions = next_none line lists (none_past (lists_of lists) (Voters line) (length line.members + 1) positions (omega arith))

pub next_else : (line : LineView) (lists : List (List (List ℕ))) (standing : Standing) → ((s : ℕ) → Contains (Voters line) s → s < length lists) → StandsBehind line lists standing
    → ((e : Entry) → standing ≡ Chosen e → ⊥) → ((a b : Entry) → standing ≡ TwoChosen a b → ⊥) → IsNextOf (chain_of line lists) End
next_else line lists Unseen below h not apart = next_none line lists (none_taken (lists_of lists) (length lists) (Voters line) (length line.members + 1) below h)
next_else line lists (Seen vote) below h not apart = next_none line lists h.1
next_else line lists (Chosen e) below h not apart = absurd (not e refl)
next_else line lists (TwoChosen a b) below h not apart = absurd (apart a b refl)

pub next_member : (line : LineView) (lists : List (List (List ℕ))) (e : Entry) → length line.members < LAST_NUMBER → LinksBehind (origin_of line.setting) line.members e → StandsBehind line lists (Chosen e)
    → IsNextOf (chain_of line lists) (Member e)
next_member line lists e room links h = (room, record { chosen = h.0; only = h.1; links = links })

pub next_unlinked : (line : LineView) (lists : List (List (List ℕ))) (e : Entry) → (LinksBehind (origin_of line.setting) line.members e → ⊥) → StandsBehind line lists (Chosen e)
    → IsNextOf (chain_of line lists) End
next_unlinked line lists e not h =
    (λ f next. not (subst (LinksBehind (origin_of line.setting) line.members) (h.1 f next.chosen) next.links), unsplit_of line lists (λ f g c d. h.1 f c ∙ sym (h.1 g d)))

pub next_two : (line : LineView) (lists : List (List (List ℕ))) (a b : Entry) (split : Split) → StandsBehind line lists (TwoChosen a b) → split.position ≡ length line.members + 1
    → split.first.0 ≡ name_of a → split.second.0 ≡ name_of b → IsNextOf (chain_of line lists) (Two split)
next_two line lists a b split h at one other = (
  λ e next. h.1.differs (next.only b h.1.chosen ∙ sym (next.only a h.0.chosen)),
  (split_some line lists split.position (length lists) (Voters line) a b split.first.0 split.second.0 are (omega arith) (omega arith) here one other, at),
)
  where
    are : Voters line ≡ voters_behind (origin_of line.setting) (take (split.position - 1) line.members)
    are = ap (voters_behind (origin_of line.setting)) (sym (ap (λ (n : ℕ). take n line.members) (let e : split.position - 1 ≡ length line.members = omega arith in e) ∙ take_all line.members))

    here : IsStanding (lists_of lists) (services_below (length lists)) (Voters line) split.position (TwoChosen a b)
    here = subst (λ (n : ℕ). IsStanding (lists_of lists) (services_below (length lists)) (Voters line) n (TwoChosen a b)) (sym at) h

pub below_behind : (line : LineView) (lists : List (List (List ℕ))) (end : ℕ) (voters : List ℕ) → length lists ≡ line.setting.services → end ≡ length line.members
    → voters ≡ voters_behind (origin_of line.setting) (take end line.members) → ((s : ℕ) → Contains voters s → s < line.setting.services) → (s : ℕ) → Contains (Voters line) s → s < length lists
below_behind line lists end voters many at are below s is =
    let all : take end line.members ≡ line.members = ap (λ (n : ℕ). take n line.members) at ∙ take_all line.members in
    let here : voters ≡ Voters line = are ∙ ap (voters_behind (origin_of line.setting)) all in
    subst (λ (n : ℕ). s < n) (sym many) (below s (subst (λ (v : List ℕ). Contains v s) (sym here) is))
