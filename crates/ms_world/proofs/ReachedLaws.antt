-- Worlds that runs reach: one event more, and what holds of their states and chains.
use Rattle.std.proofs.Common.{◌≡◌, ℕ, zero, suc, ◌+◌, ◌≤◌, List, [], ◌∷◌, ◌++◌, inl, inr, refl, sym, ap, ◌∙◌, subst, slice_get, take, Some, length, arith}
use Rattle.std.proofs.lemmas.List.{append-nil, take_at}
use Rattle.std.proofs.lemmas.Option.{slice_get_within}
use Rattle.std.proofs.lemmas.List.Elements.{All-push, All-from_get_or}
use Rattle.ms_base.specs.declared.limits.TheConstants.{LAST_NUMBER}
use Rattle.ms_world.specs.declared.event.Event.{Event}
use Rattle.ms_world.specs.declared.event.Event.TheVariants as events
use Rattle.ms_world.specs.Held.{IsReached}
use Rattle.ms_world.specs.PutTexts.{ArePutsNamed}
use Rattle.ms_world.specs.States.{IsState}
use Rattle.ms_world.specs.Steps.{IsEvent, Step, Steps}
use Rattle.ms_world.specs.Worlds.{ClientView, RequestView, WorldView, changed, known_votes, log_of, logged, next_of, voters_of_client, votes_of_world}
use Rattle.ms_world.proofs.Events.{chosen_offered}
use Rattle.ms_core.specs.Growth.{linked_grows}
use Rattle.ms_world.proofs.Invariant.{Inv, sound}
use Rattle.ms_record.specs.ChainLaws.{ChainLaws}
use Rattle.ms_base.specs.Places.{some_or_past}
use Rattle.ms_record.specs.Voters.{first_known}
use Rattle.ms_record.specs.Growing.{LogsGrow, chosen_grows}
use Rattle.ms_world.proofs.Logs.{known_grows, logged_grows}
use Rattle.ms_world.proofs.Runs.{inv_agrees, inv_begins, inv_valid, run_inv}
use Rattle.ms_record.specs.declared.ballot.Ballot.{Ballot}
use Rattle.ms_record.specs.declared.entry.Entry.{Entry}
use Rattle.ms_record.specs.declared.record.Record.TheVariants.{Accept}
use Rattle.ms_record.specs.declared.log.LogEvent.{LogEvent}
use Rattle.ms_record.specs.declared.setting.Setting.{Setting}
use Rattle.ms_record.specs.Chains.{Begins, IsChain, IsChosen, IsLinked, LinksBehind, voters_behind}
use Rattle.ms_record.specs.Settings.{IsSetting, origin_of}
use Rattle.ms_record.specs.Votes.{ChosenBy}

steps_more : (setting : Setting) (w next last : WorldView) (xs : List Event) (event : Event) → Steps setting w xs next → Step setting next event last → Steps setting w (xs ++ event ∷ []) last
steps_more setting w next last [] event same step = (last, subst (λ (v : WorldView). Step setting v event last) same step, refl)
steps_more setting w next last (x ∷ xs) event run step = (run.0, run.1, steps_more setting run.0 next last xs event run.2 step)

-- a run with one event more
pub reached_more : (setting : Setting) (w new : WorldView) (event : Event) → IsReached setting w → IsEvent event → Step setting w event new → IsReached setting new
reached_more setting w new event h fits step = record {
  events = h.events ++ event ∷ [];
  fit = All-push IsEvent h.events event h.fit fits;
  run = steps_more setting _ w new h.events event h.run step;
}

pub reached_inv : (l : ChainLaws) (setting : Setting) (w : WorldView) → IsSetting setting → IsReached setting w → Inv setting w
reached_inv l setting w set h = run_inv l setting h.events w set h.fit h.run

-- ---- logs grow along each event

changed_grows : (old new : WorldView) (client : ℕ) (c : ClientView) (sent : List RequestView) → new ≡ changed old client c sent → LogsGrow (log_of old) (log_of new)
changed_grows old new client c sent e s = ([], append-nil (log_of old s) ∙ ap (λ (w : WorldView). log_of w s) (sym e))

more_logged : (old new : WorldView) (service : ℕ) (event : LogEvent) → new ≡ logged old service event → LogsGrow (log_of old) (log_of new)
more_logged old new service event e = subst (λ (w : WorldView). LogsGrow (log_of old) (log_of w)) (sym e) (logged_grows old service event)

pub step_grows : (setting : Setting) (old new : WorldView) (event : Event) → Step setting old event new → LogsGrow (log_of old) (log_of new)
step_grows setting old new (events.Start client) s = changed_grows old new _ _ _ s.becomes
step_grows setting old new (events.Stop client) s = changed_grows old new _ _ _ s.becomes
step_grows setting old new (events.Bid client round want) s = changed_grows old new _ _ _ s.becomes
step_grows setting old new (events.Turn client round number plan) s = changed_grows old new _ _ _ s.becomes
step_grows setting old new (events.Migrate client round number version) s = changed_grows old new _ _ _ s.becomes
step_grows setting old new (events.Deliver request) s = more_logged old new _ _ s.becomes
step_grows setting old new (events.Read client service upto) s = changed_grows old new _ _ _ s.becomes
step_grows setting old new (events.Offer client) s = changed_grows old new _ _ _ s.becomes
step_grows setting old new (events.Learn client) s = changed_grows old new _ _ _ s.becomes
step_grows setting old new (events.Place service generation text) s = more_logged old new _ _ s.becomes
step_grows setting old new (events.DropBelow service floor) s = more_logged old new _ _ s.becomes

-- a linked list stays one
pub linked_stays : (l : ChainLaws) (setting : Setting) (old new : WorldView) (event : Event) (chain : List Entry) → Step setting old event new
    → IsLinked (votes_of_world old) (origin_of setting) chain → IsLinked (votes_of_world new) (origin_of setting) chain
linked_stays l setting old new event chain step linked = linked_grows setting (log_of old) (log_of new) chain (step_grows setting old new event step) linked

-- ---- positions

-- nothing is chosen behind the last position
pub chosen_within : (setting : Setting) (w : WorldView) (voters : List ℕ) (k : ℕ) (e : Entry) → Inv setting w → ChosenBy (votes_of_world w) voters k e → k ≤ LAST_NUMBER
chosen_within setting w voters k e h c = let o = chosen_offered setting w voters k e h c in (h.positions k o.0 e o.1).1

pub linked_short : (setting : Setting) (w : WorldView) (chain : List Entry) → Inv setting w → IsLinked (votes_of_world w) (origin_of setting) chain → length chain ≤ LAST_NUMBER
linked_short setting w chain h linked = by (length chain) refl
  where
    by : (n : ℕ) → length chain ≡ n → length chain ≤ LAST_NUMBER
    by zero e = omega (arith, e)
    by (suc n) e = elim (some_or_past chain n) [
      | inl x ↦ (let k : n + 1 ≡ suc n = omega arith in omega (arith, e, k, chosen_within setting w (voters_behind (origin_of setting) (take n chain)) (n + 1) x.0 h (linked.chosen n x.0 x.1)))
      | inr past ↦ absurd (omega (arith, e, past))
    ]

pub state_of : (setting : Setting) (w : WorldView) → IsSetting setting → Inv setting w → IsState setting w
state_of setting w set h = record {
  set = set;
  services = h.services;
  named = All-from_get_or ArePutsNamed w.logs [] (λ i below. h.named i);
  short = λ client c is. linked_short setting w c.chain h (h.clients client c is).linked;
}

-- ---- what a client knows

-- by what a client knows of its voters two entries chosen behind its chain are one
pub known_one : (l : ChainLaws) (setting : Setting) (w : WorldView) (client : ℕ) (c : ClientView) (e f : Entry) → Inv setting w → slice_get w.clients client ≡ Some c
    → ChosenBy (known_votes w c) (voters_of_client setting c) (next_of c) e → ChosenBy (known_votes w c) (voters_of_client setting c) (next_of c) f → e ≡ f
known_one l setting w client c e f h is x y =
    let stays : (g : Entry) → ChosenBy (known_votes w c) (voters_of_client setting c) (next_of c) g → IsChosen (votes_of_world w) (origin_of setting) (next_of c) g = λ g k. record {
      members = c.chain;
      linked = (h.clients client c is).linked;
      at = refl;
      chosen = chosen_grows (known_votes w c) (votes_of_world w) (voters_of_client setting c) (next_of c) g (known_grows w c) k;
    } in
    inv_agrees l setting w h (next_of c) e f (stays e x) (stays f y)

-- ---- the chain

abbrev ChosenBehind : Setting → WorldView → List Entry → Entry → Type 0
ChosenBehind setting w chain e = ChosenBy (votes_of_world w) (voters_behind (origin_of setting) chain) (length chain + 1) e

-- an entry that is chosen behind a linked list links on to it
pub chosen_links : (l : ChainLaws) (setting : Setting) (w : WorldView) (chain : List Entry) (e : Entry) → Inv setting w → IsLinked (votes_of_world w) (origin_of setting) chain
    → ChosenBehind setting w chain e → LinksBehind (origin_of setting) chain e
chosen_links l setting w chain e h linked chosen =
    let next = (inv_valid setting w h (length chain + 1) e (record { members = chain; linked = linked; at = refl; chosen = chosen })).next in
    let same : next.members ≡ chain = l.one_list (votes_of_world w) (origin_of setting) next.members chain (inv_agrees l setting w h) next.linked linked (omega (arith, next.at)) in
    subst (λ (c : List Entry). LinksBehind (origin_of setting) c e) same next.links

-- and so the list goes on with it
pub chosen_goes_on : (l : ChainLaws) (setting : Setting) (w : WorldView) (chain : List Entry) (e : Entry) → Inv setting w → IsLinked (votes_of_world w) (origin_of setting) chain
    → ChosenBehind setting w chain e → IsLinked (votes_of_world w) (origin_of setting) (chain ++ e ∷ [])
chosen_goes_on l setting w chain e h linked chosen = l.goes_on (votes_of_world w) (origin_of setting) chain e linked chosen (chosen_links l setting w chain e h linked chosen)

-- where nothing is chosen behind a linked list, it is the longest
pub none_longer : (l : ChainLaws) (setting : Setting) (w : WorldView) (chain : List Entry) → Inv setting w → IsLinked (votes_of_world w) (origin_of setting) chain
    → ((e : Entry) → ChosenBehind setting w chain e → ⊥) → IsChain (votes_of_world w) (origin_of setting) chain
none_longer l setting w chain h linked none = record {
  linked = linked;
  longest = λ other is. elim (some_or_past other (length chain)) [
    | inl x ↦
        let less = slice_get_within other (length chain) x.0 x.1 in
        let front : take (length chain) other ≡ chain = begins_front chain other (inv_begins l setting w chain other h linked is (omega (arith, less))) in
        absurd (none x.0 (subst (λ (c : List Entry). ChosenBy (votes_of_world w) (voters_behind (origin_of setting) c) (length chain + 1) x.0) front (is.chosen (length chain) x.0 x.1)))
    | inr past ↦ past
  ];
}
  where
    begins_front : (a b : List Entry) → Begins a b → take (length a) b ≡ a
    begins_front a b begins = ap (take (length a)) (sym begins.1) ∙ take_at a begins.0 (length a) refl

-- behind the last position nothing is chosen
pub full_chain : (l : ChainLaws) (setting : Setting) (w : WorldView) (chain : List Entry) → Inv setting w → IsLinked (votes_of_world w) (origin_of setting) chain
    → LAST_NUMBER ≤ length chain → IsChain (votes_of_world w) (origin_of setting) chain
full_chain l setting w chain h linked full =
    none_longer l setting w chain h linked (λ e chosen. omega (arith, full, chosen_within setting w (voters_behind (origin_of setting) chain) (length chain + 1) e h chosen))

-- two longest linked lists are one
pub one_chain : (l : ChainLaws) (setting : Setting) (w : WorldView) (a b : List Entry) → Inv setting w → IsChain (votes_of_world w) (origin_of setting) a
    → IsChain (votes_of_world w) (origin_of setting) b → a ≡ b
one_chain l setting w a b h x y =
    let long : length a ≡ length b = omega (arith, x.longest b y.linked, y.longest a x.linked) in
    l.one_list (votes_of_world w) (origin_of setting) a b (inv_agrees l setting w h) x.linked y.linked long

-- ---- each world has a chain

-- an offer of each ballot is one, at whatever position
run_has_one : (setting : Setting) (w : WorldView) → Inv setting w → (s t i j k : ℕ) (b : Ballot) (e f : Entry) → slice_get (votes_of_world w s) i ≡ Some (Accept k b e) → slice_get (votes_of_world w t) j ≡ Some (Accept k b f) → e ≡ f
run_has_one setting w h s t i j k b e f x y = (sound setting w h).one_offer k b e f (h.listed s i k b e x) (h.listed t j k b f y)

pub run_chain : (l : ChainLaws) (setting : Setting) (w : WorldView) → IsSetting setting → Inv setting w → (chain : List Entry) × IsChain (votes_of_world w) (origin_of setting) chain
run_chain l setting w set h =
    l.found (votes_of_world w) (origin_of setting) (run_has_one setting w h) (inv_agrees l setting w h) (first_known setting set) (λ c e linked chosen. chosen_links l setting w c e h linked chosen)
