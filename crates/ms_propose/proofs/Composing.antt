-- How what bids leave of a desk goes together.
use Rattle.std.proofs.Common.{◌≡◌, ◌≢◌, ℕ, zero, suc, ◌⊎◌, inl, inr, ◌≤◌, true, false, List, [], ◌∷◌, ◌++◌, length, Option, Some, None, refl, sym, ap, ◌∙◌, subst, append_assoc, arith, slice_get, slice_index_or}
use Rattle.std.specs.Prelude.{Contains}
use Rattle.std.specs.Option.{option_map, option_map_or}
use Rattle.std.proofs.lemmas.List.{append-nil}
use Rattle.std.proofs.lemmas.List.Elements.{Contains-append_cases, Contains-append_left}
use mathlib.Core.List.{IsPrefix}
use Rattle.ms_base.specs.Counts.{Rose}
use Rattle.ms_core.specs.Closing.{logs_grow}
use Rattle.ms_core.specs.Views.{View, configuration, log_in, owner_of_client, votes_told}
use Rattle.ms_ken.specs.Lists.{list_at, Begins}
use Rattle.ms_ken.specs.Prefixes.{prefix_trans}
use Rattle.ms_ken.specs.Rows.{begins_self, begins_trans}
use Rattle.ms_base.specs.declared.names.Name.{Name}
use Rattle.ms_record.specs.declared.log.LogEvent.TheVariants.{Drop, Put}
use Rattle.ms_link.specs.Composing.{event_stays, rose_before, rose_on, stays_on as link_on, stays_self as link_self}
use Rattle.ms_link.specs.Links.{LinkView, Stays}
use Rattle.ms_record.specs.declared.ballot.Ballot.{Ballot}
use Rattle.ms_record.specs.declared.item.Item.{Item}
use Rattle.ms_record.specs.declared.item.Item.TheVariants.{Offer, Told}
use Rattle.ms_record.specs.declared.log.LogEvent.{LogEvent}
use Rattle.ms_record.specs.declared.record.Record.TheVariants.{Prepare}
use Rattle.ms_record.specs.declared.setting.Setting.{Setting}
use Rattle.ms_record.specs.declared.sight.Sight.{Sight}
use Rattle.ms_record.specs.Growing.{texts_append, votes_grow}
use Rattle.ms_record.specs.Logs.{texts_in}
use Rattle.ms_local.specs.declared.deed.Deed.{Deed}
use Rattle.ms_local.specs.declared.deed.Deed.TheVariants as deeds
use Rattle.ms_local.specs.declared.deed.Deed.TheVariants.{KeepFailed, Kept as KeptDeed, StateKept, Appended, Declared, Looked, Listed}
use Rattle.ms_local.specs.declared.deed.Message.TheVariants.{Vote}
use Rattle.ms_local.specs.declared.kept.Kept.{Kept}
use Rattle.ms_record.specs.declared.key.Key.TheVariants.{State}
use Rattle.ms_local.specs.Desks.{DeskView, HasFault, HasKeptRound, IsDesk, KnowsTold, LanesStay, LinksStay, OnTold, first_link, faults_at, round_of}
use Rattle.ms_local.specs.Keeping.{HasRanges, state_of}
use Rattle.ms_local.specs.Outside.{KeeperView, WhereTold}
use Rattle.ms_propose.specs.Acts.{with_round}
use Rattle.ms_propose.specs.Going.{DeskBids, KeepsObjects}
use Rattle.ms_propose.specs.Leaving.{Bids, IsBidDeed}
use Rattle.ms_local.specs.Truths.{IsStateAt, IsTrueDeed, IsMissed, IsTrueSight, OwnHistory, Stores, TrueDeeds, TrueLooks, ballot_at, last_kept, offers_of}
use Rattle.ms_local.specs.Calls.{message_text}

-- ---- links

links_self : (links : List LinkView) → LinksStay links links
links_self links = record { all = refl; each = λ place link at. (link, at, link_self link) }

pub lanes_self : (lanes : List (List LinkView)) → LanesStay lanes lanes
lanes_self lanes = record { all = refl; each = λ place links at. (links, at, links_self links) }

links_on : (a b c : List LinkView) → LinksStay a b → LinksStay b c → LinksStay a c
links_on a b c h k = record {
  all = k.all ∙ h.all;
  each = λ place link at.
      let x = k.each place link at in
      let y = h.each place x.0 x.1 in
      (y.0, y.1, link_on y.0 x.0 link y.2 x.2);
}

pub lanes_on : (a b c : List (List LinkView)) → LanesStay a b → LanesStay b c → LanesStay a c
lanes_on a b c h k = record {
  all = k.all ∙ h.all;
  each = λ place links at.
      let x = k.each place links at in
      let y = h.each place x.0 x.1 in
      (y.0, y.1, links_on y.0 x.0 links y.2 x.2);
}

-- ---- the desk

pub keeps_self : (keep : KeeperView) → KeepsObjects keep keep
keeps_self keep = record { told = refl; objects = λ told name. refl; later = omega arith }

pub keeps_on : (a b c : KeeperView) → KeepsObjects a b → KeepsObjects b c → KeepsObjects a c
keeps_on a b c h k = record {
  told = k.told ∙ h.told;
  objects = λ told name. k.objects (h.told ∙ told) name ∙ h.objects told name;
  later = omega (arith, h.later, k.later);
}

pub bids_self : (desk : DeskView) → DeskBids desk desk
bids_self desk = record {
  same = refl;
  board = refl;
  word = refl;
  more = begins_self desk.pass.lists;
  told = λ setting told. told;
  lanes = lanes_self desk.lanes;
  keep = keeps_self desk.keep;
}

same_on : (a b c : DeskView) → b ≡ record a { pass = b.pass; keep = b.keep; lanes = b.lanes; deeds = b.deeds } → c ≡ record b { pass = c.pass; keep = c.keep; lanes = c.lanes; deeds = c.deeds }
    → c ≡ record a { pass = c.pass; keep = c.keep; lanes = c.lanes; deeds = c.deeds }
same_on a b c h k = k ∙ ap (λ (d : DeskView). let e : DeskView = record d { pass = c.pass; keep = c.keep; lanes = c.lanes; deeds = c.deeds } in e) h

pub bids_on : (a b c : DeskView) → DeskBids a b → DeskBids b c → DeskBids a c
bids_on a b c h k = record {
  same = same_on a b c h.same k.same;
  board = k.board ∙ h.board;
  word = k.word ∙ h.word;
  more = begins_trans a.pass.lists b.pass.lists c.pass.lists h.more k.more;
  told = λ setting told. k.told setting (h.told setting told);
  lanes = lanes_on a.lanes b.lanes c.lanes h.lanes k.lanes;
  keep = keeps_on a.keep b.keep c.keep h.keep k.keep;
}

pub bids_client : (a b : DeskView) → DeskBids a b → b.client ≡ a.client
bids_client a b h = ap (λ (d : DeskView). d.client) h.same

pub bids_services : (a b : DeskView) → DeskBids a b → b.services ≡ a.services
bids_services a b h = ap (λ (d : DeskView). d.services) h.same

-- what is told was told before, where anything was known
alone : (xs : List Item) (x : Item) → xs ≢ [] → IsPrefix xs (x ∷ []) → xs ≡ x ∷ []
alone [] x some p = absurd (some refl)
alone (y ∷ []) x some p = ap (λ z. z ∷ []) (let q : y ≡ x = cc (p.1) in q)
alone (y ∷ z ∷ zs) x some p = absurd (cc (p.1))

pub told_back : (a b : DeskView) (setting : Setting) → IsDesk a → DeskBids a b → KnowsTold b setting → KnowsTold a setting
told_back a b setting desk h told =
    alone (list_at a.pass.lists configuration) (Told setting) desk.knows (subst (λ (l : List Item). IsPrefix (list_at a.pass.lists configuration) l) told (h.more configuration))

-- ---- counts

link_faults : (a b : Option LinkView) → ((link : LinkView) → b ≡ Some link → (before : LinkView) × (a ≡ Some before) × Stays before link) → ((link : LinkView) → a ≡ Some link → b ≢ None)
    → option_map_or (λ (link : LinkView). link.faults) a 0 ≤ option_map_or (λ (link : LinkView). link.faults) b 0
link_faults None b each some = omega arith
link_faults (Some x) None each some = absurd (some x refl refl)
link_faults (Some x) (Some y) each some =
    let h = each y refl in
    let same : x ≡ h.0 = (let q : Some x ≡ Some h.0 = h.1 in cc) in
    omega (arith, h.2.later, ap (λ (l : LinkView). l.faults) same)

has_at : {X : Type 0} (xs ys : List X) (k : ℕ) (x : X) → length ys ≡ length xs → slice_get xs k ≡ Some x → slice_get ys k ≢ None
has_at [] ys k x same e n = absurd cc
has_at (z ∷ xs) [] k x same e n = absurd (omega (arith, same))
has_at (z ∷ xs) (y ∷ ys) zero x same e n = absurd cc
has_at (z ∷ xs) (y ∷ ys) (suc k) x same e n = has_at xs ys k x (omega (arith, same)) e n

first_links : (a b : List (List LinkView)) → LanesStay a b → LinksStay (slice_index_or a 0 []) (slice_index_or b 0 [])
first_links [] [] h = links_self []
first_links [] (y ∷ b) h = absurd (omega (arith, h.all))
first_links (x ∷ a) [] h = absurd (omega (arith, h.all))
first_links (x ∷ a) (y ∷ b) h =
    let e = h.each 0 y refl in
    let same : e.0 ≡ x = (let q : Some x ≡ Some e.0 = e.1 in cc) in
    subst (λ (l : List LinkView). LinksStay l y) same e.2

pub faults_later : (a b : DeskView) (s : ℕ) → LanesStay a.lanes b.lanes → faults_at a s ≤ faults_at b s
faults_later a b s h =
    let links = first_links a.lanes b.lanes h in
    link_faults (first_link a s) (first_link b s) (λ link at. links.each s link at) (λ link at. has_at (slice_index_or a.lanes 0 []) (slice_index_or b.lanes 0 []) s link links.all at)

-- ---- what was told stays told

pub votes_begin : (low high : View) → Begins low high → (s : ℕ) → IsPrefix (votes_told low s) (votes_told high s)
votes_begin low high more s = votes_grow (log_in low) (log_in high) (logs_grow low high more) s

pub text_stays : (low high : View) → Begins low high → (s list : ℕ) (text : List ℕ) → Contains (texts_in list (log_in low s)) text → Contains (texts_in list (log_in high s)) text
text_stays low high more s list text h =
    let p = logs_grow low high more s in
    subst (λ (l : List LogEvent). Contains (texts_in list l) text) p.1
    (subst (λ (l : List (List ℕ)). Contains l text) (sym (texts_append list (log_in low s) p.0)) (Contains-append_left (texts_in list (log_in low s)) (texts_in list p.0) text h))

pub sight_on : (low lower high higher : View) → Begins lower low → Begins high higher → (k : ℕ) (b : Ballot) (s : ℕ) (x : Sight) → IsTrueSight low high k b s x → IsTrueSight lower higher k b s x
sight_on low lower high higher below above k b s x h = record {
  list = h.list;
  low_begins = prefix_trans (votes_told lower s) (votes_told low s) h.list (votes_begin lower low below s) h.low_begins;
  begins = prefix_trans h.list (votes_told high s) (votes_told higher s) h.begins (votes_begin high higher above s);
  seen = h.seen;
}

-- ---- deeds

-- a fault between two moments is one between an earlier and a later one
fault_wider : (a b c d : DeskView) → DeskBids a b → DeskBids c d → (s : ℕ) → HasFault b c s → HasFault a d s
fault_wider a b c d h k s t = rose_before (faults_at a s) (faults_at b s) (faults_at d s) (faults_later a b s h.lanes) (rose_on (faults_at b s) (faults_at c s) (faults_at d s) t (faults_later c d s k.lanes))

keeper_wider : (a b c d : DeskView) → DeskBids a b → DeskBids c d → Rose b.keep.faults c.keep.faults → Rose a.keep.faults d.keep.faults
keeper_wider a b c d h k t = rose_before a.keep.faults b.keep.faults d.keep.faults h.keep.later (rose_on b.keep.faults c.keep.faults d.keep.faults t k.keep.later)

work_wider : (a b c d : DeskView) → DeskBids a b → DeskBids c d → Rose b.work.faults c.work.faults → Rose a.work.faults d.work.faults
work_wider a b c d h k t =
    let before : b.work.faults ≡ a.work.faults = ap (λ (x : DeskView). x.work.faults) h.same in
    let after : d.work.faults ≡ c.work.faults = ap (λ (x : DeskView). x.work.faults) k.same in
    subst (λ (n : ℕ). Rose n d.work.faults) before (subst (λ (n : ℕ). Rose b.work.faults n) (sym after) t)

events_wider : (a b c d : DeskView) → DeskBids a b → DeskBids c d → (s : ℕ) (event : LogEvent) → OnTold b (Contains (log_in c.pass.lists s) event) → OnTold a (Contains (log_in d.pass.lists s) event)
events_wider a b c d h k s event t = λ setting told. event_stays (log_in c.pass.lists s) (log_in d.pass.lists s) event (logs_grow c.pass.lists d.pass.lists k.more s) (t setting (h.told setting told))

stores_wider : (a b c d : DeskView) → DeskBids a b → DeskBids c d → (s generation : ℕ) (name : Name) → Stores b c s generation name → Stores a d s generation name
stores_wider a b c d h k s generation name t = λ setting told.
    let p = t setting (h.told setting told) in
    (p.0, event_stays (log_in c.pass.lists s) (log_in d.pass.lists s) (Put generation name p.0) (logs_grow c.pass.lists d.pass.lists k.more s) p.1)

missed_wider : (a b c d : DeskView) → DeskBids a b → DeskBids c d → (s generation : ℕ) (floor : Option ℕ) → IsMissed b c s generation floor → IsMissed a d s generation floor
missed_wider a b c d h k s generation (Some floor) t = (t.0, events_wider a b c d h k s (Drop floor) t.1)
missed_wider a b c d h k s generation None t = fault_wider a b c d h k s t

-- a deed that is true between two moments is true between an earlier and a later one
pub deed_wider : (a b c d : DeskView) → DeskBids a b → DeskBids c d → (deed : Deed) → IsTrueDeed b c deed → IsTrueDeed a d deed
deed_wider a b c d h k (Appended service list message true) t = λ setting told.
    text_stays c.pass.lists d.pass.lists k.more service.0 list.0 (message_text message) (t setting (h.told setting told))
deed_wider a b c d h k (Appended service list message false) t = fault_wider a b c d h k service.0 t
deed_wider a b c d h k (Looked service sight false) t = (t.0, fault_wider a b c d h k service.0 t.1)
deed_wider a b c d h k (Listed service list from count false) t = (t.0, fault_wider a b c d h k service.0 t.1)
deed_wider a b c d h k (KeptDeed round false) t = keeper_wider a b c d h k t
deed_wider a b c d h k (StateKept false) t = keeper_wider a b c d h k t
deed_wider a b c d h k KeepFailed t = keeper_wider a b c d h k t
deed_wider a b c d h k (deeds.Asked service generation name true true None) t = stores_wider a b c d h k service.0 generation name t
deed_wider a b c d h k (deeds.Asked service generation name false false floor) t = missed_wider a b c d h k service.0 generation floor t
deed_wider a b c d h k (deeds.Asked service generation name true true (Some floor)) t = absurd t
deed_wider a b c d h k (deeds.Asked service generation name true false floor) t = absurd t
deed_wider a b c d h k (deeds.Asked service generation name false true (Some floor)) t = absurd t
deed_wider a b c d h k (deeds.Put service generation name true None) t = stores_wider a b c d h k service.0 generation name t
deed_wider a b c d h k (deeds.Put service generation name true (Some floor)) t = absurd t
deed_wider a b c d h k (deeds.Put service generation name false floor) t = missed_wider a b c d h k service.0 generation floor t
deed_wider a b c d h k (deeds.Got service generation name None false floor) t = missed_wider a b c d h k service.0 generation floor t
deed_wider a b c d h k (deeds.Got service generation name (Some found) false floor) t = absurd t
deed_wider a b c d h k (deeds.Got service generation name found true (Some floor)) t = absurd t
deed_wider a b c d h k (deeds.Dropped service generation true) t = events_wider a b c d h k service.0 (Drop generation) t
deed_wider a b c d h k (deeds.Dropped service generation false) t = fault_wider a b c d h k service.0 t
deed_wider a b c d h k (deeds.Scanned false) t = work_wider a b c d h k t
deed_wider a b c d h k (deeds.Wrote path false) t = work_wider a b c d h k t
deed_wider a b c d h k (deeds.Removed path false) t = work_wider a b c d h k t
deed_wider a b c d h k deed t = tt

pub looks_wider : (a b c d : DeskView) → DeskBids a b → DeskBids c d → (position round : ℕ) (deeds : List Deed) → TrueLooks b c position round deeds → TrueLooks a d position round deeds
looks_wider a b c d h k position round [] t = tt
looks_wider a b c d h k position round (KeptDeed next ok ∷ deeds) t = (t.0, looks_wider a b c d h k t.0 next deeds t.1)
looks_wider a b c d h k position round (Appended service list (Vote (Prepare p x)) ok ∷ deeds) t = (t.0, looks_wider a b c d h k position round deeds t.1)
looks_wider a b c d h k position round (Looked service sight true ∷ deeds) t = (
  λ setting told.
      sight_on b.pass.lists a.pass.lists c.pass.lists d.pass.lists h.more k.more position (ballot_at a.client round) service.0 sight
      (subst (λ (who : ℕ). IsTrueSight b.pass.lists c.pass.lists position (ballot_at who round) service.0 sight) (bids_client a b h) (t.0 setting (h.told setting told))),
  looks_wider a b c d h k position round deeds t.1,
)
looks_wider a b c d h k position round (deed ∷ deeds) t = looks_wider a b c d h k position round deeds t

pub looks_append : (a d : DeskView) (position round : ℕ) (deeds more : List Deed) → TrueLooks a d position round deeds → ((k r : ℕ) → TrueLooks a d k r more) → TrueLooks a d position round (deeds ++ more)
looks_append a d position round [] more t u = u position round
looks_append a d position round (KeptDeed next ok ∷ deeds) more t u = (t.0, looks_append a d t.0 next deeds more t.1 u)
looks_append a d position round (Appended service list (Vote (Prepare p x)) ok ∷ deeds) more t u = (t.0, looks_append a d position round deeds more t.1 u)
looks_append a d position round (Looked service sight true ∷ deeds) more t u = (t.0, looks_append a d position round deeds more t.1 u)
looks_append a d position round (deed ∷ deeds) more t u = looks_append a d position round deeds more t u

unfoldable pub truths_self : (desk now : DeskView) → now.deeds ≡ desk.deeds → TrueDeeds desk now
truths_self desk now same = record { deeds = []; grows = same ∙ sym (append-nil desk.deeds); each = λ deed h. absurd (omega (arith, h.1)); looks = λ k r. tt }

unfoldable pub truths_on : (a b c : DeskView) → DeskBids a b → DeskBids b c → TrueDeeds a b → TrueDeeds b c → TrueDeeds a c
truths_on a b c h k t u = record {
  deeds = t.deeds ++ u.deeds;
  grows = u.grows ∙ (ap (λ (xs : List Deed). xs ++ u.deeds) t.grows ∙ append_assoc a.deeds t.deeds u.deeds);
  each = λ deed is.
      elim (Contains-append_cases t.deeds u.deeds deed is) [
        | inl x ↦ deed_wider a a b c (bids_self a) k deed (t.each deed x)
        | inr y ↦ deed_wider a b c c h (bids_self c) deed (u.each deed y)
      ];
  looks = λ position round.
      looks_append a c position round t.deeds u.deeds (looks_wider a a b c (bids_self a) k position round t.deeds (t.looks position round))
      (λ p r. looks_wider a b c c h (bids_self c) p r u.deeds (u.looks p r));
}

-- ---- the own list

pub offers_more : (xs ys : List Deed) → offers_of (xs ++ ys) ≡ offers_of xs ++ offers_of ys
offers_more [] ys = refl
offers_more (Declared offer ∷ xs) ys = ap (λ (l : List Item). Offer offer ∷ l) (offers_more xs ys)
offers_more (d ∷ xs) ys = offers_more xs ys

pub history_self : (desk now : DeskView) → now.deeds ≡ desk.deeds → list_at now.pass.lists (owner_of_client desk.client) ≡ list_at desk.pass.lists (owner_of_client desk.client) → OwnHistory desk now
history_self desk now same own = record { deeds = []; grows = same ∙ sym (append-nil desk.deeds); own = own ∙ sym (append-nil (list_at desk.pass.lists (owner_of_client desk.client))) }

pub history_on : (a b c : DeskView) → b.client ≡ a.client → OwnHistory a b → OwnHistory b c → OwnHistory a c
history_on a b c client h k =
    let own : list_at c.pass.lists (owner_of_client a.client) ≡ list_at b.pass.lists (owner_of_client a.client) ++ offers_of k.deeds =
    subst (λ (who : ℕ). list_at c.pass.lists (owner_of_client who) ≡ list_at b.pass.lists (owner_of_client who) ++ offers_of k.deeds) client k.own in
    record {
      deeds = h.deeds ++ k.deeds;
      grows = k.grows ∙ (ap (λ (xs : List Deed). xs ++ k.deeds) h.grows ∙ append_assoc a.deeds h.deeds k.deeds);
      own = own ∙ (ap (λ (xs : List Item). xs ++ offers_of k.deeds) h.own ∙ (append_assoc (list_at a.pass.lists (owner_of_client a.client)) (offers_of h.deeds) (offers_of k.deeds)
          ∙ ap (λ (xs : List Item). list_at a.pass.lists (owner_of_client a.client) ++ xs) (sym (offers_more h.deeds k.deeds))));
    }

-- ---- kinds of deeds

pub kinds_self : (deed : Deed) → Contains [] deed → IsBidDeed deed
kinds_self deed is = absurd (omega (arith, is.1))

pub kinds_on : (xs ys : List Deed) → ((deed : Deed) → Contains xs deed → IsBidDeed deed) → ((deed : Deed) → Contains ys deed → IsBidDeed deed) → (deed : Deed) → Contains (xs ++ ys) deed → IsBidDeed deed
kinds_on xs ys h k deed is = elim (Contains-append_cases xs ys deed is) [ inl x ↦ h deed x | inr y ↦ k deed y ]

-- ---- the kept round

-- the round that the kept text says, where it spells a state
pub round_is : (text : Option (List ℕ)) (had : Kept) → state_of text ≡ Some had → round_of text ≡ Some had.round
round_is None had e = absurd cc
round_is (Some text) had e = ap (option_map (λ (kept : Kept). kept.round)) e

-- the round of the one desk's keeper is kept at the other
abbrev pub StaysKept : DeskView → DeskView → Type 0
StaysKept old new = WhereTold old.keep.told ((r : ℕ) → round_of (old.keep.texts State) ≡ Some r → HasKeptRound new r)

pub kept_lower : (desk : DeskView) (low high : ℕ) → low ≤ high → HasKeptRound desk high → HasKeptRound desk low
kept_lower desk low high le h told = let k = h told in (k.0, k.1, omega (arith, le, k.2))

pub kept_later : (old new : DeskView) (r : ℕ) → new.keep.told ≡ old.keep.told → StaysKept old new → HasKeptRound old r → HasKeptRound new r
kept_later old new r same stays h told = let was = sym same ∙ told in let k = h was in kept_lower new r k.0 k.2 (stays was k.0 k.1) told

pub stays_self : (desk now : DeskView) → now.keep ≡ desk.keep → StaysKept desk now
stays_self desk now same told r is there = (r, ap (λ (k : KeeperView). round_of (k.texts State)) same ∙ is, omega arith)

pub stays_on : (a b c : DeskView) → c.keep.told ≡ b.keep.told → StaysKept a b → StaysKept b c → StaysKept a c
stays_on a b c same h k told r is = kept_later b c r same k (h told r is)

kept_append : (xs ys : List Deed) (r : ℕ) → last_kept r (xs ++ ys) ≡ last_kept (last_kept r xs) ys
kept_append [] ys r = refl
kept_append (KeptDeed next true ∷ xs) ys r = kept_append xs ys next
kept_append (deed ∷ xs) ys r = kept_append xs ys r

-- among the deeds is a keeping with ok, or what was kept before them is the last
kept_cases : (deeds : List Deed) (r : ℕ) → (last_kept r deeds ≡ last_kept 0 deeds) ⊎ (last_kept r deeds ≡ r)
kept_cases [] r = inr refl
kept_cases (KeptDeed next true ∷ deeds) r = inl refl
kept_cases (deed ∷ deeds) r = kept_cases deeds r

pub kept_there_self : (slack : ℕ) (desk : DeskView) (kept : Kept) → IsStateAt slack desk kept → HasKeptRound desk (last_kept 0 [])
kept_there_self slack desk kept h told = let s = h told in (s.0.round, round_is (desk.keep.texts State) s.0 s.1, omega arith)

pub kept_there_on : (b c : DeskView) (xs ys : List Deed) → c.keep.told ≡ b.keep.told → StaysKept b c → HasKeptRound b (last_kept 0 xs) → HasKeptRound c (last_kept 0 ys) → HasKeptRound c (last_kept 0 (xs ++ ys))
kept_there_on b c xs ys same stays h k = subst (HasKeptRound c) (sym (kept_append xs ys 0)) (elim (kept_cases ys (last_kept 0 xs)) [
  | inl last ↦ subst (HasKeptRound c) (sym last) k
  | inr before ↦ subst (HasKeptRound c) (sym before) (kept_later b c (last_kept 0 xs) same stays h)
])

-- ---- what bids leave

-- no deed was done
pub leaves_quiet : (old new : DeskView) (kept : Kept) (slack : ℕ) → DeskBids old new → new.deeds ≡ old.deeds → list_at new.pass.lists (owner_of_client old.client) ≡ list_at old.pass.lists (owner_of_client old.client)
    → StaysKept old new → IsStateAt slack new kept → HasRanges kept → Bids slack old new kept kept
unfolding truths_self
leaves_quiet old new kept slack goes deeds own stays state ranges = record {
  effect = goes;
  history = history_self old new deeds own;
  truths = truths_self old new deeds;
  kinds = kinds_self;
  kept_there = kept_there_self slack new kept state;
  stays_kept = stays;
  state = state;
  ranges = ranges;
  round = refl;
}

pub leaves_self : (desk : DeskView) (kept : Kept) (slack : ℕ) → IsStateAt slack desk kept → HasRanges kept → Bids slack desk desk kept kept
leaves_self desk kept slack state ranges = leaves_quiet desk desk kept slack (bids_self desk) refl refl (stays_self desk desk refl) state ranges

pub leaves_on : (a b c : DeskView) (before mid after : Kept) (slack last : ℕ) → Bids slack a b before mid → Bids last b c mid after → Bids last a c before after
unfolding truths_on
leaves_on a b c before mid after slack last h k = record {
  effect = bids_on a b c h.effect k.effect;
  history = history_on a b c (bids_client a b h.effect) h.history k.history;
  truths = truths_on a b c h.effect k.effect h.truths k.truths;
  kinds = kinds_on h.truths.deeds k.truths.deeds h.kinds k.kinds;
  kept_there = kept_there_on b c h.truths.deeds k.truths.deeds k.effect.keep.told k.stays_kept h.kept_there k.kept_there;
  stays_kept = stays_on a b c k.effect.keep.told h.stays_kept k.stays_kept;
  state = k.state;
  ranges = k.ranges;
  round = k.round ∙ ap (λ (x : Kept). with_round x after.round) h.round;
}
