-- How what is done at a desk goes together.
use Rattle.std.proofs.Common.{◌≡◌, ◌≢◌, ℕ, zero, suc, inl, inr, ◌≤◌, true, false, List, [], ◌∷◌, ◌++◌, length, Option, Some, None, refl, sym, ap, ◌∙◌, subst, append_assoc, arith, slice_get, slice_index_or}
use Rattle.std.specs.Prelude.{Contains, IfSome}
use Rattle.std.specs.Option.{option_map_or}
use Rattle.std.proofs.lemmas.List.{append-nil}
use Rattle.std.proofs.lemmas.List.Elements.{Contains-append_cases, Contains-append_left}
use mathlib.Core.List.{IsPrefix}
use Rattle.ms_base.specs.Counts.{Rose}
use Rattle.ms_base.specs.declared.names.Name.{Name}
use Rattle.ms_core.specs.Closing.{logs_grow}
use Rattle.ms_core.specs.Views.{View, log_in, owner_of_client, votes_told}
use Rattle.ms_ken.specs.Known.{Known}
use Rattle.ms_ken.specs.Lists.{list_at, Begins}
use Rattle.ms_ken.specs.Prefixes.{prefix_trans}
use Rattle.ms_ken.specs.Rows.{begins_self, begins_trans}
use Rattle.ms_link.specs.Composing.{event_stays, rose_before, rose_on}
use Rattle.ms_link.specs.Links.{Learns as PassLearns, LinkView, Stays}
use Rattle.ms_record.specs.declared.ballot.Ballot.{Ballot}
use Rattle.ms_record.specs.declared.item.Item.{Item}
use Rattle.ms_record.specs.declared.item.Item.TheVariants.{Offer}
use Rattle.ms_record.specs.declared.log.LogEvent.{LogEvent}
use Rattle.ms_record.specs.declared.log.LogEvent.TheVariants.{Drop, Put}
use Rattle.ms_record.specs.declared.record.Record.TheVariants.{Prepare}
use Rattle.ms_record.specs.declared.sight.Sight.{Sight}
use Rattle.ms_record.specs.Growing.{texts_append, votes_grow}
use Rattle.ms_record.specs.Logs.{texts_in}
use Rattle.ms_local.specs.declared.deed.Deed.{Deed}
use Rattle.ms_local.specs.declared.deed.Deed.TheVariants as deeds
use Rattle.ms_local.specs.declared.deed.Deed.TheVariants.{KeepFailed, Kept as KeptDeed, StateKept, Appended, Declared, Looked, Listed}
use Rattle.ms_local.specs.declared.deed.Message.TheVariants.{Vote}
use Rattle.ms_local.specs.Calls.{DeskCalls, DeskGoes, StaysTold, message_text}
use Rattle.ms_local.specs.Desks.{DeskView, HasFault, IsDesk, LanesStay, LinksStay, OnTold, first_link, faults_at, with_deed}
use Rattle.ms_local.specs.Laying.{TellsObjects}
use Rattle.ms_local.specs.Truths.{IsTrueDeed, IsMissed, IsTrueSight, OwnHistory, Stores, TrueDeeds, TrueLooks, ballot_at, offers_of}
use Rattle.ms_local.proofs.FirstLane.{lanes_on, lanes_self, links_self}

-- ---- the desk

own_self : (pass : Known Item) (word : Option ℕ) → IfSome word (λ k. list_at pass.lists k ≡ list_at pass.lists k)
own_self pass None = tt
own_self pass (Some k) = refl

own_on : (a b c : Known Item) (word : Option ℕ) → IfSome word (λ k. list_at b.lists k ≡ list_at a.lists k) → IfSome word (λ k. list_at c.lists k ≡ list_at b.lists k) → IfSome word (λ k. list_at c.lists k ≡ list_at a.lists k)
own_on a b c None h k = tt
own_on a b c (Some w) h k = k ∙ h

learns_self : (pass : Known Item) → PassLearns pass pass
learns_self pass = record { board = refl; word = refl; own = own_self pass pass.word; more = begins_self pass.lists }

learns_on : (a b c : Known Item) → PassLearns a b → PassLearns b c → PassLearns a c
learns_on a b c h k = record {
  board = k.board ∙ h.board;
  word = k.word ∙ h.word;
  own = own_on a b c a.word h.own (subst (λ (o : Option ℕ). IfSome o (λ w. list_at c.lists w ≡ list_at b.lists w)) h.word k.own);
  more = begins_trans a.lists b.lists c.lists h.more k.more;
}

pub goes_self : (desk : DeskView) → DeskGoes desk desk
goes_self desk = record { same = refl; pass = learns_self desk.pass; lanes = lanes_self desk.lanes }

same_on : (a b c : DeskView) → b ≡ record a { pass = b.pass; lanes = b.lanes; deeds = b.deeds } → c ≡ record b { pass = c.pass; lanes = c.lanes; deeds = c.deeds }
    → c ≡ record a { pass = c.pass; lanes = c.lanes; deeds = c.deeds }
same_on a b c h k = k ∙ ap (λ (d : DeskView). let e : DeskView = record d { pass = c.pass; lanes = c.lanes; deeds = c.deeds } in e) h

pub goes_on : (a b c : DeskView) → DeskGoes a b → DeskGoes b c → DeskGoes a c
goes_on a b c h k = record {
  same = same_on a b c h.same k.same;
  pass = learns_on a.pass b.pass c.pass h.pass k.pass;
  lanes = lanes_on a.lanes b.lanes c.lanes h.lanes k.lanes;
}

called_same : (a b : DeskView) → b ≡ record a { pass = b.pass; lanes = b.lanes } → b ≡ record a { pass = b.pass; lanes = b.lanes; deeds = b.deeds }
called_same a b h =
    let same : b.deeds ≡ a.deeds = ap (λ (d : DeskView). d.deeds) h in
    h ∙ ap (λ (xs : List Deed). let e : DeskView = record a { pass = b.pass; lanes = b.lanes; deeds = xs } in e) (sym same)

pub goes_called : (service : ℕ) (a b : DeskView) → DeskCalls service a b → DeskGoes a b
goes_called service a b h = record { same = called_same a b h.same; pass = h.pass; lanes = h.lanes }

noted_same : (a b : DeskView) (deed : Deed) → b ≡ record a { pass = b.pass; lanes = b.lanes; deeds = a.deeds ++ deed ∷ [] } → b ≡ record a { pass = b.pass; lanes = b.lanes; deeds = b.deeds }
noted_same a b deed h =
    let same : b.deeds ≡ a.deeds ++ deed ∷ [] = ap (λ (d : DeskView). d.deeds) h in
    h ∙ ap (λ (xs : List Deed). let e : DeskView = record a { pass = b.pass; lanes = b.lanes; deeds = xs } in e) (sym same)

pub goes_noted : (service : ℕ) (a b : DeskView) (deed : Deed) → DeskCalls service (with_deed a deed) b → DeskGoes a b
goes_noted service a b deed h = record { same = noted_same a b deed h.same; pass = h.pass; lanes = h.lanes }

-- ---- counts

link_faults : (a b : Option LinkView) → ((link : LinkView) → b ≡ Some link → (before : LinkView) × (a ≡ Some before) × Stays before link) → ((link : LinkView) → a ≡ Some link → b ≢ None)
    → option_map_or (λ (link : LinkView). link.faults) a 0 ≤ option_map_or (λ (link : LinkView). link.faults) b 0
link_faults None b each some = omega arith
link_faults (Some x) None each some = absurd (some x refl refl)
link_faults (Some x) (Some y) each some =
    let h = each y refl in
    let same : x ≡ h.0 = (let q : Some x ≡ Some h.0 = h.1 in cc) in
    omega (arith, h.2.later, ap (λ (l : LinkView). l.faults) same)

has_at : {X : Type 0} (xs ys : List X) (k : ℕ) (x : X) → length ys ≡ length xs → slice_get xs k ≡ Some x → slice_get ys k ≢ None
has_at [] ys k x same e n = absurd cc
has_at (z ∷ xs) [] k x same e n = absurd (omega (arith, same))
has_at (z ∷ xs) (y ∷ ys) zero x same e n = absurd cc
has_at (z ∷ xs) (y ∷ ys) (suc k) x same e n = has_at xs ys k x (omega (arith, same)) e n

first_links : (a b : List (List LinkView)) → LanesStay a b → LinksStay (slice_index_or a 0 []) (slice_index_or b 0 [])
first_links [] [] h = links_self []
first_links [] (y ∷ b) h = absurd (omega (arith, h.all))
first_links (x ∷ a) [] h = absurd (omega (arith, h.all))
first_links (x ∷ a) (y ∷ b) h =
    let e = h.each 0 y refl in
    let same : e.0 ≡ x = (let q : Some x ≡ Some e.0 = e.1 in cc) in
    subst (λ (l : List LinkView). LinksStay l y) same e.2

pub faults_later : (a b : DeskView) (s : ℕ) → LanesStay a.lanes b.lanes → faults_at a s ≤ faults_at b s
faults_later a b s h =
    let links = first_links a.lanes b.lanes h in
    link_faults (first_link a s) (first_link b s) (λ link at. links.each s link at) (λ link at. has_at (slice_index_or a.lanes 0 []) (slice_index_or b.lanes 0 []) s link links.all at)

pub faults_go : (a b : DeskView) (s : ℕ) → DeskGoes a b → faults_at a s ≤ faults_at b s
faults_go a b s h = faults_later a b s h.lanes

-- ---- what was told stays told

pub votes_begin : (low high : View) → Begins low high → (s : ℕ) → IsPrefix (votes_told low s) (votes_told high s)
votes_begin low high more s = votes_grow (log_in low) (log_in high) (logs_grow low high more) s

pub text_stays : (low high : View) → Begins low high → (s list : ℕ) (text : List ℕ) → Contains (texts_in list (log_in low s)) text → Contains (texts_in list (log_in high s)) text
text_stays low high more s list text h =
    let p = logs_grow low high more s in
    subst (λ (l : List LogEvent). Contains (texts_in list l) text) p.1
    (subst (λ (l : List (List ℕ)). Contains l text) (sym (texts_append list (log_in low s) p.0)) (Contains-append_left (texts_in list (log_in low s)) (texts_in list p.0) text h))

pub sight_on : (low lower high higher : View) → Begins lower low → Begins high higher → (k : ℕ) (b : Ballot) (s : ℕ) (x : Sight) → IsTrueSight low high k b s x → IsTrueSight lower higher k b s x
sight_on low lower high higher below above k b s x h = record {
  list = h.list;
  low_begins = prefix_trans (votes_told lower s) (votes_told low s) h.list (votes_begin lower low below s) h.low_begins;
  begins = prefix_trans h.list (votes_told high s) (votes_told higher s) h.begins (votes_begin high higher above s);
  seen = h.seen;
}

-- ---- deeds

-- a fault between two moments is one between an earlier and a later one
pub fault_wider : (a b c d : DeskView) → DeskGoes a b → DeskGoes c d → (s : ℕ) → HasFault b c s → HasFault a d s
fault_wider a b c d h k s t = rose_before (faults_at a s) (faults_at b s) (faults_at d s) (faults_later a b s h.lanes) (rose_on (faults_at b s) (faults_at c s) (faults_at d s) t (faults_later c d s k.lanes))

keeper_wider : (a b c d : DeskView) → DeskGoes a b → DeskGoes c d → Rose b.keep.faults c.keep.faults → Rose a.keep.faults d.keep.faults
keeper_wider a b c d h k t =
    let before : b.keep.faults ≡ a.keep.faults = ap (λ (x : DeskView). x.keep.faults) h.same in
    let after : d.keep.faults ≡ c.keep.faults = ap (λ (x : DeskView). x.keep.faults) k.same in
    subst (λ (n : ℕ). Rose n d.keep.faults) before (subst (λ (n : ℕ). Rose b.keep.faults n) (sym after) t)

work_wider : (a b c d : DeskView) → DeskGoes a b → DeskGoes c d → Rose b.work.faults c.work.faults → Rose a.work.faults d.work.faults
work_wider a b c d h k t =
    let before : b.work.faults ≡ a.work.faults = ap (λ (x : DeskView). x.work.faults) h.same in
    let after : d.work.faults ≡ c.work.faults = ap (λ (x : DeskView). x.work.faults) k.same in
    subst (λ (n : ℕ). Rose n d.work.faults) before (subst (λ (n : ℕ). Rose b.work.faults n) (sym after) t)

events_wider : (a b c d : DeskView) → DeskGoes a b → StaysTold a b → DeskGoes c d → (s : ℕ) (event : LogEvent) → OnTold b (Contains (log_in c.pass.lists s) event) → OnTold a (Contains (log_in d.pass.lists s) event)
events_wider a b c d h stays k s event t = λ setting told. event_stays (log_in c.pass.lists s) (log_in d.pass.lists s) event (logs_grow c.pass.lists d.pass.lists k.pass.more s) (t setting (stays setting told))

stores_wider : (a b c d : DeskView) → DeskGoes a b → StaysTold a b → DeskGoes c d → (s generation : ℕ) (name : Name) → Stores b c s generation name → Stores a d s generation name
stores_wider a b c d h stays k s generation name t = λ setting told.
    let p = t setting (stays setting told) in
    (p.0, event_stays (log_in c.pass.lists s) (log_in d.pass.lists s) (Put generation name p.0) (logs_grow c.pass.lists d.pass.lists k.pass.more s) p.1)

missed_wider : (a b c d : DeskView) → DeskGoes a b → StaysTold a b → DeskGoes c d → (s generation : ℕ) (floor : Option ℕ) → IsMissed b c s generation floor → IsMissed a d s generation floor
missed_wider a b c d h stays k s generation (Some floor) t = (t.0, events_wider a b c d h stays k s (Drop floor) t.1)
missed_wider a b c d h stays k s generation None t = fault_wider a b c d h k s t

-- a deed that is true between two moments is true between an earlier and a later one
pub deed_wider : (a b c d : DeskView) → DeskGoes a b → StaysTold a b → DeskGoes c d → (deed : Deed) → IsTrueDeed b c deed → IsTrueDeed a d deed
deed_wider a b c d h stays k (Appended service list message true) t = λ setting told.
    text_stays c.pass.lists d.pass.lists k.pass.more service.0 list.0 (message_text message) (t setting (stays setting told))
deed_wider a b c d h stays k (Appended service list message false) t = fault_wider a b c d h k service.0 t
deed_wider a b c d h stays k (Looked service sight false) t = (t.0, fault_wider a b c d h k service.0 t.1)
deed_wider a b c d h stays k (Listed service list from count false) t = (t.0, fault_wider a b c d h k service.0 t.1)
deed_wider a b c d h stays k (KeptDeed round false) t = keeper_wider a b c d h k t
deed_wider a b c d h stays k (StateKept false) t = keeper_wider a b c d h k t
deed_wider a b c d h stays k KeepFailed t = keeper_wider a b c d h k t
deed_wider a b c d h stays k (deeds.Asked service generation name true true None) t = stores_wider a b c d h stays k service.0 generation name t
deed_wider a b c d h stays k (deeds.Asked service generation name false false floor) t = missed_wider a b c d h stays k service.0 generation floor t
deed_wider a b c d h stays k (deeds.Asked service generation name true true (Some floor)) t = absurd t
deed_wider a b c d h stays k (deeds.Asked service generation name true false floor) t = absurd t
deed_wider a b c d h stays k (deeds.Asked service generation name false true (Some floor)) t = absurd t
deed_wider a b c d h stays k (deeds.Put service generation name true None) t = stores_wider a b c d h stays k service.0 generation name t
deed_wider a b c d h stays k (deeds.Put service generation name true (Some floor)) t = absurd t
deed_wider a b c d h stays k (deeds.Put service generation name false floor) t = missed_wider a b c d h stays k service.0 generation floor t
deed_wider a b c d h stays k (deeds.Got service generation name None false floor) t = missed_wider a b c d h stays k service.0 generation floor t
deed_wider a b c d h stays k (deeds.Got service generation name (Some found) false floor) t = absurd t
deed_wider a b c d h stays k (deeds.Got service generation name found true (Some floor)) t = absurd t
deed_wider a b c d h stays k (deeds.Dropped service generation true) t = events_wider a b c d h stays k service.0 (Drop generation) t
deed_wider a b c d h stays k (deeds.Dropped service generation false) t = fault_wider a b c d h k service.0 t
deed_wider a b c d h stays k (deeds.Scanned false) t = work_wider a b c d h k t
deed_wider a b c d h stays k (deeds.Wrote path false) t = work_wider a b c d h k t
deed_wider a b c d h stays k (deeds.Removed path false) t = work_wider a b c d h k t
deed_wider a b c d h stays k deed t = tt

pub looks_wider : (a b c d : DeskView) → DeskGoes a b → StaysTold a b → DeskGoes c d → (position round : ℕ) (deeds : List Deed) → TrueLooks b c position round deeds → TrueLooks a d position round deeds
looks_wider a b c d h stays k position round [] t = tt
looks_wider a b c d h stays k position round (KeptDeed next ok ∷ deeds) t = (t.0, looks_wider a b c d h stays k t.0 next deeds t.1)
looks_wider a b c d h stays k position round (Appended service list (Vote (Prepare p x)) ok ∷ deeds) t = (t.0, looks_wider a b c d h stays k position round deeds t.1)
looks_wider a b c d h stays k position round (Looked service sight true ∷ deeds) t = (
  λ setting told.
      sight_on b.pass.lists a.pass.lists c.pass.lists d.pass.lists h.pass.more k.pass.more position (ballot_at a.client round) service.0 sight
      (subst (λ (who : ℕ). IsTrueSight b.pass.lists c.pass.lists position (ballot_at who round) service.0 sight) ((ap (λ (x : DeskView). x.client) h.same)) (t.0 setting (stays setting told))),
  looks_wider a b c d h stays k position round deeds t.1,
)
looks_wider a b c d h stays k position round (deed ∷ deeds) t = looks_wider a b c d h stays k position round deeds t

looks_append : (a d : DeskView) (position round : ℕ) (deeds more : List Deed) → TrueLooks a d position round deeds → ((k r : ℕ) → TrueLooks a d k r more) → TrueLooks a d position round (deeds ++ more)
looks_append a d position round [] more t u = u position round
looks_append a d position round (KeptDeed next ok ∷ deeds) more t u = (t.0, looks_append a d t.0 next deeds more t.1 u)
looks_append a d position round (Appended service list (Vote (Prepare p x)) ok ∷ deeds) more t u = (t.0, looks_append a d position round deeds more t.1 u)
looks_append a d position round (Looked service sight true ∷ deeds) more t u = (t.0, looks_append a d position round deeds more t.1 u)
looks_append a d position round (deed ∷ deeds) more t u = looks_append a d position round deeds more t u

stays_self : (desk : DeskView) → StaysTold desk desk
stays_self desk setting known = known

pub truths_self : (desk : DeskView) → TrueDeeds desk desk
truths_self desk = record { deeds = []; grows = sym (append-nil desk.deeds); each = λ deed h. absurd (omega (arith, h.1)); looks = λ k r. tt }

pub truths_quiet : (a b : DeskView) → b.deeds ≡ a.deeds ++ [] → TrueDeeds a b
truths_quiet a b same = record { deeds = []; grows = same; each = λ deed h. absurd (omega (arith, h.1)); looks = λ k r. tt }

only_one : (x y : Deed) → Contains (x ∷ []) y → x ≡ y
only_one x y (zero, _, is) = is
only_one x y (suc k, lt, is) = absurd (omega (arith, lt))

pub truths_noted : (a b : DeskView) (deed : Deed) → b.deeds ≡ a.deeds ++ deed ∷ [] → IsTrueDeed a b deed → ((position round : ℕ) → TrueLooks a b position round (deed ∷ [])) → TrueDeeds a b
truths_noted a b deed grows is looks = record { deeds = deed ∷ []; grows = grows; each = λ other h. subst (IsTrueDeed a b) (only_one deed other h) is; looks = looks }

pub truths_on : (a b c : DeskView) → DeskGoes a b → StaysTold a b → DeskGoes b c → TrueDeeds a b → TrueDeeds b c → TrueDeeds a c
truths_on a b c h stays k t u = record {
  deeds = t.deeds ++ u.deeds;
  grows = u.grows ∙ (ap (λ (xs : List Deed). xs ++ u.deeds) t.grows ∙ append_assoc a.deeds t.deeds u.deeds);
  each = λ deed is.
      elim (Contains-append_cases t.deeds u.deeds deed is) [
        | inl x ↦ deed_wider a a b c (goes_self a) (stays_self a) k deed (t.each deed x)
        | inr y ↦ deed_wider a b c c h stays (goes_self c) deed (u.each deed y)
      ];
  looks = λ position round.
      looks_append a c position round t.deeds u.deeds (looks_wider a a b c (goes_self a) (stays_self a) k position round t.deeds (t.looks position round))
      (λ p r. looks_wider a b c c h stays (goes_self c) p r u.deeds (u.looks p r));
}

-- ---- the own list

pub offers_more : (xs ys : List Deed) → offers_of (xs ++ ys) ≡ offers_of xs ++ offers_of ys
offers_more [] ys = refl
offers_more (Declared offer ∷ xs) ys = ap (λ (l : List Item). Offer offer ∷ l) (offers_more xs ys)
offers_more (d ∷ xs) ys = offers_more xs ys

pub history_self : (desk : DeskView) → OwnHistory desk desk
history_self desk = record { deeds = []; grows = sym (append-nil desk.deeds); own = sym (append-nil (list_at desk.pass.lists (owner_of_client desk.client))) }

own_stays : (a b : DeskView) (word : Option ℕ) (k : ℕ) → word ≡ Some k → IfSome word (λ w. list_at b.pass.lists w ≡ list_at a.pass.lists w) → list_at b.pass.lists k ≡ list_at a.pass.lists k
own_stays a b word k is h = subst (λ (o : Option ℕ). IfSome o (λ w. list_at b.pass.lists w ≡ list_at a.pass.lists w)) is h

pub history_called : (a b : DeskView) (deeds : List Deed) → IsDesk a → DeskGoes a b → b.deeds ≡ a.deeds ++ deeds → offers_of deeds ≡ [] → OwnHistory a b
history_called a b deeds desk h grows none = record {
  deeds = deeds;
  grows = grows;
  own = own_stays a b a.pass.word (owner_of_client a.client) desk.word h.pass.own
      ∙ (sym (append-nil (list_at a.pass.lists (owner_of_client a.client))) ∙ ap (λ (xs : List Item). list_at a.pass.lists (owner_of_client a.client) ++ xs) (sym none));
}

pub history_on : (a b c : DeskView) → DeskGoes a b → OwnHistory a b → OwnHistory b c → OwnHistory a c
history_on a b c goes h k =
    let client : b.client ≡ a.client = ap (λ (x : DeskView). x.client) goes.same in
    let own : list_at c.pass.lists (owner_of_client a.client) ≡ list_at b.pass.lists (owner_of_client a.client) ++ offers_of k.deeds =
    subst (λ (who : ℕ). list_at c.pass.lists (owner_of_client who) ≡ list_at b.pass.lists (owner_of_client who) ++ offers_of k.deeds) client k.own in
    record {
      deeds = h.deeds ++ k.deeds;
      grows = k.grows ∙ (ap (λ (xs : List Deed). xs ++ k.deeds) h.grows ∙ append_assoc a.deeds h.deeds k.deeds);
      own = own ∙ (ap (λ (xs : List Item). xs ++ offers_of k.deeds) h.own ∙ (append_assoc (list_at a.pass.lists (owner_of_client a.client)) (offers_of h.deeds) (offers_of k.deeds)
          ∙ ap (λ (xs : List Item). list_at a.pass.lists (owner_of_client a.client) ++ xs) (sym (offers_more h.deeds k.deeds))));
    }

-- whether a service's objects are told stays
pub tells_on : (old new : DeskView) (s : ℕ) → LanesStay old.lanes new.lanes → TellsObjects old s → TellsObjects new s
tells_on old new s stay told lane links link at here =
    let before = stay.each lane links at in
    let was = before.2.each s link here in
    ap (λ (l : LinkView). l.objects) was.2.same ∙ told lane before.0 was.0 before.1 was.1
