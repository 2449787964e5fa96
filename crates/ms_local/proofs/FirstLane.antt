-- Calls by the links of a desk's first lane.
use Rattle.std.proofs.Common.{◌≡◌, ◌≢◌, ℕ, zero, suc, ◌<◌, ◌≤◌, Bool, true, false, List, [], ◌∷◌, ◌++◌, Option, Some, None, Result, Ok, Err, refl, sym, ap, ◌∙◌, subst, arith, drop, length, map, Contains, slice_get, slice_set, slice_index_or}
use Rattle.std.specs.Option.{option_map, option_map_or}
use Rattle.std.proofs.lemmas.List.{length-map, length-set, map-set}
use Rattle.std.proofs.lemmas.Option.{get_or_from_slice_get, slice_get-get_or, slice_get-map}
use Rattle.ms_base.specs.Counts.{Rose}
use Rattle.ms_base.specs.Places.{set_here, set_there}
use Rattle.ms_core.specs.Asking.{MayAsk}
use Rattle.ms_core.specs.Views.{IsClosed}
use Rattle.ms_ken.specs.Known.{Known, TableId}
use Rattle.ms_ken.specs.Lists.{MayFollow, list_at}
use Rattle.ms_link.specs.Composing.{stays_on, stays_self}
use Rattle.ms_link.specs.Links.{Gets, Has, IsAbsent, IsKept, IsOnBoard, IsStale, Learns, LinkView, Lists, MayAdd, Puts, Stays, Tells, WhereKept, WhereListed}
use Rattle.ms_link.specs.declared.fault.LinkError.{LinkError}
use Rattle.ms_link.specs.declared.fault.LinkError.TheVariants as errors
use Rattle.ms_record.specs.declared.item.Item.{Item}
use Rattle.ms_record.specs.declared.item.Item.TheVariants.{Log}
use Rattle.ms_base.specs.declared.names.Name.{Name}
use Rattle.ms_record.specs.declared.log.LogEvent.{LogEvent}
use Rattle.ms_record.specs.declared.log.LogEvent.TheVariants.{Drop}
use Rattle.ms_record.specs.Items.{events_of}
use Rattle.ms_record.specs.Logs.{NoDropAbove, Stands, texts_in}
use Rattle.ms_local.specs.Calls.{AppendsAt, DeskCalls, GetsAt, HasAt, IsFloor, IsSupportedAt, ListsAt, OnKept, PutsAt}
use Rattle.ms_local.proofs.DeskLaws.{call_stays, on_board}
use Rattle.ms_local.specs.Desks.{DeskView, IsDesk, LanesStay, LinksStay, OnTold, faults_at, first_link, with_deed}
use Rattle.ms_local.specs.declared.deed.Deed.{Deed}
use Rattle.ms_local.specs.declared.desk.Lane.{Lane}

-- ---- lanes of which one link was called

some_same : {A : Type 0} (x y : A) → Some x ≡ Some y → x ≡ y
some_same x y e = cc e

-- one place of a list is written: each item is what it was, or what was written there
each_written : {A : Type 0} (R : A → A → Type 0) → ((x : A) → R x x) → (xs : List A) (i : ℕ) (x y : A) → slice_get xs i ≡ Some x → R x y
    → (k : ℕ) (z : A) → slice_get (slice_set xs i y) k ≡ Some z → (w : A) × (slice_get xs k ≡ Some w) × R w z
each_written R same [] i x y at r k z got = absurd cc
each_written R same (w ∷ xs) zero x y at r zero z got = (w, refl, subst (λ q. R q z) (some_same x w (sym at)) (subst (λ q. R x q) (some_same y z got) r))
each_written R same (w ∷ xs) zero x y at r (suc k) z got = (z, got, same z)
each_written R same (w ∷ xs) (suc i) x y at r zero z got = (w, refl, subst (λ q. R w q) (some_same w z got) (same w))
each_written R same (w ∷ xs) (suc i) x y at r (suc k) z got = each_written R same xs i x y at r k z got

pub links_self : (links : List LinkView) → LinksStay links links
links_self links = record { all = refl; each = λ place link got. (link, got, stays_self link) }

pub lanes_self : (lanes : List (List LinkView)) → LanesStay lanes lanes
lanes_self lanes = record { all = refl; each = λ place links got. (links, got, links_self links) }

links_on : (old mid new : List LinkView) → LinksStay old mid → LinksStay mid new → LinksStay old new
links_on old mid new a b = record {
  all = b.all ∙ a.all;
  each = λ place link got.
      let m = b.each place link got in
      let o = a.each place m.0 m.1 in
      (o.0, o.1, stays_on o.0 m.0 link o.2 m.2);
}

pub lanes_on : (old mid new : List (List LinkView)) → LanesStay old mid → LanesStay mid new → LanesStay old new
lanes_on old mid new a b = record {
  all = b.all ∙ a.all;
  each = λ place links got.
      let m = b.each place links got in
      let o = a.each place m.0 m.1 in
      (o.0, o.1, links_on o.0 m.0 links o.2 m.2);
}

-- the lanes where the link to the service is this one in the first lane, which had these links
abbrev pub with_link : List (List LinkView) → List LinkView → ℕ → LinkView → List (List LinkView)
with_link lanes links s link = slice_set lanes 0 (slice_set links s link)

links_called : (links : List LinkView) (s : ℕ) (l new : LinkView) → slice_get links s ≡ Some l → Stays l new → LinksStay links (slice_set links s new)
links_called links s l new at stays = record { all = length-set links s new; each = each_written Stays stays_self links s l new at stays }

pub lanes_called : (lanes : List (List LinkView)) (links : List LinkView) (s : ℕ) (l new : LinkView) → slice_get lanes 0 ≡ Some links → slice_get links s ≡ Some l → Stays l new
    → LanesStay lanes (with_link lanes links s new)
lanes_called lanes links s l new first at stays = record {
  all = length-set lanes 0 (slice_set links s new);
  each = each_written LinksStay links_self lanes 0 links (slice_set links s new) first (links_called links s l new at stays);
}

-- ---- counts of faults

set_first : (lanes : List (List LinkView)) (links new : List LinkView) → slice_get lanes 0 ≡ Some links → slice_index_or (slice_set lanes 0 new) 0 [] ≡ new
set_first [] links new first = absurd cc
set_first (x ∷ lanes) links new first = refl

faults_of : (links : List LinkView) (s : ℕ) (l : LinkView) → slice_get links s ≡ Some l → option_map_or (λ (link : LinkView). link.faults) (slice_get links s) 0 ≡ l.faults
faults_of links s l at = ap (λ (o : Option LinkView). option_map_or (λ (link : LinkView). link.faults) o 0) at

pub faults_then : (desk : DeskView) (links : List LinkView) (s : ℕ) (l : LinkView) → slice_get desk.lanes 0 ≡ Some links → slice_get links s ≡ Some l → faults_at desk s ≡ l.faults
faults_then desk links s l first at =
    ap (λ (own : List LinkView). option_map_or (λ (link : LinkView). link.faults) (slice_get own s) 0) (get_or_from_slice_get desk.lanes 0 links [] first) ∙ faults_of links s l at

-- the desk behind a call
abbrev pub called : DeskView → Known Item → List LinkView → ℕ → LinkView → DeskView
called desk pass links s link = record desk { pass = pass; lanes = with_link desk.lanes links s link }

faults_now : (desk : DeskView) (pass : Known Item) (links : List LinkView) (s : ℕ) (l new : LinkView) → slice_get desk.lanes 0 ≡ Some links → slice_get links s ≡ Some l → faults_at (called desk pass links s new) s ≡ new.faults
faults_now desk pass links s l new first at =
    ap (λ (own : List LinkView). option_map_or (λ (link : LinkView). link.faults) (slice_get own s) 0) (set_first desk.lanes links (slice_set links s new) first)
    ∙ faults_of (slice_set links s new) s new (set_here links s new l at)

rose_at : (desk : DeskView) (pass : Known Item) (links : List LinkView) (s : ℕ) (l new : LinkView) → slice_get desk.lanes 0 ≡ Some links → slice_get links s ≡ Some l → Rose l.faults new.faults
    → Rose (faults_at desk s) (faults_at (called desk pass links s new) s)
rose_at desk pass links s l new first at rose =
    subst (λ (n : ℕ). Rose n (faults_at (called desk pass links s new) s)) (sym (faults_then desk links s l first at))
    (subst (λ (n : ℕ). Rose l.faults n) (sym (faults_now desk pass links s l new first at)) rose)

-- the links to other services are as before
pub others_called : (desk : DeskView) (pass : Known Item) (links : List LinkView) (s : ℕ) (new : LinkView) → slice_get desk.lanes 0 ≡ Some links
    → (k : ℕ) → k ≢ s → first_link (called desk pass links s new) k ≡ first_link desk k
others_called desk pass links s new first k other =
    ap (λ (own : List LinkView). slice_get own k) (set_first desk.lanes links (slice_set links s new) first)
    ∙ (set_there links s k new other ∙ ap (λ (own : List LinkView). slice_get own k) (sym (get_or_from_slice_get desk.lanes 0 links [] first)))

-- ---- what the answers say

pub lists_at : (desk : DeskView) (pass : Known Item) (links : List LinkView) (s : ℕ) (l new : LinkView) (list from : ℕ) (r : Result (List (List ℕ)) LinkError) → IsDesk desk
    → slice_get desk.lanes 0 ≡ Some links → slice_get links s ≡ Some l → Lists l new pass list from r → ListsAt desk (called desk pass links s new) s list from r
lists_at desk pass links s l new list from (Ok texts) h first at is = λ setting known.
    let tells : l.lists ≡ true = (h.telling setting known).lists 0 links first s l at in
    let here : l.service ≡ s = ((h.lanes 0 links first).lead s l at).to_service in
    subst (λ (n : ℕ). texts ≡ drop from (texts_in list (events_of (list_at pass.lists n)))) here (is tells)
lists_at desk pass links s l new list from (Err errors.Failed) h first at is = rose_at desk pass links s l new first at is
lists_at desk pass links s l new list from (Err (errors.Stale floor)) h first at is = is
lists_at desk pass links s l new list from (Err errors.NoMemory) h first at is = is

pub appends_at : (desk : DeskView) (pass : Known Item) (links : List LinkView) (s : ℕ) (l new : LinkView) (event : LogEvent) (r : Result Unit LinkError) → IsDesk desk
    → slice_get desk.lanes 0 ≡ Some links → slice_get links s ≡ Some l → Tells l new desk.pass pass event r → AppendsAt desk (called desk pass links s new) s event r
appends_at desk pass links s l new event (Ok u) h first at is = λ setting known.
    let tells : l.lists ≡ true = (h.telling setting known).lists 0 links first s l at in
    let here : l.service ≡ s = ((h.lanes 0 links first).lead s l at).to_service in
    let added = is tells in (
      added.place,
      subst (λ (n : ℕ). length (list_at desk.pass.lists n) ≤ added.place) here added.behind,
      subst (λ (n : ℕ). slice_get (list_at pass.lists n) added.place ≡ Some (Log event)) here added.stands,
    )
appends_at desk pass links s l new event (Err errors.Failed) h first at is = rose_at desk pass links s l new first at is
appends_at desk pass links s l new event (Err (errors.Stale floor)) h first at is = is
appends_at desk pass links s l new event (Err errors.NoMemory) h first at is = is

-- the link of the first lane tells what it is told to tell
module _ (desk : DeskView) (pass : Known Item) (links : List LinkView) (s : ℕ) (l new : LinkView) (h : IsDesk desk) (first : slice_get desk.lanes 0 ≡ Some links) (at : slice_get links s ≡ Some l) where
  here : l.service ≡ s
  here = ((h.lanes 0 links first).lead s l at).to_service

  where_listed : (P : ℕ → Type 0) → WhereListed l (P l.service) → OnTold desk (P s)
  where_listed P is setting known = subst P here (is ((h.telling setting known).lists 0 links first s l at))

  first_is : first_link desk s ≡ Some l
  first_is = ap (λ (own : List LinkView). slice_get own s) (get_or_from_slice_get desk.lanes 0 links [] first) ∙ at

  where_kept : (P : ℕ → Type 0) → WhereKept l (P l.service) → OnKept desk s (P s)
  where_kept P is kept = where_listed P (λ lists. is lists (kept l first_is))

  stale_at : (generation floor : ℕ) → IsStale l pass generation floor → IsFloor desk (called desk pass links s new) s generation floor
  stale_at generation floor is = record {
    below = is.below;
    dropped = where_listed (λ n. Contains (events_of (list_at pass.lists n)) (Drop floor)) is.dropped;
    greatest = where_listed (λ n. NoDropAbove (events_of (list_at pass.lists n)) floor) is.greatest;
  }

  pub has_at : (generation : ℕ) (name : Name) (r : Result Bool LinkError) → Has l new pass generation name r → HasAt desk (called desk pass links s new) s generation name r
  has_at generation name (Ok true) is = where_listed (λ n. Stands (events_of (list_at pass.lists n)) generation name) is
  has_at generation name (Ok false) is = where_kept (λ n. IsAbsent (events_of (list_at pass.lists n)) generation name) is
  has_at generation name (Err errors.Failed) is = rose_at desk pass links s l new first at is
  has_at generation name (Err (errors.Stale floor)) is = stale_at generation floor is
  has_at generation name (Err errors.NoMemory) is = is

  pub puts_at : (generation : ℕ) (event : LogEvent) (r : Result Unit LinkError) → Puts l new desk.pass pass generation event r → PutsAt desk (called desk pass links s new) s generation event r
  puts_at generation event (Ok u) is = (
    appends_at desk pass links s l new event (Ok u) h first at is.0,
    where_kept (λ n. NoDropAbove (events_of (list_at pass.lists n)) generation) is.1,
  )
  puts_at generation event (Err errors.Failed) is = rose_at desk pass links s l new first at is
  puts_at generation event (Err (errors.Stale floor)) is = stale_at generation floor is
  puts_at generation event (Err errors.NoMemory) is = is

  pub gets_at : (generation : ℕ) (name : Name) (r : Result (Option (List ℕ)) LinkError) → Gets l new pass generation name r → GetsAt desk (called desk pass links s new) s generation name r
  gets_at generation name (Ok None) is = where_kept (λ n. IsAbsent (events_of (list_at pass.lists n)) generation name) is
  gets_at generation name (Ok (Some text)) is = where_kept (λ n. IsKept (events_of (list_at pass.lists n)) generation name text) is
  gets_at generation name (Err errors.Failed) is = rose_at desk pass links s l new first at is
  gets_at generation name (Err (errors.Stale floor)) is = stale_at generation floor is
  gets_at generation name (Err errors.NoMemory) is = is

-- ---- what may be asked

pub asks_at : (desk : DeskView) (s : ℕ) (event : LogEvent) → IsDesk desk → s < desk.services → IsClosed desk.pass.lists → IsSupportedAt desk event → MayAsk desk.pass.lists s event
asks_at desk s event h lt closed supported = record {
  closed = closed;
  begun = h.knows;
  service_is = let few = h.few_services in omega arith;
  supported = λ setting known. (subst (λ (n : ℕ). s < n) (h.telling setting known).services lt, supported setting known);
}

-- the link leads to the service, on a board of so many words
pub may_add : (desk : DeskView) (links : List LinkView) (s : ℕ) (l : LinkView) (event : LogEvent) → IsDesk desk → slice_get desk.lanes 0 ≡ Some links → slice_get links s ≡ Some l
    → length desk.pass.lists ≡ desk.pass.board.words → MayFollow IsClosed (length desk.pass.lists) desk.pass.lists s (Log event) → MayAdd IsClosed l desk.pass event
may_add desk links s l event h first at owners follows =
    let lead = (h.lanes 0 links first).lead s l at in
    let words : length desk.pass.lists ≡ l.board.words = owners ∙ ap (λ (t : TableId). t.words) (h.board ∙ sym lead.on_board) in
    subst (λ (n : ℕ). MayFollow IsClosed n desk.pass.lists l.service (Log event)) words
    (subst (λ (n : ℕ). MayFollow IsClosed (length desk.pass.lists) desk.pass.lists n (Log event)) (sym lead.to_service) follows)

-- ---- the lanes of a desk, and what contracts see of them

abbrev pub lanes_seen : {L : Type 0} → (L → LinkView) → List (Lane L) → List (List LinkView)
lanes_seen {L} sees lanes = map (λ (lane : Lane L). map sees lane.links.items) lanes

pub first_seen : {L : Type 0} (sees : L → LinkView) (lanes : List (Lane L)) (lane : Lane L) → 1 ≤ length (lanes_seen sees lanes) → lane ≡ slice_index_or lanes 0 lane
    → slice_get (lanes_seen sees lanes) 0 ≡ Some (map sees lane.links.items)
first_seen {L} sees [] lane some is = absurd (omega arith)
first_seen {L} sees (x ∷ lanes) lane some is = ap (λ (l : Lane L). Some (map sees l.links.items)) (sym is)

pub link_seen : {L : Type 0} (sees : L → LinkView) (links : List L) (s : ℕ) (link : L) → s < length links → link ≡ slice_index_or links s link → slice_get (map sees links) s ≡ Some (sees link)
link_seen {L} sees links s link lt is =
    slice_get-map sees links s ∙ ap (option_map sees) (slice_get-get_or links s link lt ∙ ap (λ (l : L). Some l) (sym is))

pub lanes_then : {L : Type 0} (sees : L → LinkView) (lanes : List (Lane L)) (lane new : Lane L) (s : ℕ) (link : L) → new.links.items ≡ slice_set lane.links.items s link
    → lanes_seen sees (slice_set lanes 0 new) ≡ with_link (lanes_seen sees lanes) (map sees lane.links.items) s (sees link)
lanes_then {L} sees lanes lane new s link is =
    map-set (λ (l : Lane L). map sees l.links.items) lanes 0 new
    ∙ ap (slice_set (lanes_seen sees lanes) 0) (ap (map sees) is ∙ map-set sees lane.links.items s link)

-- so many links there are
pub many_links : {L : Type 0} (sees : L → LinkView) (desk : DeskView) (lanes : List (Lane L)) (lane : Lane L) → IsDesk desk → desk.lanes ≡ lanes_seen sees lanes
    → slice_get (lanes_seen sees lanes) 0 ≡ Some (map sees lane.links.items) → length lane.links.items ≡ desk.services
many_links {L} sees desk lanes lane h are first =
    sym (length-map lane.links.items sees) ∙ (h.lanes 0 (map sees lane.links.items) (ap (λ (l : List (List LinkView)). slice_get l 0) are ∙ first)).all

-- ---- one call, at a desk with these lanes

abbrev pub lane_seen : {L : Type 0} → (L → LinkView) → Lane L → List LinkView
lane_seen {L} sees lane = map sees lane.links.items

-- a fact of a desk whose lanes changed
at_lanes : (desk : DeskView) (pass : Known Item) (P : DeskView → Type 0) (a b : List (List LinkView)) → b ≡ a → P (record desk { pass = pass; lanes = a }) → P (record desk { pass = pass; lanes = b })
at_lanes desk pass P a b same h = subst (λ (own : List (List LinkView)). P (record desk { pass = pass; lanes = own })) (sym same) h

module _ {L : Type 0} (sees : L → LinkView) (desk : DeskView) (lanes : List (Lane L)) (lane : Lane L) (s : ℕ) (h : IsDesk desk) (are : desk.lanes ≡ lanes_seen sees lanes)
    (first_is : lane ≡ slice_index_or lanes 0 lane) (lt : s < desk.services) where
  seen : slice_get (lanes_seen sees lanes) 0 ≡ Some (lane_seen sees lane)
  seen = first_seen sees lanes lane (subst (λ (own : List (List LinkView)). 1 ≤ length own) are h.some_lanes) first_is

  first : slice_get desk.lanes 0 ≡ Some (lane_seen sees lane)
  first = ap (λ (own : List (List LinkView)). slice_get own 0) are ∙ seen

  -- the lane has a link to the service
  pub within : s < length lane.links.items
  within = let many = many_links sees desk lanes lane h are seen in omega (arith, many, lt)

  module _ (link : L) (link_is : link ≡ slice_index_or lane.links.items s link) where
    at : slice_get (lane_seen sees lane) s ≡ Some (sees link)
    at = link_seen sees lane.links.items s link within link_is

    pub on_its_board : IsOnBoard (sees link) desk.board desk.pass
    on_its_board = on_board desk 0 s (lane_seen sees lane) (sees link) h first at

    pub may_be_added : (event : LogEvent) → length desk.pass.lists ≡ desk.pass.board.words → MayFollow IsClosed (length desk.pass.lists) desk.pass.lists s (Log event) → MayAdd IsClosed (sees link) desk.pass event
    may_be_added event owners follows = may_add desk (lane_seen sees lane) s (sees link) event h first at owners follows

    -- the desk behind the call
    module _ (pass : Known Item) (new : L) (after : Lane L) (set : after.links.items ≡ slice_set lane.links.items s new) where
      then : lanes_seen sees (slice_set lanes 0 after) ≡ with_link desk.lanes (lane_seen sees lane) s (sees new)
      then = lanes_then sees lanes lane after s new set ∙ ap (λ (own : List (List LinkView)). with_link own (lane_seen sees lane) s (sees new)) (sym are)

      pub behind : (P : DeskView → Type 0) → P (called desk pass (lane_seen sees lane) s (sees new)) → P (record desk { pass = pass; lanes = lanes_seen sees (slice_set lanes 0 after) })
      behind P now = at_lanes desk pass P (with_link desk.lanes (lane_seen sees lane) s (sees new)) (lanes_seen sees (slice_set lanes 0 after)) then now

      pub effect_of : Learns desk.pass pass → Stays (sees link) (sees new) → DeskCalls s desk (record desk { pass = pass; lanes = lanes_seen sees (slice_set lanes 0 after) })
      effect_of learns stays = behind (DeskCalls s desk) (record {
        same = refl;
        pass = learns;
        lanes = lanes_called desk.lanes (lane_seen sees lane) s (sees link) (sees new) first at stays;
        others = others_called desk pass (lane_seen sees lane) s (sees new) first;
      })

      pub desk_of : Learns desk.pass pass → Stays (sees link) (sees new) → IsDesk (record desk { pass = pass; lanes = lanes_seen sees (slice_set lanes 0 after) })
      desk_of learns stays = behind IsDesk (call_stays desk pass (with_link desk.lanes (lane_seen sees lane) s (sees new)) h learns (lanes_called desk.lanes (lane_seen sees lane) s (sees link) (sees new) first at stays))

      pub lists_of : (list from : ℕ) (r : Result (List (List ℕ)) LinkError) → Lists (sees link) (sees new) pass list from r
          → ListsAt desk (record desk { pass = pass; lanes = lanes_seen sees (slice_set lanes 0 after) }) s list from r
      lists_of list from r is = behind (λ (now : DeskView). ListsAt desk now s list from r) (lists_at desk pass (lane_seen sees lane) s (sees link) (sees new) list from r h first at is)

      pub appends_of : (event : LogEvent) (r : Result Unit LinkError) → Tells (sees link) (sees new) desk.pass pass event r
          → AppendsAt desk (record desk { pass = pass; lanes = lanes_seen sees (slice_set lanes 0 after) }) s event r
      appends_of event r is = behind (λ (now : DeskView). AppendsAt desk now s event r) (appends_at desk pass (lane_seen sees lane) s (sees link) (sees new) event r h first at is)

      pub has_of : (generation : ℕ) (name : Name) (r : Result Bool LinkError) → Has (sees link) (sees new) pass generation name r
          → HasAt desk (record desk { pass = pass; lanes = lanes_seen sees (slice_set lanes 0 after) }) s generation name r
      has_of generation name r is = behind (λ (now : DeskView). HasAt desk now s generation name r) (has_at desk pass (lane_seen sees lane) s (sees link) (sees new) h first at generation name r is)

      pub puts_of : (generation : ℕ) (event : LogEvent) (r : Result Unit LinkError) → Puts (sees link) (sees new) desk.pass pass generation event r
          → PutsAt desk (record desk { pass = pass; lanes = lanes_seen sees (slice_set lanes 0 after) }) s generation event r
      puts_of generation event r is = behind (λ (now : DeskView). PutsAt desk now s generation event r) (puts_at desk pass (lane_seen sees lane) s (sees link) (sees new) h first at generation event r is)

      pub gets_of : (generation : ℕ) (name : Name) (r : Result (Option (List ℕ)) LinkError) → Gets (sees link) (sees new) pass generation name r
          → GetsAt desk (record desk { pass = pass; lanes = lanes_seen sees (slice_set lanes 0 after) }) s generation name r
      gets_of generation name r is = behind (λ (now : DeskView). GetsAt desk now s generation name r) (gets_at desk pass (lane_seen sees lane) s (sees link) (sees new) h first at generation name r is)

-- ---- what is noted

-- the deed that was noted first gives place to another
pub noted_as : (s : ℕ) (old mid : DeskView) (first deed : Deed) (deeds : List Deed) → DeskCalls s (with_deed old first) mid → deeds ≡ old.deeds ++ deed ∷ [] → DeskCalls s (with_deed old deed) (record mid { deeds = deeds })
noted_as s old mid first deed deeds h e = record { same = λ i. record (h.same i) { deeds = e i }; pass = h.pass; lanes = h.lanes; others = h.others }

-- it is taken back
pub not_noted : (s : ℕ) (old mid : DeskView) (first : Deed) (deeds : List Deed) → DeskCalls s (with_deed old first) mid → deeds ≡ old.deeds → DeskCalls s old (record mid { deeds = deeds })
not_noted s old mid first deeds h e = record { same = λ i. record (h.same i) { deeds = e i }; pass = h.pass; lanes = h.lanes; others = h.others }
