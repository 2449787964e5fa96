-- How what calls on links leave goes together: calls in turn, answers seen from an earlier moment, links inside links.
use Rattle.std.proofs.Common.{◌≡◌, ℕ, ◌≤◌, ◌==◌, Bool, true, false, List, [], ◌∷◌, ◌++◌, length, Option, Some, None, Result, Ok, Err, IfSome, refl, sym, ap, ◌∙◌, subst, arith, slice_get, Contains, drop}
use Rattle.std.proofs.lemmas.List.Elements.{filter_map-append, Contains-append_left, Contains-append_right}
use Rattle.std.proofs.lemmas.Bool.Decides.{nat_tests}
use Rattle.std.specs.Prelude.{if◌then◌else◌}
use mathlib.Core.List.{IsPrefix}
use Rattle.ms_base.specs.Counts.{Rose}
use Rattle.ms_base.specs.declared.names.Name.{Name}
use Rattle.ms_ken.specs.Known.{TableId, Known}
use Rattle.ms_ken.specs.Lists.{list_at, Begins}
use Rattle.ms_ken.specs.Prefixes.{prefix_length, prefix_get, get_splits}
use Rattle.ms_ken.specs.Rows.{begins_self, begins_trans, may_follow_later}
use Rattle.ms_link.specs.Links.{LinkView, IsOnBoard, MayAdd, Stays, Learns, IsAdded, IsStale, IsAbsent, IsKept, log_known, Tells, Puts, Lists, Has, Gets, CountsFailed, PassesOut, Leads, AllLead}
use Rattle.ms_link.specs.declared.fault.LinkError.{LinkError}
use Rattle.ms_link.specs.declared.fault.LinkError.TheVariants as errors
use Rattle.ms_record.specs.declared.item.Item.{Item}
use Rattle.ms_record.specs.declared.item.Item.TheVariants.{Log}
use Rattle.ms_record.specs.declared.log.ListId.{ListId}
use Rattle.ms_record.specs.declared.log.LogEvent.{LogEvent}
use Rattle.ms_record.specs.declared.log.LogEvent.TheVariants.{Rec, Put, Drop}
use Rattle.ms_record.specs.Items.{event_in, events_of}
use Rattle.ms_record.specs.Logs.{texts_in, Stands, NoDropAbove}

-- ---- calls in turn

own_self : (word : Option ℕ) (lists : List (List Item)) → IfSome word (λ k. list_at lists k ≡ list_at lists k)
own_self None lists = tt
own_self (Some k) lists = refl

pub learns_self : (known : Known Item) → Learns known known
learns_self known = record { board = refl; word = refl; own = own_self known.word known.lists; more = begins_self known.lists }

own_on : (one other : Option ℕ) (a b c : List (List Item)) → other ≡ one → IfSome one (λ k. list_at b k ≡ list_at a k) → IfSome other (λ k. list_at c k ≡ list_at b k) → IfSome one (λ k. list_at c k ≡ list_at a k)
own_on one other a b c same h k = both one h (subst (λ (o : Option ℕ). IfSome o (λ k. list_at c k ≡ list_at b k)) same k)
  where
    both : (o : Option ℕ) → IfSome o (λ k. list_at b k ≡ list_at a k) → IfSome o (λ k. list_at c k ≡ list_at b k) → IfSome o (λ k. list_at c k ≡ list_at a k)
    both None h k = tt
    both (Some word) h k = k ∙ h

pub learns_on : (old mid new : Known Item) → Learns old mid → Learns mid new → Learns old new
learns_on old mid new one other = record {
  board = other.board ∙ one.board;
  word = other.word ∙ one.word;
  own = own_on old.word mid.word old.lists mid.lists new.lists one.word one.own other.own;
  more = begins_trans old.lists mid.lists new.lists one.more other.more;
}

pub stays_self : (link : LinkView) → Stays link link
stays_self link = record { same = refl; later = omega arith }

pub stays_on : (old mid new : LinkView) → Stays old mid → Stays mid new → Stays old new
stays_on old mid new one other = record {
  same = other.same ∙ ap (λ (link : LinkView). let l : LinkView = record link { faults = new.faults } in l) one.same;
  later = omega (arith, one.later, other.later);
}

-- a count that rose before or after rose in all
pub rose_before : (old mid new : ℕ) → old ≤ mid → Rose mid new → Rose old new
rose_before old mid new le rose = grind arith

pub rose_on : (old mid new : ℕ) → Rose old mid → mid ≤ new → Rose old new
rose_on old mid new rose le = grind arith

-- ---- what may be asked

pub on_board_on : (old new : LinkView) (board : TableId) (before after : Known Item) → Stays old new → Learns before after → IsOnBoard old board before → IsOnBoard new board after
on_board_on old new board before after stays learns h =
    let same : new.board ≡ old.board = ap (λ (l : LinkView). l.board) stays.same in
    record { call = h.call ∙ sym same; pass = learns.board ∙ (h.pass ∙ sym same) }

pub follows_on : (closed : List (List Item) → Type 0) (old new : LinkView) (before after : Known Item) (event : LogEvent) → Stays old new → Begins before.lists after.lists → MayAdd closed old before event → MayAdd closed new after event
follows_on closed old new before after event stays begins h =
    subst (λ (link : LinkView). MayAdd closed link after event) (sym stays.same)
    (may_follow_later closed old.board.words before.lists after.lists old.service (Log event) begins h)

-- ---- a link inside another

log_same : (inner outer : LinkView) (known : Known Item) → PassesOut inner outer → log_known inner known ≡ log_known outer known
log_same inner outer known out = ap (λ s. events_of (list_at known.lists s)) (sym out.service)

pub added_out : (inner outer : LinkView) (before after : Known Item) (event : LogEvent) → PassesOut inner outer → IsAdded inner before after event → IsAdded outer before after event
added_out inner outer before after event out h = record {
  place = h.place;
  behind = subst (λ s. length (list_at before.lists s) ≤ h.place) (sym out.service) h.behind;
  stands = subst (λ s. slice_get (list_at after.lists s) h.place ≡ Some (Log event)) (sym out.service) h.stands;
}

pub stale_out : (inner outer : LinkView) (after : Known Item) (generation floor : ℕ) → PassesOut inner outer → IsStale inner after generation floor → IsStale outer after generation floor
stale_out inner outer after generation floor out h = record {
  below = h.below;
  dropped = λ lists. subst (λ log. Contains log (Drop floor)) (log_same inner outer after out) (h.dropped (out.lists lists));
  greatest = λ lists. subst (λ log. NoDropAbove log floor) (log_same inner outer after out) (h.greatest (out.lists lists));
}

pub tells_out : (inner within outer after : LinkView) (k0 k1 : Known Item) (event : LogEvent) (r : Result Unit LinkError) → PassesOut inner outer → CountsFailed outer after r → Tells inner within k0 k1 event r → Tells outer after k0 k1 event r
tells_out inner within outer after k0 k1 event (Ok u) out counts h = λ lists. added_out inner outer k0 k1 event out (h (out.lists lists))
tells_out inner within outer after k0 k1 event (Err errors.Failed) out counts h = counts refl
tells_out inner within outer after k0 k1 event (Err (errors.Stale floor)) out counts h = h
tells_out inner within outer after k0 k1 event (Err errors.NoMemory) out counts h = tt

pub puts_out : (inner within outer after : LinkView) (k0 k1 : Known Item) (generation : ℕ) (event : LogEvent) (r : Result Unit LinkError) → PassesOut inner outer → CountsFailed outer after r
    → Puts inner within k0 k1 generation event r → Puts outer after k0 k1 generation event r
puts_out inner within outer after k0 k1 generation event (Ok u) out counts h = (
  λ lists. added_out inner outer k0 k1 event out (h.0 (out.lists lists)),
  λ lists objects. subst (λ log. NoDropAbove log generation) (log_same inner outer k1 out) (h.1 (out.lists lists) (out.objects objects)),
)
puts_out inner within outer after k0 k1 generation event (Err errors.Failed) out counts h = counts refl
puts_out inner within outer after k0 k1 generation event (Err (errors.Stale floor)) out counts h = stale_out inner outer k1 generation floor out h
puts_out inner within outer after k0 k1 generation event (Err errors.NoMemory) out counts h = tt

pub lists_out : (inner within outer after : LinkView) (known : Known Item) (list from : ℕ) (r : Result (List (List ℕ)) LinkError) → PassesOut inner outer → CountsFailed outer after r
    → Lists inner within known list from r → Lists outer after known list from r
lists_out inner within outer after known list from (Ok texts) out counts h = λ lists. subst (λ log. texts ≡ drop from (texts_in list log)) (log_same inner outer known out) (h (out.lists lists))
lists_out inner within outer after known list from (Err errors.Failed) out counts h = counts refl
lists_out inner within outer after known list from (Err (errors.Stale floor)) out counts h = h
lists_out inner within outer after known list from (Err errors.NoMemory) out counts h = tt

pub has_out : (inner within outer after : LinkView) (known : Known Item) (generation : ℕ) (name : Name) (r : Result Bool LinkError) → PassesOut inner outer → CountsFailed outer after r
    → Has inner within known generation name r → Has outer after known generation name r
has_out inner within outer after known generation name (Ok true) out counts h = λ lists. subst (λ log. Stands log generation name) (log_same inner outer known out) (h (out.lists lists))
has_out inner within outer after known generation name (Ok false) out counts h = λ lists objects. subst (λ log. IsAbsent log generation name) (log_same inner outer known out) (h (out.lists lists) (out.objects objects))
has_out inner within outer after known generation name (Err errors.Failed) out counts h = counts refl
has_out inner within outer after known generation name (Err (errors.Stale floor)) out counts h = stale_out inner outer known generation floor out h
has_out inner within outer after known generation name (Err errors.NoMemory) out counts h = tt

pub gets_out : (inner within outer after : LinkView) (known : Known Item) (generation : ℕ) (name : Name) (r : Result (Option (List ℕ)) LinkError) → PassesOut inner outer → CountsFailed outer after r
    → Gets inner within known generation name r → Gets outer after known generation name r
gets_out inner within outer after known generation name (Ok None) out counts h = λ lists objects. subst (λ log. IsAbsent log generation name) (log_same inner outer known out) (h (out.lists lists) (out.objects objects))
gets_out inner within outer after known generation name (Ok (Some text)) out counts h = λ lists objects. subst (λ log. IsKept log generation name text) (log_same inner outer known out) (h (out.lists lists) (out.objects objects))
gets_out inner within outer after known generation name (Err errors.Failed) out counts h = counts refl
gets_out inner within outer after known generation name (Err (errors.Stale floor)) out counts h = stale_out inner outer known generation floor out h
gets_out inner within outer after known generation name (Err errors.NoMemory) out counts h = tt

-- ---- answers, seen from an earlier moment of the link and of the pass

-- what a link tells later serves as what it tells now
pub passes_back : (link later : LinkView) → Stays link later → PassesOut later link
passes_back link later stays = record {
  service = sym (ap (λ (l : LinkView). l.service) stays.same);
  lists = λ told. ap (λ (l : LinkView). l.lists) stays.same ∙ told;
  objects = λ told. ap (λ (l : LinkView). l.objects) stays.same ∙ told;
}

counts_back : {A : Type 0} → (link later after : LinkView) (r : Result A LinkError) → Stays link later → CountsFailed later after r → CountsFailed link after r
counts_back {A} link later after r stays counts failed = rose_before link.faults later.faults after.faults stays.later (counts failed)

tells_counts : (link after : LinkView) (k0 k1 : Known Item) (event : LogEvent) (r : Result Unit LinkError) → Tells link after k0 k1 event r → CountsFailed link after r
tells_counts link after k0 k1 event (Ok u) h failed = absurd (cc failed)
tells_counts link after k0 k1 event (Err errors.Failed) h failed = h
tells_counts link after k0 k1 event (Err (errors.Stale floor)) h failed = absurd h
tells_counts link after k0 k1 event (Err errors.NoMemory) h failed = absurd (cc failed)

puts_counts : (link after : LinkView) (k0 k1 : Known Item) (generation : ℕ) (event : LogEvent) (r : Result Unit LinkError) → Puts link after k0 k1 generation event r → CountsFailed link after r
puts_counts link after k0 k1 generation event (Ok u) h failed = absurd (cc failed)
puts_counts link after k0 k1 generation event (Err errors.Failed) h failed = h
puts_counts link after k0 k1 generation event (Err (errors.Stale floor)) h failed = absurd (cc failed)
puts_counts link after k0 k1 generation event (Err errors.NoMemory) h failed = absurd (cc failed)

lists_counts : (link after : LinkView) (known : Known Item) (list from : ℕ) (r : Result (List (List ℕ)) LinkError) → Lists link after known list from r → CountsFailed link after r
lists_counts link after known list from (Ok texts) h failed = absurd (cc failed)
lists_counts link after known list from (Err errors.Failed) h failed = h
lists_counts link after known list from (Err (errors.Stale floor)) h failed = absurd h
lists_counts link after known list from (Err errors.NoMemory) h failed = absurd (cc failed)

has_counts : (link after : LinkView) (known : Known Item) (generation : ℕ) (name : Name) (r : Result Bool LinkError) → Has link after known generation name r → CountsFailed link after r
has_counts link after known generation name (Ok b) h failed = absurd (cc failed)
has_counts link after known generation name (Err errors.Failed) h failed = h
has_counts link after known generation name (Err (errors.Stale floor)) h failed = absurd (cc failed)
has_counts link after known generation name (Err errors.NoMemory) h failed = absurd (cc failed)

gets_counts : (link after : LinkView) (known : Known Item) (generation : ℕ) (name : Name) (r : Result (Option (List ℕ)) LinkError) → Gets link after known generation name r → CountsFailed link after r
gets_counts link after known generation name (Ok o) h failed = absurd (cc failed)
gets_counts link after known generation name (Err errors.Failed) h failed = h
gets_counts link after known generation name (Err (errors.Stale floor)) h failed = absurd (cc failed)
gets_counts link after known generation name (Err errors.NoMemory) h failed = absurd (cc failed)

pub added_before : (link : LinkView) (before mid after : Known Item) (event : LogEvent) → Learns before mid → IsAdded link mid after event → IsAdded link before after event
added_before link before mid after event learns h = record {
  place = h.place;
  behind = omega (arith, prefix_length (list_at before.lists link.service) (list_at mid.lists link.service) (learns.more link.service), h.behind);
  stands = h.stands;
}

pub added_stays : (link : LinkView) (before mid after : Known Item) (event : LogEvent) → Learns mid after → IsAdded link before mid event → IsAdded link before after event
added_stays link before mid after event learns h = record {
  place = h.place;
  behind = h.behind;
  stands = prefix_get (list_at mid.lists link.service) (list_at after.lists link.service) h.place (Log event) (learns.more link.service) h.stands;
}

tells_known : (link after : LinkView) (k0 k1 k2 : Known Item) (event : LogEvent) (r : Result Unit LinkError) → Learns k0 k1 → Tells link after k1 k2 event r → Tells link after k0 k2 event r
tells_known link after k0 k1 k2 event (Ok u) learns h = λ lists. added_before link k0 k1 k2 event learns (h lists)
tells_known link after k0 k1 k2 event (Err errors.Failed) learns h = h
tells_known link after k0 k1 k2 event (Err (errors.Stale floor)) learns h = h
tells_known link after k0 k1 k2 event (Err errors.NoMemory) learns h = tt

puts_known : (link after : LinkView) (k0 k1 k2 : Known Item) (generation : ℕ) (event : LogEvent) (r : Result Unit LinkError) → Learns k0 k1 → Puts link after k1 k2 generation event r → Puts link after k0 k2 generation event r
puts_known link after k0 k1 k2 generation event (Ok u) learns h = (λ lists. added_before link k0 k1 k2 event learns (h.0 lists), h.1)
puts_known link after k0 k1 k2 generation event (Err errors.Failed) learns h = h
puts_known link after k0 k1 k2 generation event (Err (errors.Stale floor)) learns h = h
puts_known link after k0 k1 k2 generation event (Err errors.NoMemory) learns h = tt

pub tells_on : (link later after : LinkView) (k0 k1 k2 : Known Item) (event : LogEvent) (r : Result Unit LinkError) → Stays link later → Learns k0 k1 → Tells later after k1 k2 event r → Tells link after k0 k2 event r
tells_on link later after k0 k1 k2 event r stays learns h =
    tells_out later after link after k0 k2 event r (passes_back link later stays) (counts_back link later after r stays (tells_counts later after k1 k2 event r h)) (tells_known later after k0 k1 k2 event r learns h)

pub puts_on : (link later after : LinkView) (k0 k1 k2 : Known Item) (generation : ℕ) (event : LogEvent) (r : Result Unit LinkError) → Stays link later → Learns k0 k1
    → Puts later after k1 k2 generation event r → Puts link after k0 k2 generation event r
puts_on link later after k0 k1 k2 generation event r stays learns h =
    puts_out later after link after k0 k2 generation event r (passes_back link later stays) (counts_back link later after r stays (puts_counts later after k1 k2 generation event r h))
    (puts_known later after k0 k1 k2 generation event r learns h)

pub lists_on : (link later after : LinkView) (known : Known Item) (list from : ℕ) (r : Result (List (List ℕ)) LinkError) → Stays link later → Lists later after known list from r → Lists link after known list from r
lists_on link later after known list from r stays h =
    lists_out later after link after known list from r (passes_back link later stays) (counts_back link later after r stays (lists_counts later after known list from r h)) h

pub has_on : (link later after : LinkView) (known : Known Item) (generation : ℕ) (name : Name) (r : Result Bool LinkError) → Stays link later → Has later after known generation name r → Has link after known generation name r
has_on link later after known generation name r stays h =
    has_out later after link after known generation name r (passes_back link later stays) (counts_back link later after r stays (has_counts later after known generation name r h)) h

pub gets_on : (link later after : LinkView) (known : Known Item) (generation : ℕ) (name : Name) (r : Result (Option (List ℕ)) LinkError) → Stays link later → Gets later after known generation name r
    → Gets link after known generation name r
gets_on link later after known generation name r stays h =
    gets_out later after link after known generation name r (passes_back link later stays) (counts_back link later after r stays (gets_counts later after known generation name r h)) h

-- ---- logs that grow

pub events_grow : (items more : List Item) → IsPrefix items more → IsPrefix (events_of items) (events_of more)
events_grow items more p = (events_of p.0, sym (filter_map-append event_in items p.0) ∙ ap events_of p.1)

pub log_grows : (link : LinkView) (old new : Known Item) → Learns old new → IsPrefix (log_known link old) (log_known link new)
log_grows link old new learns = events_grow (list_at old.lists link.service) (list_at new.lists link.service) (learns.more link.service)

pub added_known : (link : LinkView) (before after : Known Item) (event : LogEvent) → IsAdded link before after event → Contains (log_known link after) event
added_known link before after event h =
    let p = get_splits (list_at after.lists link.service) h.place (Log event) h.stands in
    subst (λ (items : List Item). Contains (events_of items) event) p.3
    (subst (λ (log : List LogEvent). Contains log event) (sym (filter_map-append event_in p.0 (Log event ∷ p.1)))
    (Contains-append_right (events_of p.0) (event ∷ events_of p.1) event (0, omega arith, refl)))

joined : (b : Bool) (text : List ℕ) (xs ys zs : List (List ℕ)) → zs ≡ xs ++ ys → (if b then text ∷ zs else zs) ≡ (if b then text ∷ xs else xs) ++ ys
joined true text xs ys zs e = ap (λ (l : List (List ℕ)). text ∷ l) e
joined false text xs ys zs e = e

pub texts_in-append : (number : ℕ) (xs ys : List LogEvent) → texts_in number (xs ++ ys) ≡ texts_in number xs ++ texts_in number ys
texts_in-append number [] ys = refl
texts_in-append number (Rec list text ∷ xs) ys = joined (list.0 == number) text (texts_in number xs) (texts_in number ys) (texts_in number (xs ++ ys)) (texts_in-append number xs ys)
texts_in-append number (Put generation name text ∷ xs) ys = texts_in-append number xs ys
texts_in-append number (Drop floor ∷ xs) ys = texts_in-append number xs ys

pub texts_grow : (list : ℕ) (log more : List LogEvent) → IsPrefix log more → IsPrefix (texts_in list log) (texts_in list more)
texts_grow list log more p = (texts_in list p.0, sym (texts_in-append list log p.0) ∙ ap (texts_in list) p.1)

pub event_stays : (log more : List LogEvent) (event : LogEvent) → IsPrefix log more → Contains log event → Contains more event
event_stays log more event p h = subst (λ (l : List LogEvent). Contains l event) p.1 (Contains-append_left log p.0 event h)

first_text : (b : Bool) (text : List ℕ) (texts : List (List ℕ)) → b ≡ true → Contains (if b then text ∷ texts else texts) text
first_text b text texts is = subst (λ (x : Bool). Contains (if x then text ∷ texts else texts) text) (sym is) (0, omega arith, refl)

test_same : (n : ℕ) → (n == n) ≡ true
test_same n = grind (arith, nat_tests)

pub added_text : (link : LinkView) (before after : Known Item) (list : ListId) (text : List ℕ) → IsAdded link before after (Rec list text) → Contains (texts_in list.0 (log_known link after)) text
added_text link before after list text h =
    let event = Rec list text in
    let p = get_splits (list_at after.lists link.service) h.place (Log event) h.stands in
    subst (λ (items : List Item). Contains (texts_in list.0 (events_of items)) text) p.3
    (subst (λ (log : List LogEvent). Contains (texts_in list.0 log) text) (sym (filter_map-append event_in p.0 (Log event ∷ p.1)))
    (subst (λ (texts : List (List ℕ)). Contains texts text) (sym (texts_in-append list.0 (events_of p.0) (event ∷ events_of p.1)))
    (Contains-append_right (texts_in list.0 (events_of p.0)) (texts_in list.0 (event ∷ events_of p.1)) text
    (first_text (list.0 == list.0) text (texts_in list.0 (events_of p.1)) (test_same list.0)))))

-- ---- a desk's links

pub on_board_at : (board : TableId) (links : List LinkView) (place : ℕ) (link : LinkView) (known : Known Item) → AllLead board links → slice_get links place ≡ Some link → known.board ≡ board → IsOnBoard link board known
on_board_at board links place link known lead at same =
    let here = lead place link at in
    record { call = sym here.on_board; pass = same ∙ sym here.on_board }

pub leads_on : (board : TableId) (service : ℕ) (old new : LinkView) → Stays old new → Leads board service old → Leads board service new
leads_on board service old new stays h = record {
  on_board = ap (λ (l : LinkView). l.board) stays.same ∙ h.on_board;
  to_service = ap (λ (l : LinkView). l.service) stays.same ∙ h.to_service;
}
