-- What is done at a desk leaves it a desk.
use Rattle.std.proofs.Common.{◌≡◌, ◌≢◌, ℕ, zero, suc, ◌≤◌, true, List, [], ◌∷◌, ◌++◌, Option, Some, None, Result, Ok, Err, refl, sym, ap, ◌∙◌, subst, ◌⊎◌, inl, inr, arith, Contains, slice_get, slice_set, slice_index_or}
use Rattle.std.specs.Prelude.{IfSome}
use Rattle.std.specs.Option.{option_map}
use mathlib.Core.List.{IsPrefix}
use Rattle.std.proofs.lemmas.List.Elements.{Contains-append_cases, filter_map-append}
use Rattle.ms_base.specs.declared.names.Name.{Name}
use Rattle.ms_base.specs.declared.outside.OutsideError.{OutsideError}
use Rattle.ms_base.specs.declared.outside.OutsideError.TheVariants as errors
use Rattle.ms_core.specs.Views.{configuration, offers_told, owner_of_client}
use Rattle.ms_ken.specs.Known.{TableId, Known}
use Rattle.ms_ken.specs.Lists.{list_at, with_item, with_told}
use Rattle.ms_link.specs.Links.{IsOnBoard, Learns, LinkView}
use Rattle.ms_record.specs.declared.item.Item.{Item}
use Rattle.ms_record.specs.declared.item.Item.TheVariants.{Offer, Told}
use Rattle.ms_record.specs.declared.record.Record.{Record}
use Rattle.ms_record.specs.declared.setting.Setting.{Setting}
use Rattle.ms_record.specs.declared.refusal.Place.TheVariants.{Keep}
use Rattle.ms_record.specs.declared.refusal.Refusal.{Refusal}
use Rattle.ms_record.specs.declared.refusal.Refusal.TheVariants.{NoMemory, OutsideFault}
use Rattle.ms_record.specs.Items.{offer_in, offers_of_items}
use Rattle.ms_record.specs.Votes.{ballot_of}
use Rattle.ms_local.specs.declared.deed.Deed.{Deed}
use Rattle.ms_local.specs.declared.kept.Kept.{Kept}
use Rattle.ms_record.specs.declared.key.Key.{Key}
use Rattle.ms_record.specs.declared.key.Key.TheVariants.{State, Object}
use Rattle.ms_local.specs.Desks.{AreWithin, DeskView, HasKeptRound, IsDesk, IsLane, KnowsTold, LanesStay, LinksStay, MayKeepRound, TellLists, round_of, with_deed}
use Rattle.ms_local.specs.Keeping.{MayHaveState, WritesKept, state_of}
use Rattle.ms_local.specs.Outside.{KeeperView, KeptTexts, MayBeKept, WhereTold, WorkView, Writes}

-- ---- what a keeper keeps

-- the bound on the offers of the client that a kept text gives
abbrev Bounds : Option (List ℕ) → List Record → Type 0
Bounds text offers = IfSome (round_of text) (AreWithin offers)

-- the desk with another keeper that tells as much, whose state bounds what the other's bounds
with_keeper : (desk : DeskView) (keep : KeeperView) → IsDesk desk → keep.told ≡ desk.keep.told
    → (desk.keep.told ≡ true → Bounds (desk.keep.texts State) (offers_told desk.pass.lists desk.client) → Bounds (keep.texts State) (offers_told desk.pass.lists desk.client))
    → IsDesk (record desk { keep = keep })
with_keeper desk keep h told bounds = record {
  client = h.client;
  some_services = h.some_services;
  few_services = h.few_services;
  owners = h.owners;
  board = h.board;
  word = h.word;
  knows = h.knows;
  some_lanes = h.some_lanes;
  lanes = h.lanes;
  telling = λ setting known.
      let t = h.telling setting known in
      record { services = t.services; client = t.client; lists = t.lists; texts = told ∙ t.texts; rounds = bounds t.texts t.rounds };
}

pub read_stays : (desk : DeskView) (faults : ℕ) → IsDesk desk → IsDesk (record desk { keep = record desk.keep { faults = faults } })
read_stays desk faults h = with_keeper desk (record desk.keep { faults = faults }) h refl (λ told bound. bound)

apart : (name : Name) → State ≢ Object name
apart name e = cc

same_bounds : (old new : Option (List ℕ)) (offers : List Record) → new ≡ old → Bounds old offers → Bounds new offers
same_bounds old new offers e h = subst (λ (text : Option (List ℕ)). Bounds text offers) (sym e) h

object_bounds : (name : Name) (text : List ℕ) (old new : KeptTexts) (offers : List Record) → MayBeKept (Object name) text old new → Bounds (old State) offers → Bounds (new State) offers
object_bounds name text old new offers (inl same) h = same_bounds (old State) (new State) offers (ap (λ (texts : KeptTexts). texts State) same) h
object_bounds name text old new offers (inr kept) h = same_bounds (old State) (new State) offers (kept.others State (apart name)) h

-- whatever was answered, the text is kept or all is as before
may_be_kept : (key : Key) (text : List ℕ) (old new : KeeperView) (result : Result Unit OutsideError) → Writes key text old new result → WhereTold old.told (MayBeKept key text old.texts new.texts)
may_be_kept key text old new (Ok u) h = λ told. inr (h told)
may_be_kept key text old new (Err errors.Failed) h = h.1
may_be_kept key text old new (Err errors.NoMemory) h = h

pub object_stays : (desk : DeskView) (name : Name) (text : List ℕ) (keep : KeeperView) (result : Result Unit OutsideError) → IsDesk desk → keep.told ≡ desk.keep.told
    → Writes (Object name) text desk.keep keep result → IsDesk (record desk { keep = keep })
object_stays desk name text keep result h told writes =
    with_keeper desk keep h told
    (λ tells bound. object_bounds name text desk.keep.texts keep.texts (offers_told desk.pass.lists desk.client) (may_be_kept (Object name) text desk.keep keep result writes tells) bound)

pub objects_stay : (desk : DeskView) (keep : KeeperView) → IsDesk desk → keep.told ≡ desk.keep.told → WhereTold keep.told (keep.texts State ≡ desk.keep.texts State) → IsDesk (record desk { keep = keep })
objects_stay desk keep h told state =
    with_keeper desk keep h told (λ tells bound. same_bounds (desk.keep.texts State) (keep.texts State) (offers_told desk.pass.lists desk.client) (state (told ∙ tells)) bound)

-- the kept state says its round
round_is : (text : Option (List ℕ)) (kept : Kept) → state_of text ≡ Some kept → round_of text ≡ Some kept.round
round_is None kept e = absurd cc
round_is (Some text) kept e = ap (option_map (λ (k : Kept). k.round)) e

within_more : (offers : List Record) (round later : ℕ) → round ≤ later → AreWithin offers round → AreWithin offers later
within_more offers round later le h offer there = let lt = h offer there in omega arith

known_bound : (o : Option ℕ) (round : ℕ) (offers : List Record) → o ≡ Some round → IfSome o (AreWithin offers) → AreWithin offers round
known_bound o round offers e h = subst (λ (x : Option ℕ). IfSome x (AreWithin offers)) e h

bound_known : (o : Option ℕ) (round : ℕ) (offers : List Record) → o ≡ Some round → AreWithin offers round → IfSome o (AreWithin offers)
bound_known o round offers e h = subst (λ (x : Option ℕ). IfSome x (AreWithin offers)) (sym e) h

state_bounds : (kept : Kept) (old new : KeptTexts) (offers : List Record) (before : ℕ) → round_of (old State) ≡ Some before → before ≤ kept.round → MayHaveState kept old new
    → Bounds (old State) offers → Bounds (new State) offers
state_bounds kept old new offers before is le (inl same) h = same_bounds (old State) (new State) offers (ap (λ (texts : KeptTexts). texts State) same) h
state_bounds kept old new offers before is le (inr has) h =
    bound_known (round_of (new State)) kept.round offers (round_is (new State) kept has.state)
    (within_more offers before kept.round le (known_bound (round_of (old State)) before offers is h))

may_have_state : (kept : Kept) (old new : KeeperView) (result : Result Unit Refusal) → WritesKept kept old new result → WhereTold old.told (MayHaveState kept old.texts new.texts)
may_have_state kept old new (Ok u) h = λ told. inr (h told)
may_have_state kept old new (Err (OutsideFault Keep)) h = h.1
may_have_state kept old new (Err NoMemory) h = h
may_have_state kept old new (Err error) h = absurd h

pub state_stays : (desk : DeskView) (kept : Kept) (keep : KeeperView) (result : Result Unit Refusal) → IsDesk desk → keep.told ≡ desk.keep.told → MayKeepRound desk kept.round
    → WritesKept kept desk.keep keep result → IsDesk (record desk { keep = keep })
state_stays desk kept keep result h told may writes =
    with_keeper desk keep h told
    (λ tells bound. let m = may tells in
    state_bounds kept desk.keep.texts keep.texts (offers_told desk.pass.lists desk.client) m.0 m.1 m.2 (may_have_state kept desk.keep keep result writes tells) bound)

-- ---- deeds and the folder

-- the deeds of a desk are free
pub deeds_free : (desk : DeskView) (deeds : List Deed) → IsDesk desk → IsDesk (record desk { deeds = deeds })
deeds_free desk deeds h = record {
  client = h.client;
  some_services = h.some_services;
  few_services = h.few_services;
  owners = h.owners;
  board = h.board;
  word = h.word;
  knows = h.knows;
  some_lanes = h.some_lanes;
  lanes = h.lanes;
  telling = λ setting known. let t = h.telling setting known in record { services = t.services; client = t.client; lists = t.lists; texts = t.texts; rounds = t.rounds };
}

pub deed_stays : (desk : DeskView) (deed : Deed) → IsDesk desk → IsDesk (with_deed desk deed)
deed_stays desk deed h = deeds_free desk (desk.deeds ++ deed ∷ []) h

pub work_stays : (desk : DeskView) (work : WorkView) → IsDesk desk → IsDesk (record desk { work = work })
work_stays desk work h = record {
  client = h.client;
  some_services = h.some_services;
  few_services = h.few_services;
  owners = h.owners;
  board = h.board;
  word = h.word;
  knows = h.knows;
  some_lanes = h.some_lanes;
  lanes = h.lanes;
  telling = λ setting known. let t = h.telling setting known in record { services = t.services; client = t.client; lists = t.lists; texts = t.texts; rounds = t.rounds };
}

-- ---- calls on links

none_behind : {A : Type 0} (xs zs : List A) → xs ++ zs ≡ [] → xs ≡ []
none_behind [] zs e = refl
none_behind (x ∷ xs) zs e = absurd cc

tail_is : {A : Type 0} (x y : A) (xs ys : List A) → x ∷ xs ≡ y ∷ ys → xs ≡ ys
tail_is x y xs ys e = cc

head_is : {A : Type 0} (x y : A) (xs ys : List A) → x ∷ xs ≡ y ∷ ys → x ≡ y
head_is x y xs ys e = cc

-- what begins a list of one item, and is something, is that list
begins_one : {A : Type 0} (xs : List A) (y : A) → xs ≢ [] → IsPrefix xs (y ∷ []) → xs ≡ y ∷ []
begins_one [] y some h = absurd (some refl)
begins_one (x ∷ xs) y some h =
    let first = head_is x y (xs ++ h.0) [] h.1 in
    let rest = none_behind xs h.0 (tail_is x y (xs ++ h.0) [] h.1) in
    ap (λ t. t ∷ xs) first ∙ ap (λ t. y ∷ t) rest

something_on : {A : Type 0} (xs ys : List A) → xs ≢ [] → IsPrefix xs ys → ys ≢ []
something_on xs ys some h e = some (none_behind xs h.0 (h.1 ∙ e))

own_offers : (old new : Known Item) (client : ℕ) → old.word ≡ Some (owner_of_client client) → Learns old new → offers_told new.lists client ≡ offers_told old.lists client
own_offers old new client is learns =
    let same : list_at new.lists (owner_of_client client) ≡ list_at old.lists (owner_of_client client) = subst (λ (w : Option ℕ). IfSome w (λ k. list_at new.lists k ≡ list_at old.lists k)) is learns.own in
    ap offers_of_items same

-- what is told then was told before
pub told_back : (desk : DeskView) (pass : Known Item) (setting : Setting) → IsDesk desk → Learns desk.pass pass → KnowsTold (record desk { pass = pass }) setting → KnowsTold desk setting
told_back desk pass setting h learns known =
    begins_one (list_at desk.pass.lists configuration) (Told setting) h.knows (subst (λ (items : List Item). IsPrefix (list_at desk.pass.lists configuration) items) known (learns.more configuration))

links_lead : (board : TableId) (services : ℕ) (old new : List LinkView) → LinksStay old new → IsLane board services old → IsLane board services new
links_lead board services old new stay lane = record {
  all = stay.all ∙ lane.all;
  lead = λ place link got.
      let b = stay.each place link got in
      let l = lane.lead place b.0 b.1 in
      record { on_board = ap (λ (v : LinkView). v.board) b.2.same ∙ l.on_board; to_service = ap (λ (v : LinkView). v.service) b.2.same ∙ l.to_service };
}

links_tell : (old new : List LinkView) → LinksStay old new → TellLists old → TellLists new
links_tell old new stay tell place link got =
    let b = stay.each place link got in
    ap (λ (v : LinkView). v.lists) b.2.same ∙ tell place b.0 b.1

pub call_stays : (desk : DeskView) (pass : Known Item) (lanes : List (List LinkView)) → IsDesk desk → Learns desk.pass pass → LanesStay desk.lanes lanes
    → IsDesk (record desk { pass = pass; lanes = lanes })
call_stays desk pass lanes h learns stay = record {
  client = h.client;
  some_services = h.some_services;
  few_services = h.few_services;
  owners = h.owners;
  board = learns.board ∙ h.board;
  word = learns.word ∙ h.word;
  knows = something_on (list_at desk.pass.lists configuration) (list_at pass.lists configuration) h.knows (learns.more configuration);
  some_lanes = let all = stay.all in let some = h.some_lanes in omega arith;
  lanes = λ place links got. let b = stay.each place links got in links_lead desk.board desk.services b.0 links b.2 (h.lanes place b.0 b.1);
  telling = λ setting known.
      let t = h.telling setting (told_back desk pass setting h learns known) in
      record {
        services = t.services;
        client = t.client;
        lists = λ place links got. let b = stay.each place links got in links_tell b.0 links b.2 (t.lists place b.0 b.1);
        texts = t.texts;
        rounds = subst (λ (offers : List Record). Bounds (desk.keep.texts State) offers) (sym (own_offers desk.pass pass desk.client h.word learns)) t.rounds;
      };
}

-- ---- offers

set_here : {A : Type 0} (xs : List A) (k : ℕ) (v d : A) → (slice_index_or (slice_set xs k v) k d ≡ v) ⊎ (slice_set xs k v ≡ xs)
set_here [] k v d = inr refl
set_here (x ∷ xs) zero v d = inl refl
set_here (x ∷ xs) (suc k) v d = elim (set_here xs k v d) [ inl h ↦ inl h | inr h ↦ inr (ap (λ t. x ∷ t) h) ]

set_there : {A : Type 0} (xs : List A) (k j : ℕ) (v d : A) → k ≢ j → slice_index_or (slice_set xs k v) j d ≡ slice_index_or xs j d
set_there [] k j v d ne = refl
set_there (x ∷ xs) zero zero v d ne = absurd (ne refl)
set_there (x ∷ xs) zero (suc j) v d ne = refl
set_there (x ∷ xs) (suc k) zero v d ne = refl
set_there (x ∷ xs) (suc k) (suc j) v d ne = set_there xs k j v d (λ e. ne (ap (λ n. suc n) e))

one_of : {A : Type 0} (x y : A) → Contains (x ∷ []) y → y ≡ x
one_of x y (zero, lt, is) = sym is
one_of x y (suc k, lt, is) = absurd (omega arith)

within_and : (offers : List Record) (offer : Record) (round : ℕ) → (ballot_of offer).round ≤ round → AreWithin offers round → AreWithin (offers ++ offer ∷ []) round
within_and offers offer round le h other there =
    elim (Contains-append_cases offers (offer ∷ []) other there) [
      | inl c ↦ h other c
      | inr c ↦ subst (λ (o : Record). (ballot_of o).round ≤ round) (sym (one_of offer other c)) le
    ]

-- the client's offers with one more
offers_then : (view : List (List Item)) (client : ℕ) (offer : Record) (round : ℕ) → (ballot_of offer).round ≤ round → AreWithin (offers_told view client) round
    → AreWithin (offers_told (with_item view (owner_of_client client) (Offer offer)) client) round
offers_then view client offer round le h =
    let owner = owner_of_client client in
    let items = list_at view owner in
    elim (set_here view owner (items ++ Offer offer ∷ []) []) [
      | inl e ↦ subst (λ (offers : List Record). AreWithin offers round) (sym (ap offers_of_items e ∙ filter_map-append offer_in items (Offer offer ∷ []))) (within_and (offers_told view client) offer round le h)
      | inr e ↦ subst (λ (v : List (List Item)). AreWithin (offers_told v client) round) (sym e) h
    ]

-- the desk that knows these lists
abbrev knowing : DeskView → List (List Item) → DeskView
knowing desk lists = record desk { pass = record desk.pass { lists = lists } }

offer_at : (desk : DeskView) (offer : Record) → IsDesk desk → HasKeptRound desk (ballot_of offer).round → IsDesk (knowing desk (with_item desk.pass.lists (owner_of_client desk.client) (Offer offer)))
offer_at desk offer h may =
    let owner = owner_of_client desk.client in
    let lt = h.client in
    let same : list_at (with_item desk.pass.lists owner (Offer offer)) configuration ≡ list_at desk.pass.lists configuration = set_there desk.pass.lists owner configuration (list_at desk.pass.lists owner ++ Offer offer ∷ []) [] (λ e. omega arith) in
    record {
      client = h.client;
      some_services = h.some_services;
      few_services = h.few_services;
      owners = h.owners;
      board = h.board;
      word = h.word;
      knows = λ e. h.knows (sym same ∙ e);
      some_lanes = h.some_lanes;
      lanes = h.lanes;
      telling = λ setting known.
          let t = h.telling setting (sym same ∙ known) in
          let m = may t.texts in
          record {
            services = t.services;
            client = t.client;
            lists = t.lists;
            texts = t.texts;
            rounds = bound_known (round_of (desk.keep.texts State)) m.0 (offers_told (with_item desk.pass.lists owner (Offer offer)) desk.client) m.1
                (offers_then desk.pass.lists desk.client offer m.0 m.2 (known_bound (round_of (desk.keep.texts State)) m.0 (offers_told desk.pass.lists desk.client) m.1 t.rounds));
          };
    }

pub offer_stays : (desk : DeskView) (offer : Record) → IsDesk desk → HasKeptRound desk (ballot_of offer).round
    → IsDesk (record desk { pass = record desk.pass { lists = with_told desk.pass.lists desk.pass.word (Offer offer) } })
offer_stays desk offer h may =
    subst (λ (w : Option ℕ). IsDesk (knowing desk (with_told desk.pass.lists w (Offer offer)))) (sym h.word) (offer_at desk offer h may)

-- ---- links

pub on_board : (desk : DeskView) (lane place : ℕ) (links : List LinkView) (link : LinkView) → IsDesk desk → slice_get desk.lanes lane ≡ Some links → slice_get links place ≡ Some link → IsOnBoard link desk.board desk.pass
on_board desk lane place links link h got at =
    let l = (h.lanes lane links got).lead place link at in
    record { call = sym l.on_board; pass = h.board ∙ sym l.on_board }

pub to_service : (desk : DeskView) (lane place : ℕ) (links : List LinkView) (link : LinkView) → IsDesk desk → slice_get desk.lanes lane ≡ Some links → slice_get links place ≡ Some link → link.service ≡ place
to_service desk lane place links link h got at = ((h.lanes lane links got).lead place link at).to_service
