-- Desks on a board on which nothing is claimed: links at their places, and what such a desk may do.
use Rattle.std.proofs.Common.{◌≡◌, ◌≢◌, ℕ, suc, ◌<◌, ◌≤◌, Bool, true, false, if◌then◌else◌, List, [], ◌∷◌, ◌++◌, length, map, Option, Some, None, slice_get, length-append, sym, ◌∙◌, ap, subst, inl, inr, ◌⊎◌, refl, Contains, unwrap_or, arith}
use Rattle.std.proofs.lemmas.List.{length-map}
use mathlib.Core.List.{IsPrefix}
use Rattle.bid_tests.specs.Shelves.{AreLinks, AreShort, IsOneLane, IsReady, IsUntoldDesk, KnowsUntold}
use Rattle.ms_base.specs.Places.{alone, append_cases, in_cases, in_none}
use Rattle.ms_base.specs.declared.limits.TheConstants.{OBJECT_BYTES}
use Rattle.ms_base.specs.declared.names.ServiceId.{ServiceId}
use Rattle.ms_core.specs.Views.{View, configuration}
use Rattle.ms_ken.specs.Known.{TableId}
use Rattle.ms_ken.specs.Lists.{list_at}
use Rattle.ms_link.specs.Links.{AllLead, Leads, LinkView}
use Rattle.ms_local.specs.Calls.{IsSupportedAt}
use Rattle.ms_local.specs.Desks.{DeskView, IsLane}
use Rattle.ms_local.specs.Learning.{ChainView, IsOfDesk}
use Rattle.ms_object.specs.Stores.{StoreView, text_after, text_of}
use Rattle.ms_record.specs.declared.item.Item.{Item}
use Rattle.ms_record.specs.declared.item.Item.TheVariants.{Told, Untold}
use Rattle.ms_record.specs.declared.log.LogEvent.{LogEvent}
use Rattle.ms_record.specs.declared.plan.PlanRow.{PlanRow}
use Rattle.ms_record.specs.declared.setting.Setting.{Setting}
use Rattle.ms_record.specs.Plans.{PlanView}
use Rattle.ms_upload.specs.Jobs.{AreBelow}

-- ---- links

-- the next link leads to the service of its place
pub one_more_leads : (board : TableId) (links : List LinkView) (link : LinkView) → AllLead board links → Leads board (length links) link → AllLead board (links ++ link ∷ [])
one_more_leads board links link all leads place found is =
    elim (append_cases links (link ∷ []) place found is) [
      | inl old ↦ all place found old
      | inr last ↦ (let at = alone link found last.0 last.2 in let here : place ≡ length links = (let i = last.1 in let j = at.0 in omega arith) in subst (λ (l : LinkView). Leads board place l) at.1 (subst (λ (p : ℕ). Leads board p link) (sym here) leads))
    ]

map_end : {L : Type 0} (view : L → LinkView) (links : List L) (link : L) → map view (links ++ link ∷ []) ≡ map view links ++ view link ∷ []
map_end view [] link = refl
map_end view (first ∷ rest) link = ap (λ (ls : List LinkView). view first ∷ ls) (map_end view rest link)

pub links_grow : {L : Type 0} (view : L → LinkView) (board : TableId) (links : List L) (link : L) → AreLinks board (map view links) → length links < 16 → Leads board (length links) (view link) → AreLinks board (map view (links ++ link ∷ []))
links_grow view board links link are few leads =
    subst (λ (ls : List LinkView). AreLinks board ls) (sym (map_end view links link)) (record {
      few = omega (arith, length-append (map view links) (view link ∷ []), length-map links view);
      lead = one_more_leads board (map view links) (view link) are.lead (subst (λ (n : ℕ). Leads board n (view link)) (sym (length-map links view)) leads);
    })

pub one_lane : {L : Type 0} (view : L → LinkView) (board : TableId) (links : List L) (n : ℕ) → AreLinks board (map view links) → length links ≡ n → n ≢ 0 → IsOneLane board n (map view links ∷ [])
one_lane view board links n are many some = record {
  links = map view links;
  one = refl;
  all = length-map links view ∙ many;
  some = omega arith;
  few = (let same = length-map links view ∙ many in let most = are.few in omega arith);
  lead = are.lead;
}

-- ---- a board on which nothing is claimed

begins_with : (items : List Item) (a b : Item) → IsPrefix (a ∷ []) items → items ≡ b ∷ [] → a ≡ b
begins_with items a b p is = let q = p.1 ∙ is in cc q

never_none : (items : List Item) → IsPrefix (Untold ∷ []) items → items ≢ []
never_none items p is = let q = p.1 ∙ is in cc q

pub never_told : (lists : View) (setting : Setting) → KnowsUntold lists → list_at lists configuration ≡ Told setting ∷ [] → ⊥
never_told lists setting h told = let q = begins_with (list_at lists configuration) Untold (Told setting) h told in cc q

-- a desk with one lane of such links
untold_there : (desk : DeskView) → desk.client < 16 → IsReady desk.board desk.client desk.pass → IsOneLane desk.board desk.services desk.lanes → IsUntoldDesk desk
untold_there desk client ready lane = record {
  is = record {
    client = client;
    some_services = lane.some;
    few_services = lane.few;
    owners = ready.owners;
    board = ready.on_board;
    word = ready.word;
    knows = never_none (list_at desk.pass.lists configuration) ready.untold;
    some_lanes = (let one = ap (λ (l : List (List LinkView)). length l) lane.one in omega arith);
    lanes = λ (place : ℕ) (found : List LinkView) (is : slice_get desk.lanes place ≡ Some found).
        (let here = alone lane.links found place (subst (λ (l : List (List LinkView)). slice_get l place ≡ Some found) lane.one is) in
        subst (λ (l : List LinkView). IsLane desk.board desk.services l) here.1 (record { all = lane.all; lead = lane.lead }));
    telling = λ (setting : Setting) (told : list_at desk.pass.lists configuration ≡ Told setting ∷ []). absurd (never_told desk.pass.lists setting ready.untold told);
  };
  untold = ready.untold;
}

pub untold_desk : (desk : DeskView) (board : TableId) → desk.board ≡ board → desk.client < 16 → IsReady board desk.client desk.pass → IsOneLane board desk.services desk.lanes → IsUntoldDesk desk
untold_desk desk board is client ready lane =
    untold_there desk client (subst (λ (b : TableId). IsReady b desk.client desk.pass) (sym is) ready) (subst (λ (b : TableId). IsOneLane b desk.services desk.lanes) (sym is) lane)

-- there any event may be asked for
pub supports_all : (desk : DeskView) (event : LogEvent) → IsUntoldDesk desk → IsSupportedAt desk event
supports_all desk event h setting told = absurd (never_told desk.pass.lists setting h.untold told)

-- and a chain may be learnt that has the desk's services and two clients
pub may_learn : (chain : ChainView) (desk : DeskView) → IsUntoldDesk desk → desk.client ≡ 0 → chain.setting.services ≡ desk.services → chain.setting.clients ≡ 2 → IsOfDesk chain desk
may_learn chain desk h none services clients = record {
  services = services;
  client = omega arith;
  known = λ (setting : Setting) (told : list_at desk.pass.lists configuration ≡ Told setting ∷ []). absurd (never_told desk.pass.lists setting h.untold told);
}

-- ---- what is placed

-- the text of a name, once one was added, is that one or was there
was_or_is : (same : Bool) (held : Option (List ℕ)) (added text : List ℕ) → (if same then Some (unwrap_or held added) else held) ≡ Some text → (added ≡ text) ⊎ (held ≡ Some text)
was_or_is true None added text is = inl (cc is)
was_or_is true (Some other) added text is = inr is
was_or_is false held added text is = inr is

pub short_more : (old new : StoreView) (added : List ℕ) → AreShort old → length added ≤ OBJECT_BYTES → ((name : List ℕ) → text_of new name ≡ text_after (text_of old) added name) → AreShort new
short_more old new added short few texts name text is =
    elim (was_or_is _ (text_of old name) added text (sym (texts name) ∙ is)) [
      | inl same ↦ subst (λ (t : List ℕ). length t ≤ OBJECT_BYTES) same few
      | inr held ↦ short name text held
    ]

service_in : (rows : List PlanRow) (s : ServiceId) → Contains (map (λ (row : PlanRow). row.service) rows) s → (place : ℕ) × (row : PlanRow) × (slice_get rows place ≡ Some row) × (row.service ≡ s)
service_in [] s h = absurd (in_none s h)
service_in (row ∷ rows) s h =
    elim (in_cases row.service (map (λ (r : PlanRow). r.service) rows) s h) [
      | inl here ↦ (0, row, refl, here)
      | inr later ↦ (let r = service_in rows s later in (suc r.0, r.1, r.2, r.3))
    ]

pub rows_below : (plan : PlanView) (n : ℕ) → ((place : ℕ) (row : PlanRow) → slice_get plan.rows place ≡ Some row → row.service.0 < n) → AreBelow plan n
rows_below plan n rows s h = let r = service_in plan.rows s h in subst (λ (t : ServiceId). t.0 < n) r.3 (rows r.0 r.1 r.2)
