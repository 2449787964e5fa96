-- On a board on which nothing is claimed any event may follow.
use Rattle.std.proofs.Common.{◌≡◌, ◌≢◌, ℕ, ◌<◌, List, [], ◌∷◌, length, sym, ◌∙◌, ap, subst, inl, inr, arith}
use mathlib.Core.List.{IsPrefix}
use Rattle.ms_core.specs.Views.{View, configuration, log_in, offers_told, IsClosed, SupportsEvent}
use Rattle.ms_ken.specs.Lists.{list_at, Begins, MayFollow}
use Rattle.ms_ken.specs.Prefixes.{prefix_trans}
use Rattle.ms_ken.specs.Rows.{item_else}
use Rattle.ms_ken.specs.Known.{TableId, Known}
use Rattle.ms_link.specs.Links.{LinkView, Learns, MayAdd, Stays}
use Rattle.link_tests.specs.Untold.{IsReady, IsAsking, KnowsUntold}
use Rattle.link_tests.specs.Told.{IsMember, KnowsTold}
use Rattle.ms_record.specs.declared.item.Item.{Item}
use Rattle.ms_record.specs.declared.item.Item.TheVariants.{Log, Told, Untold}
use Rattle.ms_record.specs.declared.log.LogEvent.{LogEvent}
use Rattle.ms_record.specs.declared.setting.Setting.{Setting}
use Rattle.ms_record.specs.Settings.{IsSetting}

-- what claims nothing stays so
pub untold_stays : (lists more : View) → Begins lists more → KnowsUntold lists → KnowsUntold more
untold_stays lists more begins h = prefix_trans (Untold ∷ []) (list_at lists configuration) (list_at more configuration) h (begins configuration)

begins_with : (items : List Item) (a b : Item) → IsPrefix (a ∷ []) items → items ≡ b ∷ [] → a ≡ b
begins_with items a b p is = let q = p.1 ∙ is in cc q

untold_alone : (lists : View) → IsClosed lists → KnowsUntold lists → list_at lists configuration ≡ Untold ∷ []
untold_alone lists (inl none) h = absurd (nothing (list_at lists configuration) h (none configuration))
  where
    nothing : (items : List Item) → IsPrefix (Untold ∷ []) items → items ≡ [] → ⊥
    nothing items p is = let q = p.1 ∙ is in cc q
untold_alone lists (inr (inl alone)) h = alone
untold_alone lists (inr (inr told)) h = absurd (let q = begins_with (list_at lists configuration) Untold (Told told.0) h told.1.alone in cc q)

pub any_may_follow : (n : ℕ) (lists : View) (service : ℕ) (item : Item) → service < configuration → KnowsUntold lists → MayFollow IsClosed n lists service item
any_may_follow n lists service item lt h more wide closed begins =
    let other : configuration ≢ service = omega arith in
    inr (inl (item_else more service item configuration other ∙ untold_alone more closed (untold_stays lists more begins h)))

-- a client stays ready from call to call
pub ready_stays : (old new : LinkView) (before after : Known Item) → IsReady old.board old.service before → Stays old new → Learns before after → IsReady new.board new.service after
ready_stays old new before after ready link learns = record {
  on_board = learns.board ∙ (ready.on_board ∙ sym (ap (λ (l : LinkView). l.board) link.same));
  untold = untold_stays before.lists after.lists learns.more ready.untold;
  below = subst (λ (s : ℕ). s < configuration) (sym (ap (λ (l : LinkView). l.service) link.same)) ready.below;
}

-- a client that may ask for any event may ask on, and for this one
pub asking_stays : {board : TableId} {old new : LinkView} {before after : Known Item} → IsAsking board old before → Stays old new → Learns before after → IsAsking board new after
asking_stays asking link learns = record {
  of_board = asking.of_board ∙ sym (ap (λ (l : LinkView). l.board) link.same);
  lists = ap (λ (l : LinkView). l.lists) link.same ∙ asking.lists;
  objects = ap (λ (l : LinkView). l.objects) link.same ∙ asking.objects;
  ready = ready_stays _ _ _ _ asking.ready link learns;
}

pub may_ask : {board : TableId} {link : LinkView} {pass : Known Item} → IsAsking board link pass → (event : LogEvent) → MayAdd IsClosed link pass event
may_ask {link = link} {pass = pass} asking event = any_may_follow link.board.words pass.lists link.service (Log event) asking.ready.below asking.ready.untold

-- what knows a setting knows it alone, where it is closed
pub told_alone : (setting : Setting) (lists : View) → IsClosed lists → KnowsTold setting lists → list_at lists configuration ≡ Told setting ∷ []
told_alone setting lists (inl none) h = absurd (nothing (list_at lists configuration) h (none configuration))
  where
    nothing : (items : List Item) → IsPrefix (Told setting ∷ []) items → items ≡ [] → ⊥
    nothing items p is = let q = p.1 ∙ is in cc q
told_alone setting lists (inr (inl alone)) h = absurd (let q = begins_with (list_at lists configuration) (Told setting) Untold h alone in cc q)
told_alone setting lists (inr (inr told)) h =
    told.1.alone ∙ ap (λ (item : Item). item ∷ []) (sym (begins_with (list_at lists configuration) (Told setting) (Told told.0) h told.1.alone))

-- a client stays a member from call to call
pub member_stays : (old new : LinkView) (setting : Setting) (before after : Known Item) → IsMember old.board old.service setting before → Stays old new → Learns before after → IsMember new.board new.service setting after
member_stays old new setting before after member link learns = record {
  on_board = learns.board ∙ (member.on_board ∙ sym (ap (λ (l : LinkView). l.board) link.same));
  told = prefix_trans (Told setting ∷ []) (list_at before.lists configuration) (list_at after.lists configuration) member.told (learns.more configuration);
  ranges = member.ranges;
  below = subst (λ (s : ℕ). s < setting.services) (sym (ap (λ (l : LinkView). l.service) link.same)) member.below;
  wide = subst (λ (l : LinkView). l.service < l.board.words) (sym link.same) member.wide;
}

-- where a setting is told, an event of a service may follow that the view supports
abbrev pub SupportedFollow : Type 0
SupportedFollow = (view : View) (setting : Setting) (service : ℕ) (event : LogEvent) → list_at view configuration ≡ Told setting ∷ [] → IsSetting setting → service < setting.services → service < length view
    → SupportsEvent setting (log_in view) (offers_told view) event → MayFollow IsClosed (length view) view service (Log event)

-- a member may ask for what its view supports
pub member_may_ask : SupportedFollow → (link : LinkView) (setting : Setting) (pass : Known Item) (event : LogEvent) → IsMember link.board link.service setting pass → IsClosed pass.lists → length pass.lists ≡ pass.board.words
    → SupportsEvent setting (log_in pass.lists) (offers_told pass.lists) event → MayAdd IsClosed link pass event
member_may_ask follow link setting pass event member closed owners supports =
    let words = owners ∙ ap (λ (t : TableId). t.words) member.on_board in
    let alone = told_alone setting pass.lists closed member.told in
    let wide = subst (λ (n : ℕ). link.service < n) (sym words) member.wide in
    subst (λ (n : ℕ). MayFollow IsClosed n pass.lists link.service (Log event)) words (follow pass.lists setting link.service event alone member.ranges member.below wide supports)
