-- A chain at a desk, and what settling behind its end leaves.
use Rattle.std.proofs.Common.{◌≡◌, ℕ, ◌+◌, Bool, true, false, List, [], ◌∷◌, ◌++◌, Option, None, Result, Ok, Err, inr, sym, ap, ◌∙◌, subst, length, arith}
use mathlib.Core.List.{IsPrefix}
use Rattle.ms_core.specs.Closing.{logs_grow}
use Rattle.ms_core.specs.Views.{IsClosed, IsNextMaster, Tells, View, log_in, votes_told}
use Rattle.ms_ken.specs.Lists.{Begins}
use Rattle.ms_ken.specs.Prefixes.{prefix_trans}
use Rattle.ms_record.specs.declared.entry.Entry.{Entry}
use Rattle.ms_record.specs.declared.record.Record.{Record}
use Rattle.ms_record.specs.declared.refusal.Refusal.{Refusal}
use Rattle.ms_record.specs.declared.setting.Setting.{Setting}
use Rattle.ms_record.specs.Chains.{IsLinked, LinksBehind, Origin, voters_behind}
use Rattle.ms_record.specs.Growing.{linked_grows, texts_append, votes_grow}
use Rattle.ms_record.specs.Logs.{vote_texts}
use Rattle.ms_record.specs.Settings.{origin_of}
use Rattle.ms_record.specs.Votes.{ChosenBy}
use Rattle.ms_local.specs.declared.kept.Kept.{Kept}
use Rattle.ms_local.specs.Desks.{DeskView, IsDesk, OnTold}
use Rattle.ms_local.specs.Learning.{Adds, ChainView, IsOfDesk, texts_read}
use Rattle.ms_local.specs.Rules.{Bidding, Intent}
use Rattle.ms_propose.specs.declared.proposal.Decided.{Decided}
use Rattle.ms_propose.specs.Bidding.{intent_of}
use Rattle.ms_propose.specs.Catching.{Catches, IsUnsettled, Settles}
use Rattle.ms_propose.specs.Going.{DeskBids}
use Rattle.ms_propose.specs.Leaving.{Bids}
use Rattle.ms_propose.specs.Proposing.{Proposed}
use Rattle.ms_propose.proofs.Composing.{bids_client, bids_services, told_back}

-- ---- chains

texts_begin : (low high : View) → Begins low high → (s : ℕ) → IsPrefix (vote_texts (log_in low s)) (vote_texts (log_in high s))
texts_begin low high more s = let p = logs_grow low high more s in (vote_texts p.0, sym (texts_append 0 (log_in low s) p.0) ∙ ap vote_texts p.1)

-- a chain of a desk is one of each later moment of the desk
pub of_desk_on : (chain : ChainView) (a b : DeskView) → IsDesk a → DeskBids a b → IsOfDesk chain a → IsOfDesk chain b
of_desk_on chain a b desk goes h = record {
  services = h.services ∙ sym (bids_services a b goes);
  client = omega (arith, h.client, bids_client a b goes);
  known = λ setting told.
      let k = h.known setting (told_back a b setting desk goes told) in
      record {
        setting_is = k.setting_is;
        linked = linked_grows (votes_told a.pass.lists) (votes_told b.pass.lists) (origin_of chain.setting) chain.members (votes_grow (log_in a.pass.lists) (log_in b.pass.lists) (logs_grow a.pass.lists b.pass.lists goes.more)) k.linked;
        read = λ s. prefix_trans (texts_read chain s) (vote_texts (log_in a.pass.lists s)) (vote_texts (log_in b.pass.lists s)) (k.read s) (texts_begin a.pass.lists b.pass.lists goes.more s);
      };
}

-- the entry is chosen behind the chain's end, where a setting is told
abbrev pub ChosenNext : ChainView → DeskView → Entry → Type 0
ChosenNext chain desk e = OnTold desk (ChosenBy (votes_told desk.pass.lists) (voters_behind (origin_of chain.setting) chain.members) (length chain.members + 1) e)

abbrev pub ListsGoOn : Type 0
ListsGoOn = (votes : ℕ → List Record) (origin : Origin) (c : List Entry) (e : Entry) → IsLinked votes origin c → ChosenBy votes (voters_behind origin c) (length c + 1) e → LinksBehind origin c e → IsLinked votes origin (c ++ e ∷ [])

abbrev pub ChosenLink : Type 0
ChosenLink = (view : View) (setting : Setting) (c : List Entry) (e : Entry) → Tells view setting → IsLinked (votes_told view) (origin_of setting) c
    → ChosenBy (votes_told view) (voters_behind (origin_of setting) c) (length c + 1) e → IsNextMaster setting (log_in view) c e

gained_of_desk : ListsGoOn → (chain : ChainView) (desk : DeskView) (e : Entry) → IsOfDesk chain desk → LinksBehind (origin_of chain.setting) chain.members e → ChosenNext chain desk e
    → IsOfDesk (record chain { members = chain.members ++ e ∷ [] }) desk
gained_of_desk goes chain desk e h links chosen = record {
  services = h.services;
  client = h.client;
  known = λ setting told.
      let k = h.known setting told in
      record { setting_is = k.setting_is; linked = goes (votes_told desk.pass.lists) (origin_of chain.setting) chain.members e k.linked (chosen setting told) links; read = k.read };
}

-- what is chosen behind the end links on, where a setting is told
links_told : ChosenLink → (chain : ChainView) (desk : DeskView) (e : Entry) → IsClosed desk.pass.lists → IsOfDesk chain desk → ChosenNext chain desk e → OnTold desk (LinksBehind (origin_of chain.setting) chain.members e)
links_told next chain desk e closed h chosen setting told =
    let k = h.known setting told in
    let linked = subst (λ (x : Setting). IsLinked (votes_told desk.pass.lists) (origin_of x) chain.members) (sym k.setting_is) k.linked in
    let there = subst (λ (x : Setting). ChosenBy (votes_told desk.pass.lists) (voters_behind (origin_of x) chain.members) (length chain.members + 1) e) (sym k.setting_is) (chosen setting told) in
    subst (λ (x : Setting). LinksBehind (origin_of x) chain.members e) k.setting_is (next desk.pass.lists setting chain.members e (record { closed = closed; told = told }) linked there).links

-- ---- what is added

pub added_of_desk : ListsGoOn → (first last : ChainView) (desk : DeskView) (e : Entry) (gained : Bool) → IsOfDesk first desk → ChosenNext first desk e → Adds first last e (Ok gained) → IsOfDesk last desk
added_of_desk goes first last desk e true h chosen (links, is) = subst (λ (x : ChainView). IsOfDesk x desk) (sym is) (gained_of_desk goes first desk e h links chosen)
added_of_desk goes first last desk e false h chosen (unlinked, is) = subst (λ (x : ChainView). IsOfDesk x desk) (sym is) h

pub added : ChosenLink → (old new : DeskView) (before : Kept) (round : ℕ) (first last : ChainView) (e : Entry) (gained : Bool) → DeskBids old new → IsClosed new.pass.lists → IsOfDesk first new → ChosenNext first new e
    → Adds first last e (Ok gained) → Settles old new before round first last (Ok gained)
added next old new before round first last e true goes closed h chosen (links, is) = (e, links, is)
added next old new before round first last e false goes closed h chosen (unlinked, is) = (is, λ setting told f c. unlinked (links_told next first new e closed h chosen setting (goes.told setting told)))

-- ---- what is said of the position behind the end

module _ (old new : DeskView) (chain : ChainView) (voters : List ℕ) (position : ℕ) (are : voters ≡ voters_behind (origin_of chain.setting) chain.members) (at : position ≡ length chain.members + 1) where
  pub said_some : (e : Entry) → IsDesk old → DeskBids old new → OnTold old (ChosenBy (votes_told new.pass.lists) voters position e) → ChosenNext chain new e
  said_some e desk goes says setting told =
      subst (λ (vs : List ℕ). ChosenBy (votes_told new.pass.lists) vs (length chain.members + 1) e) are
      (subst (λ (k : ℕ). ChosenBy (votes_told new.pass.lists) voters k e) at (says setting (told_back old new setting desk goes told)))

  pub said_none : OnTold old ((e : Entry) → ChosenBy (votes_told old.pass.lists) voters position e → ⊥)
      → OnTold old ((e : Entry) → ChosenBy (votes_told old.pass.lists) (voters_behind (origin_of chain.setting) chain.members) (length chain.members + 1) e → ⊥)
  said_none says setting told e c =
      says setting told e
      (subst (λ (k : ℕ). ChosenBy (votes_told old.pass.lists) voters k e) (sym at)
      (subst (λ (vs : List ℕ). ChosenBy (votes_told old.pass.lists) vs (length chain.members + 1) e) (sym are) c))

  pub unsettled : (before : Kept) (round : ℕ) (refusal : Refusal)
      → ((s : Bidding) → s.top ≡ before.round → length s.failed ≡ old.services → Proposed (intent_of None voters position) old new s round (Err refusal)) → IsUnsettled old new before round chain refusal
  unsettled before round refusal h s top wide =
      subst (λ (vs : List ℕ). Proposed (intent_of None vs (length chain.members + 1)) old new s round (Err refusal)) are
      (subst (λ (k : ℕ). Proposed (intent_of None voters k) old new s round (Err refusal)) at (h s top wide))

-- ---- what a settling proposal leaves

pub settled_leaves : (slack : ℕ) (old new : DeskView) (before after : Kept) (voters : List ℕ) (position : ℕ) (result : Result (Option Decided) Refusal) → Bids slack old new before after
    → ((s : Bidding) → s.top ≡ before.round → length s.failed ≡ old.services → Proposed (intent_of None voters position) old new s after.round result) → Catches slack old new before after
settled_leaves slack old new before after voters position result h proposed = record {
  effect = h.effect;
  history = h.history;
  truths = h.truths;
  kinds = λ deed is. inr (h.kinds deed is);
  kept_there = h.kept_there;
  stays_kept = h.stays_kept;
  state = h.state;
  ranges = h.ranges;
  round = h.round;
  runs = λ s top wide.
      let b = (proposed s top wide).bids in
      record { own = b.own; after = b.after; did = b.did; settle = λ k d l. ap (λ (i : Intent). i.want) (b.own_is k d l); top_is = b.top_is; services_is = b.services_is };
}

pub catches_looser : (old new : DeskView) (before after : Kept) → Catches 0 old new before after → Catches 1 old new before after
catches_looser old new before after h = record {
  effect = h.effect;
  history = h.history;
  truths = h.truths;
  kinds = h.kinds;
  kept_there = h.kept_there;
  stays_kept = h.stays_kept;
  state = λ told. let s = h.state told in (s.0, s.1, s.2, omega (arith, s.3));
  ranges = h.ranges;
  round = h.round;
  runs = h.runs;
}
