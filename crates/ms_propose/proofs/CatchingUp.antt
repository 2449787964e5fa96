-- Readings of lists and settling bids, one after another.
use Rattle.std.proofs.Common.{◌≡◌, ℕ, ◌+◌, ◌<◌, ◌≤◌, ◌-◌, ◌⊎◌, Err, true, false, List, [], ◌∷◌, ◌++◌, Option, Some, None, inl, inr, refl, sym, ap, ◌∙◌, subst, length, length-append, arith}
use Rattle.std.specs.Prelude.{Contains, IfSome}
use Rattle.std.proofs.lemmas.List.{append-nil}
use Rattle.std.proofs.lemmas.List.Elements.{All-append, Contains-append_cases}
use Rattle.ms_base.specs.Places.{contains_at, in_here, in_later}
use Rattle.ms_base.specs.declared.limits.TheConstants.{GREATEST_NUMBER, LAST_NUMBER}
use Rattle.ms_record.specs.declared.refusal.Refusal.{Refusal}
use Rattle.ms_record.specs.declared.refusal.Refusal.TheVariants as refusals
use Rattle.ms_core.specs.Views.{owner_of_client}
use Rattle.ms_ken.specs.Lists.{list_at}
use Rattle.ms_ken.specs.Prefixes.{prefix_item, prefix_length, prefix_self, prefix_trans}
use Rattle.ms_record.specs.declared.entry.Entry.{Entry}
use Rattle.ms_record.specs.declared.item.Item.{Item}
use Rattle.ms_record.specs.declared.setting.Setting.{Setting}
use Rattle.ms_local.specs.declared.deed.Deed.{Deed}
use Rattle.ms_local.specs.declared.deed.Deed.TheVariants.{Listed}
use Rattle.ms_local.specs.declared.kept.Kept.{Kept}
use Rattle.ms_local.specs.Desks.{DeskView, HasFault, HasKeptRound, IsDesk, KnowsTold}
use Rattle.ms_local.specs.Keeping.{HasRanges, state_in}
use Rattle.ms_local.specs.Learning.{ChainGrows, ChainView, DeskLearns, IsListing, ReadsSome, StartsOn, texts_read}
use Rattle.ms_local.specs.Outside.{KeeperView, WhereTold}
use Rattle.ms_local.specs.Rules.{Bidding, Did, Intent, Run, Step}
use Rattle.ms_local.specs.Running.{did_nothing, did_on}
use Rattle.ms_local.specs.Truths.{IsStateAt, IsTrueDeed, TrueLooks, last_kept, offers_of}
use Rattle.ms_propose.specs.Acts.{with_round}
use Rattle.ms_propose.specs.Catching.{Catches, ChainGoesOn, IsCatchingDeed, IsRefused, Settles}
use Rattle.ms_propose.specs.Going.{DeskBids, KeepsObjects}
use Rattle.ms_propose.specs.Proposing.{slack_after}
use Rattle.ms_propose.proofs.Composing.{bids_client, bids_on, bids_self, bids_services, history_on, history_self, keeps_self, kept_there_on, kept_there_self, stays_on, stays_self, truths_on, truths_self}

-- ---- chains

pub chain_self : (chain : ChainView) → ChainGoesOn chain chain
chain_self chain = record { setting = refl; members = prefix_self chain.members; lists = λ s. prefix_self (texts_read chain s) }

pub chain_on : (a b c : ChainView) → ChainGoesOn a b → ChainGoesOn b c → ChainGoesOn a c
chain_on a b c h k = record {
  setting = k.setting ∙ h.setting;
  members = prefix_trans a.members b.members c.members h.members k.members;
  lists = λ s. prefix_trans (texts_read a s) (texts_read b s) (texts_read c s) (h.lists s) (k.lists s);
}

pub chain_learns : (a b : ChainView) → ChainGrows a b → ChainGoesOn a b
chain_learns a b h = record { setting = h.setting; members = h.members; lists = h.lists }

pub chain_gains : (a b : ChainView) (e : Entry) → b ≡ record a { members = a.members ++ e ∷ [] } → ChainGoesOn a b
chain_gains a b e is = subst (λ (x : ChainView). ChainGoesOn a x) (sym is) (record { setting = refl; members = prefix_item a.members e; lists = λ s. prefix_self (texts_read a s) })

-- ---- readings

listing_of : (old new : ChainView) (a b : DeskView) (s : ℕ) (deed : Deed) → StartsOn old new a b s deed → IsListing deed
listing_of old new a b s (Listed service list from count ok) h = h.1
listing_of old new a b s deed h = absurd h

listing_true : (old new : ChainView) (a b : DeskView) (s : ℕ) (deed : Deed) → StartsOn old new a b s deed → IsTrueDeed a b deed
listing_true old new a b s (Listed service list from count true) h = tt
listing_true old new a b s (Listed service list from count false) h = (h.3.0, subst (HasFault a b) (sym h.0) h.3.2)
listing_true old new a b s deed h = absurd h

listing_step : (who : ℕ) (s : Bidding) (deed : Deed) → IsListing deed → Step who s [] deed s []
listing_step who s (Listed service list from count ok) h = (refl, tt, refl)
listing_step who s deed h = absurd h

run_listed : (who : ℕ) (s : Bidding) (deeds : List Deed) → ((deed : Deed) → Contains deeds deed → IsListing deed) → Run who s [] deeds s
run_listed who s [] h = (refl, refl)
run_listed who s (d ∷ deeds) h = (s, [], listing_step who s d (h d (in_here d deeds)), run_listed who s deeds (λ x is. h x (in_later d deeds x is)))

looks_listed : (a b : DeskView) (position round : ℕ) (deeds : List Deed) → ((deed : Deed) → Contains deeds deed → IsListing deed) → TrueLooks a b position round deeds
looks_listed a b position round [] h = tt
looks_listed a b position round (Listed service list from count ok ∷ deeds) h = looks_listed a b position round deeds (λ x is. h x (in_later (Listed service list from count ok) deeds x is))
looks_listed a b position round (d ∷ deeds) h = absurd (h d (in_here d deeds))

offers_listed : (deeds : List Deed) → ((deed : Deed) → Contains deeds deed → IsListing deed) → offers_of deeds ≡ []
offers_listed [] h = refl
offers_listed (Listed service list from count ok ∷ deeds) h = offers_listed deeds (λ x is. h x (in_later (Listed service list from count ok) deeds x is))
offers_listed (d ∷ deeds) h = absurd (h d (in_here d deeds))

kept_listed : (r : ℕ) (deeds : List Deed) → ((deed : Deed) → Contains deeds deed → IsListing deed) → last_kept r deeds ≡ r
kept_listed r [] h = refl
kept_listed r (Listed service list from count ok ∷ deeds) h = kept_listed r deeds (λ x is. h x (in_later (Listed service list from count ok) deeds x is))
kept_listed r (d ∷ deeds) h = absurd (h d (in_here d deeds))

module _ (old new : ChainView) (a b : DeskView) (learns : DeskLearns a b) (reads : ReadsSome old new a b) (told : (setting : Setting) → KnowsTold a setting → KnowsTold b setting) where
  keep_same : b.keep ≡ a.keep
  keep_same = ap (λ (d : DeskView). d.keep) learns.same

  pub learns_go : DeskBids a b
  learns_go = record {
    same = λ i. record {
      client = (ap (λ (d : DeskView). d.client) learns.same) i;
      board = (ap (λ (d : DeskView). d.board) learns.same) i;
      pass = b.pass;
      work = (ap (λ (d : DeskView). d.work) learns.same) i;
      keep = b.keep;
      lanes = b.lanes;
      services = (ap (λ (d : DeskView). d.services) learns.same) i;
      deeds = b.deeds;
    };
    board = learns.pass.board;
    word = learns.pass.word;
    more = learns.pass.more;
    told = told;
    lanes = learns.lanes;
    keep = subst (λ (k : KeeperView). KeepsObjects a.keep k) (sym keep_same) (keeps_self a.keep);
  }

  are_listings : (deed : Deed) → Contains reads.more deed → IsListing deed
  are_listings deed is = let p = contains_at reads.more deed is in listing_of old new a b p.0 deed (reads.each p.0 deed p.1)

  own_same : IsDesk a → list_at b.pass.lists (owner_of_client a.client) ≡ list_at a.pass.lists (owner_of_client a.client)
  own_same desk = subst (λ (o : Option ℕ). IfSome o (λ (k : ℕ). list_at b.pass.lists k ≡ list_at a.pass.lists k)) desk.word learns.pass.own

  state_same : (kept : Kept) → IsStateAt 0 a kept → IsStateAt 0 b kept
  state_same kept h = subst (λ (k : KeeperView). WhereTold k.told ((had : Kept) × (state_in k.texts ≡ Some had) × (kept ≡ record had { round = kept.round }) × (had.round ≤ kept.round + 0))) (sym keep_same) h

  -- a reading of the lists
  pub learns_catch : (kept : Kept) → IsDesk a → IsStateAt 0 a kept → HasRanges kept → Catches 0 a b kept kept
  learns_catch kept desk state ranges = record {
    effect = learns_go;
    history = record {
      deeds = reads.more;
      grows = reads.deeds;
      own = own_same desk ∙ (sym (append-nil (list_at a.pass.lists (owner_of_client a.client))) ∙ ap (λ (xs : List Item). list_at a.pass.lists (owner_of_client a.client) ++ xs) (sym (offers_listed reads.more are_listings)));
    };
    truths = record {
      deeds = reads.more;
      grows = reads.deeds;
      each = λ deed is. let p = contains_at reads.more deed is in listing_true old new a b p.0 deed (reads.each p.0 deed p.1);
      looks = λ position round. looks_listed a b position round reads.more are_listings;
    };
    kinds = λ deed is. inl (are_listings deed is);
    kept_there = subst (HasKeptRound b) (sym (kept_listed 0 reads.more are_listings)) (kept_there_self 0 b kept (state_same kept state));
    stays_kept = stays_self a b keep_same;
    state = state_same kept state;
    ranges = ranges;
    round = refl;
    runs = λ s top wide. record {
      own = [];
      after = s;
      did = record { deeds = reads.more; grows = reads.deeds; run = run_listed a.client s reads.more are_listings };
      settle = λ k d l. absurd (omega (arith, l));
      top_is = top;
      services_is = wide;
    };
  }

-- ---- one after another

pub catches_self : (desk : DeskView) (kept : Kept) → IsStateAt 0 desk kept → HasRanges kept → Catches 0 desk desk kept kept
unfolding truths_self
catches_self desk kept state ranges = record {
  effect = bids_self desk;
  history = history_self desk desk refl refl;
  truths = truths_self desk desk refl;
  kinds = λ deed is. absurd (omega (arith, is.1));
  kept_there = kept_there_self 0 desk kept state;
  stays_kept = stays_self desk desk refl;
  state = state;
  ranges = ranges;
  round = refl;
  runs = λ s top wide. record { own = []; after = s; did = did_nothing desk.client desk.deeds s; settle = λ k d l. absurd (omega (arith, l)); top_is = top; services_is = wide };
}

catching_on : (xs ys : List Deed) → ((deed : Deed) → Contains xs deed → IsCatchingDeed deed) → ((deed : Deed) → Contains ys deed → IsCatchingDeed deed) → (deed : Deed) → Contains (xs ++ ys) deed → IsCatchingDeed deed
catching_on xs ys h k deed is = elim (Contains-append_cases xs ys deed is) [ inl x ↦ h deed x | inr y ↦ k deed y ]

pub catches_on : (slack : ℕ) (a b c : DeskView) (before mid after : Kept) → Catches 0 a b before mid → Catches slack b c mid after → Catches slack a c before after
unfolding truths_on
catches_on slack a b c before mid after h k = record {
  effect = bids_on a b c h.effect k.effect;
  history = history_on a b c (bids_client a b h.effect) h.history k.history;
  truths = truths_on a b c h.effect k.effect h.truths k.truths;
  kinds = catching_on h.truths.deeds k.truths.deeds h.kinds k.kinds;
  kept_there = kept_there_on b c h.truths.deeds k.truths.deeds k.effect.keep.told k.stays_kept h.kept_there k.kept_there;
  stays_kept = stays_on a b c k.effect.keep.told h.stays_kept k.stays_kept;
  state = k.state;
  ranges = k.ranges;
  round = k.round ∙ ap (λ (x : Kept). with_round x after.round) h.round;
  runs = λ s top wide.
      let x = h.runs s top wide in
      let y = k.runs x.after x.top_is (x.services_is ∙ sym (bids_services a b h.effect)) in
      record {
        own = x.own ++ y.own;
        after = y.after;
        did = did_on a.client a.deeds b.deeds c.deeds s x.after y.after x.own y.own x.did (subst (λ (who : ℕ). Did who b.deeds c.deeds x.after y.own y.after) (bids_client a b h.effect) y.did);
        settle = All-append (λ (i : Intent). i.want ≡ None) x.own y.own x.settle y.settle;
        top_is = y.top_is;
        services_is = y.services_is ∙ bids_services a b h.effect;
      };
}

-- the lists were read once more
pub learnt_on : (old new : ChainView) (first a b : DeskView) → DeskLearns a b → ReadsSome old new a b → ((setting : Setting) → KnowsTold a setting → KnowsTold b setting) → (before kept : Kept) → IsDesk a → Catches 0 first a before kept → Catches 0 first b before kept
learnt_on old new first a b learns reads told before kept desk h = catches_on 0 first a b before kept kept h (learns_catch old new a b learns reads told kept desk h.state h.ranges)

pub catches_looser_by : (refusal : Refusal) (a b : DeskView) (before after : Kept) → Catches 0 a b before after → Catches (slack_after refusal) a b before after
catches_looser_by refusal a b before after h = record {
  effect = h.effect;
  history = h.history;
  truths = h.truths;
  kinds = h.kinds;
  kept_there = h.kept_there;
  stays_kept = h.stays_kept;
  state = λ told. let s = h.state told in (s.0, s.1, s.2, omega (arith, s.3));
  ranges = h.ranges;
  round = h.round;
  runs = h.runs;
}

pub chain_stays : (a b : ChainView) → b ≡ a → ChainGoesOn a b
chain_stays a b is = subst (λ (x : ChainView). ChainGoesOn a x) (sym is) (chain_self a)

pub refused_by : (first a b : DeskView) (before kept : Kept) (old chain last : ChainView) (round : ℕ) (refusal : Refusal) → Catches 0 first a before kept → ChainGoesOn old chain → Settles a b kept round chain last (Err refusal)
    → (refusal ≡ refusals.NoMemory) ⊎ IsRefused first b before old last round refusal
refused_by first a b before kept old chain last round refusal h grows (same, why) = elim why [
  | inl none ↦ inl none
  | inr unsettled ↦ inr (record { desk = a; kept = kept; chain = chain; goes = h; grows = grows; why = inr (same, unsettled) })
]

-- the chain is longer than before
pub shorter_by : (a b c : ChainView) → ChainGrows a b → (e : Entry) → c ≡ record b { members = b.members ++ e ∷ [] } → length b.members ≤ LAST_NUMBER → GREATEST_NUMBER - length c.members < GREATEST_NUMBER - length a.members
shorter_by a b c grows e is room =
    omega (arith, prefix_length a.members b.members grows.members, ap (λ (x : ChainView). length x.members) is ∙ length-append b.members (e ∷ []), room)
