-- What one act adds: its deed is true, the own list goes on by it, and the bid stays true.
use Rattle.std.proofs.Common.{◌≡◌, ℕ, zero, suc, cond, ◌<◌, Bool, true, false, List, [], ◌∷◌, ◌++◌, Option, Some, None, inl, inr, refl, sym, ap, ◌∙◌, subst, length, append_assoc, arith, slice_set}
use Rattle.std.specs.Prelude.{Contains, IfSome}
use Rattle.std.proofs.lemmas.List.{append-nil}
use Rattle.std.proofs.lemmas.List.Elements.{Contains-append_cases}
use Rattle.ms_bid.specs.declared.act.Act.{Act}
use Rattle.ms_bid.specs.declared.act.Act.TheVariants.{Keep, Send, Look, Declare}
use Rattle.ms_bid.specs.declared.act.Answer.{Answer}
use Rattle.ms_bid.specs.declared.act.Answer.TheVariants.{Kept as KeptAnswer, Sent, Seen, Declared, Failed}
use Rattle.ms_bid.specs.declared.bid.Bid.{Bid}
use Rattle.ms_bid.specs.Bids.{IsBid, IsOfBest, IsPending, message_of, noted, with_sight}
use Rattle.ms_bid.specs.Shown.{sight_at, shown_best, GreatestUpTo}
use Rattle.ms_core.specs.Views.{View, offers_told, owner_of_client, votes_told}
use Rattle.ms_ken.specs.Known.{Known}
use Rattle.ms_ken.specs.Lists.{list_at, Begins, with_item, with_told}
use Rattle.ms_ken.specs.Prefixes.{prefix_trans}
use Rattle.ms_ken.specs.Rows.{item_here}
use Rattle.ms_link.specs.Links.{Learns as PassLearns}
use Rattle.ms_record.specs.declared.ballot.Ballot.{Ballot}
use Rattle.ms_record.specs.declared.ballot.Vote.{Vote}
use Rattle.ms_record.specs.declared.entry.Entry.{Entry}
use Rattle.ms_record.specs.declared.item.Item.{Item}
use Rattle.ms_record.specs.declared.item.Item.TheVariants.{Offer}
use Rattle.ms_record.specs.declared.record.Record.{Record}
use Rattle.ms_record.specs.declared.record.Record.TheVariants.{Prepare, Accept}
use Rattle.ms_record.specs.declared.setting.Setting.{Setting}
use Rattle.ms_record.specs.declared.sight.Sight.{Sight}
use Rattle.ms_record.specs.Entries.{IsEntry}
use Rattle.ms_record.specs.Items.{offers_of_items}
use Rattle.ms_record.specs.Records.{IsBallot, IsRecord, record_text}
use Rattle.ms_record.specs.Reading.{record_at}
use Rattle.ms_local.specs.declared.deed.Deed.{Deed}
use Rattle.ms_local.specs.declared.deed.Deed.TheVariants.{Kept as KeptDeed, Appended, Looked, Declared as DeclaredDeed}
use Rattle.ms_local.specs.declared.deed.Message.TheVariants.{Vote as VoteText}
use Rattle.ms_local.specs.declared.kept.Kept.{Kept}
use Rattle.ms_local.specs.Desks.{DeskView, HasKeptRound, KnowsTold}
use Rattle.ms_local.specs.Keeping.{HasRanges}
use Rattle.ms_propose.specs.declared.acts.Aim.{Aim}
use Rattle.ms_propose.specs.Acts.{Leaves, deed_of, with_round}
use Rattle.ms_propose.proofs.Composing.{StaysKept, bids_self, deed_wider, sight_on, votes_begin}
use Rattle.ms_propose.specs.Going.{DeskBids}
use Rattle.ms_propose.specs.Leaving.{Bids, IsBidDeed}
use Rattle.ms_local.specs.Desks.{OnTold}
use Rattle.ms_replay.specs.Looks.{IsInRange}
use Rattle.ms_propose.specs.TrueBids.{HasEntries, IsTrueBid}
use Rattle.ms_local.specs.Truths.{IsStateAt, IsTrueDeed, IsTrueSight, OwnHistory, TrueDeeds, TrueLooks, ballot_at, last_kept, offers_of}
use Rattle.ms_propose.proofs.Growing.{learnt, prefix_contains, sent_there, sight_set, true_declared, true_failed, true_seen, true_sent}

-- ---- the own list

pub own_list : (old new : Known Item) (client : ℕ) → old.word ≡ Some (owner_of_client client) → PassLearns old new → list_at new.lists (owner_of_client client) ≡ list_at old.lists (owner_of_client client)
own_list old new client word l =
    let own : IfSome (Some (owner_of_client client)) (λ k. list_at new.lists k ≡ list_at old.lists k) = subst (λ (o : Option ℕ). IfSome o (λ k. list_at new.lists k ≡ list_at old.lists k)) word l.own in own

module _ (old new : DeskView) (word : old.pass.word ≡ Some (owner_of_client old.client)) (room : owner_of_client old.client < length old.pass.lists) where
  quiet : (deed : Deed) → new.deeds ≡ old.deeds ++ deed ∷ [] → offers_of (deed ∷ []) ≡ [] → PassLearns old.pass new.pass → OwnHistory old new
  quiet deed is none l = record {
    deeds = deed ∷ [];
    grows = is;
    own = own_list old.pass new.pass old.client word l ∙ (sym (append-nil (list_at old.pass.lists (owner_of_client old.client))) ∙ ap (λ (xs : List Item). list_at old.pass.lists (owner_of_client old.client) ++ xs) (sym none));
  }

  pub history_step : (aim : Aim) (act : Act) (answer : Answer) (kept : Kept) → new.deeds ≡ old.deeds ++ deed_of act answer ∷ [] → Leaves aim act answer old new kept → ((r : ℕ) → act ≡ Keep r → ⊥) → OwnHistory old new
  history_step aim (Keep r) answer kept is l other = absurd (other r refl)
  history_step aim (Send s m) Sent kept is l other = quiet (deed_of (Send s m) Sent) is refl l.0
  history_step aim (Send s m) Failed kept is l other = quiet (deed_of (Send s m) Failed) is refl l.0
  history_step aim (Look s) (Seen x) kept is l other = quiet (deed_of (Look s) (Seen x)) is refl l.0
  history_step aim (Look s) Failed kept is l other = quiet (deed_of (Look s) Failed) is refl l.0
  history_step aim (Declare offer) Declared kept is l other = record {
    deeds = DeclaredDeed offer ∷ [];
    grows = is;
    own =
        let lists_are : new.pass.lists ≡ with_item old.pass.lists (owner_of_client old.client) (Offer offer) = ap (λ (k : Known Item). k.lists) l.0 ∙ ap (λ (o : Option ℕ). with_told old.pass.lists o (Offer offer)) word in
        ap (λ (v : View). list_at v (owner_of_client old.client)) lists_are ∙ item_here old.pass.lists (owner_of_client old.client) (Offer offer) room;
  }
  history_step aim act answer kept is l other = absurd l

-- ---- deeds that are true

-- a deed behind the keeping of the round: a Prepare is for the position, and a look with ok is true of the bid
abbrev pub IsLookOf : DeskView → DeskView → Aim → Deed → Type 0
IsLookOf old new aim (KeptDeed round ok) = ⊥
IsLookOf old new aim (Appended service list (VoteText (Prepare k b)) ok) = k ≡ aim.position
IsLookOf old new aim (Looked service sight true) = OnTold old (IsTrueSight old.pass.lists new.pass.lists aim.position aim.ballot service.0 sight)
IsLookOf old new aim deed = Unit {0}

pub record BidTruths (old now : DeskView) (aim : Aim) : Type 0 where
  pub rest : List Deed
  pub grows : now.deeds ≡ old.deeds ++ KeptDeed aim.ballot.round true ∷ rest
  pub each : (deed : Deed) → Contains rest deed → IsTrueDeed old now deed × IsLookOf old now aim deed × IsBidDeed deed

look_wider : (a b c d : DeskView) (aim : Aim) → DeskBids a b → DeskBids c d → (deed : Deed) → IsLookOf b c aim deed → IsLookOf a d aim deed
look_wider a b c d aim h k (KeptDeed round ok) t = absurd t
look_wider a b c d aim h k (Appended service list (VoteText (Prepare p x)) ok) t = t
look_wider a b c d aim h k (Looked service sight true) t = λ setting told.
    sight_on b.pass.lists a.pass.lists c.pass.lists d.pass.lists h.more k.more aim.position aim.ballot service.0 sight (t setting (h.told setting told))
look_wider a b c d aim h k deed t = tt

deed_true : (aim : Aim) (act : Act) (answer : Answer) (old new : DeskView) (kept : Kept) → Leaves aim act answer old new kept → ((r : ℕ) → act ≡ Keep r → ⊥) → IsTrueDeed old new (deed_of act answer)
deed_true aim (Keep r) answer old new kept l other = absurd (other r refl)
deed_true aim (Send s m) Sent old new kept l other = l.2
deed_true aim (Send s m) Failed old new kept l other = l.2
deed_true aim (Look s) (Seen x) old new kept l other = tt
deed_true aim (Look s) Failed old new kept l other = (refl, l.2)
deed_true aim (Declare offer) Declared old new kept l other = tt
deed_true aim act answer old new kept l other = absurd l

deed_kind : (aim : Aim) (act : Act) (answer : Answer) (old new : DeskView) (kept : Kept) → Leaves aim act answer old new kept → ((r : ℕ) → act ≡ Keep r → ⊥) → IsBidDeed (deed_of act answer)
deed_kind aim (Keep r) answer old new kept l other = absurd (other r refl)
deed_kind aim (Send s m) Sent old new kept l other = refl
deed_kind aim (Send s m) Failed old new kept l other = refl
deed_kind aim (Look s) (Seen x) old new kept l other = tt
deed_kind aim (Look s) Failed old new kept l other = tt
deed_kind aim (Declare offer) Declared old new kept l other = tt
deed_kind aim act answer old new kept l other = absurd l

message_at : (k : ℕ) (b : Ballot) (offer : Option Entry) (p : ℕ) (x : Ballot) → Prepare p x ≡ message_of k b offer → p ≡ k
message_at k b None p x e = cc
message_at k b (Some f) p x e = absurd (cc e)

look_true : (aim : Aim) (b : Bid) (act : Act) (answer : Answer) (old new : DeskView) (kept : Kept) → b.position ≡ aim.position → IsPending b act → Leaves aim act answer old new kept → ((r : ℕ) → act ≡ Keep r → ⊥)
    → IsLookOf old new aim (deed_of act answer)
look_true aim b (Keep r) answer old new kept at p l other = absurd (other r refl)
look_true aim b (Send s (Prepare k c)) Sent old new kept at p l other = message_at b.position b.ballot b.offer k c p.1 ∙ at
look_true aim b (Send s (Prepare k c)) Failed old new kept at p l other = message_at b.position b.ballot b.offer k c p.1 ∙ at
look_true aim b (Send s (Accept k c e)) Sent old new kept at p l other = tt
look_true aim b (Send s (Accept k c e)) Failed old new kept at p l other = tt
look_true aim b (Look s) (Seen x) old new kept at p l other = l.3
look_true aim b (Look s) Failed old new kept at p l other = tt
look_true aim b (Declare offer) Declared old new kept at p l other = tt
look_true aim b act answer old new kept at p l other = absurd l

pub only : {X : Type 0} (x y : X) → Contains (x ∷ []) y → x ≡ y
only x y (zero, l, e) = e
only x y (suc k, l, e) = absurd (omega (arith, l))

pub truths_step : (aim : Aim) (b : Bid) (answer : Answer) (first old new : DeskView) (kept : Kept) → DeskBids first old → DeskBids old new → b.position ≡ aim.position → IsPending b b.act → new.deeds ≡ old.deeds ++ deed_of b.act answer ∷ []
    → Leaves aim b.act answer old new kept → ((r : ℕ) → b.act ≡ Keep r → ⊥) → BidTruths first old aim → BidTruths first new aim
truths_step aim b answer first old new kept h k at p is l other t = record {
  rest = t.rest ++ deed_of b.act answer ∷ [];
  grows = is ∙ (ap (λ (xs : List Deed). xs ++ deed_of b.act answer ∷ []) t.grows ∙ append_assoc first.deeds (KeptDeed aim.ballot.round true ∷ t.rest) (deed_of b.act answer ∷ []));
  each = λ deed c. elim (Contains-append_cases t.rest (deed_of b.act answer ∷ []) deed c) [
    | inl was ↦ (
        let e = t.each deed was in
        (deed_wider first first old new (bids_self first) k deed e.0, look_wider first first old new aim (bids_self first) k deed e.1, e.2)
        )
    | inr is_it ↦ subst (λ (d : Deed). IsTrueDeed first new d × IsLookOf first new aim d × IsBidDeed d) (only (deed_of b.act answer) deed is_it) (
      deed_wider first old new new h (bids_self new) (deed_of b.act answer) (deed_true aim b.act answer old new kept l other),
      look_wider first old new new aim h (bids_self new) (deed_of b.act answer) (look_true aim b b.act answer old new kept at p l other),
      deed_kind aim b.act answer old new kept l other,
    )
  ];
}

all_looks : (old new : DeskView) (aim : Aim) → aim.ballot ≡ ballot_at old.client aim.ballot.round → (deeds : List Deed) → ((deed : Deed) → Contains deeds deed → IsLookOf old new aim deed) → TrueLooks old new aim.position aim.ballot.round deeds
all_looks old new aim mine [] h = tt
all_looks old new aim mine (KeptDeed round ok ∷ deeds) h = absurd (h (KeptDeed round ok) (zero, omega arith, refl))
all_looks old new aim mine (Appended service list (VoteText (Prepare k b)) ok ∷ deeds) h = (
  h (Appended service list (VoteText (Prepare k b)) ok) (zero, omega arith, refl),
  all_looks old new aim mine deeds (λ d c. h d (suc c.0, omega (arith, c.1), c.2)),
)
all_looks old new aim mine (Looked service sight true ∷ deeds) h = (
  λ setting told. subst (λ (z : Ballot). IsTrueSight old.pass.lists new.pass.lists aim.position z service.0 sight) mine (h (Looked service sight true) (zero, omega arith, refl) setting told),
  all_looks old new aim mine deeds (λ d c. h d (suc c.0, omega (arith, c.1), c.2)),
)
all_looks old new aim mine (deed ∷ deeds) h = all_looks old new aim mine deeds (λ d c. h d (suc c.0, omega (arith, c.1), c.2))

-- the deeds of a bid are true
truths_all : (old new : DeskView) (aim : Aim) → aim.ballot ≡ ballot_at old.client aim.ballot.round → BidTruths old new aim → TrueDeeds old new
truths_all old new aim mine t = record {
  deeds = KeptDeed aim.ballot.round true ∷ t.rest;
  grows = t.grows;
  each = λ deed c. by deed c;
  looks = λ k r. (aim.position, all_looks old new aim mine t.rest (λ d c. (t.each d c).1));
} where
  by : (deed : Deed) → Contains (KeptDeed aim.ballot.round true ∷ t.rest) deed → IsTrueDeed old new deed
  by deed (zero, l, e) = subst (λ (d : Deed). IsTrueDeed old new d) e tt
  by deed (suc k, l, e) = (t.each deed (k, omega (arith, l), e)).0

kinds_all : (old new : DeskView) (aim : Aim) (t : BidTruths old new aim) (deed : Deed) → Contains (KeptDeed aim.ballot.round true ∷ t.rest) deed → IsBidDeed deed
kinds_all old new aim t deed (zero, l, e) = subst IsBidDeed e tt
kinds_all old new aim t deed (suc k, l, e) = (t.each deed (k, omega (arith, l), e)).2

-- the round of a bid is the last that its deeds kept
last_is : (old new : DeskView) (aim : Aim) (round : ℕ) (deeds : List Deed) → ((deed : Deed) → Contains deeds deed → IsLookOf old new aim deed) → last_kept round deeds ≡ round
last_is old new aim round [] h = refl
last_is old new aim round (KeptDeed next ok ∷ deeds) h = absurd (h (KeptDeed next ok) (zero, omega arith, refl))
last_is old new aim round (deed ∷ deeds) h = last_is old new aim round deeds (λ d c. h d (suc c.0, omega (arith, c.1), c.2))

-- what the deeds of a bid leave whose round was kept
pub bid_leaves : (old new : DeskView) (before after : Kept) (aim : Aim) → aim.ballot ≡ ballot_at old.client aim.ballot.round → DeskBids old new → OwnHistory old new → BidTruths old new aim → HasKeptRound new aim.ballot.round
    → StaysKept old new → IsStateAt 0 new after → HasRanges after → after ≡ with_round before after.round → Bids 0 old new before after
unfolding truths_all
bid_leaves old new before after aim mine goes history t there stays state ranges round = record {
  effect = goes;
  history = history;
  truths = truths_all old new aim mine t;
  kinds = kinds_all old new aim t;
  kept_there = subst (HasKeptRound new) (sym (last_is old new aim aim.ballot.round t.rest (λ d c. (t.each d c).1))) there;
  stays_kept = stays;
  state = state;
  ranges = ranges;
  round = round;
}

-- ---- ranges of entries

pub entries_on : (aim : Aim) (b : Bid) (act : Act) (answer : Answer) (next : Act) (old new : DeskView) (kept : Kept) → IsPending b act → Leaves aim act answer old new kept → HasEntries b → HasEntries (record (noted b act answer) { act = next })
entries_on aim b (Keep r) KeptAnswer next old new kept p l h = record { want = h.want; looks = h.looks; offer = h.offer }
entries_on aim b (Keep r) Failed next old new kept p l h = record { want = h.want; looks = h.looks; offer = h.offer }
entries_on aim b (Send s m) Sent next old new kept p l h = record { want = h.want; looks = h.looks; offer = h.offer }
entries_on aim b (Send s m) Failed next old new kept p l h = record { want = h.want; looks = h.looks; offer = h.offer }
entries_on aim b (Look s) Failed next old new kept p l h = record { want = h.want; looks = h.looks; offer = h.offer }
entries_on aim b (Look s) (Seen x) next old new kept p l h = by b.offer where
  set : (sights : List (Option Sight)) → ((j : ℕ) (y : Sight) → sight_at sights j ≡ Some y → IsInRange y) → (j : ℕ) (y : Sight) → sight_at (slice_set sights s.0 (Some x)) j ≡ Some y → IsInRange y
  set sights all j y e = elim (sight_set sights s.0 x j y e) [ inl q ↦ subst IsInRange q.1 l.2 | inr was ↦ all j y was ]

  by : (offer : Option Entry) → HasEntries (record (with_sight b offer s.0 x) { act = next })
  by None = record { want = h.want; looks = set b.first_looks h.looks; offer = h.offer }
  by (Some e) = record { want = h.want; looks = h.looks; offer = h.offer }
entries_on aim b (Declare (Accept k c e)) Declared next old new kept p l h = record { want = h.want; looks = h.looks; offer = λ f is. subst IsEntry (let q : e ≡ f = cc is in q) (offered p.3.best p.3.greatest p.3.entry_is) } where
  best_entry : (s : ℕ) (o : Option Sight) (v : Vote) → sight_at b.first_looks s ≡ o → shown_best o ≡ Some v → IsEntry v.entry
  best_entry s None v at e = absurd cc
  best_entry s (Some y) v at e = by y.promised y.best (h.looks s y at).best e where
    by : (t : Bool) (o : Option Vote) → IfSome o (λ vote. IsBallot vote.ballot × IsEntry vote.entry) → cond t o None ≡ Some v → IsEntry v.entry
    by false o r e = absurd cc
    by true None r e = absurd cc
    by true (Some w) r e = subst (λ (u : Vote). IsEntry u.entry) (let q : w ≡ v = cc e in q) r.1

  is_it : e ≡ p.1
  is_it = cc (p.2)

  offered : (best : Option Vote) → GreatestUpTo b.first_looks (length b.first_looks) best → IsOfBest best b.want p.1 → IsEntry e
  offered None g own = h.want e (own ∙ ap Some (sym is_it))
  offered (Some v) g own = subst IsEntry (sym (is_it ∙ own)) (best_entry g.service (sight_at b.first_looks g.service) v refl g.has)
entries_on aim b (Declare (Prepare k c)) Declared next old new kept p l h = record { want = h.want; looks = h.looks; offer = h.offer }
entries_on aim b act answer next old new kept p l h = absurd l

-- ---- where a setting is told

-- the bid stays true
pub true_on : (setting : Setting) (low : View) (aim : Aim) (old new : DeskView) (b : Bid) (answer : Answer) (next : Act) (kept : Kept) → KnowsTold old setting → old.pass.word ≡ Some (owner_of_client old.client) → owner_of_client old.client < length old.pass.lists
    → IsBid b → b.position ≡ aim.position → b.ballot ≡ aim.ballot → b.ballot.client.0 ≡ old.client → Begins low old.pass.lists → IsTrueBid setting low old.pass.lists b → Leaves aim b.act answer old new kept
    → ((m : Record) → IsRecord m → record_at (record_text m) ≡ Some m) → IsRecord (message_of b.position b.ballot b.offer) → ((r : ℕ) → b.act ≡ Keep r → ⊥) → IsTrueBid setting low new.pass.lists (record (noted b b.act answer) { act = next })
true_on setting low aim old new b answer next kept told word room whole at ball mine below h l again ranges other = go b.act whole.pending l other where
  same_own : PassLearns old.pass new.pass → offers_told new.pass.lists b.ballot.client.0 ≡ offers_told old.pass.lists b.ballot.client.0
  same_own learns = ap offers_of_items (own_list old.pass new.pass b.ballot.client.0 (word ∙ ap (λ (c : ℕ). Some (owner_of_client c)) (sym mine)) learns)

  grown : PassLearns old.pass new.pass → IsTrueBid setting low new.pass.lists b
  grown learns = learnt setting low old.pass.lists new.pass.lists learns.more b (same_own learns) h

  go : (act : Act) → IsPending b act → Leaves aim act answer old new kept → ((r : ℕ) → act ≡ Keep r → ⊥) → IsTrueBid setting low new.pass.lists (record (noted b act answer) { act = next })
  go act p l other = by act answer p l other where
    by : (act : Act) (answer : Answer) → IsPending b act → Leaves aim act answer old new kept → ((r : ℕ) → act ≡ Keep r → ⊥) → IsTrueBid setting low new.pass.lists (record (noted b act answer) { act = next })
    by (Keep r) x p l other = absurd (other r refl)
    by (Send s m) Sent p l other =
        let there : Contains (votes_told new.pass.lists s.0) m = sent_there new.pass.lists s.0 (record_text m) m (again m (subst IsRecord (sym p.1) ranges)) (l.2 setting told) in
        true_sent setting low new.pass.lists b.ballot b.position b.voters b.want b.act next b.sent b.failed b.first_looks b.second_looks b.offer s.0 p.3 (subst (λ (x : Record). Contains (votes_told new.pass.lists s.0) x) p.1 there) (grown l.0)
    by (Send s m) Failed p l other = true_failed setting low new.pass.lists b.ballot b.position b.voters b.want b.act next b.sent b.failed b.first_looks b.second_looks b.offer s.0 (grown l.0)
    by (Look s) Failed p l other = true_failed setting low new.pass.lists b.ballot b.position b.voters b.want b.act next b.sent b.failed b.first_looks b.second_looks b.offer s.0 (grown l.0)
    by (Look s) (Seen x) p l other =
        let t : IsTrueSight old.pass.lists new.pass.lists b.position b.ballot s.0 x =
        subst (λ (k : ℕ). IsTrueSight old.pass.lists new.pass.lists k b.ballot s.0 x) (sym at) (subst (λ (z : Ballot). IsTrueSight old.pass.lists new.pass.lists aim.position z s.0 x) (sym ball) (l.3 setting told)) in
        let wide : IsTrueSight low new.pass.lists b.position b.ballot s.0 x = record { list = t.list; low_begins = prefix_trans (votes_told low s.0) (votes_told old.pass.lists s.0) t.list (votes_begin low old.pass.lists below s.0) t.low_begins; begins = t.begins; seen = t.seen } in
        true_seen setting low new.pass.lists b.ballot b.position b.voters b.want b.act next b.sent b.failed b.first_looks b.second_looks b.offer s.0 x wide
        (λ sent. prefix_contains (votes_told old.pass.lists s.0) t.list (message_of b.position b.ballot b.offer) t.low_begins (h.sent s.0 sent)) (grown l.0)
    by (Declare (Accept k c e)) Declared p l other =
        let lists_are : new.pass.lists ≡ with_item old.pass.lists (owner_of_client old.client) (Offer (Accept k c e)) = ap (λ (z : Known Item). z.lists) l.0 ∙ ap (λ (o : Option ℕ). with_told old.pass.lists o (Offer (Accept k c e))) word in
        let is_it : Accept k c e ≡ Accept b.position b.ballot e = (let q : Accept k c e ≡ Accept b.position b.ballot p.1 = p.2 in cc) in
        subst (λ (v : View). IsTrueBid setting low v (record (noted b (Declare (Accept k c e)) Declared) { act = next })) (sym (lists_are ∙ ap (λ (r : Record). with_item old.pass.lists (owner_of_client old.client) (Offer r)) is_it))
        (true_declared setting low old.pass.lists b next old.client e room mine h)
    by (Declare (Prepare k c)) Declared p l other = absurd (cc (p.2))
    by act x p l other = absurd l
