-- A bid goes on at a desk.
use Rattle.std.proofs.Common.{◌≡◌, ℕ, ◌+◌, ◌<◌, ◌≤◌, true, Option, Some, None, inl, inr, refl, sym, ap, ◌∙◌, subst, arith}
use Rattle.std.specs.Prelude.{Contains, IfSome}
use Rattle.ms_base.specs.declared.limits.TheConstants.{LAST_NUMBER}
use Rattle.ms_bid.specs.declared.act.Act.{Act}
use Rattle.ms_bid.specs.declared.act.Act.TheVariants.{Keep, Send, Look, Declare, End}
use Rattle.ms_bid.specs.declared.act.Answer.{Answer}
use Rattle.ms_bid.specs.declared.act.Answer.TheVariants.{Kept as KeptAnswer, Sent, Seen, Declared, Failed}
use Rattle.ms_core.specs.Views.{offers_told}
use Rattle.ms_record.specs.declared.ballot.Ballot.{Ballot}
use Rattle.ms_record.specs.declared.record.Record.TheVariants.{Accept}
use Rattle.ms_record.specs.declared.setting.Setting.{Setting}
use Rattle.ms_record.specs.Records.{IsBallot}
use Rattle.ms_local.specs.declared.kept.Kept.{Kept}
use Rattle.ms_record.specs.declared.key.Key.TheVariants.{State}
use Rattle.ms_local.specs.Desks.{AreWithin, DeskView, HasKeptRound, IsDesk, KnowsTold, MayKeepRound, round_of}
use Rattle.ms_local.specs.Keeping.{HasRanges, MayHaveState, state_in}
use Rattle.ms_local.specs.Outside.{KeeperView, KeptTexts, WhereTold}
use Rattle.ms_local.specs.Rules.{shown_round}
use Rattle.ms_propose.specs.declared.acts.Aim.{Aim}
use Rattle.ms_propose.specs.Acts.{Leaves, MayHaveKept, kept_round, with_round}
use Rattle.ms_propose.proofs.Composing.{StaysKept, kept_lower, round_is, stays_self}
use Rattle.ms_propose.specs.TrueBids.{IsNewest}
use Rattle.ms_local.specs.Truths.{IsStateAt}

-- ---- the state

pub may_keep : (desk : DeskView) (kept : Kept) (round : ℕ) → kept.round ≤ round → IsStateAt 0 desk kept → MayKeepRound desk round
may_keep desk kept round low h told = let s = h told in (s.0.round, round_is (desk.keep.texts State) s.0 s.1, omega (arith, low, s.3))

pub round_kept : (desk : DeskView) (kept : Kept) → WhereTold desk.keep.told (state_in desk.keep.texts ≡ Some kept) → HasKeptRound desk kept.round
round_kept desk kept h told = (kept.round, round_is (desk.keep.texts State) kept (h told), omega arith)

-- no offer of the client has a round above the kept one
pub newest_told : (desk : DeskView) (setting : Setting) (kept : Kept) (ballot : Ballot) → IsDesk desk → KnowsTold desk setting → IsStateAt 0 desk kept → ballot.client.0 ≡ desk.client → kept.round < ballot.round → IsNewest desk.pass.lists ballot
newest_told desk setting kept ballot h told state mine above k b e is =
    let t = h.telling setting told in
    let s = state t.texts in
    let bound : AreWithin (offers_told desk.pass.lists desk.client) s.0.round = subst (λ (o : Option ℕ). IfSome o (AreWithin (offers_told desk.pass.lists desk.client))) (round_is (desk.keep.texts State) s.0 s.1) t.rounds in
    let low = bound (Accept k b e) (subst (λ (who : ℕ). Contains (offers_told desk.pass.lists who) (Accept k b e)) mine is) in
    omega (arith, low, s.3, above)

same_keep : (old new : DeskView) → new.keep ≡ old.keep → (P : KeeperView → Type 0) → P old.keep → P new.keep
same_keep old new e P h = subst P (sym e) h

-- an answer does not lower the kept round, but where the round is kept
pub kept_rises : (round : ℕ) (act : Act) (answer : Answer) → ((r : ℕ) → act ≡ Keep r → ⊥) → round ≤ kept_round round act answer
kept_rises round (Keep r) answer other = absurd (other r refl)
kept_rises round (Look s) (Seen sight) other = omega arith
kept_rises round (Look s) KeptAnswer other = omega arith
kept_rises round (Look s) Sent other = omega arith
kept_rises round (Look s) Declared other = omega arith
kept_rises round (Look s) Failed other = omega arith
kept_rises round (Send s m) answer other = omega arith
kept_rises round (Declare o) answer other = omega arith
kept_rises round (End o) answer other = omega arith

-- acts but the keeping leave the keeper as it was
pub keeper_stays : (aim : Aim) (act : Act) (answer : Answer) (old new : DeskView) (kept : Kept) → ((r : ℕ) → act ≡ Keep r → ⊥) → Leaves aim act answer old new kept → new.keep ≡ old.keep
keeper_stays aim (Keep r) answer old new kept other l = absurd (other r refl)
keeper_stays aim (Send s m) Sent old new kept other l = l.1
keeper_stays aim (Send s m) Failed old new kept other l = l.1
keeper_stays aim (Look s) (Seen x) old new kept other l = l.1
keeper_stays aim (Look s) Failed old new kept other l = l.1
keeper_stays aim (Declare o) Declared old new kept other l = l.1
keeper_stays aim act answer old new kept other l = absurd l

state_higher : (slack : ℕ) (old new : DeskView) (before : Kept) (round : ℕ) → before.round ≤ round → new.keep ≡ old.keep → IsStateAt slack old before → IsStateAt slack new (with_round before round)
state_higher slack old new before round up same h told =
    let s = h (ap (λ (k : KeeperView). k.told) (sym same) ∙ told) in
    (s.0, ap (λ (k : KeeperView). state_in k.texts) same ∙ s.1, ap (λ (k : Kept). with_round k round) s.2, omega (arith, s.3, up))

pub state_on : (aim : Aim) (act : Act) (answer : Answer) (old new : DeskView) (before after : Kept) → ((r : ℕ) → act ≡ Keep r → ⊥) → after ≡ with_round before (kept_round before.round act answer) → Leaves aim act answer old new after
    → IsStateAt 0 old before → IsStateAt 0 new after
state_on aim act answer old new before after other is l h =
    subst (λ (k : Kept). IsStateAt 0 new k) (sym is) (state_higher 0 old new before (kept_round before.round act answer) (kept_rises before.round act answer other) (keeper_stays aim act answer old new after other l) h)

-- a keeping that failed or found no memory
pub state_failed : (old new : DeskView) (kept : Kept) → new.keep.told ≡ old.keep.told → WhereTold old.keep.told (MayHaveState (with_round kept (kept.round + 1)) old.keep.texts new.keep.texts) → IsStateAt 0 old kept → IsStateAt 1 new kept
state_failed old new kept same may h told = by (may (sym same ∙ told)) where
  by : MayHaveState (with_round kept (kept.round + 1)) old.keep.texts new.keep.texts → (had : Kept) × (state_in new.keep.texts ≡ Some had) × (kept ≡ record had { round = kept.round }) × (had.round ≤ kept.round + 1)
  by (inl stays) = let s = h (sym same ∙ told) in (s.0, ap state_in stays ∙ s.1, s.2, omega (arith, s.3))
  by (inr is) = (with_round kept (kept.round + 1), is.state, refl, omega arith)

-- the keeper's round is at most the state's
pub round_low : (slack : ℕ) (desk : DeskView) (kept : Kept) (r : ℕ) → desk.keep.told ≡ true → IsStateAt slack desk kept → round_of (desk.keep.texts State) ≡ Some r → r ≤ kept.round + slack
round_low slack desk kept r told h is =
    let s = h told in
    let same : r ≡ s.0.round = (let q : Some r ≡ Some s.0.round = sym is ∙ round_is (desk.keep.texts State) s.0 s.1 in cc) in
    omega (arith, same, s.3)

-- what was kept before the keeping that failed stays kept
pub stays_failed : (old new : DeskView) (kept : Kept) → new.keep.told ≡ old.keep.told → WhereTold old.keep.told (MayHaveState (with_round kept (kept.round + 1)) old.keep.texts new.keep.texts) → IsStateAt 0 old kept → StaysKept old new
stays_failed old new kept same may h told r is = by (may told) where
  low : r ≤ kept.round
  low = let l = round_low 0 old kept r told h is in omega (arith, l)

  by : MayHaveState (with_round kept (kept.round + 1)) old.keep.texts new.keep.texts → HasKeptRound new r
  by (inl stays) there = (r, ap (λ (t : KeptTexts). round_of (t State)) stays ∙ is, omega arith)
  by (inr has) there = (kept.round + 1, round_is (new.keep.texts State) (with_round kept (kept.round + 1)) has.state, omega (arith, low))

pub stays_halts : (act : Act) (old new : DeskView) (kept : Kept) → ((r : ℕ) → act ≡ Keep r → r ≡ kept.round + 1) → new.keep.told ≡ old.keep.told → MayHaveKept act old new kept → IsStateAt 0 old kept → StaysKept old new
stays_halts (Keep r) old new kept next same may h = stays_failed old new kept same (subst (λ (k : ℕ). WhereTold old.keep.told (MayHaveState (with_round kept k) old.keep.texts new.keep.texts)) (next r refl) may) h
stays_halts (Send s m) old new kept next same may h = stays_self old new may
stays_halts (Look s) old new kept next same may h = stays_self old new may
stays_halts (Declare o) old new kept next same may h = stays_self old new may
stays_halts (End o) old new kept next same may h = stays_self old new may

-- a greater round was kept
pub stays_above : (old new : DeskView) (kept : Kept) (round : ℕ) → kept.round ≤ round → IsStateAt 0 old kept → HasKeptRound new round → StaysKept old new
stays_above old new kept round low h there told r is = kept_lower new r round (let l = round_low 0 old kept r told h is in omega (arith, l, low)) there

pub state_wider : (desk : DeskView) (kept : Kept) → IsStateAt 0 desk kept → IsStateAt 1 desk kept
state_wider desk kept h told = let s = h told in (s.0, s.1, s.2, omega (arith, s.3))

state_slack : (old new : DeskView) (kept : Kept) → new.keep ≡ old.keep → IsStateAt 0 old kept → IsStateAt 1 new kept
state_slack old new kept same h = state_higher 1 old new kept kept.round (omega arith) same (state_wider old kept h)

pub state_halts : (act : Act) (old new : DeskView) (kept : Kept) → ((r : ℕ) → act ≡ Keep r → r ≡ kept.round + 1) → new.keep.told ≡ old.keep.told → MayHaveKept act old new kept → IsStateAt 0 old kept → IsStateAt 1 new kept
state_halts (Keep r) old new kept next same may h = state_failed old new kept same (subst (λ (k : ℕ). WhereTold old.keep.told (MayHaveState (with_round kept k) old.keep.texts new.keep.texts)) (next r refl) may) h
state_halts (Send s m) old new kept next same may h = state_slack old new kept may h
state_halts (Look s) old new kept next same may h = state_slack old new kept may h
state_halts (Declare o) old new kept next same may h = state_slack old new kept may h
state_halts (End o) old new kept next same may h = state_slack old new kept may h

pub kept_stays : (round : ℕ) (old new : DeskView) → new.keep ≡ old.keep → HasKeptRound old round → HasKeptRound new round
kept_stays round old new same h = subst (λ (k : KeeperView). WhereTold k.told ((kept : ℕ) × (round_of (k.texts State) ≡ Some kept) × (round ≤ kept))) (sym same) h

-- ---- ranges

top_within : (top : Option Ballot) → IfSome top IsBallot → shown_round top ≤ LAST_NUMBER
top_within None h = omega arith
top_within (Some b) h = h.last_round

round_within : (aim : Aim) (act : Act) (answer : Answer) (old new : DeskView) (kept : Kept) (round : ℕ) → ((r : ℕ) → act ≡ Keep r → ⊥) → Leaves aim act answer old new kept → round ≤ LAST_NUMBER → kept_round round act answer ≤ LAST_NUMBER
round_within aim (Keep r) answer old new kept round other l h = absurd (other r refl)
round_within aim (Look s) (Seen x) old new kept round other l h = omega (arith, h, top_within x.top l.2.top)
round_within aim (Look s) Failed old new kept round other l h = h
round_within aim (Send s m) Sent old new kept round other l h = h
round_within aim (Send s m) Failed old new kept round other l h = h
round_within aim (Declare o) Declared old new kept round other l h = h
round_within aim act answer old new kept round other l h = absurd l

pub ranges_round : (kept : Kept) (round : ℕ) → round ≤ LAST_NUMBER → HasRanges kept → HasRanges (with_round kept round)
ranges_round kept round low h = record { round = low; number = h.number; position = h.position; target = h.target }

pub ranges_on : (aim : Aim) (act : Act) (answer : Answer) (old new : DeskView) (before after : Kept) → ((r : ℕ) → act ≡ Keep r → ⊥) → after ≡ with_round before (kept_round before.round act answer) → Leaves aim act answer old new after
    → HasRanges before → HasRanges after
ranges_on aim act answer old new before after other is l h =
    subst HasRanges (sym is) (ranges_round before (kept_round before.round act answer) (round_within aim act answer old new after before.round other l h.round) h)
