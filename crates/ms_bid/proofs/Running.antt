-- A voter that failed stays so, and is not asked again.
use Rattle.std.proofs.Common.{◌≡◌, ℕ, ◌<◌, Bool, true, false, List, [], ◌∷◌, Option, Some, None, inl, inr, refl, sym, ap, ◌∙◌, subst, length, slice_set, arith}
use Rattle.std.proofs.lemmas.Bool.{cases_eq}
use Rattle.std.proofs.lemmas.List.{get_or-set_same, get_or-set_other}
use Rattle.ms_record.specs.declared.entry.Entry.{Entry}
use Rattle.ms_record.specs.declared.record.Record.TheVariants.{Prepare, Accept}
use Rattle.ms_bid.specs.declared.act.Act.{Act}
use Rattle.ms_bid.specs.declared.act.Act.TheVariants.{Keep, Send, Look, Declare, End}
use Rattle.ms_bid.specs.declared.act.Answer.{Answer}
use Rattle.ms_bid.specs.declared.act.Answer.TheVariants.{Kept, Sent, Seen, Declared, Failed}
use Rattle.ms_bid.specs.declared.bid.Bid.{Bid}
use Rattle.ms_record.specs.declared.sight.Sight.{Sight}
use Rattle.ms_bid.specs.Ends.{flag_at}
use Rattle.ms_bid.specs.Bids.{IsBid, IsPending, noted, with_sight}
use Rattle.ms_bid.specs.Steps.{Asks, Takes, Leads}

set_stays : (flags : List Bool) (t s : ℕ) → t < length flags → flag_at flags s ≡ true → flag_at (slice_set flags t true) s ≡ true
set_stays flags t s within h =
    elim (cases_eq s t) [
      | inl e ↦ ap (λ (n : ℕ). flag_at (slice_set flags t true) n) e ∙ get_or-set_same flags t true false within
      | inr n ↦ get_or-set_other flags t s true false n ∙ h
    ]

sight_keeps : (b : Bid) (offer : Option Entry) (t : ℕ) (sight : Sight) → (with_sight b offer t sight).failed ≡ b.failed
sight_keeps b None t sight = refl
sight_keeps b (Some e) t sight = refl

-- who is asked is a voter below the end of the flags, and did not fail
asked_within : (b : Bid) → IsBid b → (s : ℕ) → Asks b.act s → (s < length b.failed) × (flag_at b.failed s ≡ false)
asked_within b h s asks = go b.act h.pending asks where
  go : (a : Act) → IsPending b a → Asks a s → (s < length b.failed) × (flag_at b.failed s ≡ false)
  go (Keep round) p q = absurd q
  go (Send t message) p q = subst (λ (n : ℕ). (n < length b.failed) × (flag_at b.failed n ≡ false)) q (omega (arith, h.framed.below t.0 p.0.votes, h.framed.failed_many), p.0.free)
  go (Look t) p q = subst (λ (n : ℕ). (n < length b.failed) × (flag_at b.failed n ≡ false)) q (omega (arith, h.framed.below t.0 p.0.votes, h.framed.failed_many), p.0.free)
  go (Declare offer) p q = absurd q
  go (End outcome) p q = absurd q

-- no answer takes a mark of failure away
noted_stays : (b : Bid) → IsBid b → (answer : Answer) (s : ℕ) → flag_at b.failed s ≡ true → flag_at (noted b b.act answer).failed s ≡ true
noted_stays b h answer s f = go b.act h.pending answer where
  go : (a : Act) → IsPending b a → (x : Answer) → flag_at (noted b a x).failed s ≡ true
  go (Keep round) p x = f
  go (Send t message) p Sent = f
  go (Send t message) p Failed = set_stays b.failed t.0 s (omega (arith, h.framed.below t.0 p.0.votes, h.framed.failed_many)) f
  go (Send t message) p Kept = f
  go (Send t message) p (Seen sight) = f
  go (Send t message) p Declared = f
  go (Look t) p (Seen sight) = ap (λ (flags : List Bool). flag_at flags s) (sight_keeps b b.offer t.0 sight) ∙ f
  go (Look t) p Failed = set_stays b.failed t.0 s (omega (arith, h.framed.below t.0 p.0.votes, h.framed.failed_many)) f
  go (Look t) p Kept = f
  go (Look t) p Sent = f
  go (Look t) p Declared = f
  go (Declare (Accept k c e)) p Declared = f
  go (Declare (Prepare k c)) p Declared = f
  go (Declare offer) p Kept = f
  go (Declare offer) p Sent = f
  go (Declare offer) p (Seen sight) = f
  go (Declare offer) p Failed = f
  go (End outcome) p x = f

-- who is asked and fails is marked
noted_fails : (b : Bid) → IsBid b → (s : ℕ) → Asks b.act s → flag_at (noted b b.act Failed).failed s ≡ true
noted_fails b h s asks = go b.act (asked_within b h s asks).0 asks where
  go : (a : Act) → s < length b.failed → Asks a s → flag_at (noted b a Failed).failed s ≡ true
  go (Keep round) l q = absurd q
  go (Send t message) l q = subst (λ (n : ℕ). flag_at (slice_set b.failed n true) s ≡ true) (sym q) (get_or-set_same b.failed s true false l)
  go (Look t) l q = subst (λ (n : ℕ). flag_at (slice_set b.failed n true) s ≡ true) (sym q) (get_or-set_same b.failed s true false l)
  go (Declare offer) l q = absurd q
  go (End outcome) l q = absurd q

marked_after : (b next : Bid) (answer : Answer) (s : ℕ) → Takes b answer next → flag_at (noted b b.act answer).failed s ≡ true → flag_at next.failed s ≡ true
marked_after b next answer s t f = ap (λ (x : Bid). flag_at x.failed s) t.noted_is ∙ f

not_asked : (answers : List Answer) (b c : Bid) (s : ℕ) → IsBid b → flag_at b.failed s ≡ true → Leads b answers c → Asks c.act s → ⊥
not_asked [] b c s h f leads asks =
    let here : Asks b.act s = subst (λ (x : Bid). Asks x.act s) (sym leads) asks in
    let q : true ≡ false = sym f ∙ (asked_within b h s here).1 in cc
not_asked (answer ∷ answers) b c s h f leads asks =
    not_asked answers leads.0 c s leads.1.bid (marked_after b leads.0 answer s leads.1 (noted_stays b h answer s f)) leads.2 asks

pub not_again : (b c : Bid) (answers : List Answer) (s : ℕ) → IsBid b → Asks b.act s → Leads b (Failed ∷ answers) c → Asks c.act s → ⊥
not_again b c answers s h asks leads again =
    not_asked answers leads.0 c s leads.1.bid (marked_after b leads.0 Failed s leads.1 (noted_fails b h s asks)) leads.2 again
