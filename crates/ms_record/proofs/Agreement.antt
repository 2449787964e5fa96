-- Each offer under a greater ballot than that of a chosen entry carries that entry, and so two chosen entries are one.
use Rattle.std.proofs.Common.{◌≡◌, ℕ, ◌<◌, List, Option, Some, None, inl, inr, refl, sym, ap, ◌∙◌, subst, slice_get, arith}
use Rattle.std.proofs.lemmas.Bool.{cases_lt}
use Rattle.ms_record.specs.declared.ballot.Ballot.{Ballot}
use Rattle.ms_record.specs.declared.entry.Entry.{Entry}
use Rattle.ms_record.specs.declared.ballot.Vote.{Vote}
use Rattle.ms_record.specs.declared.record.Record.{Record}
use Rattle.ms_record.specs.declared.record.Record.TheVariants.{Prepare, Accept}
use Rattle.ms_record.specs.Ballots.{IsBelow, IsAtMost}
use Rattle.ms_record.specs.Offers.{Shows, IsOffered, IsSoundAt}
use Rattle.ms_record.specs.Votes.{IsTaken, IsPromised, IsBest, ChosenBy}
use Rattle.ms_record.specs.BallotOrder.{ballots_apart, at_most_cases, not_above, at_most_trans, below_at_most}
use Rattle.ms_record.proofs.BallotOrder.{ballot_induction}
use Rattle.ms_record.proofs.Majorities.{majorities_meet}

-- the places of a promised Prepare and of a taken Accept of a smaller ballot: the Accept stands before
taken_before : (records : List Record) (p q k : ℕ) (b c : Ballot) (e : Entry) → IsPromised records p k b → IsTaken records q k c e → IsBelow c b → q < p
taken_before records p q k b c e a t l =
    elim (cases_lt q p) [
      | inl h ↦ h
      | inr h ↦ elim (cases_lt p q) [
        | inl m ↦ let x : IsAtMost b c = t.none_above p (Prepare k b) m a.stands refl in absurd (not_above b c l x)
        | inr m ↦ let at : q ≡ p = omega arith in
            let same : Some (Prepare k b) ≡ Some (Accept k c e) = sym a.stands ∙ ap (λ n. slice_get records n) (sym at) ∙ t.stands in cc
      ]
    ]

-- where a smaller ballot was taken, the Best that is shown is not below that
best_found : (records : List Record) (p k : ℕ) (c : Ballot) (best : Option Vote) (q : ℕ) (e : Entry) → IsBest records k p best → IsTaken records q k c e → q < p
    → (v : Vote) × (best ≡ Some v) × IsAtMost c v.ballot
best_found records p k c None q e h t l = absurd (h q c e l t)
best_found records p k c (Some v) q e h t l = (v, refl, h.greatest q c e l t)

shown_at_least : (records : List Record) (k : ℕ) (b c : Ballot) (best : Option Vote) (q : ℕ) (e : Entry) → Shows records k b best → IsTaken records q k c e → IsBelow c b
    → (v : Vote) × (best ≡ Some v) × IsAtMost c v.ballot
shown_at_least records k b c best q e h t l =
    best_found records h.place k c best q e h.best_is t (taken_before records h.place q k b c e h.first.promised t l)

-- a Best that is shown was taken
best_taken : (records : List Record) (k : ℕ) (b : Ballot) (best : Option Vote) (v : Vote) → Shows records k b best → best ≡ Some v
    → (place : ℕ) × IsTaken records place k v.ballot v.entry
best_taken records k b best v h e =
    let g : IsBest records k h.place (Some v) = subst (λ (o : Option Vote). IsBest records k h.place o) e h.best_is in
    (g.at, g.taken)

-- below, c is the ballot under which e is chosen
same_as_taken : (votes offers : ℕ → List Record) (voters : List ℕ) (k : ℕ) (sound : IsSoundAt votes offers voters k) (c : Ballot) (e : Entry)
    (below : (a : Ballot) (f : Entry) → IsOffered offers k a f → IsBelow c a → f ≡ e) → IsOffered offers k c e
    → (v : Vote) → IsOffered offers k v.ballot v.entry → IsAtMost c v.ballot → v.entry ≡ e
same_as_taken votes offers voters k sound c e below offered v o m =
    elim (at_most_cases c v.ballot m) [
      | inl l ↦ below v.ballot v.entry o l
      | inr same ↦ sound.one_offer v.ballot v.entry e o (subst (λ (b : Ballot). IsOffered offers k b e) same offered)
    ]

agreed_step : (votes offers : ℕ → List Record) (voters : List ℕ) (k : ℕ) (sound : IsSoundAt votes offers voters k) (e : Entry) (chosen : ChosenBy votes voters k e) (b : Ballot)
    (below : (a : Ballot) → IsBelow a b → (f : Entry) → IsOffered offers k a f → IsBelow chosen.ballot a → f ≡ e)
    (f : Entry) → IsOffered offers k b f → IsBelow chosen.ballot b → f ≡ e
agreed_step votes offers voters k sound e chosen b below f offered l =
    let j = sound.justified b f offered in
    let both = majorities_meet chosen.part j.part voters chosen.majority j.majority in
    let t = chosen.taken both.0 both.1 in
    let best = shown_at_least (votes both.0) k b chosen.ballot (j.bests both.0) t.0 e (j.shown both.0 both.2) t.1 l in
    elim j.entry_is [
      | inr own ↦ (let no : None ≡ Some best.0 = sym (own.none both.0 both.2) ∙ best.1 in cc)
      | inl g ↦
          let w = best_taken (votes g.service) k b (j.bests g.service) g.vote (j.shown g.service g.member) g.has in
          let o = sound.taken_offered g.service w.0 g.vote.ballot g.vote.entry w.1 in
          let up = at_most_trans chosen.ballot best.0.ballot g.vote.ballot best.2 (g.greatest both.0 best.0 both.2 best.1) in
          let down = (j.shown g.service g.member).below g.vote g.has in
          g.entry_is ∙ elim (at_most_cases chosen.ballot g.vote.ballot up) [
            | inl m ↦ below g.vote.ballot down g.vote.entry o m
            | inr same ↦ sound.one_offer g.vote.ballot g.vote.entry e o
                (subst (λ (a : Ballot). IsOffered offers k a e) same (sound.taken_offered both.0 t.0 chosen.ballot e t.1))
          ]
    ]

-- each offer under a greater ballot than the one under which e is chosen carries e
pub later_offers_agree : (votes offers : ℕ → List Record) (voters : List ℕ) (k : ℕ) → IsSoundAt votes offers voters k → (e : Entry) (chosen : ChosenBy votes voters k e)
    (b : Ballot) (f : Entry) → IsOffered offers k b f → IsBelow chosen.ballot b → f ≡ e
later_offers_agree votes offers voters k sound e chosen b =
    ballot_induction (λ b. (f : Entry) → IsOffered offers k b f → IsBelow chosen.ballot b → f ≡ e) (agreed_step votes offers voters k sound e chosen) b

-- of two chosen entries, the one under the ballot that is not smaller was offered
agree_up : (votes offers : ℕ → List Record) (voters : List ℕ) (k : ℕ) → IsSoundAt votes offers voters k → (e f : Entry) (c : ChosenBy votes voters k e) (d : ChosenBy votes voters k f)
    → IsAtMost c.ballot d.ballot → f ≡ e
agree_up votes offers voters k sound e f c d m =
    let both = majorities_meet c.part d.part voters c.majority d.majority in
    let s = c.taken both.0 both.1 in
    let t = d.taken both.0 both.2 in
    let o = sound.taken_offered both.0 t.0 d.ballot f t.1 in
    elim (at_most_cases c.ballot d.ballot m) [
      | inl l ↦ later_offers_agree votes offers voters k sound e c d.ballot f o l
      | inr same ↦ sound.one_offer d.ballot f e o (subst (λ (a : Ballot). IsOffered offers k a e) same (sound.taken_offered both.0 s.0 c.ballot e s.1))
    ]

-- two entries chosen at one position are one
pub chosen_agree : (votes offers : ℕ → List Record) (voters : List ℕ) (k : ℕ) → IsSoundAt votes offers voters k → (e f : Entry) → ChosenBy votes voters k e → ChosenBy votes voters k f → e ≡ f
chosen_agree votes offers voters k sound e f c d =
    elim (ballots_apart d.ballot c.ballot) [
      | inl l ↦ agree_up votes offers voters k sound f e d c (below_at_most d.ballot c.ballot l)
      | inr m ↦ sym (agree_up votes offers voters k sound e f c d m)
    ]
