-- The promises that are known to a bidder come to one offer.
use Rattle.std.proofs.Common.{◌≡◌, ℕ, ◌≤◌, true, List, Option, Some, None, inl, inr, refl, sym, ap, ◌∙◌, subst, slice_get, arith}
use Rattle.std.proofs.lemmas.Bool.{cases_Bool, cases_lt}
use Rattle.ms_base.specs.Places.{some_same}
use Rattle.ms_world.specs.Steps.{HasPromises, Offers}
use Rattle.ms_record.specs.declared.ballot.Ballot.{Ballot}
use Rattle.ms_record.specs.declared.ballot.Vote.{Vote}
use Rattle.ms_record.specs.declared.entry.Entry.{Entry}
use Rattle.ms_record.specs.declared.record.Record.{Record}
use Rattle.ms_record.specs.declared.record.Record.TheVariants.{Accept}
use Rattle.ms_record.specs.BallotOrder.{one_ballot}
use Rattle.ms_record.specs.OneBest.{one_shown}

one_service : (a b : ℕ) → a ≤ b → b ≤ a → a ≡ b
one_service a b p q = omega arith

module _ {known : ℕ → List Record} {voters : List ℕ} {position : ℕ} {ballot : Ballot} where
  -- who promised is in each part
  same_part : (p q : HasPromises known voters position ballot) (s : ℕ) → p.part s ≡ true → q.part s ≡ true
  same_part p q s there = elim (cases_Bool (q.part s)) [
    | inl so ↦ so
    | inr none ↦ (let h = p.shown s there in absurd (q.others s h.0 (p.majority.within s there) none h.1.promised))
  ]

  -- and has one Best
  same_best : (p q : HasPromises known voters position ballot) (s : ℕ) → p.part s ≡ true → p.bests s ≡ q.bests s
  same_best p q s there =
      let h = p.shown s there in
      let k = q.shown s (same_part p q s there) in
      one_shown (known s) h.0 k.0 position ballot (p.bests s) (q.bests s) h.1 k.1 h.2 k.2

  -- what one of them lets the bidder offer, so does the other
  pub offers_same : (p q : HasPromises known voters position ballot) (want : Option Entry) (entry : Entry) → Offers p want entry → Offers q want entry
  offers_same p q want entry (inl g) = inl (record {
    service = g.service;
    vote = g.vote;
    member = same_part p q g.service g.member;
    has = sym (same_best p q g.service g.member) ∙ g.has;
    greatest = λ s v there is. let back = same_part q p s there in g.greatest s v back (same_best p q s back ∙ is);
    least = λ s v there is same. let back = same_part q p s there in g.least s v back (same_best p q s back ∙ is) same;
    entry_is = g.entry_is;
  })
  offers_same p q want entry (inr own) = inr (own.0, λ s there. let back = same_part q p s there in sym (same_best p q s back) ∙ own.1 s back)

  pub one_offer : (p : HasPromises known voters position ballot) (want : Option Entry) (e f : Entry) → Offers p want e → Offers p want f → e ≡ f
  one_offer p want e f (inl g) (inl h) =
      let ballots : g.vote.ballot ≡ h.vote.ballot = one_ballot g.vote.ballot h.vote.ballot (h.greatest g.service g.vote g.member g.has) (g.greatest h.service h.vote h.member h.has) in
      let service : g.service ≡ h.service = one_service g.service h.service (g.least h.service h.vote h.member h.has (sym ballots)) (h.least g.service g.vote g.member g.has ballots) in
      let vote : g.vote ≡ h.vote = some_same g.vote h.vote (sym g.has ∙ ap p.bests service ∙ h.has) in
      g.entry_is ∙ ap (λ (v : Vote). v.entry) vote ∙ sym h.entry_is
  one_offer p want e f (inl g) (inr own) = absurd (let q : Some g.vote ≡ None = sym g.has ∙ own.1 g.service g.member in cc)
  one_offer p want e f (inr own) (inl g) = absurd (let q : Some g.vote ≡ None = sym g.has ∙ own.1 g.service g.member in cc)
  one_offer p want e f (inr a) (inr b) = some_same e f (sym a.0 ∙ b.0)
