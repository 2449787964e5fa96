-- What lists show when one of them goes on by a text.
use Rattle.std.proofs.Common.{◌≡◌, ℕ, ◌<◌, ◌==◌, Bool, true, false, List, [], ◌∷◌, ◌++◌, Option, Some, None, ◌⊎◌, inl, inr, refl, sym, ap, ◌∙◌, subst, slice_index_or, length, max, arith, cond}
use Rattle.std.specs.Option.{unwrap_or}
use Rattle.std.proofs.lemmas.Bool.{cases_eq}
use Rattle.std.proofs.lemmas.Bool.Decides.{nat_tests}
use Rattle.std.proofs.lemmas.List.{get_or-set_other, get_or-set_same}
use Rattle.ms_record.specs.declared.ballot.Ballot.{Ballot}
use Rattle.ms_record.specs.declared.entry.Entry.{Entry}
use Rattle.ms_record.specs.declared.record.Record.{Record}
use Rattle.ms_record.specs.declared.record.Record.TheVariants.{Accept}
use Rattle.ms_record.specs.Growing.{same_back, same_grown, taken_grows, taken_same}
use Rattle.ms_record.specs.Reading.{record_at, votes_of, with_record}
use Rattle.ms_record.specs.Votes.{ChosenBy, IsTaken}
use Rattle.ms_replay.specs.Audits.{lists_of}
use Rattle.ms_replay.specs.Tallies.{IsVotedAt, goes_on}
use Rattle.ms_chain.specs.Heard.{IsGreatestSeen, heard_more}
use Rattle.ms_chain.proofs.Places.{place_more, some_same}

append_nil : {A : Type 0} (xs : List A) → xs ++ [] ≡ xs
append_nil [] = refl
append_nil (x ∷ xs) = ap (λ t. x ∷ t) (append_nil xs)

-- ---- a list with a record more, if the text is one

pub votes_more : (texts : List (List ℕ)) (text : List ℕ) → votes_of (texts ++ text ∷ []) ≡ votes_of texts ++ with_record (record_at text) []
votes_more [] text = refl
votes_more (t ∷ texts) text = ap (with_record (record_at t)) (votes_more texts text) ∙ by (record_at t)
  where
    by : (o : Option Record) → with_record o (votes_of texts ++ with_record (record_at text) []) ≡ with_record o (votes_of texts) ++ with_record (record_at text) []
    by None = refl
    by (Some r) = refl

taken_before : (records : List Record) (message : Option Record) (p k : ℕ) (b : Ballot) (e : Entry) → IsTaken (records ++ with_record message []) p k b e → IsTaken records p k b e ⊎ (p ≡ length records)
taken_before records None p k b e h = inl (subst (λ (xs : List Record). IsTaken xs p k b e) (append_nil records) h)
taken_before records (Some r) p k b e h =
    let whole = records ++ r ∷ [] in
    elim (place_more records r p (Accept k b e) h.stands) [
      | inl l ↦ inl (taken_same whole records (length records) (same_back records whole (length records) (same_grown records whole (r ∷ []) refl)) p k b e l.0 h)
      | inr at ↦ inr at.0
    ]

same_position : (records : List Record) (p k j : ℕ) (b c : Ballot) (e f : Entry) → IsTaken records p k b e → IsTaken records p j c f → k ≡ j
same_position records p k j b c e f h g = let q = some_same (Accept k b e) (Accept j c f) (sym h.stands ∙ g.stands) in cc q

-- what is taken then was taken before, or at the position voted at
voted_else : (records : List Record) (message : Option Record) (voted : Option ℕ) (p k : ℕ) (b : Ballot) (e : Entry) → IsVotedAt records message voted → IsTaken (records ++ with_record message []) p k b e
    → IsTaken records p k b e ⊎ (voted ≡ Some k)
voted_else records message None p k b e v h =
    elim (taken_before records message p k b e h) [
      | inl old ↦ inl old
      | inr at ↦ absurd (v k b e (subst (λ (q : ℕ). IsTaken (records ++ with_record message []) q k b e) at h))
    ]
voted_else records message (Some j) p k b e v h =
    elim (taken_before records message p k b e h) [
      | inl old ↦ inl old
      | inr at ↦ inr (ap (λ (n : ℕ). Some n)
          (same_position (records ++ with_record message []) (length records) j k v.0 b v.1 e v.2 (subst (λ (q : ℕ). IsTaken (records ++ with_record message []) q k b e) at h)))
    ]

-- ---- the lists

-- one of the lists goes on by a text
pub record GoesOnAt (votes more : ℕ → List Record) (s : ℕ) (text : List ℕ) : Type 0 where
  pub here : more s ≡ votes s ++ with_record (record_at text) []
  pub others : (x : ℕ) → (x ≡ s → ⊥) → more x ≡ votes x

pub heard_goes_on : (lists : List (List (List ℕ))) (s : ℕ) (text : List ℕ) → s < length lists → GoesOnAt (lists_of lists) (lists_of (heard_more lists s text)) s text
heard_goes_on lists s text lt = record {
  here = ap votes_of (get_or-set_same lists s (slice_index_or lists s [] ++ text ∷ []) [] lt) ∙ votes_more (slice_index_or lists s []) text;
  others = λ x ne. ap votes_of (get_or-set_other lists s x (slice_index_or lists s [] ++ text ∷ []) [] ne);
}

test_here : (s : ℕ) → (s == s) ≡ true
test_here s = grind (arith, nat_tests)

test_other : (x s : ℕ) → (x ≡ s → ⊥) → (x == s) ≡ false
test_other x s ne = grind (arith, nat_tests)

pub goes_on_is : (votes more : ℕ → List Record) (s : ℕ) (text : List ℕ) → GoesOnAt votes more s text → goes_on votes s (with_record (record_at text) []) ≡ more
goes_on_is votes more s text h = λ i x. at x i
  where
    at : (x : ℕ) → goes_on votes s (with_record (record_at text) []) x ≡ more x
    at x =
        elim (cases_eq x s) [
          | inl e ↦
              subst (λ (y : ℕ). goes_on votes s (with_record (record_at text) []) y ≡ more y) (sym e)
              (ap (λ (b : Bool). cond b (votes s ++ with_record (record_at text) []) (votes s)) (test_here s) ∙ sym h.here)
          | inr ne ↦ ap (λ (b : Bool). cond b (votes x ++ with_record (record_at text) []) (votes x)) (test_other x s ne) ∙ sym (h.others x ne)
        ]

pub taken_else : (votes more : ℕ → List Record) (s : ℕ) (text : List ℕ) (voted : Option ℕ) → GoesOnAt votes more s text → IsVotedAt (votes s) (record_at text) voted
    → (x p k : ℕ) (b : Ballot) (e : Entry) → IsTaken (more x) p k b e → IsTaken (votes x) p k b e ⊎ (voted ≡ Some k)
taken_else votes more s text voted h v x p k b e t =
    elim (cases_eq x s) [
      | inl same ↦
          elim (voted_else (votes s) (record_at text) voted p k b e v (subst (λ (xs : List Record). IsTaken xs p k b e) (ap more same ∙ h.here) t)) [
            | inl old ↦ inl (subst (λ (y : ℕ). IsTaken (votes y) p k b e) (sym same) old)
            | inr at ↦ inr at
          ]
      | inr ne ↦ inl (subst (λ (xs : List Record). IsTaken xs p k b e) (h.others x ne) t)
    ]

pub taken_on : (votes more : ℕ → List Record) (s : ℕ) (text : List ℕ) → GoesOnAt votes more s text → (x p k : ℕ) (b : Ballot) (e : Entry) → IsTaken (votes x) p k b e → IsTaken (more x) p k b e
taken_on votes more s text h x p k b e t =
    elim (cases_eq x s) [
      | inl same ↦
          subst (λ (xs : List Record). IsTaken xs p k b e) (sym (ap more same ∙ h.here))
          (taken_grows (votes s) (votes s ++ with_record (record_at text) []) (with_record (record_at text) []) p k b e refl (subst (λ (y : ℕ). IsTaken (votes y) p k b e) same t))
      | inr ne ↦ subst (λ (xs : List Record). IsTaken xs p k b e) (sym (h.others x ne)) t
    ]

-- ---- what they show

-- what is chosen then at another position was chosen before
pub chosen_back : (votes more : ℕ → List Record) (s : ℕ) (text : List ℕ) (voted : Option ℕ) (voters : List ℕ) (k : ℕ) (e : Entry) → GoesOnAt votes more s text → IsVotedAt (votes s) (record_at text) voted
    → (voted ≡ Some k → ⊥) → ChosenBy more voters k e → ChosenBy votes voters k e
chosen_back votes more s text voted voters k e h v other c = record {
  ballot = c.ballot;
  part = c.part;
  majority = c.majority;
  taken = λ x m.
      let t = c.taken x m in
      elim (taken_else votes more s text voted h v x t.0 k c.ballot e t.1) [
        | inl old ↦ (t.0, old)
        | inr at ↦ absurd (other at)
      ];
}

pub chosen_on : (votes more : ℕ → List Record) (s : ℕ) (text : List ℕ) (voters : List ℕ) (k : ℕ) (e : Entry) → GoesOnAt votes more s text → ChosenBy votes voters k e → ChosenBy more voters k e
chosen_on votes more s text voters k e h c = record {
  ballot = c.ballot;
  part = c.part;
  majority = c.majority;
  taken = λ x m. let t = c.taken x m in (t.0, taken_on votes more s text h x t.0 k c.ballot e t.1);
}

seen_at : (voted : Option ℕ) (k : ℕ) → voted ≡ Some k → unwrap_or voted 0 ≡ k
seen_at voted k e = ap (λ (o : Option ℕ). unwrap_or o 0) e

pub seen_on : (votes more : ℕ → List Record) (s : ℕ) (text : List ℕ) (voted : Option ℕ) (seen : ℕ) → GoesOnAt votes more s text → IsVotedAt (votes s) (record_at text) voted
    → IsGreatestSeen votes seen → IsGreatestSeen more (max seen (unwrap_or voted 0))
seen_on votes more s text None seen h v g = record {
  none_above = λ x p k b e t.
      elim (taken_else votes more s text None h v x p k b e t) [
        | inl old ↦ (let l = g.none_above x p k b e old in omega arith)
        | inr at ↦ absurd (let q : None ≡ Some k = at in cc q)
      ];
  stands =
      let same : max seen 0 ≡ seen = omega arith in
      elim g.stands [
        | inl none ↦ inl (same ∙ none)
        | inr w ↦ inr (w.0, w.1, w.2, w.3, subst (λ (k : ℕ). IsTaken (more w.0) w.1 k w.2 w.3) (sym same) (taken_on votes more s text h w.0 w.1 seen w.2 w.3 w.4))
      ];
}
seen_on votes more s text (Some j) seen h v g = record {
  none_above = λ x p k b e t.
      elim (taken_else votes more s text (Some j) h v x p k b e t) [
        | inl old ↦ (let l = g.none_above x p k b e old in omega arith)
        | inr at ↦ (let q = some_same j k at in omega arith)
      ];
  stands = by (max seen j) (greater seen j);
}
  where
    greater : (m n : ℕ) → (max m n ≡ m) ⊎ (max m n ≡ n)
    greater m n = grind arith

    by : (top : ℕ) → (top ≡ seen) ⊎ (top ≡ j) → (top ≡ 0) ⊎ ((service place : ℕ) × (b : Ballot) × (e : Entry) × IsTaken (more service) place top b e)
    by top (inl same) =
        elim g.stands [
          | inl none ↦ inl (same ∙ none)
          | inr w ↦ inr (w.0, w.1, w.2, w.3, subst (λ (k : ℕ). IsTaken (more w.0) w.1 k w.2 w.3) (sym same) (taken_on votes more s text h w.0 w.1 seen w.2 w.3 w.4))
        ]
    by top (inr same) =
        inr (
          s,
          length (votes s),
          v.0,
          v.1,
          subst (λ (k : ℕ). IsTaken (more s) (length (votes s)) k v.0 v.1) (sym same) (subst (λ (xs : List Record). IsTaken xs (length (votes s)) j v.0 v.1) (sym h.here) v.2),
        )
