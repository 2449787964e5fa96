-- There is a chain: a linked list goes on while an entry is chosen behind it, up to a bound of the positions of all votes.
use Rattle.std.proofs.Common.{◌≡◌, ℕ, zero, suc, ◌+◌, ◌*◌, ◌<◌, ◌≤◌, Bool, true, false, List, [], ◌∷◌, ◌++◌, Option, Some, None, ◌⊎◌, inl, inr, refl, sym, ap, ◌∙◌, subst, slice_get, length, take, count_by, Contains, arith}
use Rattle.std.proofs.lemmas.Bool.{cases_lt}
use Rattle.std.proofs.lemmas.List.{length_push, take_at}
use Rattle.std.proofs.lemmas.Option.{slice_get_within}
use Rattle.ms_base.specs.CountLaws.{count_le, count_some}
use Rattle.ms_base.specs.Places.{same_or_not, some_same, in_none, in_here, in_later, in_cases}
use Rattle.ms_record.proofs.ChainLaws.{none_linked, linked_begins, linked_push, member_chosen}
use Rattle.ms_record.specs.declared.ballot.Ballot.{Ballot}
use Rattle.ms_record.specs.declared.entry.Entry.{Entry}
use Rattle.ms_record.specs.declared.record.Record.{Record}
use Rattle.ms_record.specs.declared.record.Record.TheVariants.{Prepare, Accept}
use Rattle.ms_record.specs.Ballots.{IsAtMost}
use Rattle.ms_record.specs.Chains.{Origin, IsLinked, IsChain, Agrees, AllLink, voters_behind}
use Rattle.ms_record.specs.Voters.{AreKnown, voters_known}
use Rattle.ms_record.specs.Votes.{position_of, ballot_of, NoneAbove, IsTaken, ChosenBy, HaveOne}

-- ---- what can be decided

abbrev Decided : Type 0 → Type 0
Decided P = P ⊎ (P → ⊥)

abbrev is_so : {P : Type 0} → Decided P → Bool
is_so (inl holds) = true
is_so (inr fails) = false

so_holds : {P : Type 0} (d : Decided P) → is_so d ≡ true → P
so_holds (inl holds) h = holds
so_holds (inr fails) h = absurd (let q : false ≡ true = h in cc)

holds_so : {P : Type 0} (d : Decided P) → P → is_so d ≡ true
holds_so (inl holds) p = refl
holds_so (inr fails) p = absurd (fails p)

-- where each number below n gives an answer or has nothing, there is an answer, or none of them has anything
first_below : {A : Type 0} (P : ℕ → Type 0) → ((i : ℕ) → A ⊎ (P i → ⊥)) → (n : ℕ) → A ⊎ ((i : ℕ) → i < n → P i → ⊥)
first_below P find zero = inr (λ i less p. absurd (omega (arith, less)))
first_below P find (suc n) =
    elim (first_below P find n) [
      | inl found ↦ inl found
      | inr before ↦ elim (find n) [
        | inl found ↦ inl found
        | inr here ↦ inr (λ i less p. elim (cases_lt i n) [
          | inl lower ↦ before i lower p
          | inr last ↦ here (let e : i ≡ n = omega (arith, less, last) in subst P e p)
        ])
      ]
    ]

in_or_not : (xs : List ℕ) (s : ℕ) → Decided (Contains xs s)
in_or_not [] s = inr (λ h. in_none s h)
in_or_not (x ∷ xs) s =
    elim (same_or_not x s) [
      | inl same ↦ inl (subst (λ (y : ℕ). Contains (x ∷ xs) y) same (in_here x xs))
      | inr other ↦ elim (in_or_not xs s) [
        | inl later ↦ inl (in_later x xs s later)
        | inr none ↦ inr (λ h. elim (in_cases x xs s h) [ inl here ↦ other here | inr later ↦ none later ])
      ]
    ]

-- where each number of a list gives an answer or has nothing, there is an answer, or none of them has anything
first_in : {A : Type 0} (P : ℕ → Type 0) → ((s : ℕ) → A ⊎ (P s → ⊥)) → (xs : List ℕ) → A ⊎ ((s : ℕ) → Contains xs s → P s → ⊥)
first_in P find [] = inr (λ s h p. in_none s h)
first_in P find (x ∷ xs) =
    elim (find x) [
      | inl found ↦ inl found
      | inr here ↦ elim (first_in P find xs) [
        | inl found ↦ inl found
        | inr later ↦ inr (λ s h p. elim (in_cases x xs s h) [ inl same ↦ here (subst P (sym same) p) | inr more ↦ later s more p ])
      ]
    ]

at_most_or_not : (b c : Ballot) → Decided (IsAtMost b c)
at_most_or_not b c =
    elim (cases_lt c.round b.round) [
      | inl above ↦ inr (λ h. omega (arith, above, h.0))
      | inr round ↦ elim (same_or_not b.round c.round) [
        | inl same ↦ elim (cases_lt c.client.0 b.client.0) [
          | inl above ↦ inr (λ h. let l = h.1 same in omega (arith, above, l))
          | inr client ↦ inl (round, λ _. client)
        ]
        | inr other ↦ inl (round, λ same. absurd (other same))
      ]
    ]

same_ballot_or_not : (b c : Ballot) → Decided (b ≡ c)
same_ballot_or_not b c =
    elim (same_or_not b.round c.round) [
      | inl round ↦ elim (same_or_not b.client.0 c.client.0) [
        | inl client ↦ inl (λ i. record { round = round i; client = record { 0 = client i } })
        | inr other ↦ inr (λ e. other (ap (λ (x : Ballot). x.client.0) e))
      ]
      | inr other ↦ inr (λ e. other (ap (λ (x : Ballot). x.round) e))
    ]

-- ---- whether a list has a taken Accept of a ballot

abbrev Takes : List Record → ℕ → Ballot → Type 0
Takes records k b = (place : ℕ) × (e : Entry) × IsTaken records place k b e

abbrev Accepts : Record → ℕ → Ballot → Type 0
Accepts r k b = (e : Entry) × (r ≡ Accept k b e)

-- the record is no greater ballot at the position
abbrev LetsPass : Record → ℕ → Ballot → Type 0
LetsPass r k b = position_of r ≡ k → IsAtMost (ballot_of r) b

accepts_or_not : (r : Record) (k : ℕ) (b : Ballot) → Decided (Accepts r k b)
accepts_or_not (Prepare j c) k b = inr (λ h. let q : Prepare j c ≡ Accept k b h.0 = h.1 in cc)
accepts_or_not (Accept j c e) k b =
    elim (same_or_not j k) [
      | inl position ↦ elim (same_ballot_or_not c b) [
        | inl ballot ↦ inl (e, λ i. Accept (position i) (ballot i) e)
        | inr other ↦ inr (λ h. other (ap ballot_of h.1))
      ]
      | inr other ↦ inr (λ h. other (ap position_of h.1))
    ]

lets_pass_or_not : (r : Record) (k : ℕ) (b : Ballot) → Decided (LetsPass r k b)
lets_pass_or_not r k b =
    elim (same_or_not (position_of r) k) [
      | inl here ↦ elim (at_most_or_not (ballot_of r) b) [ inl below ↦ inl (λ _. below) | inr above ↦ inr (λ h. above (h here)) ]
      | inr there ↦ inl (λ here. absurd (there here))
    ]

none_above_later : (r : Record) (records : List Record) (place k : ℕ) (b : Ballot) → LetsPass r k b → NoneAbove records place k b → NoneAbove (r ∷ records) (suc place) k b
none_above_later r records place k b passes h zero m less at here = subst (λ (x : Record). LetsPass x k b) (some_same r m at) passes here
none_above_later r records place k b passes h (suc i) m less at here = h i m (omega (arith, less)) at here

takes_first : (r : Record) (records : List Record) (k : ℕ) (b : Ballot) → Accepts r k b → Takes (r ∷ records) k b
takes_first r records k b a = (zero, a.0, record { stands = ap (λ (x : Record). Some x) a.1; none_above = λ i m less at here. absurd (omega (arith, less)) })

takes_later : (r : Record) (records : List Record) (k : ℕ) (b : Ballot) → LetsPass r k b → Takes records k b → Takes (r ∷ records) k b
takes_later r records k b passes t = (suc t.0, t.1, record { stands = t.2.stands; none_above = none_above_later r records t.0 k b passes t.2.none_above })

takes_cases : (r : Record) (records : List Record) (k : ℕ) (b : Ballot) → Takes (r ∷ records) k b → Accepts r k b ⊎ (LetsPass r k b × Takes records k b)
takes_cases r records k b (zero, e, t) = inl (e, some_same r (Accept k b e) t.stands)
takes_cases r records k b (suc place, e, t) =
    inr (λ here. t.none_above zero r (omega arith) refl here, (place, e, record { stands = t.stands; none_above = λ i m less at here. t.none_above (suc i) m (omega (arith, less)) at here }))

takes_or_not : (records : List Record) (k : ℕ) (b : Ballot) → Decided (Takes records k b)
takes_or_not [] k b = inr (λ t. let q : None ≡ Some (Accept k b t.1) = t.2.stands in cc)
takes_or_not (r ∷ records) k b =
    elim (accepts_or_not r k b) [
      | inl accepts ↦ inl (takes_first r records k b accepts)
      | inr other ↦ elim (lets_pass_or_not r k b) [
        | inl passes ↦ elim (takes_or_not records k b) [
          | inl later ↦ inl (takes_later r records k b passes later)
          | inr none ↦ inr (λ t. elim (takes_cases r records k b t) [ inl a ↦ other a | inr l ↦ none l.1 ])
        ]
        | inr stops ↦ inr (λ t. elim (takes_cases r records k b t) [ inl a ↦ other a | inr l ↦ stops l.0 ])
      ]
    ]

-- ---- a bound of the positions that stand in the lists: their sum

abbrev positions_in : List Record → ℕ
positions_in [] = 0
positions_in (r ∷ records) = position_of r + positions_in records

position_within : (records : List Record) (i : ℕ) (r : Record) → slice_get records i ≡ Some r → position_of r ≤ positions_in records
position_within [] i r at = absurd (let q : None ≡ Some r = at in cc)
position_within (first ∷ records) zero r at = let e : position_of first ≡ position_of r = ap position_of (some_same first r at) in omega (arith, e)
position_within (first ∷ records) (suc i) r at = omega (arith, position_within records i r at)

abbrev positions_below : (ℕ → List Record) → ℕ → ℕ
positions_below votes zero = 0
positions_below votes (suc n) = positions_in (votes n) + positions_below votes n

positions_within : (votes : ℕ → List Record) (n s : ℕ) → s < n → positions_in (votes s) ≤ positions_below votes n
positions_within votes zero s less = absurd (omega (arith, less))
positions_within votes (suc n) s less =
    elim (cases_lt s n) [
      | inl lower ↦ omega (arith, positions_within votes n s lower)
      | inr last ↦ (let q : s ≡ n = omega (arith, less, last) in let e : positions_in (votes s) ≡ positions_in (votes n) = ap (λ (i : ℕ). positions_in (votes i)) q in omega (arith, e))
    ]

-- ---- whether an entry is chosen, where a ballot has one entry at a position

module _ (votes : ℕ → List Record) (voters : List ℕ) where
  abbrev Chosen : ℕ → Type 0
  Chosen k = (e : Entry) × ChosenBy votes voters k e

  -- a member of the majority, and where its vote stands
  voter : (k : ℕ) (c : Chosen k) → (s : ℕ) × Contains voters s × (place : ℕ) × (slice_get (votes s) place ≡ Some (Accept k c.1.ballot c.0))
  voter k c =
      let m = count_some c.1.part voters (omega (arith, c.1.majority.more_than_half)) in
      let t = c.1.taken m.0 m.1 in
      (m.0, c.1.majority.within m.0 m.1, t.0, t.1.stands)

  chosen_within : (n : ℕ) → ((s : ℕ) → Contains voters s → s < n) → (k : ℕ) → Chosen k → k ≤ positions_below votes n
  chosen_within n below k c =
      let v = voter k c in
      omega (arith, position_within (votes v.0) v.2 (Accept k c.1.ballot c.0) v.3, positions_within votes n v.0 (below v.0 v.1))

  abbrev IsTaker : ℕ → Ballot → ℕ → Type 0
  IsTaker k b s = Contains voters s × Takes (votes s) k b

  taker_or_not : (k : ℕ) (b : Ballot) (s : ℕ) → Decided (IsTaker k b s)
  taker_or_not k b s =
      elim (in_or_not voters s) [
        | inl is ↦ elim (takes_or_not (votes s) k b) [ inl takes ↦ inl (is, takes) | inr none ↦ inr (λ h. none h.1) ]
        | inr other ↦ inr (λ h. other h.0)
      ]

  takers : ℕ → Ballot → ℕ → Bool
  takers k b s = is_so (taker_or_not k b s)

  taker_is : (k : ℕ) (b : Ballot) (s : ℕ) → takers k b s ≡ true → IsTaker k b s
  unfolding takers
  taker_is k b s h = so_holds (taker_or_not k b s) h

  is_taker : (k : ℕ) (b : Ballot) (s : ℕ) → IsTaker k b s → takers k b s ≡ true
  unfolding takers
  is_taker k b s h = holds_so (taker_or_not k b s) h

  -- more than half have taken the ballot: the entry of one of them is chosen
  most_choose : HaveOne votes → (k : ℕ) (b : Ballot) → length voters < 2 * count_by (takers k b) voters → Chosen k
  most_choose one k b most =
      let m = count_some (takers k b) voters (omega (arith, most)) in
      let first = (taker_is k b m.0 m.1).1 in (
        first.1,
        record {
          ballot = b;
          part = takers k b;
          majority = record { within = λ s t. (taker_is k b s t).0; more_than_half = most };
          taken = λ s t. let v = (taker_is k b s t).1 in
              (v.0, subst (λ (e : Entry). IsTaken (votes s) v.0 k b e) (one s m.0 v.0 first.0 k b v.1 first.1 v.2.stands first.2.stands) v.2);
        },
      )

  -- chosen under this ballot
  abbrev ChosenUnder : ℕ → Ballot → Type 0
  ChosenUnder k b = (c : Chosen k) × (c.1.ballot ≡ b)

  chosen_most_take : (k : ℕ) (b : Ballot) → ChosenUnder k b → length voters < 2 * count_by (takers k b) voters
  chosen_most_take k b c =
      let d = c.0.1 in
      let more = count_le d.part (takers k b) voters
      (λ s t. is_taker k b s (d.majority.within s t, let v = d.taken s t in (v.0, c.0.0, subst (λ (a : Ballot). IsTaken (votes s) v.0 k a c.0.0) c.1 v.1))) in
      omega (arith, more, d.majority.more_than_half)

  chosen_under : HaveOne votes → (k : ℕ) (b : Ballot) → Chosen k ⊎ (ChosenUnder k b → ⊥)
  chosen_under one k b =
      elim (cases_lt (length voters) (2 * count_by (takers k b) voters)) [
        | inl most ↦ inl (most_choose one k b most)
        | inr few ↦ inr (λ c. omega (arith, few, chosen_most_take k b c))
      ]

  -- chosen, by a ballot of this record, of this list
  abbrev ChosenAt : ℕ → Option Record → Type 0
  ChosenAt k o = (c : Chosen k) × (o ≡ Some (Accept k c.1.ballot c.0))

  abbrev ChosenIn : ℕ → List Record → Type 0
  ChosenIn k records = (place : ℕ) × (place < length records) × ChosenAt k (slice_get records place)

  chosen_at : HaveOne votes → (k : ℕ) (o : Option Record) → Chosen k ⊎ (ChosenAt k o → ⊥)
  chosen_at one k None = inr (λ h. let q : None ≡ Some (Accept k h.0.1.ballot h.0.0) = h.1 in cc)
  chosen_at one k (Some r) =
      elim (chosen_under one k (ballot_of r)) [
        | inl found ↦ inl found
        | inr none ↦ inr (λ h. none (h.0, sym (ap ballot_of (some_same r (Accept k h.0.1.ballot h.0.0) h.1))))
      ]

  chosen_in : HaveOne votes → (k : ℕ) (records : List Record) → Chosen k ⊎ (ChosenIn k records → ⊥)
  chosen_in one k records =
      elim (first_below (λ place. ChosenAt k (slice_get records place)) (λ place. chosen_at one k (slice_get records place)) (length records)) [
        | inl found ↦ inl found
        | inr none ↦ inr (λ h. none h.0 h.1 h.2)
      ]

  -- an entry is chosen at the position, or none is
  chosen_or_not : HaveOne votes → (k : ℕ) → Decided (Chosen k)
  chosen_or_not one k =
      elim (first_in (λ s. ChosenIn k (votes s)) (λ s. chosen_in one k (votes s)) voters) [
        | inl found ↦ inl found
        | inr none ↦ inr (λ c. let v = voter k c in none v.0 v.1 (v.2, slice_get_within (votes v.0) v.2 (Accept k c.1.ballot c.0) v.3, (c, v.3)))
      ]

-- ---- the chain

member_at : (members : List Entry) (i : ℕ) → i < length members → (e : Entry) × (slice_get members i ≡ Some e)
member_at [] i less = absurd (omega (arith, less))
member_at (e ∷ members) zero less = (e, refl)
member_at (e ∷ members) (suc i) less = member_at members i (omega (arith, less))

module _ (votes : ℕ → List Record) (origin : Origin) where
  bound : ℕ
  bound = positions_below votes origin.services

  -- no linked list is longer than the greatest position that stands in the lists
  linked_within : AreKnown origin.services origin.plan → (c : List Entry) → IsLinked votes origin c → length c ≤ bound
  unfolding bound
  linked_within known c linked =
      elim (cases_lt (positions_below votes origin.services) (length c)) [
        | inl less ↦
            let m = positions_below votes origin.services in
            let e = member_at c m less in
            let here = member_chosen votes origin c m e.0 linked e.1 in
            let within = chosen_within votes (voters_behind origin here.members) origin.services (voters_known votes origin known here.members here.linked) (m + 1) (e.0, here.chosen) in
            omega (arith, within)
        | inr within ↦ within
      ]

  -- a list behind which nothing is chosen is the longest
  none_longer : Agrees votes origin → (c : List Entry) → IsLinked votes origin c → (Chosen votes (voters_behind origin c) (length c + 1) → ⊥)
      → (other : List Entry) → IsLinked votes origin other → length other ≤ length c
  none_longer agrees c linked none other further =
      elim (cases_lt (length c) (length other)) [
        | inl less ↦
            let e = member_at other (length c) less in
            let b = linked_begins votes origin c other (λ k _. agrees k) linked further (omega (arith, less)) in
            let front : take (length c) other ≡ c = ap (take (length c)) (sym b.1) ∙ take_at c b.0 (length c) refl in
            absurd (none (e.0, subst (λ (members : List Entry). ChosenBy votes (voters_behind origin members) (length c + 1) e.0) front (further.chosen (length c) e.0 e.1)))
        | inr within ↦ within
      ]

  chain_behind : HaveOne votes → Agrees votes origin → AreKnown origin.services origin.plan → AllLink votes origin → (left : ℕ) (c : List Entry) → IsLinked votes origin c → bound ≤ length c + left
      → (chain : List Entry) × IsChain votes origin chain
  chain_behind one agrees known links zero c linked fits =
      (c, record { linked = linked; longest = λ other further. omega (arith, linked_within known other further, fits) })
  chain_behind one agrees known links (suc left) c linked fits =
      elim (chosen_or_not votes (voters_behind origin c) one (length c + 1)) [
        | inl found ↦ chain_behind one agrees known links left (c ++ found.0 ∷ []) (linked_push votes origin c found.0 linked found.1 (links c found.0 linked found.1)) (omega (arith, fits, length_push c found.0))
        | inr none ↦ (c, record { linked = linked; longest = none_longer agrees c linked none })
      ]

  pub chain_found : HaveOne votes → Agrees votes origin → AreKnown origin.services origin.plan → AllLink votes origin → (chain : List Entry) × IsChain votes origin chain
  chain_found one agrees known links = chain_behind one agrees known links bound [] (none_linked votes origin) (omega arith)
