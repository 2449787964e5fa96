-- Where a chain is split, when it reads on and when it gains a member.
use Rattle.std.proofs.Common.{◌≡◌, ℕ, ◌+◌, ◌<◌, ◌≤◌, List, [], ◌∷◌, ◌++◌, Option, Some, None, inl, inr, refl, sym, ap, ◌∙◌, subst, slice_get, length, take, arith}
use Rattle.std.specs.Prelude.{IfNone, IfSome}
use Rattle.std.specs.Option.{option_or}
use Rattle.std.proofs.lemmas.Bool.{cases_eq, cases_lt}
use Rattle.std.proofs.lemmas.Option.{slice_get_within}
use Rattle.ms_ken.specs.Prefixes.{prefix_item, prefix_self, prefix_trans}
use Rattle.ms_local.specs.Learning.{ChainGrows, ChainView, IsNextRead, IsSeen, IsSplit, texts_read, votes_read}
use Rattle.ms_record.specs.declared.entry.Entry.{Entry}
use Rattle.ms_record.specs.Chains.{LinksBehind, voters_behind}
use Rattle.ms_record.specs.Reading.{record_at}
use Rattle.ms_record.specs.Settings.{origin_of}
use Rattle.ms_record.specs.Votes.{ChosenBy}
use Rattle.ms_replay.specs.Audits.{lists_of}
use Rattle.ms_replay.specs.Tallies.{IsVotedAt}
use Rattle.ms_chain.specs.declared.split.Split.{Split}
use Rattle.ms_chain.specs.Heard.{IsGreatestSeen, heard_more}
use Rattle.ms_chain.specs.Lines.{LineView}
use Rattle.ms_chain.specs.Splits.{BehindIs, IsSplitOf, SplitIs, SplitsAt, chain_of}
use Rattle.ms_chain.proofs.Hearing.{GoesOnAt, chosen_back, chosen_on, heard_goes_on}
use Rattle.ms_chain.proofs.Places.{length_more, place_more, take_all, take_left}

-- ---- it reads on

pub split_on : (line : LineView) (before after : List (List (List ℕ))) (s : ℕ) (text : List ℕ) (k : ℕ) (first second : List ℕ) → GoesOnAt (lists_of before) (lists_of after) s text
    → IsSplit (chain_of line before) k first second → IsSplit (chain_of line after) k first second
split_on line before after s text k first second g h =
    let voters = voters_behind (origin_of line.setting) (take h.members line.members) in
    record {
      members = h.members;
      within = h.within;
      at = h.at;
      one = h.one;
      other = h.other;
      one_chosen = chosen_on (lists_of before) (lists_of after) s text voters k h.one g h.one_chosen;
      other_chosen = chosen_on (lists_of before) (lists_of after) s text voters k h.other g h.other_chosen;
      differ = h.differ;
      one_named = h.one_named;
      other_named = h.other_named;
    }

-- at a position that was not voted at it was split before
pub split_back : (line : LineView) (before after : List (List (List ℕ))) (s : ℕ) (text : List ℕ) (voted : Option ℕ) (k : ℕ) → GoesOnAt (lists_of before) (lists_of after) s text
    → IsVotedAt (lists_of before s) (record_at text) voted → (voted ≡ Some k → ⊥) → SplitsAt (chain_of line after) k → SplitsAt (chain_of line before) k
split_back line before after s text voted k g v other w =
    let h = w.2 in
    let voters = voters_behind (origin_of line.setting) (take h.members line.members) in (
      w.0,
      w.1,
      record {
        members = h.members;
        within = h.within;
        at = h.at;
        one = h.one;
        other = h.other;
        one_chosen = chosen_back (lists_of before) (lists_of after) s text voted voters k h.one g v other h.one_chosen;
        other_chosen = chosen_back (lists_of before) (lists_of after) s text voted voters k h.other g v other h.other_chosen;
        differ = h.differ;
        one_named = h.one_named;
        other_named = h.other_named;
      },
    )

pub known_stays : (line : LineView) (before after : List (List (List ℕ))) (s : ℕ) (text : List ℕ) (split : Split) → GoesOnAt (lists_of before) (lists_of after) s text
    → SplitIs (chain_of line before) (Some split) → SplitIs (chain_of line after) (Some split)
known_stays line before after s text split g h = split_on line before after s text split.position split.first.0 split.second.0 g h

-- no position up to the end was voted at
pub none_stays : (line : LineView) (before after : List (List (List ℕ))) (s : ℕ) (text : List ℕ) (voted : Option ℕ) → GoesOnAt (lists_of before) (lists_of after) s text
    → IsVotedAt (lists_of before s) (record_at text) voted → ((k : ℕ) → 1 ≤ k → k ≤ length line.members → voted ≡ Some k → ⊥) → SplitIs (chain_of line before) None → SplitIs (chain_of line after) None
none_stays line before after s text voted g v apart h k le w =
    let at = w.2.at in
    h k le (split_back line before after s text voted k g v (apart k (omega arith) le) w)

-- the position that was voted at was judged
pub judged_none : (line : LineView) (before after : List (List (List ℕ))) (s : ℕ) (text : List ℕ) (position : ℕ) → GoesOnAt (lists_of before) (lists_of after) s text
    → IsVotedAt (lists_of before s) (record_at text) (Some position) → (SplitsAt (chain_of line after) position → ⊥) → SplitIs (chain_of line before) None → SplitIs (chain_of line after) None
judged_none line before after s text position g v none h k le w =
    elim (cases_eq position k) [
      | inl e ↦ none (subst (SplitsAt (chain_of line after)) (sym e) w)
      | inr ne ↦ h k le (split_back line before after s text (Some position) k g v (λ e. ne (let q : Some position ≡ Some k = e in cc q)) w)
    ]

-- what was judged there
pub judged_is : (line : LineView) (before after : List (List (List ℕ))) (s : ℕ) (text : List ℕ) (position : ℕ) (found : Option Split) → GoesOnAt (lists_of before) (lists_of after) s text
    → IsVotedAt (lists_of before s) (record_at text) (Some position) → IfSome found (IsSplitOf (chain_of line after)) → IfNone found (SplitsAt (chain_of line after) position → ⊥)
    → SplitIs (chain_of line before) None → SplitIs (chain_of line after) found
judged_is line before after s text position None g v some none h = judged_none line before after s text position g v none h
judged_is line before after s text position (Some split) g v some none h = some

pub heard_as : (before after : List (List (List ℕ))) (s : ℕ) (text : List ℕ) → s < length before → after ≡ heard_more before s text → GoesOnAt (lists_of before) (lists_of after) s text
heard_as before after s text lt same = subst (λ (lists : List (List (List ℕ))). GoesOnAt (lists_of before) (lists_of lists) s text) (sym same) (heard_goes_on before s text lt)

-- ---- it gains a member

abbrev longer : LineView → Entry → LineView
longer line e = record line { members = line.members ++ e ∷ [] }

pub split_longer : (line : LineView) (e : Entry) (lists : List (List (List ℕ))) (k : ℕ) (first second : List ℕ) → IsSplit (chain_of line lists) k first second → IsSplit (chain_of (longer line e) lists) k first second
split_longer line e lists k first second h =
    let same : take h.members line.members ≡ take h.members (line.members ++ e ∷ []) = sym (take_left h.members line.members (e ∷ []) h.within) in
    let P : List Entry → Entry → Type 0 = λ xs f. ChosenBy (lists_of lists) (voters_behind (origin_of line.setting) xs) k f in
    record {
      members = h.members;
      within = (let l = h.within in let more = length_more line.members e in omega arith);
      at = h.at;
      one = h.one;
      other = h.other;
      one_chosen = subst (λ (xs : List Entry). P xs h.one) same h.one_chosen;
      other_chosen = subst (λ (xs : List Entry). P xs h.other) same h.other_chosen;
      differ = h.differ;
      one_named = h.one_named;
      other_named = h.other_named;
    }

pub split_shorter : (line : LineView) (e : Entry) (lists : List (List (List ℕ))) (k : ℕ) → k ≤ length line.members + 1 → SplitsAt (chain_of (longer line e) lists) k → SplitsAt (chain_of line lists) k
split_shorter line e lists k le w =
    let h = w.2 in
    let at = h.at in
    let within : h.members ≤ length line.members = omega arith in
    let same : take h.members (line.members ++ e ∷ []) ≡ take h.members line.members = take_left h.members line.members (e ∷ []) within in
    let P : List Entry → Entry → Type 0 = λ xs f. ChosenBy (lists_of lists) (voters_behind (origin_of line.setting) xs) k f in (
      w.0,
      w.1,
      record {
        members = h.members;
        within = within;
        at = h.at;
        one = h.one;
        other = h.other;
        one_chosen = subst (λ (xs : List Entry). P xs h.one) same h.one_chosen;
        other_chosen = subst (λ (xs : List Entry). P xs h.other) same h.other_chosen;
        differ = h.differ;
        one_named = h.one_named;
        other_named = h.other_named;
      },
    )

-- what was known before stays, and what was judged at the new end
pub gained_known : (line : LineView) (e : Entry) (lists : List (List (List ℕ))) (split : Split) → SplitIs (chain_of line lists) (Some split) → SplitIs (chain_of (longer line e) lists) (Some split)
gained_known line e lists split h = split_longer line e lists split.position split.first.0 split.second.0 h

pub gained_none : (line : LineView) (e : Entry) (lists : List (List (List ℕ))) → SplitIs (chain_of line lists) None → (SplitsAt (chain_of line lists) (length line.members + 1) → ⊥)
    → SplitIs (chain_of (longer line e) lists) None
gained_none line e lists h none k le w =
    let more = length_more line.members e in
    let back = split_shorter line e lists k (omega arith) w in
    elim (cases_lt (length line.members) k) [
      | inl lt ↦ (let same : k ≡ length line.members + 1 = omega arith in none (subst (SplitsAt (chain_of line lists)) same back))
      | inr l ↦ h k l back
    ]

pub gained : (line : LineView) (e : Entry) (lists : List (List (List ℕ))) (known : Option Split) → SplitIs (chain_of line lists) known → (SplitsAt (chain_of line lists) (length line.members + 1) → ⊥)
    → SplitIs (chain_of (longer line e) lists) known
gained line e lists None h none = gained_none line e lists h none
gained line e lists (Some split) h none = gained_known line e lists split h

pub judged_end : (line : LineView) (e : Entry) (lists : List (List (List ℕ))) → SplitIs (chain_of line lists) None → (SplitsAt (chain_of (longer line e) lists) (length (line.members ++ e ∷ [])) → ⊥)
    → SplitIs (chain_of (longer line e) lists) None
judged_end line e lists h none k le w =
    let more = length_more line.members e in
    elim (cases_lt (length line.members) k) [
      | inl lt ↦ (let same : k ≡ length (line.members ++ e ∷ []) = omega arith in none (subst (SplitsAt (chain_of (longer line e) lists)) same w))
      | inr l ↦ h k l (split_shorter line e lists k (omega arith) w)
    ]

-- where none was known, what was found at the new end
pub judged_at_end : (line more : LineView) (e : Entry) (lists : List (List (List ℕ))) (end : ℕ) (found : Option Split) → more ≡ longer line e → end ≡ length more.members → SplitIs (chain_of line lists) None
    → IfSome found (IsSplitOf (chain_of more lists)) → IfNone found (SplitsAt (chain_of more lists) end → ⊥) → SplitIs (chain_of more lists) found
judged_at_end line more e lists end None is at h some none =
    let here : SplitsAt (chain_of (longer line e) lists) (length (line.members ++ e ∷ [])) → ⊥ = subst (λ (l : LineView). SplitsAt (chain_of l lists) (length l.members) → ⊥) is (subst (λ (k : ℕ). SplitsAt (chain_of more lists) k → ⊥) at none) in
    subst (λ (l : LineView). SplitIs (chain_of l lists) None) (sym is) (judged_end line e lists h here)
judged_at_end line more e lists end (Some split) is at h some none = some

pub grows_self : (chain : ChainView) → ChainGrows chain chain
grows_self chain = record {
  setting = refl;
  members = prefix_self chain.members;
  lists = λ s. prefix_self (texts_read chain s);
  gained = λ k e le got. absurd (let l = within chain.members k e got in omega arith);
}
  where
    within : (xs : List Entry) (k : ℕ) (e : Entry) → slice_get xs k ≡ Some e → k < length xs
    within xs k e got = slice_get_within xs k e got

pub grows_on : (old mid : ChainView) (e : Entry) → ChainGrows old mid → IsNextRead mid mid.members e → ChainGrows old (record mid { members = mid.members ++ e ∷ [] })
grows_on old mid e h next = record {
  setting = h.setting;
  members = prefix_trans old.members mid.members (mid.members ++ e ∷ []) h.members (prefix_item mid.members e);
  lists = h.lists;
  gained = λ k f le got.
      elim (place_more mid.members e k f got) [
        | inl l ↦
            let n = h.gained k f le l.1 in
            let same = sym (take_left k mid.members (e ∷ []) (let lt = l.0 in omega arith)) in
            moved (take k mid.members) (take k (mid.members ++ e ∷ [])) f f same refl n
        | inr r ↦
            let front : mid.members ≡ take k (mid.members ++ e ∷ []) = sym (ap (λ (n : ℕ). take n (mid.members ++ e ∷ [])) r.0 ∙ take_left (length mid.members) mid.members (e ∷ []) (omega arith) ∙ take_all mid.members) in
            moved mid.members (take k (mid.members ++ e ∷ [])) e f front r.1 next
      ];
}
  where
    moved : (xs ys : List Entry) (f g : Entry) → xs ≡ ys → f ≡ g → IsNextRead mid xs f → IsNextRead (record mid { members = mid.members ++ e ∷ [] }) ys g
    moved xs ys f g same one n = record {
      chosen = subst (λ (zs : List Entry). ChosenBy (votes_read mid) (voters_behind (origin_of mid.setting) zs) (length zs + 1) g) same (subst (λ (x : Entry). ChosenBy (votes_read mid) (voters_behind (origin_of mid.setting) xs) (length xs + 1) x) one n.chosen);
      only = λ h c.
          let D : List Entry → Type 0 = λ zs. ChosenBy (votes_read mid) (voters_behind (origin_of mid.setting) zs) (length zs + 1) h in
          n.only h (subst D (sym same) c) ∙ one;
      links = subst (λ (zs : List Entry). LinksBehind (origin_of mid.setting) zs g) same (subst (λ (x : Entry). LinksBehind (origin_of mid.setting) xs x) one n.links);
    }

-- ---- what is known of all positions

pub neither : (known behind : Option Split) → option_or known behind ≡ None → (known ≡ None) × (behind ≡ None)
neither None None e = (refl, refl)
neither None (Some split) e = absurd (cc e)
neither (Some split) behind e = absurd (cc e)

pub none_split : (chain : ChainView) → SplitIs chain None → BehindIs chain None → (k : ℕ) (first second : List ℕ) → IsSplit chain k first second → ⊥
none_split chain known behind k first second s =
    let within = s.within in
    let at = s.at in
    elim (cases_lt (length chain.members) k) [
      | inl lt ↦ behind (first, second, subst (λ (p : ℕ). IsSplit chain p first second) (let e : k ≡ length chain.members + 1 = omega arith in e) s)
      | inr le ↦ known k le (first, second, s)
    ]

-- what the lists show, as a chain's
pub seen_in : (line : LineView) (lists : List (List (List ℕ))) (seen : ℕ) → IsGreatestSeen (lists_of lists) seen → IsSeen (chain_of line lists) seen
seen_in line lists seen h = record { none_above = h.none_above; stands = h.stands }
