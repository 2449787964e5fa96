use Rattle.std.proofs.Common.{◌≡◌, ℕ, ◌<◌, List, [], ◌∷◌, ◌++◌, sym, ap, ◌∙◌, subst, length, map, max, slice_set}
use Rattle.std.specs.Option.{unwrap_or}
use Rattle.std.proofs.lemmas.List.{length-map}
use Rattle.ms_record.specs.Reading.{record_at, with_record}
use Rattle.ms_replay.specs.Audits.{lists_of}
use Rattle.ms_replay.specs.Tallies.{IsTallyOf, IsVotedAt, TallyView, goes_on}
use Rattle.ms_chain.specs.Heard.{IsGreatestSeen, heard_more}
use Rattle.ms_chain.specs.HeardInside.{view_of}
use Rattle.ms_chain.proofs.Keeping.{keeps_more, more_seen, on_err, same_seen}
use Rattle.ms_chain.proofs.heard.Heard.take.Goals as goal

pub invariant_of-self : goal.invariant_of-self
invariant_of-self c =
    let h = c.self.inside in
    let s = c.args.service.0 in
    let many : length (view_of h) ≡ length h.lists.items = length-map h.lists.items (λ list. list.items) in
    let lt : s < length h.lists.items = subst (λ (n : ℕ). s < n) (ap (λ (v : List (List (List ℕ))). length v) (sym c.self.view_is) ∙ many) c.requires in
    let same = same_seen (λ list. list.items) h.lists.items s c.index_mut-list.result.now c.reserve.new.self lt c.index_mut-list.ensures.value c.reserve.ensures.items in
    record {
      services = c.self.invariant.services ∙ ap (λ (v : List (List (List ℕ))). length v) (sym same);
      tally = subst (λ (v : List (List (List ℕ))). IsTallyOf (lists_of v) h.tally) (sym same) c.self.invariant.tally;
      seen = subst (λ (v : List (List (List ℕ))). IsGreatestSeen (lists_of v) h.seen) (sym same) c.self.invariant.seen;
    }

pub returns-in_err-reserve-clause-err : goal.returns-in_err-reserve-clause-err
returns-in_err-reserve-clause-err c =
    let h = c.self.inside in
    let s = c.args.service.0 in
    let many : length (view_of h) ≡ length h.lists.items = length-map h.lists.items (λ list. list.items) in
    let lt : s < length h.lists.items = subst (λ (n : ℕ). s < n) (ap (λ (v : List (List (List ℕ))). length v) (sym c.self.view_is) ∙ many) c.requires in
    let same = same_seen (λ list. list.items) h.lists.items s c.index_mut-list.result.now c.reserve.new.self lt c.index_mut-list.ensures.value c.reserve.ensures.items in
    on_err c.from_residual.result _ (same ∙ c.self.view_is)

pub invariant_of-self-in_err-voted : goal.invariant_of-self-in_err-voted
invariant_of-self-in_err-voted c =
    let h = c.self.inside in
    let s = c.args.service.0 in
    let many : length (view_of h) ≡ length h.lists.items = length-map h.lists.items (λ list. list.items) in
    let lt : s < length h.lists.items = subst (λ (n : ℕ). s < n) (ap (λ (v : List (List (List ℕ))). length v) (sym c.self.view_is) ∙ many) c.requires in
    let same = same_seen (λ list. list.items) h.lists.items s c.index_mut-list.result.now c.reserve.new.self lt c.index_mut-list.ensures.value c.reserve.ensures.items in
    let tally : c.add.new.self ≡ h.tally = c.in_err-voted.ensures.err in
    record {
      services = ap (λ (t : TallyView). t.services) tally ∙ c.self.invariant.services ∙ ap (λ (v : List (List (List ℕ))). length v) (sym same);
      tally = subst (λ (t : TallyView). IsTallyOf (lists_of (map (λ list. list.items) (slice_set h.lists.items s c.reserve.new.self))) t) (sym tally)
          (subst (λ (v : List (List (List ℕ))). IsTallyOf (lists_of v) h.tally) (sym same) c.self.invariant.tally);
      seen = subst (λ (v : List (List (List ℕ))). IsGreatestSeen (lists_of v) h.seen) (sym same) c.self.invariant.seen;
    }

pub returns-in_err-voted-clause-err : goal.returns-in_err-voted-clause-err
returns-in_err-voted-clause-err c =
    let h = c.self.inside in
    let s = c.args.service.0 in
    let many : length (view_of h) ≡ length h.lists.items = length-map h.lists.items (λ list. list.items) in
    let lt : s < length h.lists.items = subst (λ (n : ℕ). s < n) (ap (λ (v : List (List (List ℕ))). length v) (sym c.self.view_is) ∙ many) c.requires in
    let same = same_seen (λ list. list.items) h.lists.items s c.index_mut-list.result.now c.reserve.new.self lt c.index_mut-list.ensures.value c.reserve.ensures.items in
    on_err c.from_residual-in_err-voted.result _ (same ∙ c.self.view_is)

pub invariant_of-self-2 : goal.invariant_of-self-2
invariant_of-self-2 c =
    let h = c.self.inside in
    let s = c.args.service.0 in
    let voted = c.in_ok-voted.voted in
    let many : length (view_of h) ≡ length h.lists.items = length-map h.lists.items (λ list. list.items) in
    let lt : s < length h.lists.items = subst (λ (n : ℕ). s < n) (ap (λ (v : List (List (List ℕ))). length v) (sym c.self.view_is) ∙ many) c.requires in
    let pushed = c.push_reserved.ensures.items ∙ ap (λ (ts : List (List ℕ)). ts ++ c.args.text ∷ []) c.reserve.ensures.items in
    let more = more_seen (λ list. list.items) h.lists.items s c.index_mut-list.result.now c.push_reserved.new.self c.args.text lt c.index_mut-list.ensures.value pushed in
    let tallies : IsTallyOf (goes_on (lists_of (view_of h)) s (with_record (record_at c.args.text) [])) c.add.new.self =
    subst (λ (t : List ℕ). IsTallyOf (goes_on (lists_of (view_of h)) s (with_record (record_at t) [])) c.add.new.self) c.as_slice.ensures (c.in_ok-voted.ensures.ok (lists_of (view_of h)) c.self.invariant.tally) in
    let v : IsVotedAt (lists_of (view_of h) s) (record_at c.args.text) voted =
    subst (λ (t : List ℕ). IsVotedAt (lists_of (view_of h) s) (record_at t) voted) c.as_slice.ensures (c.in_ok-voted.ensures.voted (lists_of (view_of h)) c.self.invariant.tally) in
    let keeps = keeps_more (view_of h) h.tally c.add.new.self h.seen s c.args.text voted (record { services = c.self.invariant.services; tally = c.self.invariant.tally; seen = c.self.invariant.seen })
    (subst (λ (n : ℕ). s < n) (sym many) lt) c.add.ensures.services tallies v in
    let top : c.max-self-inside.result ≡ max h.seen (unwrap_or voted 0) = c.max-self-inside.ensures ∙ ap (max h.seen) c.unwrap_or.ensures in
    record {
      services = keeps.services ∙ ap (λ (v : List (List (List ℕ))). length v) (sym more);
      tally = subst (λ (v : List (List (List ℕ))). IsTallyOf (lists_of v) c.add.new.self) (sym more) keeps.tally;
      seen = subst (λ (n : ℕ). IsGreatestSeen (lists_of (map (λ list. list.items) (slice_set h.lists.items s c.push_reserved.new.self))) n) (sym top)
          (subst (λ (v : List (List (List ℕ))). IsGreatestSeen (lists_of v) (max h.seen (unwrap_or voted 0))) (sym more) keeps.seen);
    }

pub returns-clause-ok : goal.returns-clause-ok
returns-clause-ok c =
    let h = c.self.inside in
    let s = c.args.service.0 in
    let many : length (view_of h) ≡ length h.lists.items = length-map h.lists.items (λ list. list.items) in
    let lt : s < length h.lists.items = subst (λ (n : ℕ). s < n) (ap (λ (v : List (List (List ℕ))). length v) (sym c.self.view_is) ∙ many) c.requires in
    let pushed = c.push_reserved.ensures.items ∙ ap (λ (ts : List (List ℕ)). ts ++ c.args.text ∷ []) c.reserve.ensures.items in
    let more = more_seen (λ list. list.items) h.lists.items s c.index_mut-list.result.now c.push_reserved.new.self c.args.text lt c.index_mut-list.ensures.value pushed in
    more ∙ ap (λ (v : List (List (List ℕ))). heard_more v s c.args.text) c.self.view_is
