-- What is so of a bid when one more answer is noted.
use Rattle.std.proofs.Common.{◌≡◌, ℕ, ◌+◌, ◌<◌, Bool, true, false, List, Option, Some, None, inl, inr, refl, sym, ap, ◌∙◌, subst, length, slice_set, arith}
use Rattle.std.specs.Prelude.{Contains}
use Rattle.std.proofs.lemmas.Bool.{cases_eq}
use Rattle.std.proofs.lemmas.List.{get_or-set_same, get_or-set_other, length-set}
use Rattle.ms_record.specs.declared.sight.Sight.{Sight}
use Rattle.ms_bid.specs.Shown.{sight_at}
use Rattle.ms_bid.specs.Ends.{flag_at, AllSent, AllSeen, IsLackEnd, ShowsGreater}
use Rattle.ms_record.specs.declared.ballot.Ballot.{Ballot}
use Rattle.ms_bid.specs.declared.act.Outcome.{Outcome}
use Rattle.ms_bid.specs.declared.act.Outcome.TheVariants.{Decided, Nothing, Outbid, NoMajority, Unlisted, KeepFault}
use Rattle.ms_record.specs.declared.entry.Entry.{Entry}
use Rattle.ms_bid.specs.declared.bid.Bid.{Bid}
use Rattle.ms_bid.specs.Bids.{OnlyOf, OnlySeen, IsEnd, IsFramed, IsLooked, Lacks, NoneSeenFrom, SeenAreFree, seen_of, sought_of}

-- who is free of the mark when one more is marked was free before, and is another
pub free_before : (flags : List Bool) (t s : ℕ) → t < length flags → flag_at (slice_set flags t true) s ≡ false → (s ≡ t → ⊥) × (flag_at flags s ≡ false)
free_before flags t s within h =
    elim (cases_eq s t) [
      | inl e ↦ absurd (let q : true ≡ false = sym (get_or-set_same flags t true false within) ∙ ap (λ (n : ℕ). flag_at (slice_set flags t true) n) (sym e) ∙ h in cc)
      | inr n ↦ (n, sym (get_or-set_other flags t s true false n) ∙ h)
    ]

-- the message went to one more
pub sent_more : (sent failed : List Bool) (voters : List ℕ) (t : ℕ) → t < length sent → AllSent sent failed voters t → AllSent (slice_set sent t true) failed voters (t + 1)
sent_more sent failed voters t within h s l v f =
    elim (cases_eq s t) [
      | inl e ↦ ap (λ (n : ℕ). flag_at (slice_set sent t true) n) e ∙ get_or-set_same sent t true false within
      | inr n ↦ get_or-set_other sent t s true false n ∙ h s (omega (arith, l, n)) v f
    ]

-- one more failed: the message went to the others
pub sent_failed : (sent failed : List Bool) (voters : List ℕ) (t : ℕ) → t < length failed → AllSent sent failed voters t → AllSent sent (slice_set failed t true) voters (t + 1)
sent_failed sent failed voters t within h s l v f = let b = free_before failed t s within f in h s (omega (arith, l, b.0)) v b.1

pub seen_failed : (sights : List (Option Sight)) (failed : List Bool) (voters : List ℕ) (t : ℕ) → t < length failed → AllSeen sights failed voters t → AllSeen sights (slice_set failed t true) voters (t + 1)
seen_failed sights failed voters t within h s l v f = let b = free_before failed t s within f in h s (omega (arith, l, b.0)) v b.1

-- one more was looked at
pub seen_more : (sights : List (Option Sight)) (failed : List Bool) (voters : List ℕ) (t : ℕ) (sight : Sight) → t < length sights → AllSeen sights failed voters t
    → AllSeen (slice_set sights t (Some sight)) failed voters (t + 1)
seen_more sights failed voters t sight within h s l v f none =
    elim (cases_eq s t) [
      | inl e ↦ (let q : Some sight ≡ None = sym (get_or-set_same sights t (Some sight) None within) ∙ ap (λ (n : ℕ). sight_at (slice_set sights t (Some sight)) n) (sym e) ∙ none in cc)
      | inr n ↦ h s (omega (arith, l, n)) v f (sym (get_or-set_other sights t s (Some sight) None n) ∙ none)
    ]

pub only_seen : (sights : List (Option Sight)) (voters : List ℕ) (t : ℕ) (sight : Sight) → Contains voters t → OnlySeen sights voters → OnlySeen (slice_set sights t (Some sight)) voters
only_seen sights voters t sight votes h s x is =
    elim (cases_eq s t) [
      | inl e ↦ subst (λ (n : ℕ). Contains voters n) (sym e) votes
      | inr n ↦ h s x (sym (get_or-set_other sights t s (Some sight) None n) ∙ is)
    ]

-- one more was looked at in the looks of this time
pub looks_first : (offer : Option Entry) (first second : List (Option Sight)) (failed : List Bool) (voters : List ℕ) (t : ℕ) (sight : Sight) → offer ≡ None → t < length first
    → AllSeen (seen_of offer first second) failed voters t → AllSeen (seen_of offer (slice_set first t (Some sight)) second) failed voters (t + 1)
looks_first None first second failed voters t sight is within h = seen_more first failed voters t sight within h
looks_first (Some e) first second failed voters t sight is within h = absurd cc

pub looks_second : (offer : Option Entry) (entry : Entry) (first second : List (Option Sight)) (failed : List Bool) (voters : List ℕ) (t : ℕ) (sight : Sight) → offer ≡ Some entry → t < length second
    → AllSeen (seen_of offer first second) failed voters t → AllSeen (seen_of offer first (slice_set second t (Some sight))) failed voters (t + 1)
looks_second None entry first second failed voters t sight is within h = absurd cc
looks_second (Some e) entry first second failed voters t sight is within h = seen_more second failed voters t sight within h

-- one that did not fail was looked at
pub free_more : (seen : List (Option Sight)) (failed : List Bool) (t : ℕ) (sight : Sight) → flag_at failed t ≡ false → SeenAreFree seen failed → SeenAreFree (slice_set seen t (Some sight)) failed
free_more seen failed t sight free h s x is =
    elim (cases_eq s t) [
      | inl e ↦ ap (λ (n : ℕ). flag_at failed n) e ∙ free
      | inr n ↦ h s x (sym (get_or-set_other seen t s (Some sight) None n) ∙ is)
    ]

-- one that was not looked at failed
pub free_failed : (seen : List (Option Sight)) (failed : List Bool) (t : ℕ) → sight_at seen t ≡ None → SeenAreFree seen failed → SeenAreFree seen (slice_set failed t true)
free_failed seen failed t none h s x is =
    elim (cases_eq s t) [
      | inl e ↦ absurd (let q : None ≡ Some x = sym none ∙ (ap (λ (n : ℕ). sight_at seen n) (sym e) ∙ is) in cc)
      | inr n ↦ get_or-set_other failed t s true false n ∙ h s x is
    ]

-- behind the one that was looked at nothing was seen
unseen_more : (seen : List (Option Sight)) (t : ℕ) (sight : Sight) → NoneSeenFrom seen t → NoneSeenFrom (slice_set seen t (Some sight)) (t + 1)
unseen_more seen t sight h s l = get_or-set_other seen t s (Some sight) None (λ e. omega (arith, l, e)) ∙ h s (omega (arith, l))

pub unseen_first : (offer : Option Entry) (first second : List (Option Sight)) (t : ℕ) (sight : Sight) → offer ≡ None → NoneSeenFrom (seen_of offer first second) t
    → NoneSeenFrom (seen_of offer (slice_set first t (Some sight)) second) (t + 1)
unseen_first None first second t sight is h = unseen_more first t sight h
unseen_first (Some e) first second t sight is h = absurd cc

pub unseen_second : (offer : Option Entry) (entry : Entry) (first second : List (Option Sight)) (t : ℕ) (sight : Sight) → offer ≡ Some entry → NoneSeenFrom (seen_of offer first second) t
    → NoneSeenFrom (seen_of offer first (slice_set second t (Some sight))) (t + 1)
unseen_second None entry first second t sight is h = absurd cc
unseen_second (Some e) entry first second t sight is h = unseen_more second t sight h

free_first : (offer : Option Entry) (first second : List (Option Sight)) (failed : List Bool) (t : ℕ) (sight : Sight) → offer ≡ None → flag_at failed t ≡ false
    → SeenAreFree (seen_of offer first second) failed → SeenAreFree (seen_of offer (slice_set first t (Some sight)) second) failed
free_first None first second failed t sight is free h = free_more first failed t sight free h
free_first (Some e) first second failed t sight is free h = absurd cc

free_second : (offer : Option Entry) (entry : Entry) (first second : List (Option Sight)) (failed : List Bool) (t : ℕ) (sight : Sight) → offer ≡ Some entry → flag_at failed t ≡ false
    → SeenAreFree (seen_of offer first second) failed → SeenAreFree (seen_of offer first (slice_set second t (Some sight))) failed
free_second None entry first second failed t sight is free h = absurd cc
free_second (Some e) entry first second failed t sight is free h = free_more second failed t sight free h

-- who shows a greater ballot did not fail
pub outbid_free : (seen : List (Option Sight)) (failed : List Bool) (ballot top : Ballot) (s : ℕ) → SeenAreFree seen failed → ShowsGreater ballot (sight_at seen s) top → flag_at failed s ≡ false
outbid_free seen failed ballot top s h shown = by (sight_at seen s) refl shown where
  by : (o : Option Sight) → sight_at seen s ≡ o → ShowsGreater ballot o top → flag_at failed s ≡ false
  by None is x = absurd x
  by (Some sight) is x = h s sight is

-- the end of a round of looks without a majority
pub lack_ends : (b : Bid) (outcome : Outcome) → IsFramed b → IsLooked b → Lacks b
    → IsLackEnd (sought_of b.offer) (seen_of b.offer b.first_looks b.second_looks) b.voters b.sent b.failed b.ballot outcome → IsEnd b outcome
lack_ends b (NoMajority those) framed looked lacks h = (looked, lacks, h.0, h.1)
lack_ends b (Outbid service top) framed looked lacks h =
    (looked, h.1, outbid_free (seen_of b.offer b.first_looks b.second_looks) b.failed b.ballot top service.0 framed.seen_free h.1.shows_it, inr (lacks, h.0))
lack_ends b (Unlisted service) framed looked lacks h = (looked, lacks, h)
lack_ends b (Decided entry) framed looked lacks h = absurd h
lack_ends b Nothing framed looked lacks h = absurd h
lack_ends b KeepFault framed looked lacks h = absurd h

-- a sight of a voter that did not fail keeps the frame
pub framed_first : (b : Bid) (t : ℕ) (sight : Sight) → IsFramed b → Contains b.voters t → b.offer ≡ None → flag_at b.failed t ≡ false → IsFramed (record b { first_looks = slice_set b.first_looks t (Some sight) })
framed_first b t sight h votes offer free = record {
  position = h.position;
  ballot = h.ballot;
  own = h.own;
  below = h.below;
  first_many = length-set b.first_looks t (Some sight) ∙ h.first_many;
  second_many = h.second_many;
  sent_many = h.sent_many;
  failed_many = h.failed_many;
  first_of = only_seen b.first_looks b.voters t sight votes h.first_of;
  second_of = h.second_of;
  failed_of = h.failed_of;
  seen_free = free_first b.offer b.first_looks b.second_looks b.failed t sight offer free h.seen_free;
}

pub framed_second : (b : Bid) (entry : Entry) (t : ℕ) (sight : Sight) → IsFramed b → Contains b.voters t → b.offer ≡ Some entry → flag_at b.failed t ≡ false → IsFramed (record b { second_looks = slice_set b.second_looks t (Some sight) })
framed_second b entry t sight h votes offer free = record {
  position = h.position;
  ballot = h.ballot;
  own = h.own;
  below = h.below;
  first_many = h.first_many;
  second_many = length-set b.second_looks t (Some sight) ∙ h.second_many;
  sent_many = h.sent_many;
  failed_many = h.failed_many;
  first_of = h.first_of;
  second_of = only_seen b.second_looks b.voters t sight votes h.second_of;
  failed_of = h.failed_of;
  seen_free = free_second b.offer entry b.first_looks b.second_looks b.failed t sight offer free h.seen_free;
}

only_failed : (flags : List Bool) (voters : List ℕ) (t : ℕ) → Contains voters t → OnlyOf flags voters → OnlyOf (slice_set flags t true) voters
only_failed flags voters t votes h s is =
    elim (cases_eq s t) [
      | inl e ↦ subst (λ (n : ℕ). Contains voters n) (sym e) votes
      | inr n ↦ h s (sym (get_or-set_other flags t s true false n) ∙ is)
    ]

pub framed_failed : (b : Bid) (t : ℕ) → IsFramed b → Contains b.voters t → sight_at (seen_of b.offer b.first_looks b.second_looks) t ≡ None → IsFramed (record b { failed = slice_set b.failed t true })
framed_failed b t h votes none = record {
  position = h.position;
  ballot = h.ballot;
  own = h.own;
  below = h.below;
  first_many = h.first_many;
  second_many = h.second_many;
  sent_many = h.sent_many;
  failed_many = length-set b.failed t true ∙ h.failed_many;
  first_of = h.first_of;
  second_of = h.second_of;
  failed_of = only_failed b.failed b.voters t votes h.failed_of;
  seen_free = free_failed (seen_of b.offer b.first_looks b.second_looks) b.failed t none h.seen_free;
}
