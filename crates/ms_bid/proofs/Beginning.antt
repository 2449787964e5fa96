-- A bid of which nothing was done is in order.
use Rattle.std.proofs.Common.{◌≡◌, ℕ, Bool, true, false, List, Option, Some, None, inl, inr, sym, ap, ◌∙◌, subst, length, get_or, replicate, arith}
use Rattle.std.proofs.lemmas.Bool.{cases_lt}
use Rattle.std.proofs.lemmas.List.{length-replicate, get_or-replicate, get_or_past}
use Rattle.ms_record.specs.declared.ballot.Ballot.{Ballot}
use Rattle.ms_record.specs.declared.entry.Entry.{Entry}
use Rattle.ms_record.specs.Records.{IsBallot, IsPosition}
use Rattle.ms_bid.specs.declared.act.Act.{Act}
use Rattle.ms_bid.specs.declared.bid.Bid.{Bid}
use Rattle.ms_record.specs.declared.sight.Sight.{Sight}
use Rattle.ms_bid.specs.Ends.{AreBelow}
use Rattle.ms_bid.specs.Shown.{sight_at}
use Rattle.ms_bid.specs.Bids.{IsBid, IsPending, IsFresh, IsUnseen, OnlySeen, OnlyOf, SeenAreFree, seen_of}

pub all_one : {X : Type 0} (n : ℕ) (x : X) (s : ℕ) → get_or (replicate n x) s x ≡ x
all_one n x s =
    elim (cases_lt s n) [
      | inl l ↦ get_or-replicate n s x x l
      | inr g ↦ get_or_past (replicate n x) s x (omega (arith, g, length-replicate n x))
    ]

seen_many : (n : ℕ) (o : Option Sight) → length (replicate n o) ≡ n
seen_many n o = length-replicate n o

none_seen : (n : ℕ) (voters : List ℕ) → OnlySeen (replicate n None) voters
none_seen n voters s sight is = absurd (let q : None ≡ Some sight = sym (all_one n None s) ∙ is in cc)

none_marked : (n : ℕ) (voters : List ℕ) → OnlyOf (replicate n false) voters
none_marked n voters s is = absurd (let q : false ≡ true = sym (all_one n false s) ∙ is in cc)

-- where nothing was seen in this round of looks, no service that was looked at failed
pub free_of_none : (seen : List (Option Sight)) (failed : List Bool) → seen ≡ replicate 16 None → SeenAreFree seen failed
free_of_none seen failed none s sight is = absurd (let q : None ≡ Some sight = sym (all_one 16 None s) ∙ (ap (λ (l : List (Option Sight)). sight_at l s) (sym none) ∙ is) in cc)

pub seen_now : (offer : Option Entry) (first second : List (Option Sight)) → IsUnseen offer first second → seen_of offer first second ≡ replicate 16 None
seen_now None first second h = h.0
seen_now (Some e) first second h = h

pub fresh_bid : (voters : List ℕ) (position : ℕ) (ballot : Ballot) (want : Option Entry) (b : Bid) → IsFresh voters position ballot want b → IsPosition position → IsBallot ballot
    → ((e : Entry) → want ≡ Some e → e.client ≡ ballot.client) → AreBelow voters 16 → IsBid b
fresh_bid voters position ballot want b f place range own below = record {
  framed = record {
    position = subst (λ (k : ℕ). IsPosition k) (sym f.position_is) place;
    ballot = subst (λ (x : Ballot). IsBallot x) (sym f.ballot_is) range;
    own = λ e is. own e (sym f.want_is ∙ is) ∙ ap (λ (x : Ballot). x.client) (sym f.ballot_is);
    below = subst (λ (v : List ℕ). AreBelow v 16) (sym f.voters_are) below;
    first_many = ap length f.first_is ∙ seen_many 16 None;
    second_many = ap length f.second_is ∙ seen_many 16 None;
    sent_many = ap length f.sent_is ∙ length-replicate 16 false;
    failed_many = ap length f.failed_is ∙ length-replicate 16 false;
    first_of = subst (λ (looks : List (Option Sight)). OnlySeen looks b.voters) (sym f.first_is) (none_seen 16 b.voters);
    second_of = subst (λ (looks : List (Option Sight)). OnlySeen looks b.voters) (sym f.second_is) (none_seen 16 b.voters);
    failed_of = subst (λ (flags : List Bool). OnlyOf flags b.voters) (sym f.failed_is) (none_marked 16 b.voters);
    seen_free = subst (λ (o : Option Entry). SeenAreFree (seen_of o b.first_looks b.second_looks) b.failed) (sym f.offer_is) (free_of_none b.first_looks b.failed f.first_is);
  };
  pending = subst (λ (a : Act). IsPending b a) (sym f.act_is) (ap (λ (x : Ballot). x.round) (sym f.ballot_is), f.offer_is, (f.first_is, f.second_is));
}
