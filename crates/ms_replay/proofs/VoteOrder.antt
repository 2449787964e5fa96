-- The order of votes.
use Rattle.std.proofs.Common.{◌≡◌, ℕ, ◌≤◌, false, List, Some, sym, ap, ◌∙◌, subst, slice_get, get_or, arith}
use Rattle.std.specs.declared.cmp.Ordering.{Ordering}
use Rattle.std.specs.Ordering.{ordering_then, nat_cmp, is_lt}
use Rattle.std.specs.Cmp.{IsTotalOrder}
use Rattle.std.specs.Cmp.Lexicographic.{slice_cmp}
use Rattle.std.specs.List.Sorted.{IsPermutation}
use Rattle.std.proofs.lemmas.Bool.Decides.{nat_tests}
use Rattle.std.proofs.lemmas.Cmp.{nat_cmp_total, nat_list_cmp_total, on_total, then_total}
use Rattle.std.proofs.lemmas.List.Sorted.{ranks_by, sorted_far, Contains-permutation}
use Rattle.std.proofs.lemmas.Option.{slice_get-get_or, slice_get_within, get_or_from_slice_get}
use Rattle.ms_record.specs.declared.ballot.Ballot.{Ballot}
use Rattle.ms_record.specs.Ballots.{IsAtMost}
use Rattle.ms_replay.specs.declared.voted.Voted.{Voted}
use Rattle.ms_replay.specs.Tallies.{vote_cmp, AreSorted}

pub vote_total : IsTotalOrder vote_cmp
vote_total =
    then_total (on_total (λ (v : Voted). v.position) nat_cmp_total) (then_total (on_total (λ (v : Voted). v.ballot.round) nat_cmp_total)
    (then_total (on_total (λ (v : Voted). v.ballot.client.0) nat_cmp_total) (on_total (λ (v : Voted). v.text) nat_list_cmp_total)))

then_ge : (a b : ℕ) (o : Ordering) → is_lt (ordering_then (nat_cmp a b) o) ≡ false → (b ≤ a) × (a ≡ b → is_lt o ≡ false)
then_ge a b o h = (grind (arith, nat_tests), λ e. grind (arith, nat_tests))

-- w stands behind v, or beside it
pub record IsNotBefore (v w : Voted) : Type 0 where
  pub position : v.position ≤ w.position
  pub ballot : w.position ≡ v.position → IsAtMost v.ballot w.ballot
  pub text : w.position ≡ v.position → w.ballot ≡ v.ballot → is_lt (slice_cmp nat_cmp w.text v.text) ≡ false

pub not_before : (v w : Voted) → is_lt (vote_cmp w v) ≡ false → IsNotBefore v w
not_before v w h =
    let p = then_ge w.position v.position _ h in record {
      position = p.0;
      ballot = λ e. let r = then_ge w.ballot.round v.ballot.round _ (p.1 e) in (r.0, λ s. (then_ge w.ballot.client.0 v.ballot.client.0 _ (r.1 (sym s))).0);
      text = λ e b. let r = then_ge w.ballot.round v.ballot.round _ (p.1 e) in
          let c = then_ge w.ballot.client.0 v.ballot.client.0 _ (r.1 (ap (λ (x : Ballot). x.round) b)) in c.1 (ap (λ (x : Ballot). x.client.0) b);
    }

-- votes in order, by their places
pub in_order : (votes : List Voted) (i j : ℕ) (v w : Voted) → AreSorted votes → i ≤ j → slice_get votes i ≡ Some v → slice_get votes j ≡ Some w → is_lt (vote_cmp w v) ≡ false
in_order votes i j v w sorted l gv gw =
    let far = sorted_far (λ x y. is_lt (vote_cmp x y)) (ranks_by vote_total (λ (x : Voted). x)) votes sorted i j v l (slice_get_within votes j w gw) in
    subst (λ (x : Voted). is_lt (vote_cmp w x) ≡ false) (get_or_from_slice_get votes i v v gv)
    (subst (λ (x : Voted). is_lt (vote_cmp x (get_or votes i v)) ≡ false) (get_or_from_slice_get votes j w v gw) far)

-- what stands in a list stands in its permutation
pub moved : {X : Type 0} (xs ys : List X) (i : ℕ) (x : X) → IsPermutation xs ys → slice_get xs i ≡ Some x → (j : ℕ) × (slice_get ys j ≡ Some x)
moved xs ys i x p g =
    let c = Contains-permutation xs ys x p (i, slice_get_within xs i x g, get_or_from_slice_get xs i x x g) in
    (c.0, slice_get-get_or ys c.0 x c.1 ∙ ap (λ y. Some y) c.2)
