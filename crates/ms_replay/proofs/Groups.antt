-- Votes in order, in groups of one text.
use Rattle.std.proofs.Common.{◌≡◌, ◌≢◌, ℕ, ◌+◌, ◌-◌, ◌<◌, ◌≤◌, Bool, true, false, ◌&&◌, List, [], ◌∷◌, ◌++◌, Option, Some, None, ◌⊎◌, inl, inr, refl, sym, ap, ◌∙◌, subst, slice_get, length, take, drop, get_or, count_by, arith}
use Rattle.std.specs.Prelude.{bytes_eq, ◌==◌}
use Rattle.std.specs.declared.cmp.Ordering.{Ordering}
use Rattle.std.specs.declared.cmp.Ordering.TheVariants.{Less, Equal, Greater}
use Rattle.std.specs.Ordering.{ordering_then, ordering_reverse, nat_cmp, is_lt, is_eq}
use Rattle.std.specs.Int.{w32, to_be_bytes}
use Rattle.std.specs.Cmp.Lexicographic.{slice_cmp, same_text}
use Rattle.std.proofs.lemmas.Bool.{cases_lt}
use Rattle.std.proofs.lemmas.Bool.Decides.{nat_tests}
use Rattle.std.proofs.lemmas.Cmp.{nat_cmp_total, nat_list_cmp_total, tied_itself}
use Rattle.std.proofs.lemmas.Map.Text.{is_eq-slice_cmp}
use Rattle.std.proofs.lemmas.Option.{slice_get_within, slice_get-get_or}
use Rattle.ms_record.specs.declared.ballot.Ballot.{Ballot}
use Rattle.ms_record.specs.declared.ballot.Vote.{Vote}
use Rattle.ms_record.specs.declared.entry.Entry.{Entry}
use Rattle.ms_record.specs.declared.record.Record.TheVariants.{Accept}
use Rattle.ms_record.specs.Ballots.{IsAtMost}
use Rattle.ms_record.specs.Entries.{entry_text}
use Rattle.ms_record.specs.Reading.{record_at}
use Rattle.ms_record.specs.Records.{record_text, ballot_text}
use Rattle.ms_replay.specs.declared.voted.Voted.{Voted}
use Rattle.ms_replay.specs.Standings.{Differs, IsGiven, IsNoLater, IsTextAtMost}
use Rattle.ms_replay.specs.Tallies.{IsVote, vote_cmp}
use Rattle.ms_replay.specs.Winners.{AreHere, IsGroup, has_voted, has_text, HasMajority, IsFirstWinner, IsGreatestHere}
use Rattle.ms_record.specs.BallotOrder.{same_ballot}
use Rattle.ms_replay.proofs.VoteOrder.{not_before}
use Rattle.ms_base.specs.Options.{both}
use Rattle.ms_replay.proofs.ListPlaces.{place_take, take_place, drop_place, any_at, at_any, bool_same, count_congr}

-- what a vote's text reads as
pub record Fixes (v : Voted) (k : ℕ) (b : Ballot) (e : Entry) : Type 0 where
  pub position : v.position ≡ k
  pub ballot : v.ballot ≡ b
  pub spells : v.text ≡ record_text (Accept k b e)

same_accept : (k q : ℕ) (b c : Ballot) (e f : Entry) → Some (Accept k b e) ≡ Some (Accept q c f) → (k ≡ q) × (b ≡ c) × (e ≡ f)
same_accept k q b c e f h = let w : Accept k b e ≡ Accept q c f = cc in (cc, cc, cc)

pub fixes : (v : Voted) (k : ℕ) (b : Ballot) (e : Entry) → IsVote v → record_at v.text ≡ Some (Accept k b e) → Fixes v k b e
fixes v k b e is reads =
    let s = same_accept v.position k v.ballot b is.entry e (sym is.reads ∙ reads) in record {
      position = s.0;
      ballot = s.1;
      spells = is.spells ∙ ap (λ (n : ℕ). record_text (Accept n v.ballot is.entry)) s.0 ∙ ap (λ (x : Ballot). record_text (Accept k x is.entry)) s.1 ∙ ap (λ (x : Entry). record_text (Accept k b x)) s.2;
    }

-- votes of one text are for one entry
pub one_entry : (v w : Voted) (k q : ℕ) (b c : Ballot) (e f : Entry) → v.text ≡ w.text → record_at v.text ≡ Some (Accept k b e) → record_at w.text ≡ Some (Accept q c f) → (k ≡ q) × (b ≡ c) × (e ≡ f)
one_entry v w k q b c e f same rv rw = same_accept k q b c e f (sym rv ∙ ap record_at same ∙ rw)

-- two ballots of which none is above the other are one
pub ballots_meet : (b c : Ballot) → IsAtMost b c → IsAtMost c b → c ≡ b
ballots_meet b c l m = let r : c.round ≡ b.round = omega (arith, l.0, m.0) in let s : c.client.0 ≡ b.client.0 = omega (arith, l.1 (sym r), m.1 r) in same_ballot c b r s

equal_of : (o p : Ordering) → o ≡ ordering_reverse p → is_lt o ≡ false → is_lt p ≡ false → is_eq o ≡ true
equal_of Less p e h k = cc
equal_of Equal p e h k = refl
equal_of Greater Less e h k = cc
equal_of Greater Equal e h k = (let q : Greater ≡ Equal = e in cc)
equal_of Greater Greater e h k = (let q : Greater ≡ Less = e in cc)

-- two texts of which none comes before the other are one
pub texts_meet : (xs ys : List ℕ) → is_lt (slice_cmp nat_cmp xs ys) ≡ false → is_lt (slice_cmp nat_cmp ys xs) ≡ false → xs ≡ ys
texts_meet xs ys h k = same_text xs ys (sym (sym (is_eq-slice_cmp xs ys) ∙ equal_of (slice_cmp nat_cmp xs ys) (slice_cmp nat_cmp ys xs) (nat_list_cmp_total.antisymm xs ys) h k))

-- a vote between two votes of one text has that text
pub between : (x y z : Voted) → IsVote x → IsVote z → is_lt (vote_cmp y x) ≡ false → is_lt (vote_cmp z y) ≡ false → x.text ≡ z.text → y.text ≡ x.text
between x y z vx vz xy yz same =
    let one = one_entry x z x.position z.position x.ballot z.ballot vx.entry vz.entry same vx.reads vz.reads in
    let lo = not_before x y xy in
    let hi = not_before y z yz in
    let p : y.position ≡ x.position = omega (arith, lo.position, hi.position, one.0) in
    let q : z.position ≡ y.position = sym one.0 ∙ sym p in
    let b : y.ballot ≡ x.ballot = ballots_meet x.ballot y.ballot (lo.ballot p) (subst (λ (c : Ballot). IsAtMost y.ballot c) (sym one.1) (hi.ballot q)) in
    let c : z.ballot ≡ y.ballot = sym one.1 ∙ sym b in
    let t : is_lt (slice_cmp nat_cmp x.text y.text) ≡ false = subst (λ (ts : List ℕ). is_lt (slice_cmp nat_cmp ts y.text) ≡ false) (sym same) (hi.text q c) in
    texts_meet y.text x.text (lo.text p b) t

-- the votes of a text are all in its group
pub group_whole : (k : ℕ) (part : List Voted) (from to : ℕ) → AreHere k part → IsGroup part from to
    → ((v w : Voted) → 0 < from → slice_get part (from - 1) ≡ Some v → slice_get part from ≡ Some w → v.text ≢ w.text)
    → (i : ℕ) (v w : Voted) → slice_get part i ≡ Some v → slice_get part from ≡ Some w → v.text ≡ w.text → (from ≤ i) × (i < to)
group_whole k part from to here group starts i v w gv gw same = (
  elim (cases_lt i from) [
    | inr l ↦ l
    | inl l ↦
        let within : from - 1 < length part = (let m = slice_get_within part from w gw in omega arith) in
        let u = slice_get-get_or part (from - 1) v within in
        let m = get_or part (from - 1) v in
        absurd (starts m w (omega arith) u gw
        (between v m w (here.votes i v gv) (here.votes from w gw) (here.order i (from - 1) v m (omega arith) gv u) (here.order (from - 1) from m w (omega arith) u gw) same ∙ same))
  ],
  elim (cases_lt i to) [
    | inl l ↦ l
    | inr l ↦
        let some = group.some in
        let within : to < length part = (let m = slice_get_within part i v gv in omega arith) in
        let u = slice_get-get_or part to v within in
        let m = get_or part to v in
        absurd (group.ends m w u gw
        (between w m v (here.votes from w gw) (here.votes i v gv) (here.order from to w m (omega arith) gw u) (here.order to i m v l u gv) (sym same)))
  ],
)

pub bytes_same : (xs ys : List ℕ) → xs ≡ ys → bytes_eq xs ys ≡ true
bytes_same xs ys e = ap (bytes_eq xs) (sym e) ∙ sym (is_eq-slice_cmp xs xs) ∙ ap is_eq (tied_itself nat_list_cmp_total xs)

pub number_is : (m n : ℕ) → (m == n) ≡ true → m ≡ n
number_is m n h = grind (arith, nat_tests)

-- the services of a group are those that have a vote of its text
pub group_votes : (k : ℕ) (part group : List Voted) (from to : ℕ) (w : Voted) → AreHere k part → IsGroup part from to
    → ((v w : Voted) → 0 < from → slice_get part (from - 1) ≡ Some v → slice_get part from ≡ Some w → v.text ≢ w.text)
    → group ≡ take (to - from) (drop from part) → slice_get part from ≡ Some w → (s : ℕ) → has_voted group s ≡ has_text part w.text s
group_votes k part group from to w here g starts is gw s = bool_same (has_voted group s) (has_text part w.text s)
    (λ h.
    let a = any_at (λ (v : Voted). v.service == s) group h in
    let t = place_take (to - from) (drop from part) a.0 a.1 (ap (λ (vs : List Voted). slice_get vs a.0) (sym is) ∙ a.2) in
    let at : slice_get part (from + a.0) ≡ Some a.1 = sym (drop_place from part a.0) ∙ t.1 in
    let same = g.same (from + a.0) a.1 w (omega arith) (omega (arith, t.0)) at gw in
    at_any (λ (v : Voted). bytes_eq v.text w.text && (v.service == s)) part (from + a.0) a.1 at (together _ _ (bytes_same a.1.text w.text same) a.3))
    (λ h.
    let a = any_at (λ (v : Voted). bytes_eq v.text w.text && (v.service == s)) part h in
    let t = both (bytes_eq a.1.text w.text) (a.1.service == s) a.3 in
    let l = group_whole k part from to here g starts a.0 a.1 w a.2 gw (same_text a.1.text w.text (sym t.0)) in
    let at : slice_get group (a.0 - from) ≡ Some a.1 =
    ap (λ (vs : List Voted). slice_get vs (a.0 - from)) is ∙ take_place (to - from) (drop from part) (a.0 - from) (omega (arith, l.0, l.1)) ∙ drop_place from part (a.0 - from)
    ∙ ap (slice_get part) (let e : from + (a.0 - from) ≡ a.0 = omega (arith, l.0) in e) ∙ a.2 in
    at_any (λ (v : Voted). v.service == s) group (a.0 - from) a.1 at t.1)
  where
    together : (a b : Bool) → a ≡ true → b ≡ true → (a && b) ≡ true
    together a b p q = ap (λ (x : Bool). x && b) p ∙ q

-- so a majority of a group is one of its text
pub group_majority : (k : ℕ) (voters : List ℕ) (part group : List Voted) (from to : ℕ) (w : Voted) → AreHere k part → IsGroup part from to
    → ((v w : Voted) → 0 < from → slice_get part (from - 1) ≡ Some v → slice_get part from ≡ Some w → v.text ≢ w.text)
    → group ≡ take (to - from) (drop from part) → slice_get part from ≡ Some w
    → count_by (has_voted group) voters ≡ count_by (has_text part w.text) voters
group_majority k voters part group from to w here g starts is gw =
    count_congr (has_voted group) (has_text part w.text) voters (group_votes k part group from to w here g starts is gw)

-- what is before these bytes is alike
front_same : (xs ys zs : List ℕ) → slice_cmp nat_cmp (xs ++ ys) (xs ++ zs) ≡ slice_cmp nat_cmp ys zs
front_same [] ys zs = refl
front_same (x ∷ xs) ys zs = ap (λ (o : Ordering). ordering_then o (slice_cmp nat_cmp (xs ++ ys) (xs ++ zs))) (tied_itself nat_cmp_total x) ∙ front_same xs ys zs

-- at one position and ballot, records are ordered as their entries
pub entries_order : (v w : Voted) (k : ℕ) (b : Ballot) (e f : Entry) → v.text ≡ record_text (Accept k b e) → w.text ≡ record_text (Accept k b f) → is_lt (slice_cmp nat_cmp w.text v.text) ≡ false → IsTextAtMost e f
entries_order v w k b e f sv sw h =
    ap is_lt (sym (front_same (65 ∷ [] ++ to_be_bytes w32 k ++ ballot_text b) (entry_text f) (entry_text e)))
    ∙ ap (λ (t : List ℕ). is_lt (slice_cmp nat_cmp t (record_text (Accept k b e)))) (sym sw) ∙ ap (λ (t : List ℕ). is_lt (slice_cmp nat_cmp w.text t)) (sym sv) ∙ h

-- a vote that stands behind another is no earlier
pub no_earlier : (v w : Voted) (k : ℕ) (b c : Ballot) (e f : Entry) → Fixes v k b e → Fixes w k c f → is_lt (vote_cmp w v) ≡ false → IsNoLater b e c f
no_earlier v w k b c e f fv fw h =
    let n = not_before v w h in
    let p : w.position ≡ v.position = fw.position ∙ sym fv.position in (
      subst (λ (x : Ballot). IsAtMost b x) fw.ballot (subst (λ (x : Ballot). IsAtMost x w.ballot) fv.ballot (n.ballot p)),
      λ same. entries_order v w k b e f fv.spells (fw.spells ∙ ap (λ (x : Ballot). record_text (Accept k x f)) same) (n.text p (fw.ballot ∙ same ∙ sym fv.ballot)),
    )

pub starts_next : (part : List Voted) (from to : ℕ) (w : Voted) → IsGroup part from to → slice_get part from ≡ Some w
    → (u v : Voted) → 0 < to → slice_get part (to - 1) ≡ Some u → slice_get part to ≡ Some v → u.text ≢ v.text
starts_next part from to w g gw u v pos gu gv same =
    g.ends v w gv gw (sym same ∙ g.same (to - 1) u w (let s = g.some in omega arith) (omega arith) gu gw)

-- the group at this place is for no other winner
pub passed_next : (part : List Voted) (voters : List ℕ) (k : ℕ) (but : Option Entry) (from to : ℕ) (w : Voted) → IsGroup part from to → slice_get part from ≡ Some w
    → ((i : ℕ) (v : Voted) (b : Ballot) (e : Entry) → i < from → slice_get part i ≡ Some v → record_at v.text ≡ Some (Accept k b e) → HasMajority part voters v.text → IsGiven but e)
    → ((b : Ballot) (e : Entry) → record_at w.text ≡ Some (Accept k b e) → HasMajority part voters w.text → IsGiven but e)
    → (i : ℕ) (v : Voted) (b : Ballot) (e : Entry) → i < to → slice_get part i ≡ Some v → record_at v.text ≡ Some (Accept k b e) → HasMajority part voters v.text → IsGiven but e
passed_next part voters k but from to w g gw before here i v b e l gv reads major =
    elim (cases_lt i from) [
      | inl m ↦ before i v b e m gv reads major
      | inr m ↦
          let same = g.same i v w m l gv gw in
          here b e (ap record_at (sym same) ∙ reads) (subst (λ (t : List ℕ). HasMajority part voters t) same major)
    ]

given_other : (but : Option Entry) (e : Entry) → IsGiven but e → Differs but e → ⊥
given_other None e h d = h
given_other (Some f) e h d = d h

-- the first winner
pub first_winner : (k : ℕ) (voters : List ℕ) (part : List Voted) (but : Option Entry) (from : ℕ) (w : Voted) (entry : Entry) → AreHere k part → slice_get part from ≡ Some w
    → record_at w.text ≡ Some (Accept w.position w.ballot entry) → HasMajority part voters w.text → Differs but entry
    → ((i : ℕ) (v : Voted) (b : Ballot) (e : Entry) → i < from → slice_get part i ≡ Some v → record_at v.text ≡ Some (Accept k b e) → HasMajority part voters v.text → IsGiven but e)
    → IsFirstWinner part voters k but entry
first_winner k voters part but from w entry here gw reads major differs before =
    let p : w.position ≡ k = here.here from w gw in
    let r : record_at w.text ≡ Some (Accept k w.ballot entry) = reads ∙ ap (λ (n : ℕ). Some (Accept n w.ballot entry)) p in
    record {
      ballot = w.ballot;
      winner = record { place = from; vote = w; stands = gw; reads = r; majority = major };
      differs = differs;
      first = λ c f o d. elim (cases_lt o.place from) [
        | inl l ↦ absurd (given_other but f (before o.place o.vote c f l o.stands o.reads o.majority) d)
        | inr l ↦
            no_earlier w o.vote k w.ballot c entry f (fixes w k w.ballot entry (here.votes from w gw) r) (fixes o.vote k c f (here.votes o.place o.vote o.stands) o.reads) (here.order from o.place w o.vote l gw o.stands)
      ];
    }

-- the first vote of the last ballot
pub greatest_here : (k : ℕ) (part : List Voted) (at : ℕ) (v last : Voted) (vote : Vote) → AreHere k part → slice_get part at ≡ Some v → slice_get part (length part - 1) ≡ Some last
    → v.ballot ≡ last.ballot → ((i : ℕ) (w : Voted) → i < at → slice_get part i ≡ Some w → w.ballot ≢ last.ballot)
    → vote.ballot ≡ v.ballot → record_at v.text ≡ Some (Accept v.position v.ballot vote.entry) → IsGreatestHere part k vote
greatest_here k part at v last vote here gv gl top before is reads = record {
  place = at;
  voted = v;
  stands = gv;
  reads = reads ∙ ap (λ (n : ℕ). Some (Accept n v.ballot vote.entry)) (here.here at v gv) ∙ ap (λ (b : Ballot). Some (Accept k b vote.entry)) (sym is);
  greatest = λ i w g.
      let l = slice_get_within part i w g in
      let n = not_before w last (here.order i (length part - 1) w last (omega arith) g gl) in
      subst (λ (b : Ballot). IsAtMost w.ballot b) (sym (is ∙ top)) (n.ballot (here.here (length part - 1) last gl ∙ sym (here.here i w g)));
  least = λ i w g same. elim (cases_lt i at) [
    | inl l ↦ absurd (before i w l g (same ∙ is ∙ top))
    | inr l ↦ (not_before v w (here.order at i v w l gv g)).text (here.here i w g ∙ sym (here.here at v gv)) (same ∙ is)
  ];
}

-- a vote of the ballot, or the last vote itself
pub of_last : (part : List Voted) (at : ℕ) (v last : Voted) → slice_get part at ≡ Some v → slice_get part (length part - 1) ≡ Some last
    → (v.ballot ≡ last.ballot) ⊎ (at + 1 ≡ length part) → v.ballot ≡ last.ballot
of_last part at v last gv gl (inl e) = e
of_last part at v last gv gl (inr e) =
    let n : at ≡ length part - 1 = omega arith in
    let q : Some v ≡ Some last = sym gv ∙ ap (slice_get part) n ∙ gl in
    let w : v ≡ last = cc in
    ap (λ (x : Voted). x.ballot) w
