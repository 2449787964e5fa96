-- What is met, and in which order.
use Rattle.std.proofs.Common.{◌≡◌, ℕ, ◌+◌, ◌<◌, ◌≤◌, Bool, true, false, cond, List, [], ◌∷◌, ◌++◌, refl, sym, ap, ◌∙◌, subst, length, get_or, take, map, All, Contains, append_assoc}
use Rattle.std.specs.Prelude.{IsTrue, ◌↔◌}
use Rattle.std.specs.BTreeSet.{BTreeSet, contains, insert_key}
use Rattle.std.specs.Cmp.{IsTotalOrder}
use Rattle.std.specs.Ordering.{is_eq, nat_cmp, ordering_then}
use Rattle.std.specs.Cmp.Lexicographic.{slice_cmp}
use Rattle.std.specs.declared.cmp.Ordering.{Ordering}
use Rattle.std.specs.declared.cmp.Ordering.TheVariants.{Less, Equal, Greater}
use Rattle.std.proofs.lemmas.List.{append-nil, take_more, map-append, take_all}
use Rattle.std.proofs.lemmas.List.Elements.{All-nil, All-cons, All-append, All-weaker, All-contains_itself, Contains-append_left, All-contains, All-push, Contains-append_right, Contains-push}
use Rattle.std.proofs.lemmas.Bool.{true≢false}
use Rattle.std.proofs.lemmas.Map.Views.{All-insert_key, btree_set_contains_iff}
use Rattle.std.proofs.lemmas.Map.Lookups.{CmpEqualImpliesEq, exact_bytes}
use Rattle.ms_core.specs.declared.want.Want.{Want}
use Rattle.ms_core.specs.declared.want.Wanted.TheVariants.{Blob, File, Directory, Version}
use Rattle.ms_core.specs.contracts.want.WantOrd.TheImpl as order
use Rattle.ms_core.specs.contracts.want.WantOrd.TheImpl.Laws as laws
use Rattle.ms_core.specs.contracts.want.WantedOrd.TheImpl as kinds
use Rattle.ms_world.specs.Reaching.{HaveSame, Meets}

-- ---- what the order does not tell apart is one

exact_kinds : CmpEqualImpliesEq kinds.cmp-value.it
exact_kinds Blob Blob e = refl
exact_kinds File File e = refl
exact_kinds Directory Directory e = refl
exact_kinds Version Version e = refl
exact_kinds _ _ e = cc

both_equal : (a b : Ordering) → ordering_then a b ≡ Equal → (a ≡ Equal) × (b ≡ Equal)
both_equal Less b e = cc
both_equal Equal b e = (refl, e)
both_equal Greater b e = cc

pub exact_wants : CmpEqualImpliesEq order.cmp-value.it
exact_wants x y e =
    let both = both_equal (slice_cmp nat_cmp x.name.0 y.name.0) (kinds.cmp-value.it x.wanted y.wanted) e in
    let name = exact_bytes x.name.0 y.name.0 both.0 in
    let wanted = exact_kinds x.wanted y.wanted both.1 in
    λ i. record { name = record { 0 = name i }; wanted = wanted i }

-- ---- lists that grow

pub stays_met : (old more : List Want) (wants : List Want) → All (Contains old) wants → All (Contains (old ++ more)) wants
stays_met old more wants h = All-weaker (Contains old) (Contains (old ++ more)) (λ x. Contains-append_left old more x) wants h

total_wants : IsTotalOrder order.cmp-value.it
total_wants = laws.total-law

-- ---- a set beside a list of the same items

-- the set's test is whether it has the item
has_key : (s : BTreeSet Want) (want : Want) → IsTrue (contains order.cmp-value.it s want) ↔ Contains s.keys want
has_key s want = btree_set_contains_iff total_wants exact_wants s want

pub known_in : (s : BTreeSet Want) (wants : List Want) (want : Want) → HaveSame s.keys wants → contains order.cmp-value.it s want ≡ true → Contains wants want
known_in s wants want same e = All-contains (Contains wants) s.keys want same.there ((has_key s want).0 e)

pub unknown_in : (s : BTreeSet Want) (wants : List Want) (want : Want) → HaveSame s.keys wants → contains order.cmp-value.it s want ≡ false → Contains wants want → ⊥
unknown_in s wants want same e there = true≢false (sym ((has_key s want).1 (All-contains (Contains s.keys) wants want same.back there)) ∙ e)

pub known_more : (old new : BTreeSet Want) (wants : List Want) (want : Want) → new.keys ≡ insert_key order.cmp-value.it old.keys want
    → ((q : Want) → contains order.cmp-value.it new q ≡ cond (is_eq (order.cmp-value.it want q)) true (contains order.cmp-value.it old q)) → contains order.cmp-value.it new want ≡ true
    → HaveSame old.keys wants → HaveSame new.keys (wants ++ want ∷ [])
known_more old new wants want keys tests here same = record {
  there = subst (λ (l : List Want). All (Contains (wants ++ want ∷ [])) l) (sym keys)
      (All-insert_key order.cmp-value.it want (Contains (wants ++ want ∷ [])) old.keys (stays_met wants (want ∷ []) old.keys same.there) (Contains-push wants want));
  back = All-push (Contains new.keys) wants want (All-weaker (Contains old.keys) (Contains new.keys) stays wants same.back) ((has_key new want).0 here);
}
  where
    either : (b c : Bool) → c ≡ true → cond b true c ≡ true
    either true c e = refl
    either false c e = e

    stays : (x : Want) → Contains old.keys x → Contains new.keys x
    stays x there = (has_key new x).0 (tests x ∙ either (is_eq (order.cmp-value.it want x)) (contains order.cmp-value.it old x) ((has_key old x).1 there))

-- ---- what was met stays

pub meets_known : (want : Want) (wants : List Want) → Contains wants want → Meets (want ∷ []) wants wants
meets_known want wants h = record {
  more = [];
  behind = sym (append-nil wants);
  all = All-cons (Contains wants) want [] h (All-nil (Contains wants));
  only = All-nil (Contains (want ∷ []));
}

pub meets_new : (want : Want) (wants : List Want) → Meets (want ∷ []) wants (wants ++ want ∷ [])
meets_new want wants = record {
  more = want ∷ [];
  behind = refl;
  all = All-cons (Contains (wants ++ want ∷ [])) want [] (Contains-push wants want) (All-nil (Contains (wants ++ want ∷ [])));
  only = All-contains_itself (want ∷ []);
}

pub meets_none : (wants : List Want) → Meets [] wants wants
meets_none wants = record {
  more = [];
  behind = sym (append-nil wants);
  all = All-nil (Contains wants);
  only = All-nil (Contains []);
}

pub meets_more : (xs ys a b c : List Want) → Meets xs a b → Meets ys b c → Meets (xs ++ ys) a c
meets_more xs ys a b c h k = record {
  more = h.more ++ k.more;
  behind = k.behind ∙ ap (λ (l : List Want). l ++ k.more) h.behind ∙ append_assoc a h.more k.more;
  all = All-append (Contains c) xs ys (subst (λ (l : List Want). All (Contains l) xs) (sym k.behind) (stays_met b k.more xs h.all)) k.all;
  only = All-append (Contains (xs ++ ys)) h.more k.more
      (All-weaker (Contains xs) (Contains (xs ++ ys)) (λ x. Contains-append_left xs ys x) h.more h.only)
      (All-weaker (Contains ys) (Contains (xs ++ ys)) (λ x. Contains-append_right xs ys x) k.more k.only);
}

-- one item more of a list
pub meets_next : {X : Type 0} (f : X → Want) (xs : List X) (i : ℕ) (x : X) (a b c : List Want) → i < length xs → x ≡ get_or xs i x
    → Meets (map f (take i xs)) a b → Meets (f x ∷ []) b c → Meets (map f (take (i + 1) xs)) a c
meets_next {X = X} f xs i x a b c below is h k =
    let e : map f (take (i + 1) xs) ≡ map f (take i xs) ++ f x ∷ [] =
    ap (map f) (take_more xs i x below) ∙ map-append f (take i xs) (get_or xs i x ∷ []) ∙ ap (λ (y : X). map f (take i xs) ++ f y ∷ []) (sym is) in
    subst (λ (l : List Want). Meets l a c) (sym e) (meets_more (map f (take i xs)) (f x ∷ []) a b c h k)

-- the whole list
pub meets_whole : {X : Type 0} (f : X → Want) (xs : List X) (i : ℕ) (a b : List Want) → length xs ≤ i → Meets (map f (take i xs)) a b → Meets (map f xs) a b
meets_whole {X = X} f xs i a b all h = subst (λ (l : List X). Meets (map f l) a b) (take_all i xs all) h
