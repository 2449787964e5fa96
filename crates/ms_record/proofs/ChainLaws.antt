-- Linked lists begin one another, and each chosen entry stands in the chain.
use Rattle.std.proofs.Common.{◌≡◌, ℕ, zero, suc, ◌+◌, ◌<◌, ◌≤◌, List, [], ◌∷◌, ◌++◌, Some, ◌⊎◌, inl, inr, refl, sym, ap, ◌∙◌, subst, slice_get, length, take, drop, get_or, arith}
use Rattle.std.proofs.lemmas.Bool.{cases_lt}
use Rattle.std.proofs.lemmas.List.{same_lists, length_push, take-append-drop, length-take-le, get_or-take, take-append-le, take_at}
use Rattle.std.proofs.lemmas.Option.{slice_get-get_or, slice_get_within, none-some}
use Rattle.ms_record.specs.declared.entry.Entry.{Entry}
use Rattle.ms_record.specs.declared.record.Record.{Record}
use Rattle.ms_record.specs.Chains.{Origin, IsLinked, IsChain, IsChosen, AgreesAt, Agrees, AllNext, Begins, LinksBehind, voters_behind}
use Rattle.ms_record.specs.Votes.{ChosenBy}

pub slice_get-left : (xs ys : List Entry) (i : ℕ) → i < length xs → slice_get (xs ++ ys) i ≡ slice_get xs i
slice_get-left [] ys i h = absurd (omega arith)
slice_get-left (x ∷ xs) ys zero h = refl
slice_get-left (x ∷ xs) ys (suc i) h = slice_get-left xs ys i (omega arith)

pub slice_get-end : (xs : List Entry) (y : Entry) → slice_get (xs ++ y ∷ []) (length xs) ≡ Some y
slice_get-end [] y = refl
slice_get-end (x ∷ xs) y = slice_get-end xs y

-- what stands in the front of a list stands in the list
pub front_get : (n : ℕ) (xs : List Entry) (i : ℕ) (e : Entry) → slice_get (take n xs) i ≡ Some e → slice_get xs i ≡ Some e
front_get zero xs i e h = absurd (none-some e h)
front_get (suc n) [] i e h = absurd (none-some e h)
front_get (suc n) (x ∷ xs) zero e h = h
front_get (suc n) (x ∷ xs) (suc i) e h = front_get n xs i e h

-- the front of a front, up to a place in it
pub front_front : (n : ℕ) (xs : List Entry) (i : ℕ) (e : Entry) → slice_get (take n xs) i ≡ Some e → take i (take n xs) ≡ take i xs
front_front zero xs i e h = absurd (none-some e h)
front_front (suc n) [] i e h = absurd (none-some e h)
front_front (suc n) (x ∷ xs) zero e h = refl
front_front (suc n) (x ∷ xs) (suc i) e h = ap (λ (ys : List Entry). x ∷ ys) (front_front n xs i e h)

-- a list with a member is its front and its last member
pub record Ends (xs : List Entry) (n : ℕ) : Type 0 where
  pub front : List Entry
  pub last : Entry
  pub is : front ++ last ∷ [] ≡ xs
  pub long : length front ≡ n

pub ends_so : (xs : List Entry) (n : ℕ) → length xs ≡ suc n → Ends xs n
ends_so [] n h = absurd (omega (arith, h))
ends_so (x ∷ []) zero h = record { front = []; last = x; is = refl; long = refl }
ends_so (x ∷ []) (suc n) h = absurd (omega (arith, h))
ends_so (x ∷ y ∷ ys) zero h = absurd (omega (arith, h))
ends_so (x ∷ y ∷ ys) (suc n) h =
    let e = ends_so (y ∷ ys) n (omega (arith, h)) in
    record { front = x ∷ e.front; last = e.last; is = ap (λ (zs : List Entry). x ∷ zs) e.is; long = omega (arith, e.long) }

pub none_linked : (votes : ℕ → List Record) (origin : Origin) → IsLinked votes origin []
none_linked votes origin = record { chosen = λ i e at. absurd (none-some e at); links = λ i e at. absurd (none-some e at) }

-- the front of a linked list is linked
pub linked_front : (votes : ℕ → List Record) (origin : Origin) (c : List Entry) (n : ℕ) → IsLinked votes origin c → IsLinked votes origin (take n c)
linked_front votes origin c n h = record {
  chosen = λ i e at. subst (λ (xs : List Entry). ChosenBy votes (voters_behind origin xs) (i + 1) e) (sym (front_front n c i e at)) (h.chosen i e (front_get n c i e at));
  links = λ i e at. subst (λ (xs : List Entry). LinksBehind origin xs e) (sym (front_front n c i e at)) (h.links i e (front_get n c i e at));
}

-- a place of the longer list is an old one, or the new one
at_pushed : (xs : List Entry) (y e : Entry) (i : ℕ) → slice_get (xs ++ y ∷ []) i ≡ Some e → ((i < length xs) × (slice_get xs i ≡ Some e)) ⊎ ((i ≡ length xs) × (y ≡ e))
at_pushed xs y e i h =
    elim (cases_lt i (length xs)) [
      | inl l ↦ inl (l, sym (slice_get-left xs (y ∷ []) i l) ∙ h)
      | inr g ↦
          let w = slice_get_within (xs ++ y ∷ []) i e h in
          let p : i ≡ length xs = omega (arith, length_push xs y) in
          let q : Some y ≡ Some e = sym (slice_get-end xs y) ∙ ap (λ (n : ℕ). slice_get (xs ++ y ∷ []) n) (sym p) ∙ h in
          inr (p, cc)
    ]

-- a linked list goes on by an entry that is chosen behind it and links on
pub linked_push : (votes : ℕ → List Record) (origin : Origin) (c : List Entry) (e : Entry) → IsLinked votes origin c
    → ChosenBy votes (voters_behind origin c) (length c + 1) e → LinksBehind origin c e → IsLinked votes origin (c ++ e ∷ [])
linked_push votes origin c e h chosen links = record {
  chosen = λ i f g. elim (at_pushed c e f i g) [
    | inl o ↦ subst (λ (xs : List Entry). ChosenBy votes (voters_behind origin xs) (i + 1) f) (sym (take-append-le i c (e ∷ []) (omega (arith, o.0)))) (h.chosen i f o.1)
    | inr n ↦ subst (λ (x : Entry). ChosenBy votes (voters_behind origin (take i (c ++ e ∷ []))) (i + 1) x) n.1
        (subst (λ (xs : List Entry). ChosenBy votes (voters_behind origin xs) (i + 1) e) (sym (take_at c (e ∷ []) i (sym n.0)))
        (subst (λ (j : ℕ). ChosenBy votes (voters_behind origin c) (j + 1) e) (sym n.0) chosen))
  ];
  links = λ i f g. elim (at_pushed c e f i g) [
    | inl o ↦ subst (λ (xs : List Entry). LinksBehind origin xs f) (sym (take-append-le i c (e ∷ []) (omega (arith, o.0)))) (h.links i f o.1)
    | inr n ↦ subst (λ (x : Entry). LinksBehind origin (take i (c ++ e ∷ [])) x) n.1
        (subst (λ (xs : List Entry). LinksBehind origin xs e) (sym (take_at c (e ∷ []) i (sym n.0))) links)
  ];
}

-- the last member of a linked list is chosen by the voters behind the others
pub last_chosen : (votes : ℕ → List Record) (origin : Origin) (c : List Entry) (e : Entry) → IsLinked votes origin (c ++ e ∷ []) → ChosenBy votes (voters_behind origin c) (length c + 1) e
last_chosen votes origin c e h =
    subst (λ (xs : List Entry). ChosenBy votes (voters_behind origin xs) (length c + 1) e) (take_at c (e ∷ []) (length c) refl) (h.chosen (length c) e (slice_get-end c e))

pub front_linked : (votes : ℕ → List Record) (origin : Origin) (c : List Entry) (e : Entry) → IsLinked votes origin (c ++ e ∷ []) → IsLinked votes origin c
front_linked votes origin c e h =
    subst (λ (xs : List Entry). IsLinked votes origin xs) (take_at c (e ∷ []) (length c) refl) (linked_front votes origin (c ++ e ∷ []) (length c) h)

-- a member of a linked list is chosen at its position
pub member_chosen : (votes : ℕ → List Record) (origin : Origin) (c : List Entry) (i : ℕ) (e : Entry) → IsLinked votes origin c → slice_get c i ≡ Some e → IsChosen votes origin (i + 1) e
member_chosen votes origin c i e h at =
    let within : i < length c = slice_get_within c i e at in
    record {
      members = take i c;
      linked = linked_front votes origin c i h;
      at = let l : length (take i c) ≡ i = length-take-le i c (omega (arith, within)) in omega (arith, l);
      chosen = h.chosen i e at;
    }

-- where two chosen entries are one up to the end of the shorter, linked lists begin one another
pub linked_begins : (votes : ℕ → List Record) (origin : Origin) (c d : List Entry) → ((k : ℕ) → k ≤ length c → AgreesAt votes origin k) → IsLinked votes origin c → IsLinked votes origin d
    → length c ≤ length d → Begins c d
linked_begins votes origin c d agree hc hd l =
    let same : (i : ℕ) (e f : Entry) → slice_get c i ≡ Some e → slice_get d i ≡ Some f → e ≡ f =
    λ i e f ge gf. agree (i + 1) (let w : i < length c = slice_get_within c i e ge in omega (arith, w)) e f (member_chosen votes origin c i e hc ge) (member_chosen votes origin d i f hd gf) in
    let e : c ≡ take (length c) d =
    same_lists c (take (length c) d) (sym (length-take-le (length c) d l))
    (λ k x h. same k (get_or c k x) (get_or d k x) (slice_get-get_or c k x h) (slice_get-get_or d k x (omega arith)) ∙ sym (get_or-take (length c) d k x h)) in
    (drop (length c) d, ap (λ (xs : List Entry). xs ++ drop (length c) d) e ∙ take-append-drop (length c) d)

-- a list that begins one of the same length is that list
begins_same : (c d : List Entry) → Begins c d → length c ≡ length d → c ≡ d
begins_same [] [] b h = refl
begins_same [] (y ∷ d) b h = absurd (omega (arith, h))
begins_same (x ∷ c) [] b h = absurd (omega (arith, h))
begins_same (x ∷ c) (y ∷ d) b h =
    let head : Some x ≡ Some y = ap (λ (zs : List Entry). slice_get zs 0) b.1 in
    let first : x ≡ y = cc in
    let rest : c ++ b.0 ≡ d = ap (λ (zs : List Entry). drop 1 zs) b.1 in
    let more : c ≡ d = begins_same c d (b.0, rest) (omega (arith, h)) in
    λ i. first i ∷ more i

-- linked lists of one length are one
pub linked_same : (votes : ℕ → List Record) (origin : Origin) (c d : List Entry) → ((k : ℕ) → k ≤ length c → AgreesAt votes origin k) → IsLinked votes origin c → IsLinked votes origin d
    → length c ≡ length d → c ≡ d
linked_same votes origin c d agree hc hd h = begins_same c d (linked_begins votes origin c d agree hc hd (omega (arith, h))) h

-- each chosen entry stands in the chain
pub chosen_stands : (votes : ℕ → List Record) (origin : Origin) (chain : List Entry) (i : ℕ) (e : Entry)
    → Agrees votes origin → AllNext votes origin → IsChain votes origin chain → IsChosen votes origin (i + 1) e → slice_get chain i ≡ Some e
chosen_stands votes origin chain i e agree next chain_is chosen =
    let v = next (i + 1) e chosen in
    let same : i ≡ length v.members = omega (arith, v.at) in
    let one : chosen.members ≡ v.members = linked_same votes origin chosen.members v.members (λ k h. agree k) chosen.linked v.linked (omega (arith, chosen.at, v.at)) in
    let at : ChosenBy votes (voters_behind origin v.members) (length v.members + 1) e =
    subst (λ (xs : List Entry). ChosenBy votes (voters_behind origin xs) (length v.members + 1) e) one
    (subst (λ (j : ℕ). ChosenBy votes (voters_behind origin chosen.members) (j + 1) e) same chosen.chosen) in
    let p = linked_push votes origin v.members e v.linked at v.links in
    let b = linked_begins votes origin (v.members ++ e ∷ []) chain (λ k h. agree k) p chain_is.linked (chain_is.longest (v.members ++ e ∷ []) p) in
    ap (λ (xs : List Entry). slice_get xs i) (sym b.1)
    ∙ slice_get-left (v.members ++ e ∷ []) b.0 i (omega (arith, same, length_push v.members e))
    ∙ ap (λ (n : ℕ). slice_get (v.members ++ e ∷ []) n) same ∙ slice_get-end v.members e
