-- The keys of what is read of a JSON text rise, and an object with so many keys and each of these values is that object.
use Rattle.std.proofs.Common.{◌≡◌, ℕ, ◌≤◌, List, Option, Some, None, option_map, option_and_then, Ordering, Less, Equal, Greater, refl, sym, ap, ◌∙◌, subst, arith}
use Rattle.std.proofs.lemmas.Cmp.{nat_list_cmp_total}
use Rattle.std.proofs.lemmas.Map.Text.{is_eq-slice_cmp}
use Rattle.std.proofs.lemmas.Slice.Eq.{bytes_eq-Decides}
use Rattle.std.specs.Cmp.Lexicographic.{slice_cmp}
use Rattle.std.specs.Ordering.{nat_cmp, is_eq, match_ordering, ordering_reverse}
use Rattle.json.specs.Json as json
use Rattle.serde_json.specs.Data.{Data, number, array, object, Members, no_members, member, put}
use Rattle.serde_json.specs.Events.{members_len}
use Rattle.serde_json.specs.Find.{get_member}
use Rattle.serde_json.specs.Read.{number_of, of_json, of_items, of_members}
use Rattle.ms_base.specs.Places.{some_same}

abbrev cmp : List ℕ → List ℕ → Ordering
cmp = slice_cmp nat_cmp

-- each key comes behind this one
abbrev Above : List ℕ → Members → Type 0
Above k no_members = Unit {0}
Above k (member l e ms) = (cmp k l ≡ Less) × Above k ms

-- the keys rise
abbrev pub Rise : Members → Type 0
Rise no_members = Unit {0}
Rise (member k d ms) = Above k ms × Rise ms

same_key : (k l : List ℕ) → cmp k l ≡ Equal → k ≡ l
same_key k l e = (bytes_eq-Decides k l).0 (sym (is_eq-slice_cmp k l) ∙ ap is_eq e)

turned : (k l : List ℕ) → cmp k l ≡ Greater → cmp l k ≡ Less
turned k l e = nat_list_cmp_total.antisymm l k ∙ ap ordering_reverse e

further : (k l : List ℕ) (ms : Members) → cmp k l ≡ Less → Above l ms → Above k ms
further k l no_members e h = tt
further k l (member m d ms) e h = (nat_list_cmp_total.trans k l m e h.0, further k l ms e h.1)

above_put : (l k : List ℕ) (d : Data) (ms : Members) → cmp l k ≡ Less → Above l ms → Above l (put k d ms)
above_put l k d no_members e h = (e, tt)
above_put l k d (member m f ms) e h = by (above_put l k d ms e h.1) (cmp k m)
  where
    by : Above l (put k d ms) → (o : Ordering) → Above l (match_ordering o (member k d (member m f ms)) (member m d ms) (member m f (put k d ms)))
    by later Less = (e, h)
    by later Equal = h
    by later Greater = (h.0, later)

rise_put : (k : List ℕ) (d : Data) (ms : Members) → Rise ms → Rise (put k d ms)
rise_put k d no_members h = (tt, tt)
rise_put k d (member l e ms) h = by (rise_put k d ms h.1) (cmp k l) refl
  where
    by : Rise (put k d ms) → (o : Ordering) → cmp k l ≡ o → Rise (match_ordering o (member k d (member l e ms)) (member l d ms) (member l e (put k d ms)))
    by later Less is = ((is, further k l ms is h.0), h)
    by later Equal is = h
    by later Greater is = (above_put l k d ms (turned k l is) h.0, later)

rise_read : (js : json.Members) (found ms : Members) → Rise found → of_members js found ≡ Some ms → Rise ms
rise_read json.no_members found ms h e = subst Rise (some_same found ms e) h
rise_read (json.member k j js) found ms h e = by (λ d next. rise_read js (put k d found) ms (rise_put k d found h) next) (of_json j) e
  where
    by : ((d : Data) → of_members js (put k d found) ≡ Some ms → Rise ms) → (o : Option Data) → option_and_then (λ d. of_members js (put k d found)) o ≡ Some ms → Rise ms
    by on None e = absurd (cc)
    by on (Some d) e = on d e

not_object : {X : Type 0} (f : X → Data) (o : Option X) (ms : Members) → ((x : X) → f x ≡ object ms → ⊥) → option_map f o ≡ Some (object ms) → ⊥
not_object f None ms never e = absurd (cc)
not_object f (Some x) ms never e = never x (some_same (f x) (object ms) e)

object_of : (o : Option Members) (ms : Members) → option_map object o ≡ Some (object ms) → o ≡ Some ms
object_of None ms e = absurd (cc)
object_of (Some m) ms e = cc

-- an object that is read has rising keys
pub rise_object : (j : json.Json) (ms : Members) → of_json j ≡ Some (object ms) → Rise ms
rise_object json.null ms e = absurd (cc)
rise_object (json.boolean b) ms e = absurd (cc)
rise_object (json.number s) ms e = absurd (not_object number (number_of s) ms (λ x is. cc) e)
rise_object (json.string s) ms e = absurd (cc)
rise_object (json.array js) ms e = absurd (not_object array (of_items js) ms (λ x is. cc) e)
rise_object (json.object js) ms e = rise_read js no_members ms tt (object_of (of_members js no_members) ms e)

-- each of these is there
abbrev pub Found : Members → Members → Type 0
Found no_members ms = Unit {0}
Found (member m a wanted) ms = (get_member m ms ≡ Some a) × Found wanted ms

above_found : (k m : List ℕ) (a : Data) (ms : Members) → Above k ms → get_member m ms ≡ Some a → cmp k m ≡ Less
above_found k m a no_members h e = absurd (cc)
above_found k m a (member l d ms) h e = by (λ there. above_found k m a ms h.1 there) (cmp m l) refl e
  where
    by : (get_member m ms ≡ Some a → cmp k m ≡ Less) → (o : Ordering) → cmp m l ≡ o → match_ordering o (get_member m ms) (Some d) (get_member m ms) ≡ Some a → cmp k m ≡ Less
    by later Less is e = later e
    by later Equal is e = ap (cmp k) (same_key m l is) ∙ h.0
    by later Greater is e = later e

-- keys behind the first are found behind it
found_behind : (k : List ℕ) (d : Data) (wanted ms : Members) → Above k wanted → Found wanted (member k d ms) → Found wanted ms
found_behind k d no_members ms h f = tt
found_behind k d (member m a wanted) ms h f = (later, found_behind k d wanted ms h.1 f.1)
  where
    greater : cmp m k ≡ Greater
    greater = nat_list_cmp_total.antisymm m k ∙ ap ordering_reverse h.0

    later : get_member m ms ≡ Some a
    later = sym (ap (λ (o : Ordering). match_ordering o (get_member m ms) (Some d) (get_member m ms)) greater) ∙ f.0

-- of the first key that is wanted: it is the first there, or all stand behind the first
data First (k m : List ℕ) (d a : Data) (wanted ms : Members) : Type 0 where
  here : k ≡ m → d ≡ a → Found wanted ms → First k m d a wanted ms
  behind : Found (member m a wanted) ms → First k m d a wanted ms

first : (k m : List ℕ) (d a : Data) (wanted ms : Members) → Rise (member m a wanted) → Rise (member k d ms) → Found (member m a wanted) (member k d ms) → First k m d a wanted ms
first k m d a wanted ms w r f = by (cmp m k) refl f.0
  where
    later : get_member m ms ≡ Some a → First k m d a wanted ms
    later e = behind (e, found_behind k d wanted ms (further k m wanted (above_found k m a ms r.0 e) w.0) f.1)

    by : (o : Ordering) → cmp m k ≡ o → match_ordering o (get_member m ms) (Some d) (get_member m ms) ≡ Some a → First k m d a wanted ms
    by Less is e = later e
    by Equal is e =
        let same : m ≡ k = same_key m k is in
        here (sym same) (some_same d a e) (found_behind k d wanted ms (subst (λ (l : List ℕ). Above l wanted) same w.0) f.1)
    by Greater is e = later e

-- there are as many at least
at_least : (ms wanted : Members) → Rise wanted → Rise ms → Found wanted ms → members_len wanted ≤ members_len ms
at_least ms no_members w r f = omega arith
at_least no_members (member m a wanted) w r f = absurd (let e : None ≡ Some a = f.0 in cc)
at_least (member k d ms) (member m a wanted) w r f =
    elim (first k m d a wanted ms w r f) [
      | here same value rest ↦ omega (arith, at_least ms wanted w.1 r.1 rest)
      | behind all ↦ omega (arith, at_least ms (member m a wanted) w r.1 all)
    ]

-- and where there are no more, it is that object
pub all_found : (ms wanted : Members) → Rise wanted → Rise ms → Found wanted ms → members_len ms ≡ members_len wanted → ms ≡ wanted
all_found no_members no_members w r f e = refl
all_found (member k d ms) no_members w r f e = absurd (omega arith)
all_found no_members (member m a wanted) w r f e = absurd (omega arith)
all_found (member k d ms) (member m a wanted) w r f e =
    elim (first k m d a wanted ms w r f) [
      | here same value rest ↦ (let others : ms ≡ wanted = all_found ms wanted w.1 r.1 rest (omega arith) in λ i. member (same i) (value i) (others i))
      | behind all ↦ absurd (omega (arith, at_least ms (member m a wanted) w r.1 all))
    ]
