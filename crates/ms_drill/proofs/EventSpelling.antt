-- A line is read as an event exactly where it spells it.
use Rattle.std.proofs.Common.{◌≡◌, ◌≢◌, ℕ, zero, suc, ◌+◌, ◌^◌, ◌<◌, ◌≤◌, Bool, true, false, ◌&&◌, cond, not, map, List, [], ◌∷◌, ◌++◌, Option, Some, None, ◌⊎◌, inl, inr, refl, sym, ap, ◌∙◌, subst, length, slice_get, append_assoc, arith}
use Rattle.std.specs.Prelude.{bytes_eq, codes, ◌==◌}
use Rattle.std.specs.Cmp.Lexicographic.{same_text}
use Rattle.std.specs.Fmt.{decimal}
use Rattle.std.specs.List.{list_all, slice_split}
use Rattle.std.specs.Option.{option_map, option_or}
use Rattle.std.proofs.lemmas.Bool.{cases_Bool}
use Rattle.std.proofs.lemmas.List.{append-nil}
use Rattle.ms_base.specs.Places.{some_same}
use Rattle.ms_base.specs.Options.{◌>>=◌, bind_some, both}
use Rattle.ms_base.specs.declared.names.Name.{Name}
use Rattle.ms_world.specs.declared.event.Event.{Event}
use Rattle.ms_world.specs.declared.event.Event.TheVariants as events
use Rattle.ms_world.specs.declared.event.Push.{Push}
use Rattle.ms_record.specs.declared.plan.PlanRow.{PlanRow}
use Rattle.ms_record.specs.Plans.{IsPlan, PlanView, plan_of}
use Rattle.ms_record.specs.PlanTests.{AreCapacities, plan_if}
use Rattle.ms_record.specs.Settings.{even_row}
use Rattle.ms_text.specs.Words.{HasNoSpace, WordsAreJoined, hex_at, name_at, number_at, spaced, two_words}
use Rattle.ms_drill.specs.Lines.{bid_at, client_event, client_of, deliver_at, drop_at, event_at, learn_at, migrate_at, offer_at, other_event, place_at, plan_at, push_at, read_at, rows_at, rows_on, service_of, start_at, stop_at, turn_at, u32_at, u32_then, u64_at, want_at}
use Rattle.ms_drill.specs.Spelling.{EndsWithBytes, EndsWithName, EndsWithPlan, IsU32, IsU64, SpellsEvent, SpellsWant}

-- what is known of words and of plans
pub record WordLaws : Type 0 where
  pub words : WordsAreJoined
  pub read : (most n : ℕ) (word : List ℕ) → most < 2 ^ 64 → number_at most word ≡ Some n → (word ≡ decimal n) × (n ≤ most)
  pub again : (most n : ℕ) (word : List ℕ) → most < 2 ^ 64 → word ≡ decimal n → n ≤ most → number_at most word ≡ Some n
  pub no_space : (n : ℕ) → n < 2 ^ 64 → HasNoSpace (decimal n)
  pub passed : (p q : PlanView) → p.unit < 2 ^ 64 → AreCapacities p.rows → plan_if p ≡ Some q → (p ≡ q) × IsPlan p
  pub passes : (p : PlanView) → IsPlan p → plan_if p ≡ Some p

map_some : {A B : Type 0} (f : A → B) (o : Option A) (y : B) → option_map f o ≡ Some y → (x : A) × (o ≡ Some x) × (f x ≡ y)
map_some f None y h = absurd cc
map_some f (Some x) y h = (x, refl, some_same (f x) y h)

cond_cases : {A : Type 0} (b : Bool) (x y : Option A) (e : A) → cond b x y ≡ Some e → ((b ≡ true) × (x ≡ Some e)) ⊎ (y ≡ Some e)
cond_cases true x y e h = inl (refl, h)
cond_cases false x y e h = inr h

or_cases : (a b : Option Event) (e : Event) → option_or a b ≡ Some e → (a ≡ Some e) ⊎ (b ≡ Some e)
or_cases None b e h = inr h
or_cases (Some x) b e h = inl h

abbrev is_no_space : ℕ → Bool
is_no_space b = not (b == 32)

clear : (text : List ℕ) → list_all is_no_space text ≡ true → HasNoSpace text
clear [] h i l e = absurd (omega arith)
clear (c ∷ cs) h zero l e =
    let q = both (is_no_space c) (list_all is_no_space cs) h in
    let space : is_no_space 32 ≡ true = subst (λ (b : ℕ). is_no_space b ≡ true) e q.0 in
    cc
clear (c ∷ cs) h (suc i) l e = clear cs (both (is_no_space c) (list_all is_no_space cs) h).1 i (omega arith) e

-- one word more in front
in_front : (word text rest : List ℕ) → text ≡ rest → word ++ 32 ∷ text ≡ word ++ 32 ∷ rest
in_front word text rest e = ap (λ (x : List ℕ). word ++ 32 ∷ x) e

even_capacities : (services : List ℕ) (i : ℕ) (row : PlanRow) → slice_get (map even_row services) i ≡ Some row → row.capacity < 2 ^ 64
even_capacities [] i row h = absurd (let q : None ≡ Some row = h in cc)
even_capacities (s ∷ services) zero row h = omega (arith, ap (λ (r : PlanRow). r.capacity) (some_same (even_row s) row h))
even_capacities (s ∷ services) (suc i) row h = even_capacities services i row h

module _ (laws : WordLaws) where
  u32_is : (word : List ℕ) (n : ℕ) → u32_at word ≡ Some n → IsU32 n × (word ≡ decimal n)
  u32_is word n h = let r = laws.read 4294967295 n word (omega arith) h in (r.1, r.0)

  u64_is : (word : List ℕ) (n : ℕ) → u64_at word ≡ Some n → IsU64 n × (word ≡ decimal n)
  u64_is word n h = let r = laws.read 18446744073709551615 n word (omega arith) h in (r.1, r.0)

  then_is : (text : List ℕ) (x : ℕ × List ℕ) → u32_then text ≡ Some x → IsU32 x.0 × (text ≡ decimal x.0 ++ 32 ∷ x.1)
  unfolding u32_then
  then_is text x h =
      let w = bind_some (two_words text) _ x h in
      let n = bind_some (u32_at w.0.0) _ x w.2 in
      let r = u32_is w.0.0 n.0 n.1 in
      subst (λ (y : ℕ × List ℕ). IsU32 y.0 × (text ≡ decimal y.0 ++ 32 ∷ y.1)) (some_same (n.0, w.0.1) x n.2)
      (r.0, (laws.words.parted text w.0.0 w.0.1 w.1).0 ∙ ap (λ (y : List ℕ). y ++ 32 ∷ w.0.1) r.1)

  -- ---- what is read is spelled

  module _ (line text : List ℕ) (event : Event) where
    start_is : line ≡ codes "start" ++ 32 ∷ text → start_at text ≡ Some event → SpellsEvent line event
    start_is at h =
        let m = map_some (λ c. events.Start (client_of c)) (u32_at text) event h in
        let n = u32_is text m.0 m.1 in
        subst (λ (e : Event). SpellsEvent line e) m.2 (n.0, at ∙ in_front (codes "start") text (decimal m.0) n.1)

    stop_is : line ≡ codes "stop" ++ 32 ∷ text → stop_at text ≡ Some event → SpellsEvent line event
    stop_is at h =
        let m = map_some (λ c. events.Stop (client_of c)) (u32_at text) event h in
        let n = u32_is text m.0 m.1 in
        subst (λ (e : Event). SpellsEvent line e) m.2 (n.0, at ∙ in_front (codes "stop") text (decimal m.0) n.1)

    offer_is : line ≡ codes "offer" ++ 32 ∷ text → offer_at text ≡ Some event → SpellsEvent line event
    offer_is at h =
        let m = map_some (λ c. events.Offer (client_of c)) (u32_at text) event h in
        let n = u32_is text m.0 m.1 in
        subst (λ (e : Event). SpellsEvent line e) m.2 (n.0, at ∙ in_front (codes "offer") text (decimal m.0) n.1)

    learn_is : line ≡ codes "learn" ++ 32 ∷ text → learn_at text ≡ Some event → SpellsEvent line event
    learn_is at h =
        let m = map_some (λ c. events.Learn (client_of c)) (u32_at text) event h in
        let n = u32_is text m.0 m.1 in
        subst (λ (e : Event). SpellsEvent line e) m.2 (n.0, at ∙ in_front (codes "learn") text (decimal m.0) n.1)

    deliver_is : line ≡ codes "deliver" ++ 32 ∷ text → deliver_at text ≡ Some event → SpellsEvent line event
    deliver_is at h =
        let m = map_some (λ i. events.Deliver i) (u64_at text) event h in
        let n = u64_is text m.0 m.1 in
        subst (λ (e : Event). SpellsEvent line e) m.2 (n.0, at ∙ in_front (codes "deliver") text (decimal m.0) n.1)

  want_is : (line text : List ℕ) (client round : ℕ) (want : Option Push) → line ≡ spaced (codes "bid" ∷ decimal client ∷ decimal round ∷ text ∷ []) → want_at text ≡ Some want
      → SpellsWant line (codes "bid" ∷ decimal client ∷ decimal round ∷ []) want
  unfolding want_at push_at
  want_is line text client round want at h = elim (cond_cases (bytes_eq text (codes "-")) (Some None) (push_at text) want h) [
    | inl none ↦ subst (λ (o : Option Push). SpellsWant line (codes "bid" ∷ decimal client ∷ decimal round ∷ []) o) (some_same None want none.1)
        (at ∙ ap (λ (x : List ℕ). spaced (codes "bid" ∷ decimal client ∷ decimal round ∷ x ∷ [])) (same_text text (codes "-") (sym none.0)))
    | inr some ↦
        let n = bind_some (u32_then text) _ want some in
        let v = bind_some (name_at n.0.1) _ want n.2 in
        let number = then_is text n.0 n.1 in
        subst (λ (o : Option Push). SpellsWant line (codes "bid" ∷ decimal client ∷ decimal round ∷ []) o)
        (some_same (Some (let p : Push = record { number = n.0.0; version = record { 0 = v.0 } } in p)) want v.2)
        (number.0, record { digits = n.0.1; name_is = v.1; words = at ∙ ap (λ (x : List ℕ). spaced (codes "bid" ∷ decimal client ∷ decimal round ∷ x ∷ [])) number.1 })
  ]

  bid_is : (line text : List ℕ) (event : Event) → line ≡ codes "bid" ++ 32 ∷ text → bid_at text ≡ Some event → SpellsEvent line event
  unfolding bid_at
  bid_is line text event at h =
      let c = bind_some (u32_then text) _ event h in
      let r = bind_some (u32_then c.0.1) _ event c.2 in
      let w = bind_some (want_at r.0.1) _ event r.2 in
      let client = then_is text c.0 c.1 in
      let round = then_is c.0.1 r.0 r.1 in
      let words : line ≡ spaced (codes "bid" ∷ decimal c.0.0 ∷ decimal r.0.0 ∷ r.0.1 ∷ []) =
      at ∙ in_front (codes "bid") text (decimal c.0.0 ++ 32 ∷ (decimal r.0.0 ++ 32 ∷ r.0.1)) (client.1 ∙ in_front (decimal c.0.0) c.0.1 (decimal r.0.0 ++ 32 ∷ r.0.1) round.1) in
      subst (λ (e : Event). SpellsEvent line e) (some_same (events.Bid (client_of c.0.0) r.0.0 w.0) event w.2) (client.0, round.0, want_is line r.0.1 c.0.0 r.0.0 w.0 words w.1)

  -- three numbers behind a word
  three_is : (line word text : List ℕ) (a b c : ℕ × List ℕ) → line ≡ word ++ 32 ∷ text → u32_then text ≡ Some a → u32_then a.1 ≡ Some b → u32_then b.1 ≡ Some c
      → IsU32 a.0 × IsU32 b.0 × IsU32 c.0 × (line ≡ spaced (word ∷ decimal a.0 ∷ decimal b.0 ∷ decimal c.0 ∷ c.1 ∷ []))
  three_is line word text a b c at p q r =
      let x = then_is text a p in
      let y = then_is a.1 b q in
      let z = then_is b.1 c r in (
        x.0,
        y.0,
        z.0,
        at ∙ in_front word text (decimal a.0 ++ 32 ∷ (decimal b.0 ++ 32 ∷ (decimal c.0 ++ 32 ∷ c.1)))
            (x.1 ∙ in_front (decimal a.0) a.1 (decimal b.0 ++ 32 ∷ (decimal c.0 ++ 32 ∷ c.1)) (y.1 ∙ in_front (decimal b.0) b.1 (decimal c.0 ++ 32 ∷ c.1) z.1)),
      )

  -- two numbers behind a word
  two_are : (line word text : List ℕ) (a b : ℕ × List ℕ) → line ≡ word ++ 32 ∷ text → u32_then text ≡ Some a → u32_then a.1 ≡ Some b
      → IsU32 a.0 × IsU32 b.0 × (line ≡ spaced (word ∷ decimal a.0 ∷ decimal b.0 ∷ b.1 ∷ []))
  two_are line word text a b at p q =
      let x = then_is text a p in
      let y = then_is a.1 b q in
      (x.0, y.0, at ∙ in_front word text (decimal a.0 ++ 32 ∷ (decimal b.0 ++ 32 ∷ b.1)) (x.1 ∙ in_front (decimal a.0) a.1 (decimal b.0 ++ 32 ∷ b.1) y.1))

  migrate_is : (line text : List ℕ) (event : Event) → line ≡ codes "migrate" ++ 32 ∷ text → migrate_at text ≡ Some event → SpellsEvent line event
  unfolding migrate_at
  migrate_is line text event at h =
      let c = bind_some (u32_then text) _ event h in
      let r = bind_some (u32_then c.0.1) _ event c.2 in
      let n = bind_some (u32_then r.0.1) _ event r.2 in
      let v = bind_some (name_at n.0.1) _ event n.2 in
      let t = three_is line (codes "migrate") text c.0 r.0 n.0 at c.1 r.1 n.1 in
      let version : Name = record { 0 = v.0 } in
      subst (λ (e : Event). SpellsEvent line e) (some_same (events.Migrate (client_of c.0.0) r.0.0 n.0.0 version) event v.2)
      (t.0, t.1, t.2, record { digits = n.0.1; name_is = v.1; words = t.3 })

  read_is : (line text : List ℕ) (event : Event) → line ≡ codes "read" ++ 32 ∷ text → read_at text ≡ Some event → SpellsEvent line event
  unfolding read_at
  read_is line text event at h =
      let c = bind_some (u32_then text) _ event h in
      let s = bind_some (u32_then c.0.1) _ event c.2 in
      let u = bind_some (u64_at s.0.1) _ event s.2 in
      let t = two_are line (codes "read") text c.0 s.0 at c.1 s.1 in
      let upto = u64_is s.0.1 u.0 u.1 in
      subst (λ (e : Event). SpellsEvent line e) (some_same (events.Read (client_of c.0.0) (service_of s.0.0) u.0) event u.2)
      (t.0, t.1, upto.0, t.2 ∙ ap (λ (x : List ℕ). spaced (codes "read" ∷ decimal c.0.0 ∷ decimal s.0.0 ∷ x ∷ [])) upto.1)

  place_is : (line text : List ℕ) (event : Event) → line ≡ codes "place" ++ 32 ∷ text → place_at text ≡ Some event → SpellsEvent line event
  unfolding place_at
  place_is line text event at h =
      let s = bind_some (u32_then text) _ event h in
      let g = bind_some (u32_then s.0.1) _ event s.2 in
      let o = bind_some (hex_at g.0.1) _ event g.2 in
      let t = two_are line (codes "place") text s.0 g.0 at s.1 g.1 in
      subst (λ (e : Event). SpellsEvent line e) (some_same (events.Place (service_of s.0.0) g.0.0 o.0) event o.2)
      (t.0, t.1, record { digits = g.0.1; text_is = o.1; words = t.2 })

  drop_is : (line text : List ℕ) (event : Event) → line ≡ codes "drop" ++ 32 ∷ text → drop_at text ≡ Some event → SpellsEvent line event
  unfolding drop_at
  drop_is line text event at h =
      let s = bind_some (u32_then text) _ event h in
      let f = bind_some (u32_at s.0.1) _ event s.2 in
      let service = then_is text s.0 s.1 in
      let floor = u32_is s.0.1 f.0 f.1 in
      subst (λ (e : Event). SpellsEvent line e) (some_same (events.DropBelow (service_of s.0.0) f.0) event f.2)
      (service.0, floor.0, at ∙ in_front (codes "drop") text (decimal s.0.0 ++ 32 ∷ decimal f.0) (service.1 ∙ in_front (decimal s.0.0) s.0.1 (decimal f.0) floor.1))

  rows_are : (words : List (List ℕ)) (rows all : List PlanRow) → rows_on rows words ≡ Some all → (services : List ℕ) × (words ≡ map decimal services) × (all ≡ rows ++ map even_row services)
  rows_are [] rows all h = ([], refl, sym (some_same rows all h) ∙ sym (append-nil rows))
  rows_are (word ∷ words) rows all h =
      let s = bind_some (u32_at word) _ all h in
      let rest = rows_are words (rows ++ even_row s.0 ∷ []) all s.2 in
      let number = u32_is word s.0 s.1 in
      (s.0 ∷ rest.0, ap (λ (w : List ℕ). w ∷ words) number.1 ∙ ap (λ (ws : List (List ℕ)). decimal s.0 ∷ ws) rest.1, rest.2 ∙ append_assoc rows (even_row s.0 ∷ []) (map even_row rest.0))

  turn_is : (line text : List ℕ) (event : Event) → line ≡ codes "turn" ++ 32 ∷ text → turn_at text ≡ Some event → SpellsEvent line event
  unfolding turn_at plan_at
  turn_is line text event at h =
      let c = bind_some (u32_then text) _ event h in
      let r = bind_some (u32_then c.0.1) _ event c.2 in
      let n = bind_some (u32_then r.0.1) _ event r.2 in
      let p = bind_some (plan_at n.0.1) _ event n.2 in
      let t = three_is line (codes "turn") text c.0 r.0 n.0 at c.1 r.1 n.1 in
      let g = bind_some (u32_then n.0.1) _ p.0 p.1 in
      let m = bind_some (u32_then g.0.1) _ p.0 g.2 in
      let rows = bind_some (rows_at m.0.1) _ p.0 m.2 in
      let are = rows_are (slice_split (λ b. b == 44) m.0.1) [] rows.0 rows.1 in
      let made : PlanView = plan_of g.0.0 1 m.0.0 1 (map even_row are.0) in
      let given = laws.passed made p.0 (omega arith) (even_capacities are.0) (ap (λ (rs : List PlanRow). plan_if (plan_of g.0.0 1 m.0.0 1 rs)) (sym are.2) ∙ rows.2) in
      let generation = then_is n.0.1 g.0 g.1 in
      let replicas = then_is g.0.1 m.0 m.1 in
      let words : line ≡ spaced (codes "turn" ∷ decimal c.0.0 ∷ decimal r.0.0 ∷ decimal n.0.0 ∷ decimal g.0.0 ∷ decimal m.0.0 ∷ m.0.1 ∷ []) =
      t.3 ∙ ap (λ (x : List ℕ). spaced (codes "turn" ∷ decimal c.0.0 ∷ decimal r.0.0 ∷ decimal n.0.0 ∷ x ∷ [])) (generation.1 ∙ in_front (decimal g.0.0) g.0.1 (decimal m.0.0 ++ 32 ∷ m.0.1) replicas.1) in
      let ends = subst (λ (q : PlanView). EndsWithPlan line (codes "turn" ∷ decimal c.0.0 ∷ decimal r.0.0 ∷ decimal n.0.0 ∷ []) q) given.0
      (record { services = are.0; last = m.0.1; parts = are.1; rows = refl; rules = given.1; words = words }) in
      subst (λ (e : Event). SpellsEvent line e) (some_same (events.Turn (client_of c.0.0) r.0.0 n.0.0 p.0) event p.2) (t.0, t.1, t.2, ends)

  -- the first word is that one
  named : (line word text is : List ℕ) → line ≡ word ++ 32 ∷ text → bytes_eq word is ≡ true → line ≡ is ++ 32 ∷ text
  named line word text is at e = at ∙ ap (λ (x : List ℕ). x ++ 32 ∷ text) (same_text word is (sym e))

  client_is : (line word text : List ℕ) (event : Event) → line ≡ word ++ 32 ∷ text → client_event word text ≡ Some event → SpellsEvent line event
  unfolding client_event
  client_is line word text event at h = elim (cond_cases (bytes_eq word (codes "start")) (start_at text) _ event h) [
    | inl x ↦ start_is line text event (named line word text (codes "start") at x.0) x.1
    | inr h ↦ elim (cond_cases (bytes_eq word (codes "stop")) (stop_at text) _ event h) [
      | inl x ↦ stop_is line text event (named line word text (codes "stop") at x.0) x.1
      | inr h ↦ elim (cond_cases (bytes_eq word (codes "bid")) (bid_at text) _ event h) [
        | inl x ↦ bid_is line text event (named line word text (codes "bid") at x.0) x.1
        | inr h ↦ elim (cond_cases (bytes_eq word (codes "turn")) (turn_at text) _ event h) [
          | inl x ↦ turn_is line text event (named line word text (codes "turn") at x.0) x.1
          | inr h ↦ elim (cond_cases (bytes_eq word (codes "offer")) (offer_at text) None event h) [
            | inl x ↦ offer_is line text event (named line word text (codes "offer") at x.0) x.1
            | inr h ↦ absurd (let q : None ≡ Some event = h in cc)
          ]
        ]
      ]
    ]
  ]

  other_is : (line word text : List ℕ) (event : Event) → line ≡ word ++ 32 ∷ text → other_event word text ≡ Some event → SpellsEvent line event
  unfolding other_event
  other_is line word text event at h = elim (cond_cases (bytes_eq word (codes "learn")) (learn_at text) _ event h) [
    | inl x ↦ learn_is line text event (named line word text (codes "learn") at x.0) x.1
    | inr h ↦ elim (cond_cases (bytes_eq word (codes "migrate")) (migrate_at text) _ event h) [
      | inl x ↦ migrate_is line text event (named line word text (codes "migrate") at x.0) x.1
      | inr h ↦ elim (cond_cases (bytes_eq word (codes "read")) (read_at text) _ event h) [
        | inl x ↦ read_is line text event (named line word text (codes "read") at x.0) x.1
        | inr h ↦ elim (cond_cases (bytes_eq word (codes "deliver")) (deliver_at text) _ event h) [
          | inl x ↦ deliver_is line text event (named line word text (codes "deliver") at x.0) x.1
          | inr h ↦ elim (cond_cases (bytes_eq word (codes "place")) (place_at text) _ event h) [
            | inl x ↦ place_is line text event (named line word text (codes "place") at x.0) x.1
            | inr h ↦ elim (cond_cases (bytes_eq word (codes "drop")) (drop_at text) None event h) [
              | inl x ↦ drop_is line text event (named line word text (codes "drop") at x.0) x.1
              | inr h ↦ absurd (let q : None ≡ Some event = h in cc)
            ]
          ]
        ]
      ]
    ]
  ]

  pub event_spelled : (line : List ℕ) (event : Event) → event_at line ≡ Some event → SpellsEvent line event
  unfolding event_at
  event_spelled line event h =
      let w = bind_some (two_words line) _ event h in
      let at = (laws.words.parted line w.0.0 w.0.1 w.1).0 in
      elim (or_cases (client_event w.0.0 w.0.1) (other_event w.0.0 w.0.1) event w.2) [
        | inl x ↦ client_is line w.0.0 w.0.1 event at x
        | inr x ↦ other_is line w.0.0 w.0.1 event at x
      ]

  -- ---- what is spelled is read

  u32_read : (n : ℕ) → IsU32 n → u32_at (decimal n) ≡ Some n
  u32_read n small = laws.again 4294967295 n (decimal n) (omega arith) refl small

  u64_read : (n : ℕ) → IsU64 n → u64_at (decimal n) ≡ Some n
  u64_read n small = laws.again 18446744073709551615 n (decimal n) (omega arith) refl small

  then_read : (n : ℕ) (rest : List ℕ) → IsU32 n → u32_then (decimal n ++ 32 ∷ rest) ≡ Some (n, rest)
  unfolding u32_then
  then_read n rest small = rw (laws.words.joined (decimal n) rest (laws.no_space n (omega (arith, small))), u32_read n small) refl

  client_word : (word rest : List ℕ) (o : Option Event) (event : Event) → HasNoSpace word → client_event word rest ≡ o → o ≡ Some event → event_at (word ++ 32 ∷ rest) ≡ Some event
  unfolding event_at
  client_word word rest o event free is some = rw (laws.words.joined word rest free, is, some) refl

  other_word : (word rest : List ℕ) (o : Option Event) (event : Event) → HasNoSpace word → client_event word rest ≡ None → other_event word rest ≡ o → o ≡ Some event → event_at (word ++ 32 ∷ rest) ≡ Some event
  unfolding event_at
  other_word word rest o event free none is some = rw (laws.words.joined word rest free, none, is, some) refl

  want_read : (line : List ℕ) (client round : ℕ) (want : Option Push) → SpellsWant line (codes "bid" ∷ decimal client ∷ decimal round ∷ []) want
      → (last : List ℕ) × (line ≡ spaced (codes "bid" ∷ decimal client ∷ decimal round ∷ last ∷ [])) × (want_at last ≡ Some want)
  unfolding want_at push_at
  want_read line client round None h = (codes "-", h, refl)
  want_read line client round (Some push) h =
      (decimal push.number ++ 32 ∷ h.1.digits, h.1.words, number_last push h.0 h.1.digits h.1.name_is)
    where
      digit_first : (n : ℕ) (rest : List ℕ) → IsU32 n → bytes_eq (decimal n ++ 32 ∷ rest) (codes "-") ≡ false
      digit_first n rest small = elim (cases_Bool (bytes_eq (decimal n ++ 32 ∷ rest) (codes "-"))) [
        | inl same ↦ absurd
            (let text = same_text (decimal n ++ 32 ∷ rest) (codes "-") (sym same) in
            let q : Some (decimal n, rest) ≡ None = sym (laws.words.joined (decimal n) rest (laws.no_space n (omega (arith, small)))) ∙ ap two_words text in
            cc)
        | inr other ↦ other
      ]

      number_last : (push : Push) → IsU32 push.number → (digits : List ℕ) → name_at digits ≡ Some push.version.0 → want_at (decimal push.number ++ 32 ∷ digits) ≡ Some (Some push)
      number_last push small digits name = rw (digit_first push.number digits small, then_read push.number digits small, name) refl

  rows_read : (services : List ℕ) (rows : List PlanRow) → ((i s : ℕ) → slice_get services i ≡ Some s → IsU32 s) → rows_on rows (map decimal services) ≡ Some (rows ++ map even_row services)
  rows_read [] rows small = ap (λ (rs : List PlanRow). Some rs) (sym (append-nil rows))
  rows_read (s ∷ services) rows small =
      ap (λ (o : Option ℕ). o >>= λ n. rows_on (rows ++ even_row n ∷ []) (map decimal services)) (u32_read s (small zero s refl))
      ∙ rows_read services (rows ++ even_row s ∷ []) (λ i t h. small (suc i) t h)
      ∙ ap (λ (rs : List PlanRow). Some rs) (append_assoc rows (even_row s ∷ []) (map even_row services))

  small_services : (services : List ℕ) (plan : PlanView) → plan ≡ plan_of plan.generation 1 plan.replicas 1 (map even_row services) → IsPlan plan → (i s : ℕ) → slice_get services i ≡ Some s → IsU32 s
  small_services services plan is rules i s at =
      let there = get_map services i s at in
      let row = rules.rows i (even_row s) (ap (λ (p : PlanView). slice_get p.rows i) is ∙ there) in
      omega (arith, row.service)
    where
      get_map : (xs : List ℕ) (i s : ℕ) → slice_get xs i ≡ Some s → slice_get (map even_row xs) i ≡ Some (even_row s)
      get_map [] i s h = absurd (let q : None ≡ Some s = h in cc)
      get_map (x ∷ xs) zero s h = ap (λ (n : ℕ). Some (even_row n)) (some_same x s h)
      get_map (x ∷ xs) (suc i) s h = get_map xs i s h

  plan_read : (line : List ℕ) (front : List (List ℕ)) (plan : PlanView) (h : EndsWithPlan line front plan) → plan_at (decimal plan.generation ++ 32 ∷ (decimal plan.replicas ++ 32 ∷ h.last)) ≡ Some plan
  unfolding plan_at
  plan_read line front plan h =
      let rows : rows_at h.last ≡ Some (map even_row h.services) = ap (rows_on []) h.parts ∙ rows_read h.services [] (small_services h.services plan h.rows h.rules) in
      let kept : plan_if (plan_of plan.generation 1 plan.replicas 1 (map even_row h.services)) ≡ Some plan = ap plan_if (sym h.rows) ∙ laws.passes plan h.rules in
      let few = h.rules.few_rows in
      rw (then_read plan.generation (decimal plan.replicas ++ 32 ∷ h.last) (omega (arith, h.rules.last_generation)), then_read plan.replicas h.last (omega (arith, h.rules.few_replicas, few)), rows, kept) refl

  pub event_read : (line : List ℕ) (event : Event) → SpellsEvent line event → event_at line ≡ Some event
  unfolding client_event other_event bid_at turn_at migrate_at read_at place_at drop_at
  event_read line (events.Start client) h =
      ap event_at h.1 ∙ client_word (codes "start") (decimal client.0) (start_at (decimal client.0)) (events.Start client) (clear (codes "start") refl) refl (rw (u32_read client.0 h.0) refl)
  event_read line (events.Stop client) h =
      ap event_at h.1 ∙ client_word (codes "stop") (decimal client.0) (stop_at (decimal client.0)) (events.Stop client) (clear (codes "stop") refl) refl (rw (u32_read client.0 h.0) refl)
  event_read line (events.Offer client) h =
      ap event_at h.1 ∙ client_word (codes "offer") (decimal client.0) (offer_at (decimal client.0)) (events.Offer client) (clear (codes "offer") refl) refl (rw (u32_read client.0 h.0) refl)
  event_read line (events.Learn client) h =
      ap event_at h.1 ∙ other_word (codes "learn") (decimal client.0) (learn_at (decimal client.0)) (events.Learn client) (clear (codes "learn") refl) refl refl (rw (u32_read client.0 h.0) refl)
  event_read line (events.Deliver request) h =
      ap event_at h.1 ∙ other_word (codes "deliver") (decimal request) (deliver_at (decimal request)) (events.Deliver request) (clear (codes "deliver") refl) refl refl (rw (u64_read request h.0) refl)
  event_read line (events.Bid client round want) h =
      let w = want_read line client.0 round want h.2 in
      let rest = decimal client.0 ++ 32 ∷ (decimal round ++ 32 ∷ w.0) in
      ap event_at w.1 ∙ client_word (codes "bid") rest (bid_at rest) (events.Bid client round want) (clear (codes "bid") refl) refl
      (rw (then_read client.0 (decimal round ++ 32 ∷ w.0) h.0, then_read round w.0 h.1, w.2) refl)
  event_read line (events.Turn client round number plan) h =
      let last = decimal plan.generation ++ 32 ∷ (decimal plan.replicas ++ 32 ∷ h.3.last) in
      let rest = decimal client.0 ++ 32 ∷ (decimal round ++ 32 ∷ (decimal number ++ 32 ∷ last)) in
      ap event_at h.3.words ∙ client_word (codes "turn") rest (turn_at rest) (events.Turn client round number plan) (clear (codes "turn") refl) refl
      (rw (then_read client.0 (decimal round ++ 32 ∷ (decimal number ++ 32 ∷ last)) h.0, then_read round (decimal number ++ 32 ∷ last) h.1, then_read number last h.2, plan_read line _ plan h.3) refl)
  event_read line (events.Migrate client round number version) h =
      let last = h.3.digits in
      let rest = decimal client.0 ++ 32 ∷ (decimal round ++ 32 ∷ (decimal number ++ 32 ∷ last)) in
      ap event_at h.3.words ∙ other_word (codes "migrate") rest (migrate_at rest) (events.Migrate client round number version) (clear (codes "migrate") refl) refl refl
      (rw (then_read client.0 (decimal round ++ 32 ∷ (decimal number ++ 32 ∷ last)) h.0, then_read round (decimal number ++ 32 ∷ last) h.1, then_read number last h.2, h.3.name_is) refl)
  event_read line (events.Read client service upto) h =
      let rest = decimal client.0 ++ 32 ∷ (decimal service.0 ++ 32 ∷ decimal upto) in
      ap event_at h.3 ∙ other_word (codes "read") rest (read_at rest) (events.Read client service upto) (clear (codes "read") refl) refl refl
      (rw (then_read client.0 (decimal service.0 ++ 32 ∷ decimal upto) h.0, then_read service.0 (decimal upto) h.1, u64_read upto h.2) refl)
  event_read line (events.Place service generation text) h =
      let rest = decimal service.0 ++ 32 ∷ (decimal generation ++ 32 ∷ h.2.digits) in
      ap event_at h.2.words ∙ other_word (codes "place") rest (place_at rest) (events.Place service generation text) (clear (codes "place") refl) refl refl
      (rw (then_read service.0 (decimal generation ++ 32 ∷ h.2.digits) h.0, then_read generation h.2.digits h.1, h.2.text_is) refl)
  event_read line (events.DropBelow service floor) h =
      let rest = decimal service.0 ++ 32 ∷ decimal floor in
      ap event_at h.2 ∙ other_word (codes "drop") rest (drop_at rest) (events.DropBelow service floor) (clear (codes "drop") refl) refl refl
      (rw (then_read service.0 (decimal floor) h.0, u32_read floor h.1) refl)
