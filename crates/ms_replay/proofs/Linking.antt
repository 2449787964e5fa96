-- Chains: a linked list goes on, and one that cannot go on is the longest.
use Rattle.std.proofs.Common.{◌≡◌, ℕ, ◌+◌, ◌<◌, ◌≤◌, List, [], ◌∷◌, ◌++◌, Option, Some, None, inl, inr, refl, sym, ap, ◌∙◌, subst, slice_get, length, take, get_or, arith}
use Rattle.std.specs.Prelude.{IfSome}
use Rattle.std.specs.List.{Contains}
use Rattle.std.proofs.lemmas.Bool.{cases_lt}
use Rattle.std.proofs.lemmas.List.{length-take-le, length_push, length-map, get_or-map}
use Rattle.std.proofs.lemmas.Option.{slice_get-get_or, slice_get_within, get_or_from_slice_get}
use Rattle.ms_record.specs.declared.entry.Entry.{Entry}
use Rattle.ms_record.specs.declared.plan.PlanRow.{PlanRow}
use Rattle.ms_record.specs.declared.record.Record.{Record}
use Rattle.ms_record.specs.Chains.{Origin, LinksOn, GoesOn, IsLinked, IsChain, IsChosen, AgreesAt, Agrees, LinksBehind, last_name, plan_after, plan_in, voters_of, voters_behind}
use Rattle.ms_record.specs.Entries.{name_of}
use Rattle.ms_record.specs.Plans.{PlanView, no_row}
use Rattle.ms_record.specs.Votes.{ChosenBy, services_below}
use Rattle.ms_replay.specs.declared.audit.Made.{Made}
use Rattle.ms_replay.specs.declared.audit.Next.{Next}
use Rattle.ms_replay.specs.declared.audit.Next.TheVariants as nexts
use Rattle.ms_replay.specs.declared.standing.Standing.{Standing}
use Rattle.ms_replay.specs.declared.standing.Standing.TheVariants.{Unseen, Seen, Chosen, Split}
use Rattle.ms_replay.specs.Audits.{IsLeastSplit}
use Rattle.ms_replay.specs.Standings.{IsStanding, IsOnlyChosen, NoneChosen}
use Rattle.ms_replay.specs.Steps.{ChooseOne, LinksTo, GoesOnBy, IsMemberOrEnd, IsNextBy, IsNextOf, OnMember}
use Rattle.ms_replay.proofs.Agreeing.{none_taken}
use Rattle.ms_replay.proofs.Choosing.{AreBelow, below_voter, voter_below}

-- ---- the services of a plan

-- the plan names services below n alone
abbrev pub NamesBelow : ℕ → PlanView → Type 0
NamesBelow n plan = (i : ℕ) (row : PlanRow) → slice_get plan.rows i ≡ Some row → row.service.0 < n

abbrev service_in : PlanRow → ℕ
service_in row = row.service.0

pub known_voters : (n : ℕ) (plan : PlanView) → NamesBelow n plan → AreBelow n (voters_of plan)
known_voters n plan h s d =
    let within : d.0 < length plan.rows = omega (arith, d.1, length-map plan.rows service_in) in
    let at : slice_get plan.rows d.0 ≡ Some (get_or plan.rows d.0 no_row) = slice_get-get_or plan.rows d.0 no_row within in
    let is : service_in (get_or plan.rows d.0 no_row) ≡ s = sym (get_or-map service_in plan.rows d.0 no_row s within) ∙ d.2 in
    omega (arith, is, h d.0 (get_or plan.rows d.0 no_row) at)

-- voters that are these
pub same_below : (n : ℕ) (voters own : List ℕ) → own ≡ voters → AreBelow n voters → AreBelow n own
same_below n voters own are h s c = h s (subst (λ (l : List ℕ). Contains l s) are c)

pub first_names : (n : ℕ) (plan : PlanView) → voters_of plan ≡ services_below n → NamesBelow n plan
first_names n plan are i row at =
    let within : i < length plan.rows = slice_get_within plan.rows i row at in
    let s : ℕ = row.service.0 in
    let here : get_or (voters_of plan) i s ≡ s =
    get_or-map service_in plan.rows i no_row s within ∙ ap service_in (get_or_from_slice_get plan.rows i row no_row at) in
    voter_below n s (subst (λ (l : List ℕ). Contains l s) are (i, omega (arith, within, length-map plan.rows service_in), here))

pub names_after : (n generation format : ℕ) (before : PlanView) (plan : Option PlanView) → NamesBelow n before → IfSome plan (GoesOn generation format n) → NamesBelow n (plan_after before plan)
names_after n generation format before None h g = h
names_after n generation format before (Some plan) h g = g.known

-- ---- chains

last_push : (name : List ℕ) (c : List Entry) (e : Entry) → last_name name (c ++ e ∷ []) ≡ name_of e
last_push name [] e = refl
last_push name (f ∷ fs) e = last_push (name_of f) fs e

plan_push : (plan : PlanView) (c : List Entry) (e : Entry) → plan_in plan (c ++ e ∷ []) ≡ plan_after (plan_in plan c) e.plan
plan_push plan [] e = refl
plan_push plan (f ∷ fs) e = plan_push (plan_after plan f.plan) fs e

-- what is known of linked lists
pub record Laws (lists : ℕ → List Record) (origin : Origin) : Type 0 where
  pub none : IsLinked lists origin []
  pub goes_on : (c : List Entry) (e : Entry) → IsLinked lists origin c → ChosenBy lists (voters_behind origin c) (length c + 1) e → LinksBehind origin c e → IsLinked lists origin (c ++ e ∷ [])
  pub front : (c : List Entry) (n : ℕ) → IsLinked lists origin c → IsLinked lists origin (take n c)
  pub one : (c d : List Entry) → ((k : ℕ) → k ≤ length c → AgreesAt lists origin k) → IsLinked lists origin c → IsLinked lists origin d → length c ≡ length d → c ≡ d

pub chain_laws : (lists : ℕ → List Record) (origin : Origin) → IsLinked lists origin []
    → ((c : List Entry) (e : Entry) → IsLinked lists origin c → ChosenBy lists (voters_behind origin c) (length c + 1) e → LinksBehind origin c e → IsLinked lists origin (c ++ e ∷ []))
    → ((c : List Entry) (n : ℕ) → IsLinked lists origin c → IsLinked lists origin (take n c))
    → ((c d : List Entry) → ((k : ℕ) → k ≤ length c → AgreesAt lists origin k) → IsLinked lists origin c → IsLinked lists origin d → length c ≡ length d → c ≡ d) → Laws lists origin
chain_laws lists origin none goes_on front one = record { none = none; goes_on = goes_on; front = front; one = one }

-- a chain that is being made: at no position up to its end are two entries chosen
pub record IsMade (lists : ℕ → List Record) (origin : Origin) (made : Made) : Type 0 where
  pub linked : IsLinked lists origin made.entries
  pub last : made.last.0 ≡ last_name origin.name made.entries
  pub plan : made.plan ≡ plan_in origin.plan made.entries
  pub agree : (k : ℕ) → k ≤ length made.entries → AgreesAt lists origin k

pub starts : (lists : ℕ → List Record) (origin : Origin) (made : Made) → Laws lists origin → made.entries ≡ [] → made.last.0 ≡ origin.name → made.plan ≡ origin.plan → IsMade lists origin made × (1 + length made.entries ≡ 1)
starts lists origin made laws none last plan = (
  record {
    linked = subst (λ (xs : List Entry). IsLinked lists origin xs) (sym none) laws.none;
    last = last ∙ ap (last_name origin.name) (sym none);
    plan = plan ∙ ap (plan_in origin.plan) (sym none);
    agree = λ k l e f ce cf. absurd (omega (arith, l, ap length none, ce.at));
  },
  omega (arith, ap length none),
)

-- the voters behind it
voters_are : (lists : ℕ → List Record) (origin : Origin) (made : Made) → IsMade lists origin made → voters_of made.plan ≡ voters_behind origin made.entries
voters_are lists origin made h = ap voters_of h.plan

links_are : (lists : ℕ → List Record) (origin : Origin) (made : Made) (e : Entry) → IsMade lists origin made → LinksTo made origin.services e → LinksBehind origin made.entries e
links_are lists origin made e h links =
    subst (λ (p : PlanView). LinksOn (last_name origin.name made.entries) p.generation p.format origin.services e) h.plan
    (subst (λ (name : List ℕ). LinksOn name made.plan.generation made.plan.format origin.services e) h.last links)

links_back : (lists : ℕ → List Record) (origin : Origin) (made : Made) (e : Entry) → IsMade lists origin made → LinksBehind origin made.entries e → LinksTo made origin.services e
links_back lists origin made e h links =
    subst (λ (name : List ℕ). LinksOn name made.plan.generation made.plan.format origin.services e) (sym h.last)
    (subst (λ (p : PlanView). LinksOn (last_name origin.name made.entries) p.generation p.format origin.services e) (sym h.plan) links)

-- a chosen entry of the next position is chosen by these voters
chosen_there : (lists : ℕ → List Record) (origin : Origin) (made : Made) (k : ℕ) (e : Entry) → Laws lists origin → IsMade lists origin made → 1 + length made.entries ≡ k → IsChosen lists origin k e → ChosenBy lists (voters_of made.plan) k e
chosen_there lists origin made k e laws h at c =
    let one : made.entries ≡ c.members = laws.one made.entries c.members h.agree h.linked c.linked (omega (arith, at, c.at)) in
    subst (λ (l : List ℕ). ChosenBy lists l k e) (sym (voters_are lists origin made h ∙ ap (voters_behind origin) one)) c.chosen

agree_there : (lists : ℕ → List Record) (origin : Origin) (made : Made) (k : ℕ) → Laws lists origin → IsMade lists origin made → 1 + length made.entries ≡ k → ChooseOne lists (voters_of made.plan) k → AgreesAt lists origin k
agree_there lists origin made k laws h at one e f ce cf = one e f (chosen_there lists origin made k e laws h at ce) (chosen_there lists origin made k f laws h at cf)

chosen_behind : (lists : ℕ → List Record) (origin : Origin) (made : Made) (k : ℕ) (e : Entry) → IsMade lists origin made → 1 + length made.entries ≡ k → ChosenBy lists (voters_of made.plan) k e
    → ChosenBy lists (voters_behind origin made.entries) (length made.entries + 1) e
chosen_behind lists origin made k e h at c =
    let p : k ≡ length made.entries + 1 = omega (arith, at) in
    subst (λ (q : ℕ). ChosenBy lists (voters_behind origin made.entries) q e) p (subst (λ (l : List ℕ). ChosenBy lists l k e) (voters_are lists origin made h) c)

pub made_on : (lists : ℕ → List Record) (origin : Origin) (k : ℕ) (old new : Made) (e : Entry) → Laws lists origin → IsMade lists origin old × (1 + length old.entries ≡ k)
    → ChosenBy lists (voters_of old.plan) k e × LinksTo old origin.services e × ChooseOne lists (voters_of old.plan) k → GoesOnBy old e new → IsMade lists origin new × (1 + length new.entries ≡ k + 1)
made_on lists origin k old new e laws h step grows =
    let agree = agree_there lists origin old k laws h.0 h.1 step.2 in
    let linked = laws.goes_on old.entries e h.0.linked (chosen_behind lists origin old k e h.0 h.1 step.0) (links_are lists origin old e h.0 step.1) in
    let long : length new.entries ≡ length old.entries + 1 = ap length grows.entries ∙ length_push old.entries e in (
      record {
        linked = subst (λ (xs : List Entry). IsLinked lists origin xs) (sym grows.entries) linked;
        last = grows.last ∙ sym (last_push origin.name old.entries e) ∙ ap (last_name origin.name) (sym grows.entries);
        plan = grows.plan ∙ ap (λ (p : PlanView). plan_after p e.plan) h.0.plan ∙ sym (plan_push origin.plan old.entries e) ∙ ap (plan_in origin.plan) (sym grows.entries);
        agree = λ q l. elim (cases_lt q k) [
          | inl less ↦ h.0.agree q (omega (arith, less, h.1))
          | inr last ↦ (let same : k ≡ q = omega (arith, last, l, long, h.1) in subst (λ (p : ℕ). AgreesAt lists origin p) same agree)
        ];
      },
      omega (arith, long, h.1),
    )

-- where two are chosen, that is the least position
pub made_split : (lists : ℕ → List Record) (origin : Origin) (k : ℕ) (made : Made) (first second : Entry) → IsMade lists origin made × (1 + length made.entries ≡ k)
    → IsStanding lists (services_below origin.services) (voters_of made.plan) k (Split first second) → IsLeastSplit lists origin k first second
made_split lists origin k made first second h split = record {
  members = made.entries;
  linked = h.0.linked;
  at = omega (arith, h.1);
  split = subst (λ (l : List ℕ). IsStanding lists (services_below origin.services) l k (Split first second)) (voters_are lists origin made h.0) split;
  least = λ q less. h.0.agree q (omega (arith, less, h.1));
}

-- no linked list is longer than one that cannot go on
no_longer : (lists : ℕ → List Record) (origin : Origin) (made : Made) → Laws lists origin → IsMade lists origin made
    → ((e : Entry) → ChosenBy lists (voters_of made.plan) (1 + length made.entries) e → LinksTo made origin.services e → ⊥) → (d : List Entry) → IsLinked lists origin d → length d ≤ length made.entries
no_longer lists origin made laws h none d hd =
    elim (cases_lt (length made.entries) (length d)) [
      | inr le ↦ le
      | inl lt ↦
          let n = length made.entries in
          let e = first_of d (omega (arith, lt)) in
          let m = get_or d n e in
          let at : slice_get d n ≡ Some m = slice_get-get_or d n e lt in
          let same : made.entries ≡ take n d = laws.one made.entries (take n d) h.agree h.linked (laws.front d n hd) (sym (length-take-le n d (omega (arith, lt)))) in
          let chosen : ChosenBy lists (voters_of made.plan) (n + 1) m =
          subst (λ (l : List ℕ). ChosenBy lists l (n + 1) m) (sym (voters_are lists origin made h ∙ ap (voters_behind origin) same)) (hd.chosen n m at) in
          let links : LinksBehind origin made.entries m = subst (λ (xs : List Entry). LinksBehind origin xs m) (sym same) (hd.links n m at) in
          let p : n + 1 ≡ 1 + n = omega arith in
          absurd (none m (subst (λ (q : ℕ). ChosenBy lists (voters_of made.plan) q m) p chosen) (links_back lists origin made m h links))
    ]
  where
    first_of : (d : List Entry) → 0 < length d → Entry
    first_of [] l = absurd (omega arith)
    first_of (x ∷ xs) l = x

-- so it is the chain, and nowhere are two chosen
pub made_ends : (lists : ℕ → List Record) (origin : Origin) (k : ℕ) (made : Made) → Laws lists origin → IsMade lists origin made × (1 + length made.entries ≡ k)
    → ChooseOne lists (voters_of made.plan) k × ((e : Entry) → ChosenBy lists (voters_of made.plan) k e → LinksTo made origin.services e → ⊥) → Agrees lists origin × IsChain lists origin made.entries
made_ends lists origin k made laws h step =
    let longest = no_longer lists origin made laws h.0 (λ e c l. step.1 e (subst (λ (q : ℕ). ChosenBy lists (voters_of made.plan) q e) h.1 c) l) in
    let here = agree_there lists origin made k laws h.0 h.1 step.0 in (
      λ q e f ce cf. elim (cases_lt q k) [
        | inl less ↦ h.0.agree q (omega (arith, less, h.1)) e f ce cf
        | inr past ↦ elim (cases_lt k q) [
          | inl above ↦ absurd (omega (arith, above, h.1, ce.at, longest ce.members ce.linked))
          | inr most ↦ (let same : k ≡ q = omega (arith, past, most) in subst (λ (p : ℕ). AgreesAt lists origin p) same here e f ce cf)
        ]
      ],
      record { linked = h.0.linked; longest = longest },
    )

-- ---- the next position

-- the one entry that the voters have chosen, or the end
pub member_is : (lists : ℕ → List Record) (n k : ℕ) (made : Made) (entry : Entry) (next : Next) → ChosenBy lists (voters_of made.plan) k entry × IsOnlyChosen lists (voters_of made.plan) k entry → IsMemberOrEnd n made entry next
    → IsNextOf lists n made k next
member_is lists n k made entry (nexts.Member e) c m = (
  subst (λ (x : Entry). ChosenBy lists (voters_of made.plan) k x) (sym m.0) c.0,
  subst (λ (x : Entry). LinksTo made n x) (sym m.0) m.1,
  λ f g cf cg. c.1 f cf ∙ sym (c.1 g cg),
)
member_is lists n k made entry nexts.End c m = (λ f g cf cg. c.1 f cf ∙ sym (c.1 g cg), λ e ce links. m (subst (λ (x : Entry). LinksTo made n x) (c.1 e ce) links))
member_is lists n k made entry (nexts.Split first second) c m = absurd m

-- no entry is chosen, so none goes on
end_is : (lists : ℕ → List Record) (n k : ℕ) (made : Made) → NoneChosen lists (voters_of made.plan) k → IsNextOf lists n made k nexts.End
end_is lists n k made none = (λ e f ce cf. absurd (none e ce), λ e ce links. none e ce)

pub next_is : (lists : ℕ → List Record) (n m k : ℕ) (made : Made) (standing : Standing) (next : Next) → AreBelow n (voters_of made.plan) → m ≡ n → IsStanding lists (services_below n) (voters_of made.plan) k standing
    → IsNextBy m made standing next → IsNextOf lists n made k next
next_is lists n m k made Unseen next below same h by =
    subst (λ (x : Next). IsNextOf lists n made k x) (sym by)
    (end_is lists n k made (λ e. none_taken lists (services_below n) (voters_of made.plan) k e (λ s c. below_voter n s (below s c)) h))
next_is lists n m k made (Seen vote) next below same h by = subst (λ (x : Next). IsNextOf lists n made k x) (sym by) (end_is lists n k made h.1)
next_is lists n m k made (Chosen entry) next below same h by = member_is lists n k made entry next h (subst (λ (q : ℕ). IsMemberOrEnd q made entry next) same by)
next_is lists n m k made (Split first second) next below same h by = subst (λ (x : Next). IsNextOf lists n made k x) (sym by) h

links_at : (n : ℕ) (made : Made) (entry : Entry) (next : Next) → IsMemberOrEnd n made entry next → OnMember made n next
links_at n made entry (nexts.Member e) h = subst (λ (x : Entry). LinksTo made n x) (sym h.0) h.1
links_at n made entry nexts.End h = tt
links_at n made entry (nexts.Split first second) h = absurd h

pub on_member : (n m : ℕ) (made : Made) (standing : Standing) (next : Next) → m ≡ n → IsNextBy m made standing next → OnMember made n next
on_member n m made Unseen next same by = subst (λ (x : Next). OnMember made n x) (sym by) tt
on_member n m made (Seen vote) next same by = subst (λ (x : Next). OnMember made n x) (sym by) tt
on_member n m made (Chosen entry) next same by = links_at n made entry next (subst (λ (q : ℕ). IsMemberOrEnd q made entry next) same by)
on_member n m made (Split first second) next same by = subst (λ (x : Next). OnMember made n x) (sym by) tt
