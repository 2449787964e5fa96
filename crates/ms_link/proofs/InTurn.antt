-- What two answers in turn come to.
use Rattle.std.proofs.Common.{◌≡◌, ℕ, ◌<◌, ◌≤◌, Bool, true, false, List, Option, Some, None, Result, Ok, Err, refl, ap, ◌∙◌, subst, arith, Contains}
use Rattle.std.specs.Prelude.{IfOk, IsTrue, is_err, is_some, not}
use Rattle.ms_base.specs.declared.names.Name.{Name}
use Rattle.ms_ken.specs.Known.{Known}
use Rattle.ms_link.specs.Composing.{added_known, added_stays, event_stays, log_grows, has_on, puts_on, learns_self}
use Rattle.ms_link.specs.Links.{LinkView, Stays, Learns, IsAdded, IsStale, WhereListed, log_known, Puts, Has, Gets}
use Rattle.ms_link.specs.declared.fault.LinkError.{LinkError}
use Rattle.ms_link.specs.declared.fault.LinkError.TheVariants as errors
use Rattle.ms_record.specs.declared.item.Item.{Item}
use Rattle.ms_record.specs.declared.log.LogEvent.{LogEvent}
use Rattle.ms_record.specs.declared.log.LogEvent.TheVariants.{Put, Drop}

-- what a log says of a put that is there, a later `has` does not deny
pub found_has : (link0 link1 link2 : LinkView) (known : Known Item) (generation : ℕ) (name : Name) (text : List ℕ) (answer : Result Bool LinkError) → Stays link0 link1 → link0.lists ≡ true → link0.objects ≡ true
    → Contains (log_known link0 known) (Put generation name text) → Has link1 link2 known generation name answer → IfOk answer IsTrue
found_has link0 link1 link2 known generation name text (Ok true) stays lists objects there h = refl
found_has link0 link1 link2 known generation name text (Ok false) stays lists objects there h = absurd ((has_on link0 link1 link2 known generation name (Ok false) stays h lists objects).none (text, there))
found_has link0 link1 link2 known generation name text (Err e) stays lists objects there h = tt

pub put_has : (link0 link1 link2 : LinkView) (k0 k1 k2 : Known Item) (generation : ℕ) (name : Name) (text : List ℕ) (answer : Result Bool LinkError) → Stays link0 link1 → link0.lists ≡ true → link0.objects ≡ true
    → WhereListed link0 (IsAdded link0 k0 k1 (Put generation name text)) → Learns k1 k2 → Has link1 link2 k2 generation name answer → IfOk answer IsTrue
put_has link0 link1 link2 k0 k1 k2 generation name text answer stays lists objects added learns h =
    found_has link0 link1 link2 k2 generation name text answer stays lists objects
    (added_known link0 k0 k2 (Put generation name text) (added_stays link0 k0 k1 k2 (Put generation name text) learns (added lists))) h

pub get_has : (link0 link1 link2 : LinkView) (k1 k2 : Known Item) (generation : ℕ) (name : Name) (found : Option (List ℕ)) (none : Bool) (answer : Result Bool LinkError) → Stays link0 link1
    → link0.lists ≡ true → link0.objects ≡ true → is_some found ≡ not none → none ≡ false
    → Gets link0 link1 k1 generation name (Ok found) → Learns k1 k2 → Has link1 link2 k2 generation name answer → IfOk answer IsTrue
get_has link0 link1 link2 k1 k2 generation name None none answer stays lists objects is found_one gets learns h = absurd (let q : false ≡ true = is ∙ ap not found_one in cc q)
get_has link0 link1 link2 k1 k2 generation name (Some text) none answer stays lists objects is found_one gets learns h =
    found_has link0 link1 link2 k2 generation name text answer stays lists objects
    (event_stays (log_known link0 k1) (log_known link0 k2) (Put generation name text) (log_grows link0 k1 k2 learns) ((gets lists objects).put)) h

-- the answer that a generation is below the floor
pub stale_is : (link after : LinkView) (known : Known Item) (generation floor : ℕ) (name : Name) (answer : Result Bool LinkError) → answer ≡ Err (errors.Stale floor) → Has link after known generation name answer
    → IsStale link known generation floor
stale_is link after known generation floor name answer is h = subst (λ (r : Result Bool LinkError). Has link after known generation name r) is h

pub stale_put : (link0 link1 link2 : LinkView) (k1 k2 : Known Item) (generation floor : ℕ) (event : LogEvent) (answer : Result Unit LinkError) → Stays link0 link1 → link0.lists ≡ true → link0.objects ≡ true
    → IsStale link0 k1 generation floor → Learns k1 k2 → Puts link1 link2 k1 k2 generation event answer → is_err answer ≡ true
stale_put link0 link1 link2 k1 k2 generation floor event (Ok u) stays lists objects stale learns h =
    let above = (puts_on link0 link1 link2 k1 k1 k2 generation event (Ok u) stays (learns_self k1) h).1 lists objects in
    let le : floor ≤ generation = above floor (event_stays (log_known link0 k1) (log_known link0 k2) (Drop floor) (log_grows link0 k1 k2 learns) (stale.dropped lists)) in
    absurd (omega (arith, stale.below))
stale_put link0 link1 link2 k1 k2 generation floor event (Err e) stays lists objects stale learns h = refl

pub drop_has : (link0 link1 link2 : LinkView) (k0 k1 k2 : Known Item) (floor generation : ℕ) (name : Name) (answer : Result Bool LinkError) → Stays link0 link1 → link0.lists ≡ true → link0.objects ≡ true → generation < floor
    → WhereListed link0 (IsAdded link0 k0 k1 (Drop floor)) → Learns k1 k2 → Has link1 link2 k2 generation name answer → is_err answer ≡ true
drop_has link0 link1 link2 k0 k1 k2 floor generation name answer stays lists objects below added learns h =
    by answer (has_on link0 link1 link2 k2 generation name answer stays h)
  where
    there : Contains (log_known link0 k2) (Drop floor)
    there = added_known link0 k0 k2 (Drop floor) (added_stays link0 k0 k1 k2 (Drop floor) learns (added lists))

    by : (r : Result Bool LinkError) → Has link0 link2 k2 generation name r → is_err r ≡ true
    by (Ok true) has = let le : floor ≤ generation = (has lists).kept floor there in absurd (omega arith)
    by (Ok false) has = let le : floor ≤ generation = (has lists objects).above floor there in absurd (omega arith)
    by (Err e) has = refl
