use Rattle.std.proofs.Common.{ℕ, List, ap, refl, sym, subst, ◌∙◌}
use Rattle.ms_record.specs.declared.entry.Entry.{Entry}
use Rattle.ms_record.specs.declared.record.Record.{Record}
use Rattle.ms_record.specs.Chains.{voters_of}
use Rattle.ms_record.specs.Plans.{PlanView}
use Rattle.ms_record.specs.Settings.{even_plan}
use Rattle.ms_record.specs.Votes.{services_below}
use Rattle.ms_replay.specs.declared.audit.Audit.{Audit}
use Rattle.ms_replay.specs.declared.audit.Made.{Made}
use Rattle.ms_replay.specs.Audits.{AuditsLists, origin_of}
use Rattle.ms_replay.proofs.Agreeing.{none_past}
use Rattle.ms_replay.proofs.Linking.{NamesBelow, chain_laws, known_voters, first_names, names_after, starts, made_on, made_split, made_ends}
use Rattle.ms_replay.proofs.audit.audit_tally.Goals as goal

pub loop-position-init : goal.loop-position-init
loop-position-init c =
    let n = c.args.tally.now.services in
    let origin = origin_of c.args.genesis.0 n in
    let laws = λ (lists : ℕ → List Record). chain_laws lists origin (c.one_chain.ensures.none lists origin) (λ xs e. c.one_chain.ensures.goes_on lists origin xs e) (λ xs m. c.one_chain.ensures.front lists origin xs m) (λ xs ys. c.one_chain.ensures.one_there lists origin xs ys) in
    let made : Made = record { entries = c.new.result; last = c.args.genesis; plan = c.even.result } in
    record {
      names = first_names n c.even.result (c.even.ensures.first.rows ∙ ap services_below c.services.ensures);
      made = λ lists h. starts lists origin made (laws lists) c.new.ensures refl (c.even.ensures.is ∙ ap (λ (m : ℕ). even_plan m 1) c.services.ensures);
    }

pub next_of-requires : goal.next_of-requires
next_of-requires c =
    record { known = known_voters c.args.tally.now.services c.loop-position.made.plan c.loop-position.invariant.names }

pub returns-in-End : goal.returns-in-End
returns-in-End c = λ lists h.
    let n = c.args.tally.now.services in
    let origin = origin_of c.args.genesis.0 n in
    let laws = λ (lists : ℕ → List Record). chain_laws lists origin (c.one_chain.ensures.none lists origin) (λ xs e. c.one_chain.ensures.goes_on lists origin xs e) (λ xs m. c.one_chain.ensures.front lists origin xs m) (λ xs ys. c.one_chain.ensures.one_there lists origin xs ys) in
    made_ends lists origin c.loop-position.position c.loop-position.made (laws lists) (c.loop-position.invariant.made lists h) (c.in-End.ensures.is lists h)

pub returns-in-Split : goal.returns-in-Split
returns-in-Split c = λ lists h.
    let origin = origin_of c.args.genesis.0 c.args.tally.now.services in
    let least = made_split lists origin c.loop-position.position c.loop-position.made c.in-Split.first c.in-Split.second (c.loop-position.invariant.made lists h) (c.in-Split.ensures.is lists h) in
    subst (λ (a : Audit). AuditsLists lists origin a) (sym c.split.ensures) (record { one = c.in-Split.first; other = c.in-Split.second; split = least; first_is = refl; second_is = refl })

pub loop-position-preserved : goal.loop-position-preserved
loop-position-preserved c =
    let n = c.args.tally.now.services in
    let origin = origin_of c.args.genesis.0 n in
    let laws = λ (lists : ℕ → List Record). chain_laws lists origin (c.one_chain.ensures.none lists origin) (λ xs e. c.one_chain.ensures.goes_on lists origin xs e) (λ xs m. c.one_chain.ensures.front lists origin xs m) (λ xs ys. c.one_chain.ensures.one_there lists origin xs ys) in
    let old = c.loop-position.made in
    let e = c.in-Member.entry in
    let grows = c.in_ok-take-in-Member.ensures in
    record {
      names = subst (λ (p : PlanView). NamesBelow n p) (sym grows.plan) (names_after n old.plan.generation old.plan.format old.plan e.plan c.loop-position.invariant.names c.in-Member.ensures.links.plan);
      made = λ lists h. made_on lists origin c.loop-position.position old c.take.new.self e (laws lists) (c.loop-position.invariant.made lists h) (c.in-Member.ensures.is lists h) grows;
    }

pub returns : goal.returns
returns c = λ lists h.
    let n = c.args.tally.now.services in
    let origin = origin_of c.args.genesis.0 n in
    let laws = λ (lists : ℕ → List Record). chain_laws lists origin (c.one_chain.ensures.none lists origin) (λ xs e. c.one_chain.ensures.goes_on lists origin xs e) (λ xs m. c.one_chain.ensures.front lists origin xs m) (λ xs ys. c.one_chain.ensures.one_there lists origin xs ys) in
    let made = c.loop-position.made in
    let below = known_voters n made.plan c.loop-position.invariant.names in
    let none = λ (e : Entry). none_past lists c.args.tally.now (voters_of made.plan) c.loop-position.position e h below c.loop-position-test.false in
    made_ends lists origin c.loop-position.position made (laws lists) (c.loop-position.invariant.made lists h) (λ e f ce cf. absurd (none e ce), λ e ce links. none e ce)
