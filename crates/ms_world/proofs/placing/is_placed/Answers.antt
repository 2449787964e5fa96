use Rattle.std.proofs.Common.{ℕ, true, false, List, [], ◌∷◌, refl, sym, subst, arith}
use Rattle.std.proofs.lemmas.Bool.{true≢false}
use Rattle.ms_core.specs.declared.want.Want.{Want}
use Rattle.ms_core.specs.declared.want.Wanted.TheVariants.{Version}
use Rattle.ms_core.specs.Placing.{want_of}
use Rattle.ms_world.specs.Puts.{Knows}
use Rattle.ms_world.specs.Reaching.{Meets, Reaches}
use Rattle.ms_world.proofs.PlacedLaws.{walked_first, walked_fails, walked_next, walked_whole}
use Rattle.ms_world.proofs.placing.is_placed.Goals as goal

pub loop-place-init : goal.loop-place-init
loop-place-init c =
    walked_first c.args.logs.now c.args.plan.now c.args.version.now c.in_ok-puts.puts.entries c.meet.new.self
    (subst (λ (old : List Want). Meets (want_of Version c.args.version.now ∷ []) old c.meet.new.self) c.new-met.ensures c.in_ok-meet.ensures.meets)

pub returns-then-not-branch : goal.returns-then-not-branch
returns-then-not-branch c =
    let puts = c.in_ok-puts.puts.entries in
    let plan = c.args.plan.now in
    let knows : Knows c.args.logs.now plan.generation puts = subst (λ (g : ℕ). Knows c.args.logs.now g puts) c.generation.ensures c.in_ok-puts.ensures in
    let missing : Reaches puts plan c.at.result c.loop-place.met c.reach.new.met false =
    subst (Reaches puts plan c.at.result c.loop-place.met c.reach.new.met) c.if-not-branch.true c.in_ok-reach.ensures.reaches in (
      λ is. absurd (true≢false (sym is)),
      λ placed. absurd (walked_fails c.args.logs.now plan c.args.version.now puts knows c.one_spelling.ensures.one_value c.loop-place.met c.loop-place.place c.at.result c.in_ok-reach.ensures.rules c.loop-place.invariant c.at.ensures missing placed),
    )

pub loop-place-preserved : goal.loop-place-preserved
loop-place-preserved c =
    let puts = c.in_ok-puts.puts.entries in
    let plan = c.args.plan.now in
    let knows : Knows c.args.logs.now plan.generation puts = subst (λ (g : ℕ). Knows c.args.logs.now g puts) c.generation.ensures c.in_ok-puts.ensures in
    let reached : Reaches puts plan c.at.result c.loop-place.met c.reach.new.met true =
    subst (Reaches puts plan c.at.result c.loop-place.met c.reach.new.met) c.if-not-branch.false c.in_ok-reach.ensures.reaches in
    walked_next c.args.logs.now plan c.args.version.now puts knows c.one_spelling.ensures.one_value c.loop-place.met c.reach.new.met c.loop-place.place c.at.result c.in_ok-reach.ensures.rules c.loop-place.invariant c.at.ensures reached

pub returns : goal.returns
returns c =
    let puts = c.in_ok-puts.puts.entries in
    let plan = c.args.plan.now in
    let knows : Knows c.args.logs.now plan.generation puts = subst (λ (g : ℕ). Knows c.args.logs.now g puts) c.generation.ensures c.in_ok-puts.ensures in (
      λ is. walked_whole c.args.logs.now plan c.args.version.now puts knows c.one_spelling.ensures.one_value c.loop-place.met c.loop-place.place c.requires.named
          (omega (arith, c.len.ensures, c.loop-place-test.false)) c.loop-place.invariant,
      λ placed. refl,
    )
