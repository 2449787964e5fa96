use Rattle.std.proofs.Common.{◌≡◌, ◌≤◌, [], ◌∙◌, ap, arith, length, slice_index_or}
use Rattle.ms_object.specs.Stores.{names_in}
use Rattle.ms_local.proofs.KeepingObjects.{kept_all, kept_next, kept_stops, next_name}
use Rattle.ms_local.proofs.kept_objects.keep_all.Goals as goal

pub returns-in-Err-keep_one-clause-keeps : goal.returns-in-Err-keep_one-clause-keeps
returns-in-Err-keep_one-clause-keeps g c =
    let sees = g.K.Keeper.sees in
    let name = slice_index_or c.as_slice-names.result.now c.loop-place.place (record { 0 = [] }) in
    kept_stops c.args.objects.now (names_in c.args.objects.now) (sees c.args.keep.now) (sees c.loop-place.keep) (sees c.keep_one.new.keep) c.loop-place.place name c.loop-place.invariant
    c.in-Err-keep_one.refusal c.in-Err-keep_one.ensures.keeps

pub loop-place-preserved : goal.loop-place-preserved
loop-place-preserved g c =
    let sees = g.K.Keeper.sees in
    let names = names_in c.args.objects.now in
    let slice = c.as_slice-names.result.now in
    let place = c.loop-place.place in
    let name = slice_index_or slice place (record { 0 = [] }) in
    let next = next_name slice names place (record { 0 = [] }) (c.as_slice-names.ensures ∙ c.in-Ok.ensures.all) c.loop-place-test.true in
    kept_next c.args.objects.now names (sees c.args.keep.now) (sees c.loop-place.keep) (sees c.keep_one.new.keep) place name c.loop-place.invariant next
    c.in-Ok-keep_one.ensures.keeps c.in-Ok-keep_one.ensures.goes

pub returns-clause-keeps : goal.returns-clause-keeps
returns-clause-keeps g c =
    let sees = g.K.Keeper.sees in
    let names = names_in c.args.objects.now in
    let all : length names ≤ c.loop-place.place = omega (arith, c.loop-place-test.false, c.loop-place.auto.place-end, ap length (c.as_slice-names.ensures ∙ c.in-Ok.ensures.all)) in
    kept_all c.args.objects.now c.in-Ok.names names (sees c.args.keep.now) (sees c.loop-place.keep) c.loop-place.place c.loop-place.invariant c.in-Ok.ensures.all all c.in-Ok.ensures.there
