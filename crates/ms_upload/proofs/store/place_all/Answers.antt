use Rattle.std.proofs.Common.{◌≡◌, [], Ok, refl, ap, ◌∙◌, subst, length, slice_index_or, arith}
use Rattle.ms_local.specs.Desks.{desk_view}
use Rattle.ms_object.specs.Stores.{names_in}
use Rattle.ms_upload.specs.declared.placing.End.{End}
use Rattle.ms_upload.specs.Jobs.{PlacesOne}
use Rattle.ms_upload.proofs.Storing.{below_later, ends_cut, ends_done, ends_few, ends_fit, ends_stale, next_name, placed_all, placed_none, unplaced_none}
use Rattle.ms_upload.proofs.store.place_all.Goals as goal

pub returns-in-Err : goal.returns-in-Err
returns-in-Err g c =
    let old = desk_view g.W.Work.sees g.K.Keeper.sees g.L.Link.sees c.args.desk.now in
    unplaced_none c.args.plan.now c.args.objects.now old (c.desks_lay.ensures.nothing old c.requires.desk)

pub returns-in-Err-names : goal.returns-in-Err-names
returns-in-Err-names g c =
    let old = desk_view g.W.Work.sees g.K.Keeper.sees g.L.Link.sees c.args.desk.now in
    unplaced_none c.args.plan.now c.args.objects.now old (c.desks_lay.ensures.nothing old c.requires.desk)

pub loop-place-init : goal.loop-place-init
loop-place-init g c =
    let old = desk_view g.W.Work.sees g.K.Keeper.sees g.L.Link.sees c.args.desk.now in
    placed_none c.args.plan.now (names_in c.args.objects.now) old (record { puts = 0; present = 0 }) refl refl (c.desks_lay.ensures.nothing old c.requires.desk)

pub place_next-requires-clause-known : goal.place_next-requires-clause-known
place_next-requires-clause-known g c =
    let sees = desk_view g.W.Work.sees g.K.Keeper.sees g.L.Link.sees in
    below_later c.args.plan.now (sees c.args.desk.now) (sees c.loop-place.desk) _ c.loop-place.invariant.lays c.requires.known

pub returns-in-Err-place_next : goal.returns-in-Err-place_next
returns-in-Err-place_next g c =
    let sees = desk_view g.W.Work.sees g.K.Keeper.sees g.L.Link.sees in
    let old = sees c.args.desk.now in
    let mid = sees c.loop-place.desk in
    let new = sees c.place_next.new.desk in
    let plan = c.args.plan.now in
    let objects = c.args.objects.now in
    let place = c.loop-place.place in
    let placed = c.loop-place.placed in
    let h = c.loop-place.invariant in
    let slice = c.as_slice-names.result.now in
    let name = slice_index_or slice place (record { 0 = [] }) in
    let next = next_name slice (names_in objects) place (record { 0 = [] }) (c.as_slice-names.ensures ∙ c.in-Ok-names.ensures.all) c.loop-place-test.true in
    ends_cut plan objects old mid new place placed h c.desks_lay.ensures.on name next c.in-Err-place_next.field-0 c.in-Err-place_next.ensures

pub overflow_add-placed : goal.overflow_add-placed
overflow_add-placed g c =
    let sees = desk_view g.W.Work.sees g.K.Keeper.sees g.L.Link.sees in
    let old = sees c.args.desk.now in
    let mid = sees c.loop-place.desk in
    let new = sees c.place_next.new.desk in
    let plan = c.args.plan.now in
    let objects = c.args.objects.now in
    let place = c.loop-place.place in
    let placed = c.loop-place.placed in
    let h = c.loop-place.invariant in
    let slice = c.as_slice-names.result.now in
    let name = slice_index_or slice place (record { 0 = [] }) in
    let next = next_name slice (names_in objects) place (record { 0 = [] }) (c.as_slice-names.ensures ∙ c.in-Ok-names.ensures.all) c.loop-place-test.true in
    let end = subst (λ (e : End). PlacesOne plan name mid new (Ok e)) c.in-Done.is c.in-Ok-place_next.ensures in
    let fit = ends_fit plan objects old mid new place placed h c.desks_lay.ensures.on name next c.in-Done.present c.in-Done.puts end in
    omega (arith, fit, c.len-deeds.ensures)

pub overflow_add-placed-in-Done : goal.overflow_add-placed-in-Done
overflow_add-placed-in-Done g c =
    let sees = desk_view g.W.Work.sees g.K.Keeper.sees g.L.Link.sees in
    let old = sees c.args.desk.now in
    let mid = sees c.loop-place.desk in
    let new = sees c.place_next.new.desk in
    let plan = c.args.plan.now in
    let objects = c.args.objects.now in
    let place = c.loop-place.place in
    let placed = c.loop-place.placed in
    let h = c.loop-place.invariant in
    let slice = c.as_slice-names.result.now in
    let name = slice_index_or slice place (record { 0 = [] }) in
    let next = next_name slice (names_in objects) place (record { 0 = [] }) (c.as_slice-names.ensures ∙ c.in-Ok-names.ensures.all) c.loop-place-test.true in
    let end = subst (λ (e : End). PlacesOne plan name mid new (Ok e)) c.in-Done.is c.in-Ok-place_next.ensures in
    let fit = ends_fit plan objects old mid new place placed h c.desks_lay.ensures.on name next c.in-Done.present c.in-Done.puts end in
    omega (arith, fit, c.len-deeds.ensures)

pub returns-in-Stale : goal.returns-in-Stale
returns-in-Stale g c =
    let sees = desk_view g.W.Work.sees g.K.Keeper.sees g.L.Link.sees in
    let old = sees c.args.desk.now in
    let mid = sees c.loop-place.desk in
    let new = sees c.place_next.new.desk in
    let plan = c.args.plan.now in
    let objects = c.args.objects.now in
    let place = c.loop-place.place in
    let placed = c.loop-place.placed in
    let h = c.loop-place.invariant in
    let slice = c.as_slice-names.result.now in
    let name = slice_index_or slice place (record { 0 = [] }) in
    let next = next_name slice (names_in objects) place (record { 0 = [] }) (c.as_slice-names.ensures ∙ c.in-Ok-names.ensures.all) c.loop-place-test.true in
    let end = subst (λ (e : End). PlacesOne plan name mid new (Ok e)) c.in-Stale.is c.in-Ok-place_next.ensures in
    ends_stale plan objects old mid new place placed h c.desks_lay.ensures.on name next c.in-Stale.floor end

pub returns-in-TooFew : goal.returns-in-TooFew
returns-in-TooFew g c =
    let sees = desk_view g.W.Work.sees g.K.Keeper.sees g.L.Link.sees in
    let old = sees c.args.desk.now in
    let mid = sees c.loop-place.desk in
    let new = sees c.place_next.new.desk in
    let plan = c.args.plan.now in
    let objects = c.args.objects.now in
    let place = c.loop-place.place in
    let placed = c.loop-place.placed in
    let h = c.loop-place.invariant in
    let slice = c.as_slice-names.result.now in
    let name = slice_index_or slice place (record { 0 = [] }) in
    let next = next_name slice (names_in objects) place (record { 0 = [] }) (c.as_slice-names.ensures ∙ c.in-Ok-names.ensures.all) c.loop-place-test.true in
    let end = subst (λ (e : End). PlacesOne plan name mid new (Ok e)) c.in-TooFew.is c.in-Ok-place_next.ensures in
    ends_few plan objects old mid new place placed h c.desks_lay.ensures.on name next c.in-TooFew.failed end

pub loop-place-preserved : goal.loop-place-preserved
loop-place-preserved g c =
    let sees = desk_view g.W.Work.sees g.K.Keeper.sees g.L.Link.sees in
    let old = sees c.args.desk.now in
    let mid = sees c.loop-place.desk in
    let new = sees c.place_next.new.desk in
    let plan = c.args.plan.now in
    let objects = c.args.objects.now in
    let place = c.loop-place.place in
    let placed = c.loop-place.placed in
    let h = c.loop-place.invariant in
    let slice = c.as_slice-names.result.now in
    let name = slice_index_or slice place (record { 0 = [] }) in
    let next = next_name slice (names_in objects) place (record { 0 = [] }) (c.as_slice-names.ensures ∙ c.in-Ok-names.ensures.all) c.loop-place-test.true in
    let end = subst (λ (e : End). PlacesOne plan name mid new (Ok e)) c.in-Done.is c.in-Ok-place_next.ensures in
    ends_done plan objects old mid new place placed h c.desks_lay.ensures.on name next c.in-Done.present c.in-Done.puts end

pub returns : goal.returns
returns g c =
    let sees = desk_view g.W.Work.sees g.K.Keeper.sees g.L.Link.sees in
    let all : c.loop-place.place ≡ length (names_in c.args.objects.now) = omega (arith, c.loop-place-test.false, c.loop-place.auto.place-end, ap length (c.as_slice-names.ensures ∙ c.in-Ok-names.ensures.all)) in
    placed_all c.args.plan.now c.args.objects.now (sees c.args.desk.now) (sees c.loop-place.desk) c.loop-place.place c.loop-place.placed c.loop-place.invariant all
