use Rattle.std.proofs.Common.{◌≡◌, ◌≢◌, Some, None, Ok, Err, sym, subst, rules}
use Rattle.ms_local.specs.declared.objects.Miss.TheVariants.{Failed, Stale}
use Rattle.ms_local.specs.Desks.{desk_view}
use Rattle.ms_local.specs.ObjectCalls.{GetsNoted}
use Rattle.ms_fetch.specs.declared.ask.Lack.{Lack}
use Rattle.ms_fetch.specs.Fetching.{AsksOne}
use Rattle.ms_fetch.proofs.Asking.{absent, altered, cut, failed, found, stale}
use Rattle.ms_fetch.proofs.ask.ask_one.Goals as goal

pub returns-then-eq : goal.returns-then-eq
returns-then-eq g c =
    let sees = desk_view g.W.Work.sees g.K.Keeper.sees g.L.Link.sees in
    let is : c.get_noted-answer.result ≡ Ok (Ok (Some c.in-Ok-Ok-Some.found)) = search rules in
    let same : c.in-Ok-Ok-Some.found.name ≡ c.args.name.now = search rules in
    found (sees c.args.desk.now) (sees c.get_noted-answer.new.desk) c.desks_lay.ensures.called c.desks_lay.ensures.noted c.items_say.ensures.item c.views_grow.ensures.events c.requires.desk c.get_noted-answer.ensures.desk c.recall.ensures.closed
    c.args.service c.args.generation c.args.name.now c.in-Ok-Ok-Some.found (subst (GetsNoted (sees c.args.desk.now) (sees c.get_noted-answer.new.desk) c.args.service c.args.generation c.args.name.now) is c.get_noted-answer.ensures.gets) same

pub returns-else-eq : goal.returns-else-eq
returns-else-eq g c =
    let sees = desk_view g.W.Work.sees g.K.Keeper.sees g.L.Link.sees in
    let is : c.get_noted-answer.result ≡ Ok (Ok (Some c.in-Ok-Ok-Some.found)) = search rules in
    let old = sees c.args.desk.now in
    let new = sees c.get_noted-answer.new.desk in
    let other : c.in-Ok-Ok-Some.found.name ≢ c.args.name.now = search rules in
    subst (λ (l : Lack). AsksOne old new c.args.generation c.args.name.now c.args.service (Ok (Err l))) (sym c.unread.ensures)
    (altered old new c.desks_lay.ensures.called c.desks_lay.ensures.noted c.items_say.ensures.item c.views_grow.ensures.events c.requires.desk c.get_noted-answer.ensures.desk c.recall.ensures.closed
    c.args.service c.args.generation c.args.name.now c.in-Ok-Ok-Some.found c.requires.service (subst (GetsNoted (sees c.args.desk.now) (sees c.get_noted-answer.new.desk) c.args.service c.args.generation c.args.name.now) is c.get_noted-answer.ensures.gets) other)

pub returns-in-Ok-Ok-None : goal.returns-in-Ok-Ok-None
returns-in-Ok-Ok-None g c =
    let sees = desk_view g.W.Work.sees g.K.Keeper.sees g.L.Link.sees in
    let is : c.get_noted-answer.result ≡ Ok (Ok None) = search rules in
    let old = sees c.args.desk.now in
    let new = sees c.get_noted-answer.new.desk in
    subst (λ (l : Lack). AsksOne old new c.args.generation c.args.name.now c.args.service (Ok (Err l))) (sym c.unread-in-Ok-Ok-None.ensures)
    (absent old new c.desks_lay.ensures.called c.desks_lay.ensures.noted c.items_say.ensures.item c.views_grow.ensures.events c.requires.desk c.get_noted-answer.ensures.desk c.recall.ensures.closed
    c.args.service c.args.generation c.args.name.now (subst (GetsNoted (sees c.args.desk.now) (sees c.get_noted-answer.new.desk) c.args.service c.args.generation c.args.name.now) is c.get_noted-answer.ensures.gets))

pub returns-in-Ok-Err-Failed : goal.returns-in-Ok-Err-Failed
returns-in-Ok-Err-Failed g c =
    let sees = desk_view g.W.Work.sees g.K.Keeper.sees g.L.Link.sees in
    let is : c.get_noted-answer.result ≡ Ok (Err Failed) = search rules in
    let old = sees c.args.desk.now in
    let new = sees c.get_noted-answer.new.desk in
    subst (λ (l : Lack). AsksOne old new c.args.generation c.args.name.now c.args.service (Ok (Err l))) (sym c.unread-in-Ok-Err-Failed.ensures)
    (failed old new c.desks_lay.ensures.called c.desks_lay.ensures.noted c.items_say.ensures.item c.views_grow.ensures.events c.requires.desk c.get_noted-answer.ensures.desk c.recall.ensures.closed
    c.args.service c.args.generation c.args.name.now (subst (GetsNoted (sees c.args.desk.now) (sees c.get_noted-answer.new.desk) c.args.service c.args.generation c.args.name.now) is c.get_noted-answer.ensures.gets))

pub returns-in-Ok-Err-Stale : goal.returns-in-Ok-Err-Stale
returns-in-Ok-Err-Stale g c =
    let sees = desk_view g.W.Work.sees g.K.Keeper.sees g.L.Link.sees in
    let is : c.get_noted-answer.result ≡ Ok (Err (Stale c.in-Ok-Err-Stale.floor)) = search rules in
    stale (sees c.args.desk.now) (sees c.get_noted-answer.new.desk) c.desks_lay.ensures.called c.desks_lay.ensures.noted c.items_say.ensures.item c.views_grow.ensures.events c.requires.desk c.get_noted-answer.ensures.desk c.recall.ensures.closed
    c.args.service c.args.generation c.in-Ok-Err-Stale.floor c.args.name.now (subst (GetsNoted (sees c.args.desk.now) (sees c.get_noted-answer.new.desk) c.args.service c.args.generation c.args.name.now) is c.get_noted-answer.ensures.gets)

pub returns-in-Err : goal.returns-in-Err
returns-in-Err g c =
    let sees = desk_view g.W.Work.sees g.K.Keeper.sees g.L.Link.sees in
    cut (sees c.args.desk.now) (sees c.get_noted-answer.new.desk) c.desks_lay.ensures.called c.desks_lay.ensures.noted c.items_say.ensures.item c.views_grow.ensures.events c.requires.desk c.get_noted-answer.ensures.desk c.recall.ensures.closed
    c.args.service c.args.generation c.args.name.now c.in-Err.error c.in-Err.ensures.gets
