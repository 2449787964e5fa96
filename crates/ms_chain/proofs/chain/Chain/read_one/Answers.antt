use Rattle.std.proofs.Common.{ℕ, ◌<◌, List, Ok, true, refl, sym, ap, subst, length}
use Rattle.std.specs.Prelude.{Option}
use Rattle.ms_local.specs.Calls.{ListsNoted}
use Rattle.ms_local.specs.Desks.{DeskView, desk_view, with_deed}
use Rattle.ms_local.specs.Learning.{ChainView, IsOfDesk}
use Rattle.ms_ken.specs.Prefixes.{prefix_self}
use Rattle.ms_chain.specs.Readings.{IsRead, ListsGoOn, ReadsOne}
use Rattle.ms_chain.proofs.ReadingOn.{goes_by}
use Rattle.ms_chain.proofs.Telling.{breaks_amid, breaks_before, came_from, known_on, knows_more, read_on, reads_one}
use Rattle.ms_chain.proofs.chain.Chain.read_one.Goals as goal

pub returns-in_err-texts-clause-reads : goal.returns-in_err-texts-clause-reads
returns-in_err-texts-clause-reads g c =
    let old = desk_view g.W.Work.sees g.K.Keeper.sees g.L.Link.sees c.args.desk.now in
    let new = desk_view g.W.Work.sees g.K.Keeper.sees g.L.Link.sees c.list_noted.new.desk in
    let chain = c.args.self.now in
    let s = c.args.service.0 in
    breaks_before chain old new s c.from_residual.result c.from_residual.ensures.0 (ap (λ (d : DeskView). d.deeds) c.in_err-texts.ensures.lists.same)

pub returns-in_err-texts-clause-chain : goal.returns-in_err-texts-clause-chain
returns-in_err-texts-clause-chain g c =
    let old = desk_view g.W.Work.sees g.K.Keeper.sees g.L.Link.sees c.args.desk.now in
    let new = desk_view g.W.Work.sees g.K.Keeper.sees g.L.Link.sees c.list_noted.new.desk in
    let chain = c.args.self.now in
    let s = c.args.service.0 in
    known_on chain old new (knows_more old old new s c.tellings_stay.ensures.back c.views_grow.ensures.linked c.views_grow.ensures.texts c.requires.desk c.in_err-texts.ensures.lists refl refl refl) c.requires.chain

pub returns-in_err-take_texts-in-Some-clause-lists : goal.returns-in_err-take_texts-in-Some-clause-lists
returns-in_err-take_texts-in-Some-clause-lists g c =
    let front = c.in_err-take_texts-in-Some.ensures in
    let lt : c.args.service.0 < length c.args.self.now.lists = subst (λ (n : ℕ). c.args.service.0 < n) (sym c.count-from.ensures.many) c.requires.service in
    subst (ListsGoOn c.args.self.now) (sym front.2) (goes_by c.args.self.now c.args.service.0 front.0 lt)

pub returns-in_ok-take_texts-in-Some-clause-lists : goal.returns-in_ok-take_texts-in-Some-clause-lists
returns-in_ok-take_texts-in-Some-clause-lists g c =
    let lt : c.args.service.0 < length c.args.self.now.lists = subst (λ (n : ℕ). c.args.service.0 < n) (sym c.count-from.ensures.many) c.requires.service in
    subst (ListsGoOn c.args.self.now) (sym c.in_ok-take_texts-in-Some.ensures) (goes_by c.args.self.now c.args.service.0 c.in-Some.texts lt)

pub returns-in-None-clause-chain : goal.returns-in-None-clause-chain
returns-in-None-clause-chain g c =
    let old = desk_view g.W.Work.sees g.K.Keeper.sees g.L.Link.sees c.args.desk.now in
    let new = desk_view g.W.Work.sees g.K.Keeper.sees g.L.Link.sees c.list_noted.new.desk in
    let chain = c.args.self.now in
    let s = c.args.service.0 in
    let noted = subst (λ (o : Option (List (List ℕ))). ListsNoted old new c.args.service _ c.count-from.result (Ok o)) c.in-None.is c.in_ok-texts.ensures.lists in
    known_on chain old new (knows_more old (with_deed old _) new s c.tellings_stay.ensures.back c.views_grow.ensures.linked c.views_grow.ensures.texts c.requires.desk noted.1 refl refl refl) c.requires.chain

pub returns-in_ok-take_texts-in-Some-clause-reads : goal.returns-in_ok-take_texts-in-Some-clause-reads
returns-in_ok-take_texts-in-Some-clause-reads g c =
    let old = desk_view g.W.Work.sees g.K.Keeper.sees g.L.Link.sees c.args.desk.now in
    let new = desk_view g.W.Work.sees g.K.Keeper.sees g.L.Link.sees c.list_noted.new.desk in
    let chain = c.args.self.now in
    let s = c.args.service.0 in
    let lt : s < length chain.lists = subst (λ (n : ℕ). s < n) (sym c.count-from.ensures.many) c.requires.service in
    let noted = subst (λ (o : Option (List (List ℕ))). ListsNoted old new c.args.service _ c.count-from.result (Ok o)) c.in-Some.is c.in_ok-texts.ensures.lists in
    let more = knows_more old (with_deed old _) new s c.tellings_stay.ensures.back c.views_grow.ensures.linked c.views_grow.ensures.texts c.requires.desk noted.1 refl refl refl in
    let came = came_from chain old new s c.count-from.result c.in-Some.texts c.count-from.ensures.count noted.0 in
    subst (λ (v : ChainView). IsRead chain v old new s true) (sym c.in_ok-take_texts-in-Some.ensures)
    (reads_one chain old new c.args.service _ c.count-from.result c.in-Some.texts refl c.count-from.ensures.count lt more c.requires.chain came (ap (λ (d : DeskView). d.deeds) noted.1.same))

pub returns-in_ok-take_texts-in-Some-clause-chain : goal.returns-in_ok-take_texts-in-Some-clause-chain
returns-in_ok-take_texts-in-Some-clause-chain g c =
    let old = desk_view g.W.Work.sees g.K.Keeper.sees g.L.Link.sees c.args.desk.now in
    let new = desk_view g.W.Work.sees g.K.Keeper.sees g.L.Link.sees c.list_noted.new.desk in
    let chain = c.args.self.now in
    let s = c.args.service.0 in
    let lt : s < length chain.lists = subst (λ (n : ℕ). s < n) (sym c.count-from.ensures.many) c.requires.service in
    let noted = subst (λ (o : Option (List (List ℕ))). ListsNoted old new c.args.service _ c.count-from.result (Ok o)) c.in-Some.is c.in_ok-texts.ensures.lists in
    let more = knows_more old (with_deed old _) new s c.tellings_stay.ensures.back c.views_grow.ensures.linked c.views_grow.ensures.texts c.requires.desk noted.1 refl refl refl in
    let came = came_from chain old new s c.count-from.result c.in-Some.texts c.count-from.ensures.count noted.0 in
    subst (λ (v : ChainView). IsOfDesk v new) (sym c.in_ok-take_texts-in-Some.ensures) (read_on chain old new s c.in-Some.texts c.in-Some.texts lt more c.requires.chain came (prefix_self c.in-Some.texts))

pub returns-in_err-take_texts-in-Some-clause-chain : goal.returns-in_err-take_texts-in-Some-clause-chain
returns-in_err-take_texts-in-Some-clause-chain g c =
    let old = desk_view g.W.Work.sees g.K.Keeper.sees g.L.Link.sees c.args.desk.now in
    let new = desk_view g.W.Work.sees g.K.Keeper.sees g.L.Link.sees c.list_noted.new.desk in
    let chain = c.args.self.now in
    let s = c.args.service.0 in
    let lt : s < length chain.lists = subst (λ (n : ℕ). s < n) (sym c.count-from.ensures.many) c.requires.service in
    let noted = subst (λ (o : Option (List (List ℕ))). ListsNoted old new c.args.service _ c.count-from.result (Ok o)) c.in-Some.is c.in_ok-texts.ensures.lists in
    let more = knows_more old (with_deed old _) new s c.tellings_stay.ensures.back c.views_grow.ensures.linked c.views_grow.ensures.texts c.requires.desk noted.1 refl refl refl in
    let came = came_from chain old new s c.count-from.result c.in-Some.texts c.count-from.ensures.count noted.0 in
    let front = c.in_err-take_texts-in-Some.ensures in
    subst (λ (v : ChainView). IsOfDesk v new) (sym front.2) (read_on chain old new s c.in-Some.texts front.0 lt more c.requires.chain came front.1)

pub returns-in_err-take_texts-in-Some-clause-reads : goal.returns-in_err-take_texts-in-Some-clause-reads
returns-in_err-take_texts-in-Some-clause-reads g c =
    let old = desk_view g.W.Work.sees g.K.Keeper.sees g.L.Link.sees c.args.desk.now in
    let new = desk_view g.W.Work.sees g.K.Keeper.sees g.L.Link.sees c.list_noted.new.desk in
    let chain = c.args.self.now in
    let s = c.args.service.0 in
    let lt : s < length chain.lists = subst (λ (n : ℕ). s < n) (sym c.count-from.ensures.many) c.requires.service in
    let noted = subst (λ (o : Option (List (List ℕ))). ListsNoted old new c.args.service _ c.count-from.result (Ok o)) c.in-Some.is c.in_ok-texts.ensures.lists in
    let front = c.in_err-take_texts-in-Some.ensures in
    let r = c.from_residual-in_err-take_texts-in-Some.result in
    subst (λ (v : ChainView). ReadsOne chain v old new s r) (sym front.2)
    (breaks_amid chain old new c.args.service _ c.count-from.result c.in-Some.texts front.0 r c.from_residual-in_err-take_texts-in-Some.ensures.0 refl c.count-from.ensures.count lt front.1 (ap (λ (d : DeskView). d.deeds) noted.1.same))
