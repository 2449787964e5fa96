use Rattle.ms_local.specs.Desks.{desk_view}
use Rattle.ms_chain.proofs.Gaining.{all_like, desk_learns, grows_both, grows_lists, known_gained, learns_by, one_told, some_like, some_of}
use Rattle.ms_chain.proofs.learning.ChainLearner.learn.Goals as goal

pub returns-in_err-failed-clause-grows : goal.returns-in_err-failed-clause-grows
returns-in_err-failed-clause-grows g c = grows_lists c.args.self.now c.read_all.new.self c.read_all.ensures.lists

pub returns-in_err-failed-clause-effect : goal.returns-in_err-failed-clause-effect
returns-in_err-failed-clause-effect g c =
    let b = desk_view g.W.Work.sees g.K.Keeper.sees g.L.Link.sees c.args.desk.now in
    let a = desk_view g.W.Work.sees g.K.Keeper.sees g.L.Link.sees c.read_all.new.desk in
    let old = c.args.self.now in
    let mid = c.read_all.new.self in
    desk_learns old mid b a c.read_all.ensures.effect c.in_err-failed.ensures.some

pub returns-in_err-behind-clause-reads : goal.returns-in_err-behind-clause-reads
returns-in_err-behind-clause-reads g c =
    let b = desk_view g.W.Work.sees g.K.Keeper.sees g.L.Link.sees c.args.desk.now in
    let a = desk_view g.W.Work.sees g.K.Keeper.sees g.L.Link.sees c.read_all.new.desk in
    let old = c.args.self.now in
    let mid = c.read_all.new.self in
    let new = c.extend.new.self in
    some_like old mid new b a c.extend.ensures.lists (some_of old mid b a c.in_ok-failed.failed c.in_ok-failed.ensures.all)

pub returns-in_err-behind-clause-grows : goal.returns-in_err-behind-clause-grows
returns-in_err-behind-clause-grows g c = grows_both c.args.self.now c.read_all.new.self c.extend.new.self c.read_all.ensures.lists c.extend.ensures.grows

pub returns-in_err-behind-clause-effect : goal.returns-in_err-behind-clause-effect
returns-in_err-behind-clause-effect g c =
    let b = desk_view g.W.Work.sees g.K.Keeper.sees g.L.Link.sees c.args.desk.now in
    let a = desk_view g.W.Work.sees g.K.Keeper.sees g.L.Link.sees c.read_all.new.desk in
    let old = c.args.self.now in
    let mid = c.read_all.new.self in
    desk_learns old mid b a c.read_all.ensures.effect (some_of old mid b a c.in_ok-failed.failed c.in_ok-failed.ensures.all)

pub returns-in_err-behind-clause-chain : goal.returns-in_err-behind-clause-chain
returns-in_err-behind-clause-chain g c =
    known_gained c.read_all.new.self c.extend.new.self (desk_view g.W.Work.sees g.K.Keeper.sees g.L.Link.sees c.read_all.new.desk) c.extend.ensures.grows c.extend.ensures.lists c.read_all.ensures.chain

pub returns-clause-reads : goal.returns-clause-reads
returns-clause-reads g c =
    let b = desk_view g.W.Work.sees g.K.Keeper.sees g.L.Link.sees c.args.desk.now in
    let a = desk_view g.W.Work.sees g.K.Keeper.sees g.L.Link.sees c.read_all.new.desk in
    let old = c.args.self.now in
    let mid = c.read_all.new.self in
    let new = c.extend.new.self in
    some_like old mid new b a c.extend.ensures.lists (some_of old mid b a c.in_ok-failed.failed c.in_ok-failed.ensures.all)

pub returns-clause-grows : goal.returns-clause-grows
returns-clause-grows g c = grows_both c.args.self.now c.read_all.new.self c.extend.new.self c.read_all.ensures.lists c.extend.ensures.grows

pub returns-clause-effect : goal.returns-clause-effect
returns-clause-effect g c =
    let b = desk_view g.W.Work.sees g.K.Keeper.sees g.L.Link.sees c.args.desk.now in
    let a = desk_view g.W.Work.sees g.K.Keeper.sees g.L.Link.sees c.read_all.new.desk in
    let old = c.args.self.now in
    let mid = c.read_all.new.self in
    desk_learns old mid b a c.read_all.ensures.effect (some_of old mid b a c.in_ok-failed.failed c.in_ok-failed.ensures.all)

pub returns-clause-chain : goal.returns-clause-chain
returns-clause-chain g c =
    known_gained c.read_all.new.self c.extend.new.self (desk_view g.W.Work.sees g.K.Keeper.sees g.L.Link.sees c.read_all.new.desk) c.extend.ensures.grows c.extend.ensures.lists c.read_all.ensures.chain

pub returns-clause-learns : goal.returns-clause-learns
returns-clause-learns g c =
    let b = desk_view g.W.Work.sees g.K.Keeper.sees g.L.Link.sees c.args.desk.now in
    let a = desk_view g.W.Work.sees g.K.Keeper.sees g.L.Link.sees c.read_all.new.desk in
    let old = c.args.self.now in
    let mid = c.read_all.new.self in
    let new = c.extend.new.self in
    learns_by old new b a c.in_ok-failed.failed c.answer.result c.answer.ensures (all_like old mid new b a c.in_ok-failed.failed c.extend.ensures.lists c.in_ok-failed.ensures.all) c.in_ok-behind.ensures.whole.0
    (λ k first second split setting told.
    let here = c.tellings_stay.ensures.on b a.pass setting c.recall.ensures.closed c.read_all.ensures.effect.pass told in
    let agrees = c.told_views.ensures.one_master a.pass.lists setting (record { closed = c.recall.ensures.closed; told = here }) in
    let known = (known_gained mid new a c.extend.ensures.grows c.extend.ensures.lists c.read_all.ensures.chain).known setting here in
    one_told new a setting c.one_chain.ensures.front agrees known k first second split)
