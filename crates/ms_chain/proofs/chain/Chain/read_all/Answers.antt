use Rattle.std.proofs.Common.{ℕ, ◌+◌, ◌<◌, refl, sym, ◌∙◌, subst}
use Rattle.ms_local.specs.Desks.{desk_view}
use Rattle.ms_chain.specs.Readings.{IsRead, ReadsUpTo}
use Rattle.ms_chain.proofs.ReadingAll.{HasReadOn, desk_on, failed_below, goes_trans, if_err, none_read, read_badly, read_some, read_well, reads_here}
use Rattle.ms_chain.proofs.chain.Chain.read_all.Goals.{else-not-branch, then-not-branch}
use Rattle.ms_chain.proofs.chain.Chain.read_all.Goals as goal

pub loop-service-init : goal.loop-service-init
loop-service-init g c =
    let desk = desk_view g.W.Work.sees g.K.Keeper.sees g.L.Link.sees c.args.desk.now in
    record {
      reads = subst (HasReadOn c.args.self.now c.args.self.now desk desk 0) (sym c.none-failed.ensures) (none_read c.args.self.now desk c.desks_stay.ensures.lanes_self c.requires.desk c.requires.chain);
      end = refl;
    }

pub add-requires-clause-above : goal.add-requires-clause-above
add-requires-clause-above g c =
    let first = desk_view g.W.Work.sees g.K.Keeper.sees g.L.Link.sees c.args.desk.now in
    let here = desk_view g.W.Work.sees g.K.Keeper.sees g.L.Link.sees c.loop-service.desk in
    failed_below c.args.self.now c.loop-service.self first here c.loop-service.service c.loop-service.failed c.loop-service.invariant.reads

pub returns-in_err-read_one-clause-lists : goal.returns-in_err-read_one-clause-lists
returns-in_err-read_one-clause-lists g c = goes_trans c.args.self.now c.loop-service.self c.read_one.new.self c.loop-service.invariant.reads.lists c.read_one.ensures.lists

pub returns-in_err-read_one-clause-effect : goal.returns-in_err-read_one-clause-effect
returns-in_err-read_one-clause-effect g c =
    let first = desk_view g.W.Work.sees g.K.Keeper.sees g.L.Link.sees c.args.desk.now in
    let here = desk_view g.W.Work.sees g.K.Keeper.sees g.L.Link.sees c.loop-service.desk in
    let after = desk_view g.W.Work.sees g.K.Keeper.sees g.L.Link.sees c.read_one.new.desk in
    desk_on first here after c.desks_stay.ensures.lanes_on c.loop-service.invariant.reads.effect c.read_one.ensures.effect

pub returns-in_err-read_one-clause-some : goal.returns-in_err-read_one-clause-some
returns-in_err-read_one-clause-some g c =
    let start = c.args.self.now in
    let mid = c.loop-service.self in
    let new = c.read_one.new.self in
    let first = desk_view g.W.Work.sees g.K.Keeper.sees g.L.Link.sees c.args.desk.now in
    let here = desk_view g.W.Work.sees g.K.Keeper.sees g.L.Link.sees c.loop-service.desk in
    let after = desk_view g.W.Work.sees g.K.Keeper.sees g.L.Link.sees c.read_one.new.desk in
    let n = c.loop-service.service in
    let h = c.loop-service.invariant.reads in
    let r = reads_here start mid new first here after n c.loop-service.failed c.tellings_stay.ensures.on c.views_grow.ensures.texts h c.recall.ensures.closed c.read_one.ensures.effect c.read_one.ensures.others in
    let lt : n < first.services = subst (λ (k : ℕ). n < k) c.loop-service.invariant.end c.loop-service-test.true in
    if_err c.from_residual.result _ (read_some start mid new first here after n c.loop-service.failed r h.reads lt c.in_err-read_one.ensures.reads)

pub loop-service-preserved : goal.loop-service-preserved
loop-service-preserved g c =
    let start = c.args.self.now in
    let mid = c.loop-service.self in
    let new = c.read_one.new.self in
    let first = desk_view g.W.Work.sees g.K.Keeper.sees g.L.Link.sees c.args.desk.now in
    let here = desk_view g.W.Work.sees g.K.Keeper.sees g.L.Link.sees c.loop-service.desk in
    let after = desk_view g.W.Work.sees g.K.Keeper.sees g.L.Link.sees c.read_one.new.desk in
    let n = c.loop-service.service in
    let failed = c.loop-service.failed in
    let h = c.loop-service.invariant.reads in
    let r = reads_here start mid new first here after n failed c.tellings_stay.ensures.on c.views_grow.ensures.texts h c.recall.ensures.closed c.read_one.ensures.effect c.read_one.ensures.others in
    let is = c.in_ok-read_one.ensures.reads in
    record {
      reads = record {
        reads =
            elim c.if-not-branch.branch [
              | then-not-branch w ↦
                  subst (ReadsUpTo start new first after (n + 1)) (sym (w.failed-is ∙ w.add.ensures))
                  (read_badly start mid new first here after n failed r h.reads (subst (IsRead mid new here after n) w.if-not-branch.true is))
              | else-not-branch w ↦
                  subst (ReadsUpTo start new first after (n + 1)) (sym w.failed-is)
                  (read_well start mid new first here after n failed r h.reads (subst (IsRead mid new here after n) w.if-not-branch.false is))
            ];
        lists = goes_trans start mid new h.lists c.read_one.ensures.lists;
        effect = desk_on first here after c.desks_stay.ensures.lanes_on h.effect c.read_one.ensures.effect;
        desk = c.read_one.ensures.desk;
        chain = c.in_ok-read_one.ensures.chain;
      };
      end = refl;
    }
