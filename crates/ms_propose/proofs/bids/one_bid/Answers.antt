use Rattle.std.proofs.Common.{◌+◌, sym, ap, ◌∙◌, subst, arith}
use Rattle.ms_bid.specs.declared.act.Act.{Act}
use Rattle.ms_bid.specs.declared.act.Act.TheVariants.{Keep}
use Rattle.ms_bid.specs.declared.act.Answer.{Answer}
use Rattle.ms_bid.specs.Bids.{left_at}
use Rattle.ms_local.specs.Desks.{KnowsTold, desk_view}
use Rattle.ms_local.specs.Rules.{Intent}
use Rattle.ms_record.specs.declared.setting.Setting.{Setting}
use Rattle.ms_propose.specs.Acts.{DoesAct, Halts, MayDo}
use Rattle.ms_propose.specs.Bidding.{intent_of}
use Rattle.ms_propose.proofs.Mirroring.{no_fault}
use Rattle.ms_propose.proofs.OneBid.{bid_ends, bid_halts, bid_step, bidder, first_failed, first_halts, first_kept, first_may, kept_answer, list_there, may_do, next_aim, same_but_act}
use Rattle.ms_propose.proofs.Truths.{ViewLaws}
use Rattle.ms_propose.proofs.bids.one_bid.Goals as goal

pub keep_round-requires-clause-may : goal.keep_round-requires-clause-may
keep_round-requires-clause-may g c =
    let sees = desk_view g.W.Work.sees g.K.Keeper.sees g.L.Link.sees in
    let first = sees c.args.desk.now in
    let before = c.args.kept.now in
    let intent : Intent = intent_of c.args.want c.args.voters.now c.args.position in
    let aim = next_aim first before c.args.position in
    let r = c.requires in
    let h = bidder first before c.args.setting.now c.args.want c.args.voters.now c.args.position r.desk r.setting r.position r.round r.voters r.seated r.state r.ranges r.entry in
    first_may intent aim first before h

pub returns-in-Err-clause-broken : goal.returns-in-Err-clause-broken
returns-in-Err-clause-broken g c =
    let sees = desk_view g.W.Work.sees g.K.Keeper.sees g.L.Link.sees in
    let first = sees c.args.desk.now in
    let before = c.args.kept.now in
    let intent : Intent = intent_of c.args.want c.args.voters.now c.args.position in
    let aim = next_aim first before c.args.position in
    let r = c.requires in
    let h = bidder first before c.args.setting.now c.args.want c.args.voters.now c.args.position r.desk r.setting r.position r.round r.voters r.seated r.state r.ranges r.entry in
    (first_halts intent aim first before h (sees c.keep_round.new.desk) c.keep_round.new.kept c.in-Err.ensures.acts).1

pub returns-in-Err-clause-leaves : goal.returns-in-Err-clause-leaves
returns-in-Err-clause-leaves g c =
    let sees = desk_view g.W.Work.sees g.K.Keeper.sees g.L.Link.sees in
    let first = sees c.args.desk.now in
    let before = c.args.kept.now in
    let intent : Intent = intent_of c.args.want c.args.voters.now c.args.position in
    let aim = next_aim first before c.args.position in
    let r = c.requires in
    let h = bidder first before c.args.setting.now c.args.want c.args.voters.now c.args.position r.desk r.setting r.position r.round r.voters r.seated r.state r.ranges r.entry in
    (first_halts intent aim first before h (sees c.keep_round.new.desk) c.keep_round.new.kept c.in-Err.ensures.acts).0

pub acts-init : goal.acts-init
acts-init g c =
    let sees = desk_view g.W.Work.sees g.K.Keeper.sees g.L.Link.sees in
    let first = sees c.args.desk.now in
    let before = c.args.kept.now in
    let intent : Intent = intent_of c.args.want c.args.voters.now c.args.position in
    let aim = next_aim first before c.args.position in
    let r = c.requires in
    let h = bidder first before c.args.setting.now c.args.want c.args.voters.now c.args.position r.desk r.setting r.position r.round r.voters r.seated r.state r.ranges r.entry in
    let now = sees c.keep_round.new.desk in
    let answer = c.in-Ok.first in
    let does = c.in-Ok.ensures.acts in
    let answer_is = kept_answer (before.round + 1) answer does.fits_it c.in_default.not-Failed in
    let d = subst (λ (x : Answer). DoesAct aim (Keep (before.round + 1)) x first now before c.keep_round.new.kept) answer_is does in
    let b = c.new-proposer.result in
    let fresh = c.new-proposer.ensures.fresh in
    first_kept intent aim first before h now c.keep_round.new.kept b c.answered.new.proposer c.keep_round.ensures.desk d fresh (same_but_act b c.answered.new.proposer (before.round + 1) answer fresh.act_is answer_is c.answered.ensures.noted)
    (omega (arith, c.answered.ensures.left, ap (λ (a : Act). left_at b.offer a) fresh.act_is)) (no_fault b.act answer c.answered.new.proposer.act (λ r e f. c.in_default.not-Failed f) c.answered.ensures.fault)

pub perform-requires-clause-may : goal.perform-requires-clause-may
perform-requires-clause-may g c =
    let sees = desk_view g.W.Work.sees g.K.Keeper.sees g.L.Link.sees in
    let first = sees c.args.desk.now in
    let before = c.args.kept.now in
    let intent : Intent = intent_of c.args.want c.args.voters.now c.args.position in
    let aim = next_aim first before c.args.position in
    let r = c.requires in
    let h = bidder first before c.args.setting.now c.args.want c.args.voters.now c.args.position r.desk r.setting r.position r.round r.voters r.seated r.state r.ranges r.entry in
    let now = sees c.acts.desk in
    let kept = c.acts.kept in
    let b = c.acts.proposer in
    let inv = c.acts.invariant in
    let wide = list_there now inv.desk c.recall.ensures.owners in
    let laws : (setting : Setting) → KnowsTold now setting → ViewLaws setting now.pass.lists = λ setting told. record {
      votes = c.supports.ensures.votes now.pass.lists setting (record { closed = c.recall.ensures.closed; told = told });
      one_offer = c.supports.ensures.one_offer now.pass.lists setting (record { closed = c.recall.ensures.closed; told = told });
      voted = λ cs s p x e. c.next_behind.ensures.voted now.pass.lists setting cs s p x e (record { closed = c.recall.ensures.closed; told = told });
    } in
    subst (λ (a : Act). MayDo now a) (sym c.next-act.ensures.act)
    (may_do intent aim first before h now kept b inv c.next-act.ensures.bid wide c.one_spelling.ensures.again c.next_behind.ensures.supported c.next-act.ensures.justified laws (λ setting told. (inv.desk.telling setting told).client)
    (λ o e. c.in_default-act.not-End o (c.next-act.ensures.act ∙ e)))

pub returns-in-Failed-clause-made : goal.returns-in-Failed-clause-made
returns-in-Failed-clause-made g c =
    let sees = desk_view g.W.Work.sees g.K.Keeper.sees g.L.Link.sees in
    let first = sees c.args.desk.now in
    let before = c.args.kept.now in
    let intent : Intent = intent_of c.args.want c.args.voters.now c.args.position in
    let aim = next_aim first before c.args.position in
    let r = c.requires in
    let h = bidder first before c.args.setting.now c.args.want c.args.voters.now c.args.position r.desk r.setting r.position r.round r.voters r.seated r.state r.ranges r.entry in
    let does = subst (λ (x : Answer). DoesAct aim (Keep (before.round + 1)) x first (sees c.keep_round.new.desk) before c.keep_round.new.kept) c.in-Failed.is c.in-Ok.ensures.acts in
    (first_failed intent aim first before h (sees c.keep_round.new.desk) c.keep_round.new.kept does).2

pub returns-in-Failed-clause-leaves : goal.returns-in-Failed-clause-leaves
returns-in-Failed-clause-leaves g c =
    let sees = desk_view g.W.Work.sees g.K.Keeper.sees g.L.Link.sees in
    let first = sees c.args.desk.now in
    let before = c.args.kept.now in
    let intent : Intent = intent_of c.args.want c.args.voters.now c.args.position in
    let aim = next_aim first before c.args.position in
    let r = c.requires in
    let h = bidder first before c.args.setting.now c.args.want c.args.voters.now c.args.position r.desk r.setting r.position r.round r.voters r.seated r.state r.ranges r.entry in
    let does = subst (λ (x : Answer). DoesAct aim (Keep (before.round + 1)) x first (sees c.keep_round.new.desk) before c.keep_round.new.kept) c.in-Failed.is c.in-Ok.ensures.acts in
    (first_failed intent aim first before h (sees c.keep_round.new.desk) c.keep_round.new.kept does).0

pub returns-in-End-clause-made : goal.returns-in-End-clause-made
returns-in-End-clause-made g c =
    let sees = desk_view g.W.Work.sees g.K.Keeper.sees g.L.Link.sees in
    let first = sees c.args.desk.now in
    let before = c.args.kept.now in
    let intent : Intent = intent_of c.args.want c.args.voters.now c.args.position in
    let aim = next_aim first before c.args.position in
    let r = c.requires in
    let h = bidder first before c.args.setting.now c.args.want c.args.voters.now c.args.position r.desk r.setting r.position r.round r.voters r.seated r.state r.ranges r.entry in
    let now = sees c.acts.desk in
    let kept = c.acts.kept in
    let b = c.acts.proposer in
    let inv = c.acts.invariant in
    let wide = list_there now inv.desk c.recall.ensures.owners in
    let laws : (setting : Setting) → KnowsTold now setting → ViewLaws setting now.pass.lists = λ setting told. record {
      votes = c.supports.ensures.votes now.pass.lists setting (record { closed = c.recall.ensures.closed; told = told });
      one_offer = c.supports.ensures.one_offer now.pass.lists setting (record { closed = c.recall.ensures.closed; told = told });
      voted = λ cs s p x e. c.next_behind.ensures.voted now.pass.lists setting cs s p x e (record { closed = c.recall.ensures.closed; told = told });
    } in
    let ended = bid_ends intent aim first before h now kept b inv c.next-act.ensures.bid wide c.in-End.outcome (sym c.next-act.ensures.act ∙ c.in-End.is) c.next-act.ensures.decided laws in
    ended.2

pub returns-in-End-clause-shows : goal.returns-in-End-clause-shows
returns-in-End-clause-shows g c =
    let sees = desk_view g.W.Work.sees g.K.Keeper.sees g.L.Link.sees in
    let first = sees c.args.desk.now in
    let before = c.args.kept.now in
    let intent : Intent = intent_of c.args.want c.args.voters.now c.args.position in
    let aim = next_aim first before c.args.position in
    let r = c.requires in
    let h = bidder first before c.args.setting.now c.args.want c.args.voters.now c.args.position r.desk r.setting r.position r.round r.voters r.seated r.state r.ranges r.entry in
    let now = sees c.acts.desk in
    let kept = c.acts.kept in
    let b = c.acts.proposer in
    let inv = c.acts.invariant in
    let wide = list_there now inv.desk c.recall.ensures.owners in
    let laws : (setting : Setting) → KnowsTold now setting → ViewLaws setting now.pass.lists = λ setting told. record {
      votes = c.supports.ensures.votes now.pass.lists setting (record { closed = c.recall.ensures.closed; told = told });
      one_offer = c.supports.ensures.one_offer now.pass.lists setting (record { closed = c.recall.ensures.closed; told = told });
      voted = λ cs s p x e. c.next_behind.ensures.voted now.pass.lists setting cs s p x e (record { closed = c.recall.ensures.closed; told = told });
    } in
    let ended = bid_ends intent aim first before h now kept b inv c.next-act.ensures.bid wide c.in-End.outcome (sym c.next-act.ensures.act ∙ c.in-End.is) c.next-act.ensures.decided laws in
    ended.1

pub returns-in-End-clause-leaves : goal.returns-in-End-clause-leaves
returns-in-End-clause-leaves g c =
    let sees = desk_view g.W.Work.sees g.K.Keeper.sees g.L.Link.sees in
    let first = sees c.args.desk.now in
    let before = c.args.kept.now in
    let intent : Intent = intent_of c.args.want c.args.voters.now c.args.position in
    let aim = next_aim first before c.args.position in
    let r = c.requires in
    let h = bidder first before c.args.setting.now c.args.want c.args.voters.now c.args.position r.desk r.setting r.position r.round r.voters r.seated r.state r.ranges r.entry in
    let now = sees c.acts.desk in
    let kept = c.acts.kept in
    let b = c.acts.proposer in
    let inv = c.acts.invariant in
    let wide = list_there now inv.desk c.recall.ensures.owners in
    let laws : (setting : Setting) → KnowsTold now setting → ViewLaws setting now.pass.lists = λ setting told. record {
      votes = c.supports.ensures.votes now.pass.lists setting (record { closed = c.recall.ensures.closed; told = told });
      one_offer = c.supports.ensures.one_offer now.pass.lists setting (record { closed = c.recall.ensures.closed; told = told });
      voted = λ cs s p x e. c.next_behind.ensures.voted now.pass.lists setting cs s p x e (record { closed = c.recall.ensures.closed; told = told });
    } in
    let ended = bid_ends intent aim first before h now kept b inv c.next-act.ensures.bid wide c.in-End.outcome (sym c.next-act.ensures.act ∙ c.in-End.is) c.next-act.ensures.decided laws in
    ended.0

pub acts-preserved : goal.acts-preserved
acts-preserved g c =
    let sees = desk_view g.W.Work.sees g.K.Keeper.sees g.L.Link.sees in
    let first = sees c.args.desk.now in
    let before = c.args.kept.now in
    let intent : Intent = intent_of c.args.want c.args.voters.now c.args.position in
    let aim = next_aim first before c.args.position in
    let r = c.requires in
    let h = bidder first before c.args.setting.now c.args.want c.args.voters.now c.args.position r.desk r.setting r.position r.round r.voters r.seated r.state r.ranges r.entry in
    let now = sees c.acts.desk in
    let kept = c.acts.kept in
    let b = c.acts.proposer in
    let inv = c.acts.invariant in
    let wide = list_there now inv.desk c.recall.ensures.owners in
    let new = sees c.perform.new.desk in
    let later = c.perform.new.kept in
    let answer = c.in-Ok-perform.answer in
    let does = subst (λ (a : Act). DoesAct aim a answer now new kept later) c.next-act.ensures.act c.in-Ok-perform.ensures.acts in
    bid_step intent aim first before h now kept b inv c.next-act.ensures.bid wide new later c.answered-in-Ok-perform.new.proposer answer c.perform.ensures.desk does c.answered-in-Ok-perform.ensures.noted c.answered-in-Ok-perform.ensures.left c.answered-in-Ok-perform.ensures.fault c.one_spelling.ensures.again

pub returns-in-Err-perform-clause-broken : goal.returns-in-Err-perform-clause-broken
returns-in-Err-perform-clause-broken g c =
    let sees = desk_view g.W.Work.sees g.K.Keeper.sees g.L.Link.sees in
    let first = sees c.args.desk.now in
    let before = c.args.kept.now in
    let intent : Intent = intent_of c.args.want c.args.voters.now c.args.position in
    let aim = next_aim first before c.args.position in
    let r = c.requires in
    let h = bidder first before c.args.setting.now c.args.want c.args.voters.now c.args.position r.desk r.setting r.position r.round r.voters r.seated r.state r.ranges r.entry in
    let now = sees c.acts.desk in
    let kept = c.acts.kept in
    let b = c.acts.proposer in
    let inv = c.acts.invariant in
    let wide = list_there now inv.desk c.recall.ensures.owners in
    let new = sees c.perform.new.desk in
    let later = c.perform.new.kept in
    let stops = subst (λ (a : Act). Halts a now new kept later) c.next-act.ensures.act c.in-Err-perform.ensures.acts in
    let halted = bid_halts intent aim first before h now kept b inv c.next-act.ensures.bid wide new later stops in
    halted.1

pub returns-in-Err-perform-clause-leaves : goal.returns-in-Err-perform-clause-leaves
returns-in-Err-perform-clause-leaves g c =
    let sees = desk_view g.W.Work.sees g.K.Keeper.sees g.L.Link.sees in
    let first = sees c.args.desk.now in
    let before = c.args.kept.now in
    let intent : Intent = intent_of c.args.want c.args.voters.now c.args.position in
    let aim = next_aim first before c.args.position in
    let r = c.requires in
    let h = bidder first before c.args.setting.now c.args.want c.args.voters.now c.args.position r.desk r.setting r.position r.round r.voters r.seated r.state r.ranges r.entry in
    let now = sees c.acts.desk in
    let kept = c.acts.kept in
    let b = c.acts.proposer in
    let inv = c.acts.invariant in
    let wide = list_there now inv.desk c.recall.ensures.owners in
    let new = sees c.perform.new.desk in
    let later = c.perform.new.kept in
    let stops = subst (λ (a : Act). Halts a now new kept later) c.next-act.ensures.act c.in-Err-perform.ensures.acts in
    let halted = bid_halts intent aim first before h now kept b inv c.next-act.ensures.bid wide new later stops in
    halted.0
