use Rattle.std.proofs.Common.{List, ℕ, sym, subst, Contains}
use Rattle.ms_link.specs.Composing.{added_stays, added_text, learns_on, lists_on}
use Rattle.ms_record.specs.declared.log.LogEvent.TheVariants.{Rec}
use Rattle.std.specs.Prelude.{Ok}
use Rattle.ms_link.proofs.client.append_then_list.Goals as goal

pub returns-in_err-texts-clause-pass : goal.returns-in_err-texts-clause-pass
returns-in_err-texts-clause-pass g c = learns_on c.args.pass.now c.append.new.pass c.list.new.pass c.append.ensures.pass c.list.ensures.pass

pub returns-clause-there : goal.returns-clause-there
returns-clause-there g c =
    let link = g.L.Link.sees c.args.link.now in
    let k0 = c.args.pass.now in
    let k1 = c.append.new.pass in
    let k2 = c.list.new.pass in
    let event = Rec c.args.list c.args.text.now in
    let added = added_stays link k0 k1 k2 event c.list.ensures.pass (c.in_ok-append.ensures.tells c.requires.lists) in
    let is = lists_on link (g.L.Link.sees c.append.new.self) (g.L.Link.sees c.list.new.self) k2 c.args.list.0 0 (Ok c.in_ok-texts.texts) c.append.ensures.link c.in_ok-texts.ensures.lists c.requires.lists in
    c.has_text.ensures.1 (subst (λ (texts : List (List ℕ)). Contains texts c.args.text.now) (sym is) (added_text link k0 k2 c.args.list c.args.text.now added))

pub returns-clause-pass : goal.returns-clause-pass
returns-clause-pass g c = learns_on c.args.pass.now c.append.new.pass c.list.new.pass c.append.ensures.pass c.list.ensures.pass
