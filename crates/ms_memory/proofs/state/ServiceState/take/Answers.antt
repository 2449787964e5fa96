use Rattle.std.proofs.Common.{◌≡◌, List, [], ◌∷◌, ◌++◌, sym, ap, ◌∙◌, subst, rules}
use Rattle.ms_core.specs.Views.{IsClosed, log_in}
use Rattle.ms_ken.specs.Lists.{list_at, with_told, longer_lists}
use Rattle.ms_link.specs.Composing.{learns_on}
use Rattle.ms_link.specs.Links.{Learns}
use Rattle.ms_memory.proofs.Serving.{agrees_more, owned, may_tell, learns_event, taken_by, told_agrees}
use Rattle.ms_memory.specs.Served.{Served, served, IsTakenBy, LearnsEvent}
use Rattle.ms_memory.specs.Shelves.{Holds, IsOpenTo}
use Rattle.ms_record.specs.declared.item.Item.{Item}
use Rattle.ms_record.specs.declared.item.Item.TheVariants.{Log}
use Rattle.ms_record.specs.declared.log.LogEvent.{LogEvent}
use Rattle.ms_record.specs.Items.{events_of}
use Rattle.ms_memory.proofs.state.ServiceState.take.Goals as goal

pub invariant_of-self : goal.invariant_of-self
invariant_of-self g c =
    let old = c.self.inside.pass in
    let met = c.meet.ensures in
    let service = c.self.inside.service.0 in
    let own = owned (λ k. list_at c.meet.new.one.lists k ≡ list_at old.lists k) old.word service c.self.invariant.owns met.own_one in
    agrees_more g.J.Naming.board service c.self.inside.shelf c.self.inside.shelf old c.meet.new.one c.self.invariant (ap (λ p. p.board) met.one) (ap (λ p. p.word) met.one) met.both_know_one.0
    (subst (λ (l : List Item). Holds c.self.inside.shelf (events_of l)) (sym own) c.self.invariant.holds)

pub invariant_of-self-in_err-reserve : goal.invariant_of-self-in_err-reserve
invariant_of-self-in_err-reserve g c =
    let old = c.self.inside.pass in
    let met = c.meet.ensures in
    let service = c.self.inside.service.0 in
    let own = owned (λ k. list_at c.meet.new.one.lists k ≡ list_at old.lists k) old.word service c.self.invariant.owns met.own_one in
    agrees_more g.J.Naming.board service c.self.inside.shelf c.reserve.new.self old c.meet.new.one c.self.invariant (ap (λ p. p.board) met.one) (ap (λ p. p.word) met.one) met.both_know_one.0
    (c.reserve.ensures.same _ (subst (λ (l : List Item). Holds c.self.inside.shelf (events_of l)) (sym own) c.self.invariant.holds))

pub told-event-requires-clause-closed : goal.told-event-requires-clause-closed
told-event-requires-clause-closed g c =
    let one = c.meet.new.one in
    let met = c.meet.ensures in
    let wide = c.recall.ensures.owners ∙ ap (λ t. t.words) (ap (λ p. p.board) met.one ∙ c.self.invariant.on_board) in
    may_tell IsClosed g.J.Naming.board.words c.args.pass.now.lists one.lists c.self.inside.service.0 c.args.self.now.service one.word (Log c.args.event)
    c.requires.closed (ap (λ v. v.service) c.self.view_is) (ap (λ p. p.word) met.one ∙ c.self.invariant.owns) wide c.recall.ensures.closed met.both_know_other.0

pub invariant_of-self-2 : goal.invariant_of-self-2
invariant_of-self-2 g c =
    let old = c.self.inside.pass in
    let one = c.meet.new.one in
    let met = c.meet.ensures in
    let service = c.self.inside.service.0 in
    let own = owned (λ k. list_at one.lists k ≡ list_at old.lists k) old.word service c.self.invariant.owns met.own_one in
    let keeps : (log : List LogEvent) → Holds c.self.inside.shelf log → Holds c.keep.new.self (log ++ c.args.event ∷ []) =
    λ log h. subst (λ (e : LogEvent). Holds c.keep.new.self (log ++ e ∷ [])) c.told-event.ensures.event (c.keep.ensures log (c.reserve.ensures.same log h)) in
    (told_agrees g.J.Naming.board service c.self.inside.shelf c.keep.new.self old one c.note.new.pass c.args.event c.self.invariant (ap (λ p. p.board) met.one) (ap (λ p. p.word) met.one) met.both_know_one.0 own
    c.recall.ensures.owners c.recall.ensures.word (c.note.ensures.same ∙ c.told-event.ensures.told) keeps).0

pub returns-clause-adds : goal.returns-clause-adds
returns-clause-adds g c =
    let old = c.self.inside.pass in
    let one = c.meet.new.one in
    let met = c.meet.ensures in
    let service = c.self.inside.service.0 in
    let event = c.args.event in
    let open_ : IsOpenTo c.self.inside.shelf.floor event = search rules in
    let own = owned (λ k. list_at one.lists k ≡ list_at old.lists k) old.word service c.self.invariant.owns met.own_one in
    let keeps : (log : List LogEvent) → Holds c.self.inside.shelf log → Holds c.keep.new.self (log ++ event ∷ []) =
    λ log h. subst (λ (e : LogEvent). Holds c.keep.new.self (log ++ e ∷ [])) c.told-event.ensures.event (c.keep.ensures log (c.reserve.ensures.same log h)) in
    let log = (told_agrees g.J.Naming.board service c.self.inside.shelf c.keep.new.self old one c.note.new.pass event c.self.invariant (ap (λ p. p.board) met.one) (ap (λ p. p.word) met.one) met.both_know_one.0 own
    c.recall.ensures.owners c.recall.ensures.word (c.note.ensures.same ∙ c.told-event.ensures.told) keeps).1 in
    let noted : c.note.result.lists ≡ with_told one.lists one.word (Log event) = ap (λ p. p.lists) c.note.ensures.note ∙ ap (λ p. p.lists) c.told-event.ensures.told in
    let learns = learns_event service old one c.args.pass.now c.take.new.pass c.meet.new.other.lists event (ap (λ p. p.word) met.one ∙ c.self.invariant.owns) own c.recall.ensures.owners c.recall.ensures.word
    met.both_know_other.0 (sym met.same) (ap (λ p. p.lists) c.take.ensures.longer ∙ ap (λ l. longer_lists c.meet.new.other.lists l) noted) in (
      subst (λ (v : Served). IsTakenBy v.log event) c.self.view_is (taken_by (log_in old.lists service) c.self.inside.shelf.floor event c.self.invariant.holds.floor open_),
      ap (λ l. served service l) log ∙ ap (λ v. served v.service (v.log ++ event ∷ [])) c.self.view_is,
      subst (λ (v : Served). LearnsEvent v c.args.pass.now c.take.new.pass event) c.self.view_is learns,
    )

pub returns-clause-pass : goal.returns-clause-pass
returns-clause-pass g c =
    let met = c.meet.ensures in
    let first : Learns c.args.pass.now c.meet.new.other = record { board = ap (λ p. p.board) met.other; word = ap (λ p. p.word) met.other; own = met.own_other; more = met.both_know_other.1 } in
    let longer = c.take.ensures.longer in
    learns_on c.args.pass.now c.meet.new.other c.take.new.pass first (record { board = ap (λ p. p.board) longer; word = ap (λ p. p.word) longer; own = c.take.ensures.own; more = c.take.ensures.keeps })
