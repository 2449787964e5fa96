use Rattle.std.proofs.Common.{◌≡◌, ℕ, ◌<◌, List, [], sym, ap, ◌∙◌, refl, subst, length, get_or, arith}
use Rattle.std.proofs.lemmas.Option.{slice_get_read, get_or_from_slice_get}
use Rattle.ms_record.specs.declared.record.Record.{Record}
use Rattle.ms_record.specs.Reading.{votes_of}
use Rattle.ms_replay.specs.Audits.{lists_of}
use Rattle.ms_replay.specs.Tallies.{IsTallyOf, goes_on}
use Rattle.ms_replay.proofs.ListOn.{lists_below, lists_end, lists_more}
use Rattle.ms_replay.proofs.tally.Tally.of_lists.Goals as goal

pub loop-service-preserved : goal.loop-service-preserved
loop-service-preserved c =
    let s = c.loop-service.service in
    let lists = c.args.lists.now in
    let item = c.index-lists-service.result in
    let l : s < length lists = (let t = c.loop-service-test.true in omega (arith, c.requires)) in
    let at : get_or lists s [] ≡ item = get_or_from_slice_get lists s item [] (slice_get_read lists (length lists) s item refl l c.index-lists-service.is) in
    let before = lists_below s (lists_of lists) in
    record {
      kept = c.in_ok-put_behind.ensures.keeps;
      services = c.in_ok-put_behind.ensures.services ∙ c.loop-service.invariant.services;
      read = lists_more (lists_of lists) s c.put_behind.new.self
          (subst (λ (rs : List Record). IsTallyOf (goes_on before s rs) c.put_behind.new.self) (ap votes_of (c.as_slice.ensures ∙ sym at)) (c.in_ok-put_behind.ensures.read before c.loop-service.invariant.read));
    }

pub invariant_of-result : goal.invariant_of-result
invariant_of-result c = record {
  kept = c.sort.ensures.keeps c.loop-service.invariant.kept;
  sorted = c.sort.ensures.order;
}

pub returns-clause-read : goal.returns-clause-read
returns-clause-read c =
    let end : c.args.services ≡ c.loop-service.service = (let t = c.loop-service-test.false in let u = c.loop-service.auto.service-end in omega arith) in
    let lists = lists_of c.args.lists.now in
    c.sort.ensures.read lists (lists_end lists c.loop-service.service c.loop-service.places (c.loop-service.invariant.services ∙ end) c.loop-service.invariant.read)
