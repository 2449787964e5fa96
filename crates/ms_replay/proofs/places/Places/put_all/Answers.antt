use Rattle.std.proofs.Common.{◌≡◌, ◌+◌, ◌++◌, ◌∷◌, [], Some, sym, ap, ◌∙◌, refl, take, length, arith}
use Rattle.std.proofs.lemmas.List.{length_push}
use Rattle.ms_record.specs.Reading.{votes_of}
use Rattle.ms_replay.specs.Places.{all_taken_back}
use Rattle.ms_replay.specs.Tallies.{goes_on}
use Rattle.ms_replay.proofs.ListOn.{list_ends, list_more}
use Rattle.ms_replay.proofs.PlaceOn.{tally_skips}
use Rattle.ms_replay.proofs.Writing.{all_back_push}
use Rattle.ms_replay.proofs.places.Places.put_all.Goals as goal

pub put-requires-clause-kept : goal.put-requires-clause-kept
put-requires-clause-kept c = c.loop-text.invariant.kept

pub put-requires-clause-within : goal.put-requires-clause-within
put-requires-clause-within c = omega (arith, c.requires.within, c.loop-text.invariant.services)

pub loop-text-init : goal.loop-text-init
loop-text-init c = record {
  kept = c.requires.kept;
  services = refl;
  read = λ lists h. tally_skips lists c.args.service c.args.self.now h;
  order = c.requires.order;
  back = ap (λ ps. all_taken_back c.args.service ps c.args.self.now.places) c.requires.none_yet;
  count = ap length c.requires.none_yet;
  room = c.requires.room;
}

pub loop-text-preserved : goal.loop-text-preserved
loop-text-preserved c = record {
  kept = c.in_ok-one.ensures.keeps;
  services = c.in_ok-one.ensures.services ∙ c.loop-text.invariant.services;
  read = λ lists h. list_more lists c.args.service c.args.more.now c.loop-text.text-index c.text-item.result c.as_slice.result.now c.put.new.self c.loop-text-test.true c.text-item.is c.as_slice.ensures
      (c.in_ok-one.ensures.read (goes_on lists c.args.service (votes_of (take c.loop-text.text-index c.args.more.now))) (c.loop-text.invariant.read lists h));
  order = c.in_ok-one.ensures.order refl c.loop-text.invariant.order;
  back =
      ap (λ ps. all_taken_back c.args.service ps c.put.new.self.places) c.push_reserved.ensures.items ∙ all_back_push c.args.service c.loop-text.done.items c.in_ok-one.one c.put.new.self.places
      ∙ ap (all_taken_back c.args.service c.loop-text.done.items) c.in_ok-one.ensures.back ∙ c.loop-text.invariant.back;
  count = ap length c.push_reserved.ensures.items ∙ length_push c.loop-text.done.items c.in_ok-one.one ∙ ap (λ n. n + 1) c.loop-text.invariant.count;
  room = omega (arith, c.push_reserved.ensures.capacity, c.loop-text.invariant.room);
}

pub returns-clause-read : goal.returns-clause-read
returns-clause-read c = λ lists h. list_ends lists c.args.service c.args.more.now c.loop-text.text-index c.loop-text.self c.loop-text-test.false (c.loop-text.invariant.read lists h)
