use Rattle.std.proofs.Common.{◌≡◌, ◌+◌, ◌++◌, ◌∷◌, [], Some, sym, ap, ◌∙◌, refl, take, length, arith}
use Rattle.std.proofs.lemmas.List.{length_push}
use Rattle.ms_record.specs.Reading.{votes_of}
use Rattle.ms_replay.specs.Places.{all_taken_back}
use Rattle.ms_replay.specs.Tallies.{goes_on}
use Rattle.ms_replay.proofs.ListOn.{list_ends, list_more}
use Rattle.ms_replay.proofs.PlaceOn.{tally_skips}
use Rattle.ms_replay.proofs.Writing.{all_back_push}
use Rattle.ms_replay.proofs.places.Places.put_behind.Goals as goal

pub put-requires-clause-kept : goal.put-requires-clause-kept
put-requires-clause-kept c = c.loop-text.invariant.kept

pub put-requires-clause-within : goal.put-requires-clause-within
put-requires-clause-within c = omega (arith, c.requires.within, c.loop-text.invariant.services)

pub loop-text-init : goal.loop-text-init
loop-text-init c = record {
  kept = c.requires.kept;
  services = refl;
  read = λ lists h. tally_skips lists c.args.service c.args.self.now h;
}

pub loop-text-preserved : goal.loop-text-preserved
loop-text-preserved c = record {
  kept = c.in_ok-put.ensures.keeps;
  services = c.in_ok-put.ensures.services ∙ c.loop-text.invariant.services;
  read = λ lists h. list_more lists c.args.service c.args.more.now c.loop-text.text-index c.text-item.result c.as_slice.result.now c.put.new.self c.loop-text-test.true c.text-item.is c.as_slice.ensures
      (c.in_ok-put.ensures.read (goes_on lists c.args.service (votes_of (take c.loop-text.text-index c.args.more.now))) (c.loop-text.invariant.read lists h));
}

pub returns-clause-read : goal.returns-clause-read
returns-clause-read c = λ lists h. list_ends lists c.args.service c.args.more.now c.loop-text.text-index c.loop-text.self c.loop-text-test.false (c.loop-text.invariant.read lists h)
