use Rattle.std.proofs.Common.{sym, ap, ◌∙◌}
use Rattle.ms_replay.specs.Places.{all_taken_back}
use Rattle.ms_replay.proofs.Writing.{all_back_push}
use Rattle.ms_replay.proofs.places.Places.take_all_back.Goals as goal

pub loop-put-preserved : goal.loop-put-preserved
loop-put-preserved c = record {
  places =
      ap (all_taken_back c.args.service c.pop.new.self.items) c.take_back.ensures.places ∙ sym (all_back_push c.args.service c.pop.new.self.items c.in-Some.put c.loop-put.self.places)
      ∙ ap (λ puts. all_taken_back c.args.service puts c.loop-put.self.places) (sym c.in-Some.ensures.items) ∙ c.loop-put.invariant.places;
  services = c.take_back.ensures.services ∙ c.loop-put.invariant.services;
}
