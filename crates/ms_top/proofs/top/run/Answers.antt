use Rattle.ms_base.specs.Outside.{outside}
use Rattle.ms_words.specs.Commands.{command_of, word_texts}
use Rattle.ms_top.proofs.RunLaws.{runs_carried}
use Rattle.ms_top.proofs.top.run.Goals as goal

pub returns : goal.returns
returns g c =
    runs_carried (command_of (word_texts c.args.words.now)) (outside g.H.Inputs.seen c.args.house.now) (outside g.H.Inputs.seen c.answer-given.new.house) c.answer-given.result _ _ c.tell.result
    c.answer-given.ensures c.tell.ensures.told c.tell.ensures.sink
