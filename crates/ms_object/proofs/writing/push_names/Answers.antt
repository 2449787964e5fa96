use Rattle.std.proofs.Common.{◌≡◌, length}
use Rattle.std.proofs.lemmas.List.Elements.{All-more}
use Rattle.ms_base.specs.declared.names.Name.{Name}
use Rattle.ms_object.proofs.Pushed.{next_pushed}
use Rattle.ms_object.proofs.writing.push_names.Goals as goal

pub loop-name-preserved : goal.loop-name-preserved
loop-name-preserved c = record {
  text = next_pushed (λ (name : Name). name.0) c.args.names.now c.loop-name.name-index _ c.args.out.now.items _ _ c.loop-name-test.true c.loop-name.invariant.text c.in_ok-push_name.ensures.ok;
  names = All-more (λ (name : Name). length name.0 ≡ 32) c.args.names.now c.loop-name.name-index _ c.loop-name-test.true c.loop-name.invariant.names c.push_name.ensures.name;
}
