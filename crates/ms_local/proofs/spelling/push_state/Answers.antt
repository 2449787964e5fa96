use Rattle.ms_local.specs.States.{numbers_text, base_text, todo_part}
use Rattle.ms_local.proofs.Appending.{on_ok, four_appended}
use Rattle.ms_local.proofs.spelling.push_state.Goals as goal

pub returns : goal.returns
returns c =
    on_ok c.push_flagged.result
    (four_appended c.args.out.now.items (numbers_text c.args.kept.now) (base_text c.args.kept.now.base) c.args.kept.now.head.0 (todo_part c.args.kept.now.todo) _ _ _ _ c.in_ok-push_numbers.ensures c.in_ok-push_base.ensures c.in_ok-push_name.ensures.ok)
    c.push_flagged.ensures
