use Rattle.ms_link.specs.Composing.{on_board_on, follows_on}
use Rattle.ms_link.proofs.law.asks_stay.Goals as goal

pub returns-clause-on_board : goal.returns-clause-on_board
returns-clause-on_board g c = on_board_on

pub returns-clause-follows_on : goal.returns-clause-follows_on
returns-clause-follows_on g c = follows_on g.C.Closed.closed
