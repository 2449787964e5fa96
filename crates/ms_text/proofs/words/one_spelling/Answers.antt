use Rattle.ms_text.proofs.Numbers.{read_is_decimal, decimal_is_read, numbers_no_space}
use Rattle.ms_text.proofs.words.one_spelling.Goals as goal

pub returns-clause-read : goal.returns-clause-read
returns-clause-read c = read_is_decimal

pub returns-clause-again : goal.returns-clause-again
returns-clause-again c = decimal_is_read

pub returns-clause-no_space : goal.returns-clause-no_space
returns-clause-no_space c = numbers_no_space
