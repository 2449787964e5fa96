use Rattle.ms_link.specs.Composing.{learns_self, learns_on, stays_self, stays_on, rose_before, rose_on}
use Rattle.ms_link.proofs.law.calls_compose.Goals as goal

pub returns-clause-learns_self : goal.returns-clause-learns_self
returns-clause-learns_self c = learns_self

pub returns-clause-learns_on : goal.returns-clause-learns_on
returns-clause-learns_on c = learns_on

pub returns-clause-stays_self : goal.returns-clause-stays_self
returns-clause-stays_self c = stays_self

pub returns-clause-stays_on : goal.returns-clause-stays_on
returns-clause-stays_on c = stays_on

pub returns-clause-rose_before : goal.returns-clause-rose_before
returns-clause-rose_before c = rose_before

pub returns-clause-rose_on : goal.returns-clause-rose_on
returns-clause-rose_on c = rose_on
