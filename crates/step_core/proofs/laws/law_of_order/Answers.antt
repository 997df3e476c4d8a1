use Rattle.step_core.proofs.Order.{goes_on, bench_opens, bench_keeps}
use Rattle.step_core.proofs.laws.law_of_order.Goals as goal

pub returns-clause-opens : goal.returns-clause-opens
returns-clause-opens c = bench_opens

pub returns-clause-keeps : goal.returns-clause-keeps
returns-clause-keeps c = bench_keeps

pub returns-clause-goes_on : goal.returns-clause-goes_on
returns-clause-goes_on c = goes_on
