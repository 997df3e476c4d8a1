-- The seats and the ends are those that the threads handed in.
use Rattle.std.proofs.Common.{◌∙◌}
use Rattle.driver_threads.proofs.Carried.{ok_by, ok_by_both}
use Rattle.driver_threads.proofs.run.round_over.Goals as goal

pub returns-clause-all_jobs : goal.returns-clause-all_jobs
returns-clause-all_jobs g c = ok_by c.carry_on.result _ _ c.carry_on.ensures.ends (λ round long. long ∙ c.in_ok-book.ensures.long)

pub returns-clause-went : goal.returns-clause-went
returns-clause-went g c = ok_by_both c.carry_on.result _ _ _ c.carry_on.ensures.receipts c.carry_on.ensures.lists (λ round receipts lists. rw (receipts, lists) c.in_ok-book.ensures.went)
