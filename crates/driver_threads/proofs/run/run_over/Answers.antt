-- The seats and the ends are those that the threads handed in.
use Rattle.std.proofs.Common.{◌∙◌}
use Rattle.driver_threads.proofs.Carried.{ok_by, ok_by_both}
use Rattle.driver_threads.proofs.run.run_over.Goals as goal

pub returns-clause-all_jobs : goal.returns-clause-all_jobs
returns-clause-all_jobs g c = ok_by c.close.result _ _ c.close.ensures.ends (λ ran long. long ∙ c.in_ok-book.ensures.long)

pub returns-clause-went : goal.returns-clause-went
returns-clause-went g c = ok_by_both c.close.result _ _ _ c.close.ensures.receipts c.close.ensures.lists (λ ran receipts lists. rw (receipts, lists) c.in_ok-book.ensures.went)
