use Rattle.std.proofs.lemmas.Result.{IfErr-weaker}
use Rattle.host_core.proofs.tables.HostTables.check_half.Goals as goal

pub returns-in-Completion : goal.returns-in-Completion
returns-in-Completion g c = rw c.in-Completion.is (record { free = c.check_create_cq.ensures.free; refused = c.check_create_cq.ensures.refused })

pub returns-in-Submission : goal.returns-in-Submission
returns-in-Submission g c = rw c.in-Submission.is (record { free = c.check_create_sq.ensures.free; refused = IfErr-weaker c.check_create_sq.result _ _ (λ why h pages vector. h pages) c.check_create_sq.ensures.refused })
