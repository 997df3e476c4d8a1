use Rattle.std.proofs.lemmas.Result.{IfErr-weaker}
use Rattle.host_core.proofs.tables.HostTables.check_named.Goals as goal

pub returns-in-Abort : goal.returns-in-Abort
returns-in-Abort g c = rw c.in-Abort.is (record { free = c.check_abort.ensures.free; refused = c.check_abort.ensures.refused })

pub returns-in-DeleteSq : goal.returns-in-DeleteSq
returns-in-DeleteSq g c = rw c.in-DeleteSq.is (record { free = c.check_delete_sq.ensures.free; refused = c.check_delete_sq.ensures.refused })

pub returns-in-DeleteCq : goal.returns-in-DeleteCq
returns-in-DeleteCq g c = rw c.in-DeleteCq.is (record { free = c.check_delete_cq.ensures.free; refused = c.check_delete_cq.ensures.refused })

pub returns-in-CreateCq : goal.returns-in-CreateCq
returns-in-CreateCq g c = rw c.in-CreateCq.is (record { free = c.check_create_cq.ensures.free; refused = IfErr-weaker c.check_create_cq.result _ _ (λ why h pages. h pages c.in-CreateCq.vector) c.check_create_cq.ensures.refused })

pub returns-in-CreateSq : goal.returns-in-CreateSq
returns-in-CreateSq g c = rw c.in-CreateSq.is (record { free = c.check_create_sq.ensures.free; refused = c.check_create_sq.ensures.refused })
