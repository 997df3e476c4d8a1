use Rattle.std.proofs.Common.{sym, arith}
use Rattle.host_core.proofs.Reachable.{first-of}
use Rattle.host_core.proofs.rights.first_run.Goals as goal

pub overflow_add-result : goal.overflow_add-result
overflow_add-result c =
    omega (arith, (first-of c.args.right c.args.pages.now c.in_ok-first.field-0.now c.followers.result (sym c.in_ok-first.ensures.value) c.followers.ensures).1, c.well_formed)

pub returns : goal.returns
returns c = first-of c.args.right c.args.pages.now c.in_ok-first.field-0.now c.followers.result (sym c.in_ok-first.ensures.value) c.followers.ensures
