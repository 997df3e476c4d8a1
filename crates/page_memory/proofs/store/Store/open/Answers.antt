use Rattle.std.proofs.{Common.{arith, ◌≤◌}, lemmas.Grind.common_steps}
use Rattle.page_memory.proofs.Bytes.{zeros_pool}
use Rattle.page_memory.proofs.store.Store.open.Goals as goal

pub invariant_of-result : goal.invariant_of-result
invariant_of-result g c =
    let few : c.args.pages ≤ 65536 = grind (arith, common_steps, c.if-not-contains.ensures.cases) in
    zeros_pool c.args.pages c.in_ok-all.all.items c.in_ok-all.ensures few
