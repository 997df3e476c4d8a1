-- What was found under the lock, and the call.
use Rattle.std.proofs.Common.{rules}
use Rattle.shared.proofs.lock.Shared.act_on.Goals as goal

pub returns : goal.returns
returns g c =
    let of : g.M.Machine.is c.deref_mut.result.now.machine = search rules in
    (_, _, of, c.act-answer.ensures)
