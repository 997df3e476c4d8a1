use Rattle.controller_core.proofs.Rows.{found_rows, stands_named}
use Rattle.std.proofs.Common.{sym, ◌∙◌}
use Rattle.controller_core.proofs.commands.Commands.get.Goals as goal

pub returns-clause-found : goal.returns-clause-found
returns-clause-found g c = rw (← c.self.view_is) (c.get.ensures.value ∙ sym (found_rows _ c.args.q c.args.cid c.self.invariant.0))

pub returns-clause-alone : goal.returns-clause-alone
returns-clause-alone g c n =
    rw (← c.self.view_is) (λ at.
    let s = stands_named c.self.inside.table c.args.q c.args.cid n c.self.invariant.0 c.self.invariant.1 at in
    c.get.ensures.value ∙ s.value ∙ sym s.at)
