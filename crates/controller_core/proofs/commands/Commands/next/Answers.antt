use Rattle.controller_core.{proofs.Rows.{commands_of, stands_named}, specs.Looks.name_at}
use Rattle.std.proofs.Common.{◌≡◌, ◌+◌, suc, ap, ◌∙◌, arith}
use Rattle.controller_core.proofs.commands.Commands.next.Goals as goal

pub returns : goal.returns
returns g c n =
    rw (← c.self.view_is) (λ at.
    let t = c.self.inside.table in
    let more : suc n ≡ n + 1 = omega arith in
    c.next.ensures ∙ (stands_named t c.args.q c.args.cid n c.self.invariant.0 c.self.invariant.1 at).behind ∙ ap (name_at (commands_of t)) more)
