use Rattle.std.proofs.Common.{Bool, ap, ◌∙◌, ◌==◌, ◌&&◌, not, if◌then◌else◌}
use Rattle.machine_model.specs.Refusals.{takes_admin}
use Rattle.host_core.specs.Commands.{takes_no_io}
use Rattle.host_core.proofs.reserve.lacks_queue.Goals as goal

pub returns-else-is_admin : goal.returns-else-is_admin
returns-else-is_admin c =
    c.takes_no_io.ensures ∙ ap (λ (b : Bool). if b then not (takes_admin c.args.peer && (c.args.q == 0)) else takes_no_io c.args.q c.args.state) c.if-is_admin.ensures
