use Rattle.two_sides.proofs.Shared.{forged_step}
use Rattle.two_sides.proofs.hosts.forged_hosts_are_the_machine.Goals as goal

pub returns : goal.returns
returns c = forged_step
