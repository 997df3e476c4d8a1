use Rattle.two_sides.proofs.HostSteps.{hosts_stepped}
use Rattle.two_sides.proofs.hosts.hosts_are_the_machine.Goals as goal

pub returns : goal.returns
returns c = hosts_stepped
