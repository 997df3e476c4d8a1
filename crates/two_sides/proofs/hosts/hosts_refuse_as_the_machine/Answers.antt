use Rattle.two_sides.proofs.Assembling.{refuse_as_machine}
use Rattle.two_sides.proofs.hosts.hosts_refuse_as_the_machine.Goals as goal

pub returns : goal.returns
returns c = refuse_as_machine
