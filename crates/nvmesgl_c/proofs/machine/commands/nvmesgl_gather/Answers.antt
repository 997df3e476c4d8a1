use Rattle.nvmesgl_c.proofs.Gathered.{machine_gathered}
use Rattle.nvmesgl_c.specs.MachineKept.{kept_in}
use Rattle.nvmesgl_c.proofs.machine.commands.nvmesgl_gather.Goals as goal

pub returns-in-Some : goal.returns-in-Some
returns-in-Some c =
    machine_gathered (kept_in c.args.handle.now) (kept_in c.gather_from.new.handle) c.args.q c.args.cid c.in-Some.bytes c.args.buffer.now c.gather_from.new.buffer c.nothing.result c.in-Some.ensures.laid c.in-Some.ensures.same
    c.nothing.ensures
