use Rattle.nvmesgl_c.proofs.Serving.{carried_on}
use Rattle.nvmesgl_c.specs.MachineCarried.{outcome_of}
use Rattle.nvmesgl_c.proofs.machine.carrying.carry.Goals as goal

pub returns-in-Ok-clause-carries : goal.returns-in-Ok-clause-carries
returns-in-Ok-clause-carries c =
    carried_on c.args.desk.now c.step.new.self c.carry_reserved.new.desk c.args.q c.in-Ok.cid c.args.request c.args.bytes c.step.result (outcome_of c.carry_reserved.result c.carry_reserved.new.buffer) c.step.ensures.does c.in-Ok.ensures.identifier
    c.carry_reserved.ensures.comes
