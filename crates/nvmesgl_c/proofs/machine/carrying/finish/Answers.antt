use Rattle.std.proofs.Common.{subst}
use Rattle.nvmesgl_c.proofs.Releasing.{unlaid}
use Rattle.nvmesgl_c.specs.MachineCarried.{brought_in}
use Rattle.step_core.specs.{Bench.Does, Values.Reply}
use Rattle.step_core.specs.declared.step.Step.TheVariants as step
use Rattle.world_bench.specs.Collecting.{CollectsOnce}
use Rattle.nvmesgl_c.proofs.machine.carrying.finish.Goals as goal

pub returns-then-not-is_accepted-clause-kept : goal.returns-then-not-is_accepted-clause-kept
returns-then-not-is_accepted-clause-kept c =
    let once = subst (CollectsOnce c.args.desk.now (step.Collect c.args.q c.args.cid)) c.in_ok-status.ensures.end c.step.ensures.once in
    let collects = subst (λ (r : Reply). Does c.args.desk.now (step.Collect c.args.q c.args.cid) r c.step.new.self) c.in_ok-status.ensures.end c.step.ensures.does in
    unlaid c.args.desk.now c.step.new.self c.gather.new.desk c.step-released.new.self c.args.q c.args.cid c.in_ok-status.status c.in_ok-status.hints (brought_in c.in_ok-brought.brought c.gather.new.buffer) c.args.buffer.now c.gather.new.buffer
    c.step-released.result c.is_accepted.result once collects c.in_ok-brought.ensures.gathered c.step-released.ensures.does c.is_accepted.ensures c.if-not-is_accepted.true
