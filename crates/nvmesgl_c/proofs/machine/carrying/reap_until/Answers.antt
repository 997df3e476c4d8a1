use Rattle.std.proofs.Common.{sym, ◌∙◌}
use Rattle.nvmesgl_c.proofs.Serving.{reaped_last, reaped_more}
use Rattle.nvmesgl_c.proofs.machine.carrying.reap_until.Goals as goal

pub returns-then-stops : goal.returns-then-stops
returns-then-stops c =
    reaped_last c.args.q c.args.cid c.args.desk.now c.loop-taken.desk c.step-reply.new.self c.loop-taken.taken c.step-reply.result c.loop-taken.invariant c.step-reply.ensures.does (sym c.stops.ensures ∙ c.if-stops.true)

pub loop-taken-preserved : goal.loop-taken-preserved
loop-taken-preserved c =
    reaped_more c.args.q c.args.cid c.args.desk.now c.loop-taken.desk c.step-reply.new.self c.loop-taken.taken c.step-reply.result c.loop-taken.invariant c.step-reply.ensures.does (sym c.stops.ensures ∙ c.if-stops.false)
