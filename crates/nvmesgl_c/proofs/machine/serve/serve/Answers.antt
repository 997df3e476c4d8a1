use Rattle.std.proofs.Common.{true, sym, subst, ◌∙◌}
use Rattle.machine_model.specs.Script.{Table}
use Rattle.step_core.specs.Bench.{Does}
use Rattle.nvmesgl_c.proofs.Serving.{none_served, served_more, served_other, refused_last}
use Rattle.nvmesgl_c.proofs.machine.serve.serve.Goals.{then-is_completed, else-is_completed}
use Rattle.nvmesgl_c.proofs.machine.serve.serve.Goals as goal

pub loop-made-init : goal.loop-made-init
loop-made-init c = none_served c.args.desk.now

pub returns-in-Some-refusal_in : goal.returns-in-Some-refusal_in
returns-in-Some-refusal_in c =
    refused_last c.args.desk.now c.loop-made.desk c.step-reply.new.self c.loop-made.completed c.loop-made.made c.step_of.result c.in-Some-refusal_in.why c.step-reply.result c.loop-made.invariant c.step_of.ensures
    (subst (λ (t : Table). Does t c.step_of.result c.step-reply.result c.step-reply.new.self) c.next.ensures.same c.step-reply.ensures.does) (sym c.refusal_in.ensures ∙ c.in-Some-refusal_in.is)

pub loop-made-preserved : goal.loop-made-preserved
loop-made-preserved c =
    let does : Does c.loop-made.desk c.step_of.result c.step-reply.result c.step-reply.new.self =
    subst (λ (t : Table). Does t c.step_of.result c.step-reply.result c.step-reply.new.self) c.next.ensures.same c.step-reply.ensures.does in
    elim c.if-is_completed.branch [
      | then-is_completed w ↦
          rw w.completed-is
          (served_more c.args.desk.now c.loop-made.desk c.step-reply.new.self c.loop-made.completed c.loop-made.made c.step_of.result c.step-reply.result true c.loop-made.invariant c.step_of.ensures does
          (sym c.is_completed.ensures ∙ w.if-is_completed.true))
      | else-is_completed w ↦
          rw w.completed-is
          (served_other c.args.desk.now c.loop-made.desk c.step-reply.new.self c.loop-made.completed c.loop-made.made c.step_of.result c.step-reply.result c.loop-made.invariant c.step_of.ensures does
          (sym c.is_completed.ensures ∙ w.if-is_completed.false))
    ]
