use Rattle.std.proofs.Common.{inl}
use Rattle.program.proofs.Telling.{kept, trace_end, trace_ended, trace_ran}
use Rattle.command_line.specs.Asked.{given_of}
use Rattle.program.proofs.commands.trace_script.Goals as goal

pub returns-in-Err-clause-failed : goal.returns-in-Err-clause-failed
returns-in-Err-clause-failed g c = inl (c.in-Err.ensures.failed, kept _)

pub returns-in-Ok-tell_steps-clause-ran : goal.returns-in-Ok-tell_steps-clause-ran
returns-in-Ok-tell_steps-clause-ran g c =
    trace_ran c.end_steps.result _ (given_of c.args.options) (given_of c.in-Ok.begun.said) c.args.objects c.in-Ok.begun.text.items c.in-Ok.begun.image _ _ c.in-Ok-tell_steps.field-0.bench.table
    c.in-Ok-tell_steps.field-0.unwell c.in-Ok.ensures.read c.in-Ok.ensures.said c.in-Ok.ensures.image
    (rw c.telling_of.ensures at (rw c.deref.ensures.value at c.in-Ok-tell_steps.ensures.ran)) c.end_steps.ensures.well

pub returns-in-Ok-tell_steps-clause-failed : goal.returns-in-Ok-tell_steps-clause-failed
returns-in-Ok-tell_steps-clause-failed g c =
    trace_end c.end_steps.result (λ told. told.fault) _ (given_of c.args.options) (given_of c.in-Ok.begun.said) c.args.objects c.in-Ok.begun.text.items c.in-Ok.begun.image _ _
    c.in-Ok-tell_steps.field-0.bench.table c.in-Ok-tell_steps.field-0.unwell c.in-Ok.ensures.read c.in-Ok.ensures.said c.in-Ok.ensures.image
    (rw c.telling_of.ensures at (rw c.deref.ensures.value at c.in-Ok-tell_steps.ensures.ran)) c.end_steps.ensures.end c.end_steps.ensures.some

pub returns-clause-failed : goal.returns-clause-failed
returns-clause-failed g c =
    trace_ended _ (given_of c.args.options) (given_of c.in-Ok.begun.said) c.args.objects c.in-Ok.begun.text.items c.in-Ok.begun.image _ _ c.in-Err-tell_steps.fault c.told_of_run.result.fault
    c.told_of_run.ensures c.in-Ok.ensures.read c.in-Ok.ensures.said c.in-Ok.ensures.image (rw c.telling_of.ensures at (rw c.deref.ensures.value at c.in-Err-tell_steps.ensures.failed))
