use Rattle.std.proofs.Common.{inl}
use Rattle.program.proofs.Telling.{kept, steps_end, steps_ended, steps_ran}
use Rattle.command_line.specs.Asked.{given_of}
use Rattle.program.proofs.commands.play.Goals as goal

pub returns-in-Err-clause-failed : goal.returns-in-Err-clause-failed
returns-in-Err-clause-failed g c = inl (c.in-Err.ensures.failed, kept _)

pub returns-in-Ok-play_steps-clause-ran : goal.returns-in-Ok-play_steps-clause-ran
returns-in-Ok-play_steps-clause-ran g c =
    steps_ran c.end_steps.result _ (given_of c.args.options) (given_of c.in-Ok.begun.said) c.in-Ok.begun.text.items c.in-Ok.begun.image _ _ c.in-Ok-play_steps.field-0.bench.table
    c.in-Ok-play_steps.field-0.unwell c.in-Ok.ensures.read c.in-Ok.ensures.said c.in-Ok.ensures.image (rw c.as_slice-script.ensures.value at c.in-Ok-play_steps.ensures.ran) c.end_steps.ensures.well

pub returns-in-Ok-play_steps-clause-failed : goal.returns-in-Ok-play_steps-clause-failed
returns-in-Ok-play_steps-clause-failed g c =
    steps_end c.end_steps.result (λ told. told.fault) _ (given_of c.args.options) (given_of c.in-Ok.begun.said) c.in-Ok.begun.text.items c.in-Ok.begun.image _ _
    c.in-Ok-play_steps.field-0.bench.table c.in-Ok-play_steps.field-0.unwell c.in-Ok.ensures.read c.in-Ok.ensures.said c.in-Ok.ensures.image
    (rw c.as_slice-script.ensures.value at c.in-Ok-play_steps.ensures.ran) c.end_steps.ensures.end c.end_steps.ensures.some

pub returns-clause-failed : goal.returns-clause-failed
returns-clause-failed g c =
    steps_ended _ (given_of c.args.options) (given_of c.in-Ok.begun.said) c.in-Ok.begun.text.items c.in-Ok.begun.image _ _ c.in-Err-play_steps.fault c.told_of_run.result.fault c.told_of_run.ensures
    c.in-Ok.ensures.read c.in-Ok.ensures.said c.in-Ok.ensures.image (rw c.as_slice-script.ensures.value at c.in-Err-play_steps.ensures.failed)
