use Rattle.command_line.proofs.Asking.{added_or_not}
use Rattle.command_line.proofs.commands.running.Goals as goal

pub returns : goal.returns
returns c =
    let one = added_or_not _ _ c.with_command-whole.result _ _ c.steps_command.ensures.shape c.steps_command.ensures.local c.with_command-whole.ensures c.program.ensures in
    let two = added_or_not _ _ c.with_command-whole-2.result _ _ c.threads_command.ensures.shape c.threads_command.ensures.local c.with_command-whole-2.ensures one in
    added_or_not _ _ c.with_command.result _ _ c.load_command.ensures.shape c.load_command.ensures.local c.with_command.ensures two
