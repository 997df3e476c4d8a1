use Rattle.std.{proofs.Common.{ℕ}, specs.Prelude.{Ok}}
use Rattle.command_line.{proofs.Asking.{added_or_not}, specs.Commands.{grammar}}
use Rattle.command_line.proofs.commands.command.Goals as goal

pub returns : goal.returns
returns c =
    let one = added_or_not _ _ c.with_command-whole.result _ _ c.check_command.ensures.shape c.check_command.ensures.local c.with_command-whole.ensures c.running.ensures in
    let two = added_or_not _ _ c.with_command-whole-2.result _ _ c.test_command.ensures.shape c.test_command.ensures.local c.with_command-whole-2.ensures one in
    let three = added_or_not _ _ c.with_command-whole-3.result _ _ c.shell_command.ensures.shape c.shell_command.ensures.local c.with_command-whole-3.ensures two in
    let four = added_or_not _ _ c.with_command-whole-4.result _ _ c.draw_command.ensures.shape c.draw_command.ensures.local c.with_command-whole-4.ensures three in
    let five = added_or_not _ _ c.with_command-whole-5.result _ _ c.explain_command.ensures.shape c.explain_command.ensures.local c.with_command-whole-5.ensures four in
    let six = added_or_not _ _ c.with_command-whole-6.result _ _ c.show_command.ensures.shape c.show_command.ensures.local c.with_command-whole-6.ensures five in
    added_or_not {F = ℕ} _ (Ok c.grammar_command.result) c.with_command.result _ grammar c.grammar_command.ensures.shape c.grammar_command.ensures.local c.with_command.ensures six
