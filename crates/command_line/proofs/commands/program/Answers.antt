use Rattle.std.proofs.{Common.{ap, true}, lemmas.Result.IfOk-weaker}
use Rattle.clap.specs.Words.{App}
use Rattle.command_line.proofs.commands.program.Goals as goal

pub returns : goal.returns
returns c =
    IfOk-weaker c.bin_name.result _ _ (λ whole is. rw (is.0, c.subcommand_required.ensures, c.version.ensures)
    (ap (λ (a : App). record { top = record a.top { subcommand_required = true; has_version = true }; subs = a.subs }) c.described.ensures.shape))
    c.bin_name.ensures
