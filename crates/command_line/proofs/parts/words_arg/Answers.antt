use Rattle.std.{proofs.Common.{ap, true}, specs.Prelude.Some}
use Rattle.clap.specs.{Words.Rule, declared.builder.action.ArgAction.TheVariants.Append}
use Rattle.command_line.proofs.parts.words_arg.Goals as goal

pub returns-clause-rule : goal.returns-clause-rule
returns-clause-rule c = rw (c.help.ensures, c.required.ensures, c.action.ensures, c.value_name.ensures)
    (ap (λ (r : Rule). record r { value_names = 1; action = Some Append; required = true }) c.new.ensures.rule)

pub returns-clause-local : goal.returns-clause-local
returns-clause-local c = rw (c.help.ensures, c.required.ensures, c.action.ensures, c.value_name.ensures) c.new.ensures.optional.1
