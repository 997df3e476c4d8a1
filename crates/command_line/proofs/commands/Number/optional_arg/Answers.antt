use Rattle.std.{proofs.Common.{ap}, specs.Prelude.{Some, pos}}
use Rattle.clap.specs.{Words.{Rule}, declared.builder.value_parser.ValueParser.TheVariants.{Signed}}
use Rattle.command_line.proofs.commands.Number.optional_arg.Goals as goal

pub returns-clause-rule : goal.returns-clause-rule
returns-clause-rule c =
    rw (c.value_parser-2.ensures.others, c.value_parser-2.ensures.given.1, c.value_parser-2.ensures.given.2, c.value_parser.ensures)
    (ap (λ (r : Rule). record r { parser = Some (Signed (pos 0) (pos 4294967295)) }) c.option_arg.ensures.rule)

pub returns-clause-local : goal.returns-clause-local
returns-clause-local c = rw c.value_parser-2.ensures.others c.option_arg.ensures.local
