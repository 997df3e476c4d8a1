use Rattle.std.proofs.Common.{ap, [], ◌∷◌}
use Rattle.clap.specs.Words.{Rule}
use Rattle.command_line.proofs.parts.text_arg.Goals as goal

pub returns-clause-rule : goal.returns-clause-rule
returns-clause-rule c = rw c.default_value.ensures (ap (λ (r : Rule). record r { defaults = c.args.usual.now ∷ [] }) c.option_arg.ensures.rule)

pub returns-clause-local : goal.returns-clause-local
returns-clause-local c = rw c.default_value.ensures c.option_arg.ensures.local
