-- The last digit follows the digits of the tenth.
use Rattle.std.proofs.{Common.arith, lemmas.{Fmt.{decimal_digit, decimal_step}, Grind.common_steps}}
use Rattle.script_cli.proofs.numbers.+put_number.Goals as goal

pub returns : goal.returns
returns t c = grind (arith, common_steps, decimal_digit c.args.n, decimal_step c.args.n)
