-- the digits left go on to the same number from the value so far
use Rattle.std.proofs.Common.{◌≡◌, ◌<◌, ◌^◌, length}
use Rattle.script_cli.specs.Numbers.{if_below, digits_from}
use Rattle.script_cli.proofs.values.digits.Given as goal

abbrev pub invariant-loop-byte : goal.invariant-loop-byte
invariant-loop-byte l = record { small : l.value < 2 ^ 64; same : if_below (2 ^ 64) (digits_from l.value l.rest) ≡ if_below (2 ^ 64) (digits_from 0 l.fn.word) }

abbrev pub decreases-loop-byte : goal.decreases-loop-byte
decreases-loop-byte l = length l.rest
