-- the digits left go on to the same bytes from those so far
use Rattle.std.proofs.Common.{◌≡◌, [], length}
use Rattle.script_cli.specs.Numbers.{bytes_from}
use Rattle.script_cli.proofs.values.hex_bytes.Given as goal

abbrev pub invariant-loop-high : goal.invariant-loop-high
invariant-loop-high l = bytes_from l.bytes.items l.rest ≡ bytes_from [] l.fn.word

abbrev pub decreases-loop-high : goal.decreases-loop-high
decreases-loop-high l = length l.rest
