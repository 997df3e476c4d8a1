-- the lines left go on to the same script from the lines so far
use Rattle.std.proofs.Common.{◌≡◌, ◌≤◌, ◌+◌, [], length}
use Rattle.script_cli.specs.{Lines.lines, Scripts.script_from}
use Rattle.script_cli.proofs.script.read_lines.Given as goal

abbrev pub invariant-loop-rest : goal.invariant-loop-rest
invariant-loop-rest l = record { most : l.number + length l.rest ≤ length l.fn.text + 1; same : script_from l.lines.items l.number (lines l.rest) ≡ script_from [] 1 (lines l.fn.text) }

abbrev pub decreases-loop-rest : goal.decreases-loop-rest
decreases-loop-rest l = length l.rest
