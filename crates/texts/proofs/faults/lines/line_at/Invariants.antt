-- the lines that are left have the wanted one
use Rattle.std.{proofs.Common.{◌≡◌, ◌-◌}, specs.Prelude.slice_get}
use Rattle.script_cli.specs.Lines.{lines}
use Rattle.texts.proofs.faults.lines.line_at.Given as goal

abbrev pub invariant-loop-left : goal.invariant-loop-left
invariant-loop-left l = slice_get (lines l.rest) (l.left - 1) ≡ slice_get (lines l.fn.text) (l.fn.number - 1)

abbrev pub decreases-loop-left : goal.decreases-loop-left
decreases-loop-left l = l.left
