-- the blanks passed are at the start of the text
use Rattle.std.proofs.Common.{◌≡◌, length}
use Rattle.script_cli.specs.Lines.{is_solid, onward}
use Rattle.script_cli.proofs.transcripts.read.unindented.Given as goal
use denote.Shadow.{shadow}
use denote.Text.{Utf8}

abbrev pub invariant-loop-behind : goal.invariant-loop-behind
invariant-loop-behind l = record { is_text : shadow (Utf8 l.rest); same : onward is_solid l.rest ≡ onward is_solid l.fn.text }

abbrev pub decreases-loop-behind : goal.decreases-loop-behind
decreases-loop-behind l = length l.rest
