-- the lines left, below those so far, tell what all lines tell
use Rattle.std.proofs.Common.{◌≡◌, ℕ, List, map}
use Rattle.std.proofs.lemmas.Iterator.{YieldsList}
use Rattle.std.specs.{Borrow.Bor, Str.Iter.lines_steps}
use Rattle.script_cli.{proofs.ToldLines.told_with, specs.{Lines.lines, Transcripts.{lines_said, told_of, told_text}}}
use Rattle.script_cli.proofs.transcripts.read.read_lines.Given as goal

abbrev pub invariant-loop-line : goal.invariant-loop-line
invariant-loop-line l =
    (left : List (List ℕ)) × YieldsList lines_steps (λ (line : Bor (List ℕ)). line.now) l.line-iterator left
    × (told_with (map told_text l.told.items) (told_text l.last) (lines_said l.number left) ≡ told_of (lines l.fn.text))
