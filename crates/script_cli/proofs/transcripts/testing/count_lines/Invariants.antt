-- the lines passed and those left are all
use Rattle.std.proofs.Common.{◌≡◌, ◌+◌, ◌≤◌, ℕ, List, length, min}
use Rattle.std.proofs.lemmas.Iterator.{YieldsList}
use Rattle.std.specs.{Borrow.Bor, Str.Iter.lines_steps}
use Rattle.script_cli.specs.Outcomes.{line_count}
use Rattle.script_cli.proofs.transcripts.testing.count_lines.Given as goal

abbrev pub invariant-loop-line : goal.invariant-loop-line
invariant-loop-line l =
    (left : List (List ℕ)) × YieldsList lines_steps (λ (line : Bor (List ℕ)). line.now) l._line-iterator left
    × (l.count ≤ 4294967295) × (min (l.count + length left) 4294967295 ≡ line_count l.fn.text)
