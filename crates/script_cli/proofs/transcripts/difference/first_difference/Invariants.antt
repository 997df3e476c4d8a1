-- the first difference is that of the answers and the lines left
use Rattle.std.proofs.Common.{◌≡◌, ℕ, List, map}
use Rattle.std.proofs.lemmas.Iterator.{YieldsList}
use Rattle.std.specs.{Borrow.Bor, Str.Iter.lines_steps}
use Rattle.script_cli.specs.{Differences.{difference_below, first_difference}, Lines.lines, Transcripts.{answer_text, told_text}}
use Rattle.script_cli.proofs.transcripts.difference.first_difference.Given as goal

abbrev pub invariant-loop-came : goal.invariant-loop-came
invariant-loop-came l =
    (left : List (List ℕ)) × YieldsList lines_steps (λ (line : Bor (List ℕ)). line.now) l.came-iterator left
    × (difference_below l.number (map answer_text l.answers) left ≡ first_difference (told_text l.fn.told) (lines l.fn.printed))
