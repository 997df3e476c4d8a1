-- The line of a load.
use Rattle.std.specs.{Io.KnownBytes.Appends, Prelude.{◌≡◌, ℕ, List, Option, [], ◌∷◌, ◌++◌, codes, decimal}}
use Rattle.script_cli.specs.Patterns.{pattern_name}
use Rattle.load.specs.declared.tally.Tally.{Tally}
use Rattle.script_cli.specs.declared.workload.{OutputFormat.OutputFormat, Pattern.Pattern}
use Rattle.script_cli.specs.Inputs.{IsFront}
use Rattle.script_cli.specs.declared.workload.OutputFormat.TheVariants as format

-- the line of a load, with its line feed
abbrev pub line_text : Pattern → Tally → List ℕ
line_text pattern tally =
    codes "load " ++ (pattern_name pattern ++ (codes " done " ++ (decimal tally.done ++ (codes " refused " ++ (decimal tally.refused ++ (codes " failed " ++ (decimal tally.failed
    ++ (codes " verified " ++ (decimal tally.verified ++ (codes " differ " ++ (decimal tally.differ ++ (10 ∷ []))))))))))))

-- a prefix of such a line
abbrev pub IsLineFront : Pattern → List ℕ → Type 0
IsLineFront pattern front = (tally : Tally) × IsFront front (line_text pattern tally)

-- what a load writes that ran to its end: its line, or nothing where JSON is wanted, which its caller writes
abbrev pub Tells : OutputFormat → Pattern → Tally → Option (List ℕ) → Option (List ℕ) → Type 0
Tells format.Normal pattern tally before after = Appends before after (line_text pattern tally)
Tells format.Json pattern tally before after = after ≡ before
