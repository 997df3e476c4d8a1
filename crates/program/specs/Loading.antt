-- What a load writes.
use Rattle.std.specs.{Io.KnownBytes.Appends, Prelude.{◌≡◌, ℕ, List, Option}}
use Rattle.load.specs.{Lines.{IsLineFront, line_text}, declared.tally.Tally.Tally}
use Rattle.script_cli.specs.{Inputs.Gains, declared.workload.{OutputFormat.OutputFormat, Pattern.Pattern}}
use Rattle.script_cli.specs.declared.workload.OutputFormat.TheVariants as format

-- what is written after a load: some JSON where that is wanted, else nothing
abbrev pub Adds : OutputFormat → Option (List ℕ) → Option (List ℕ) → Type 0
Adds format.Normal before after = after ≡ before
Adds format.Json before after = Gains before after (λ json. Unit {0})

-- what a load writes in all that ran to its end: its line, or some JSON
abbrev pub TellsLoad : OutputFormat → Pattern → Tally → Option (List ℕ) → Option (List ℕ) → Type 0
TellsLoad format.Normal pattern tally before after = Appends before after (line_text pattern tally)
TellsLoad format.Json pattern tally before after = Gains before after (λ json. Unit {0})

-- and one that did not, or whose output failed
abbrev pub LeavesLoad : OutputFormat → Pattern → Option (List ℕ) → Option (List ℕ) → Type 0
LeavesLoad format.Normal pattern before after = Gains before after (IsLineFront pattern)
LeavesLoad format.Json pattern before after = Gains before after (λ json. Unit {0})
