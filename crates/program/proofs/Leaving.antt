-- What is written of a load.
use Rattle.std.proofs.Common.{ℕ, List, [], Option, subst, sym}
use Rattle.std.{proofs.lemmas.List.append-nil, specs.Io.KnownBytes.Appends}
use Rattle.load.specs.{Lines.{Tells, line_text}, declared.tally.Tally.Tally}
use Rattle.program.specs.Loading.{Adds, LeavesLoad, TellsLoad}
use Rattle.script_cli.specs.{Inputs.Gains, declared.workload.{OutputFormat.OutputFormat, Pattern.Pattern}}
use Rattle.script_cli.specs.declared.workload.OutputFormat.TheVariants as format

-- a whole line, or some JSON, of which more was not written
pub left_behind : (f : OutputFormat) (pattern : Pattern) (tally : Tally) (a b c : Option (List ℕ)) → Tells f pattern tally a b → Adds f b c → LeavesLoad f pattern a c
left_behind format.Normal pattern tally a b c told same =
    (line_text pattern tally, (tally, ([], sym (append-nil (line_text pattern tally)))), subst (λ (x : Option (List ℕ)). Appends a x (line_text pattern tally)) (sym same) told)
left_behind format.Json pattern tally a b c told added = subst (λ (x : Option (List ℕ)). Gains x c (λ json. Unit {0})) told added

-- a whole line, or some JSON
pub told_behind : (f : OutputFormat) (pattern : Pattern) (tally : Tally) (a b c : Option (List ℕ)) → Tells f pattern tally a b → Adds f b c → TellsLoad f pattern tally a c
told_behind format.Normal pattern tally a b c told same = subst (λ (x : Option (List ℕ)). Appends a x (line_text pattern tally)) (sym same) told
told_behind format.Json pattern tally a b c told added = subst (λ (x : Option (List ℕ)). Gains x c (λ json. Unit {0})) told added
