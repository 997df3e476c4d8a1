-- What a script is, or its first fault.
use Rattle.std.specs.{Prelude.{ℕ, ◌+◌, nat_lt, Option, Result, Ok, Err, List, [], ◌∷◌, ◌++◌, length, ◌≡◌, if◌then◌else◌}, Result.result_err}
use Rattle.script_cli.specs.{Grammar.line_of, Lines.lines, declared.fault.{LineFault.{LineFault, TheVariants.TooManyLines}, ScriptFault.ScriptFault}}
use Rattle.script_cli.specs.declared.script.{Line.Line, Numbered.Numbered}
use Rattle.step_core.specs.Values.{Step}
use Rattle.script_cli.specs.declared.fault.ScriptFault.TheVariants as fault
use Rattle.script_cli.specs.declared.script.Line.TheVariants as line

-- the line of this number
abbrev pub numbered_line : ℕ → List ℕ → Result Line LineFault
numbered_line number bytes = if nat_lt 65536 number then Err TooManyLines else line_of bytes

abbrev pub numbered : ℕ → Line → Numbered
numbered n what = record { number = n; line = what }

-- the lines so far and one more, if it does something
abbrev pub with_line : List Numbered → ℕ → Line → List Numbered
with_line so_far number (line.Step what) = so_far ++ (numbered number (line.Step what) ∷ [])
with_line so_far number line.Owners = so_far ++ (numbered number line.Owners ∷ [])
with_line so_far number line.Nothing = so_far

abbrev pub then_lines : List Numbered → ℕ → (List Numbered → Result (List Numbered) ScriptFault) → Result Line LineFault → Result (List Numbered) ScriptFault
then_lines so_far number rest (Ok what) = rest (with_line so_far number what)
then_lines so_far number rest (Err why) = Err (fault.Line number why)

-- the lines that do something, from those so far, where the first of the lines left has this number
abbrev pub script_from : List Numbered → ℕ → List (List ℕ) → Result (List Numbered) ScriptFault
script_from so_far number [] = Ok so_far
script_from so_far number (bytes ∷ rest) = then_lines so_far number (λ more. script_from more (number + 1) rest) (numbered_line number bytes)

-- the lines of a script that do something, with their numbers, or the first fault
abbrev pub script_of : List ℕ → Result (List Numbered) ScriptFault
script_of text = if nat_lt 1048576 (length text) then Err fault.TooLong else script_from [] 1 (lines text)

abbrev pub first_fault : List ℕ → Option ScriptFault
first_fault text = result_err (script_of text)

abbrev pub step_onto : Line → List Step → List Step
step_onto (line.Step what) steps = what ∷ steps
step_onto line.Owners steps = steps
step_onto line.Nothing steps = steps

abbrev pub steps_in : List Numbered → List Step
steps_in [] = []
steps_in (first ∷ rest) = step_onto first.line (steps_in rest)

abbrev pub steps_if_read : Result (List Numbered) ScriptFault → List Step
steps_if_read (Ok script) = steps_in script
steps_if_read (Err why) = []

-- the steps of a script without faults
abbrev pub steps_of_script : List ℕ → List Step
steps_of_script text = steps_if_read (script_of text)

-- what reading the line of this number may give: the line or its first fault, or that memory was refused
abbrev pub IsNumberedLine : ℕ → List ℕ → Result Line ScriptFault → Type 0
IsNumberedLine number bytes (Ok what) = numbered_line number bytes ≡ Ok what
IsNumberedLine number bytes (Err fault.TooLong) = ⊥
IsNumberedLine number bytes (Err (fault.Line at why)) = (at ≡ number) × (numbered_line number bytes ≡ Err why)
IsNumberedLine number bytes (Err fault.Memory) = Unit {0}

-- what reading all lines of a text may give
abbrev pub AreLines : List ℕ → Result (List Numbered) ScriptFault → Type 0
AreLines text (Ok script) = script_from [] 1 (lines text) ≡ Ok script
AreLines text (Err fault.TooLong) = ⊥
AreLines text (Err (fault.Line number why)) = script_from [] 1 (lines text) ≡ Err (fault.Line number why)
AreLines text (Err fault.Memory) = Unit {0}

-- what reading a text may give: the script or its first fault, or that memory was refused
abbrev pub IsReading : List ℕ → Result (List Numbered) ScriptFault → Type 0
IsReading text (Ok script) = script_of text ≡ Ok script
IsReading text (Err fault.TooLong) = script_of text ≡ Err fault.TooLong
IsReading text (Err (fault.Line number why)) = script_of text ≡ Err (fault.Line number why)
IsReading text (Err fault.Memory) = Unit {0}
