-- What a transcript is, or the fault of the first line that has one.
use Rattle.std.specs.Prelude.{◌≡◌, ℕ, ◌+◌, ◌==◌, Option, Some, None, Result, Ok, Err, List, [], ◌∷◌, ◌++◌, codes, map, min, string_bytes, if◌then◌else◌}
use Rattle.script_cli.specs.{Grammar.line_of, Lines.{first_line, is_blank, is_solid, lines, onward}, Options.{begins_with, said_on}}
use Rattle.script_cli.specs.declared.{fault.LineFault.LineFault, script.Line.Line}
use Rattle.script_cli.specs.declared.transcripts.{fault.TranscriptFault.TranscriptFault, options.{SaidOptions.SaidOptions, ScriptKind.TheVariants.Steps}, read.{PrintedLine.PrintedLine, Read.Read, Told.Told}}
use Rattle.script_cli.specs.declared.script.Line.TheVariants as line
use Rattle.script_cli.specs.declared.transcripts.fault.TranscriptFault.TheVariants as fault
use Rattle.script_cli.specs.declared.transcripts.read.Read.TheVariants as read

-- an answer: the number of its line, and what must be printed
pub record AnswerText : Type 0 where
  pub number : ℕ
  pub text : List ℕ

-- a line of the script: its number, what it is, and its answers
pub record ToldText : Type 0 where
  pub number : ℕ
  pub line : Line
  pub answers : List AnswerText

-- a transcript: the options that it says, and the lines of its script
pub record TranscriptText : Type 0 where
  pub said : SaidOptions
  pub told : List ToldText

abbrev pub answer_text : PrintedLine → AnswerText
answer_text answer = record { number = answer.number; text = string_bytes answer.text }

abbrev pub told_text : Told → ToldText
told_text told = record { number = told.number; line = told.line; answers = map answer_text told.answers.items }

-- Lines

-- what follows a blank, if a text begins with one
abbrev pub behind_blank : List ℕ → Option (List ℕ)
behind_blank [] = None
behind_blank (b ∷ bs) = if is_blank b then Some bs else None

-- the text of an answer, by what follows its sign: nothing, or a blank and the text
abbrev pub behind_sign : List ℕ → Option (List ℕ)
behind_sign [] = Some []
behind_sign (b ∷ bs) = behind_blank (b ∷ bs)

abbrev pub behind_indent : List ℕ → Option (List ℕ)
behind_indent [] = None
behind_indent (b ∷ bs) = if b == 62 then behind_sign bs else None

-- the text of an answer, where the first word of a line is its sign, `>`
abbrev pub answer_of : List ℕ → Option (List ℕ)
answer_of bytes = behind_indent (onward is_solid bytes)

-- what a line of a transcript is: an answer, with its text, or a line of the script
pub data LineText : Type 0 where
  an_answer : List ℕ → LineText
  a_line : Line → LineText

-- a line that says options is a comment where it is the first, and a fault below
abbrev pub options_line : ℕ → Result LineText TranscriptFault
options_line number = if number == 1 then Ok (LineText.a_line line.Nothing) else Err (fault.BadOptions number)

abbrev pub script_line : ℕ → Result Line LineFault → Result LineText TranscriptFault
script_line number (Ok what) = Ok (LineText.a_line what)
script_line number (Err why) = Err (fault.Line number why)

abbrev pub no_answer : ℕ → List ℕ → Result LineText TranscriptFault
no_answer number bytes = if begins_with (codes "# options:") bytes then options_line number else script_line number (line_of bytes)

abbrev pub answer_or : Result LineText TranscriptFault → Option (List ℕ) → Result LineText TranscriptFault
answer_or otherwise (Some text) = Ok (LineText.an_answer text)
answer_or otherwise None = otherwise

-- the line of this number
abbrev pub line_read : ℕ → List ℕ → Result LineText TranscriptFault
line_read number bytes = answer_or (no_answer number bytes) (answer_of bytes)

-- Texts

-- what some lines say: the answers above the first line of their script, and that line and those below it, with theirs
pub record Below : Type 0 where
  pub answers : List AnswerText
  pub told : List ToldText

abbrev pub nothing_below : Below
nothing_below = record { answers = []; told = [] }

abbrev pub told_line : ℕ → Line → List AnswerText → ToldText
told_line number what answers = record { number = number; line = what; answers = answers }

-- a line of the script takes the answers below it, if it does something
abbrev pub with_line_above : ℕ → Line → Below → Below
with_line_above number (line.Step what) below = record { answers = []; told = told_line number (line.Step what) below.answers ∷ below.told }
with_line_above number line.Owners below = record { answers = []; told = told_line number line.Owners below.answers ∷ below.told }
with_line_above number line.Nothing below = below

abbrev pub with_above : ℕ → LineText → Below → Below
with_above number (LineText.an_answer text) below = record { answers = record { number = number; text = text } ∷ below.answers; told = below.told }
with_above number (LineText.a_line what) below = with_line_above number what below

abbrev pub read_above : ℕ → Result LineText TranscriptFault → Result Below TranscriptFault → Result Below TranscriptFault
read_above number (Ok what) (Ok below) = Ok (with_above number what below)
read_above number (Ok what) (Err why) = Err why
read_above number (Err why) below = Err why

-- the number of the next line, as far as 32 bits count
abbrev pub next_number : ℕ → ℕ
next_number number = min (number + 1) 4294967295

-- what lines say, the first of which has this number, or the fault of the first one that has a fault
abbrev pub lines_said : ℕ → List (List ℕ) → Result Below TranscriptFault
lines_said number [] = Ok nothing_below
lines_said number (bytes ∷ rest) = read_above number (line_read number bytes) (lines_said (next_number number) rest)

-- a line of the script, with more answers below it, and the lines below these
abbrev pub with_below : ToldText → Below → List ToldText
with_below last below = record last { answers = last.answers ++ below.answers } ∷ below.told

abbrev pub all_told : Result Below TranscriptFault → Result (List ToldText) TranscriptFault
all_told (Ok below) = Ok (with_below (told_line 0 line.Nothing []) below)
all_told (Err why) = Err why

-- the lines of the script; answers above all of them stand below line 0, which does nothing
abbrev pub told_of : List (List ℕ) → Result (List ToldText) TranscriptFault
told_of bytes = all_told (lines_said 1 bytes)

abbrev pub with_options : Option SaidOptions → Result (List ToldText) TranscriptFault → Result TranscriptText TranscriptFault
with_options None told = Err (fault.BadOptions 1)
with_options (Some said) (Ok told) = Ok (record { said = said; told = told })
with_options (Some said) (Err why) = Err why

-- the transcript that a text is, or the fault of the first line that has one
abbrev pub transcript_of : List ℕ → Result TranscriptText TranscriptFault
transcript_of text = with_options (said_on Steps (first_line text)) (told_of (lines text))

-- a line as it was read
abbrev pub line_text : Read → LineText
line_text (read.Answer text) = LineText.an_answer (string_bytes text)
line_text (read.Line what) = LineText.a_line what

-- why there is no such value: its fault, or that memory was refused
abbrev pub IsFaultOf : {A : Type 0} → Result A TranscriptFault → TranscriptFault → Type 0
IsFaultOf meant (fault.Line number why) = meant ≡ Err (fault.Line number why)
IsFaultOf meant (fault.BadOptions number) = meant ≡ Err (fault.BadOptions number)
IsFaultOf meant fault.TooLong = meant ≡ Err fault.TooLong
IsFaultOf meant fault.Memory = Unit {0}
