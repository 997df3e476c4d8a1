-- What is told of a text, line after line.
use Rattle.std.proofs.Common.{codes, false, if◌then◌else◌, ◌≡◌, ℕ, Result, Ok, Err, List, [], ◌∷◌, ◌++◌, refl, sym, ap, ◌∙◌}
use Rattle.std.proofs.lemmas.List.{append-nil}
use Rattle.script_cli.specs.{Grammar.line_of, Options.begins_with}
use Rattle.script_cli.specs.Transcripts.{all_told, lines_said, next_number, no_answer, options_line, read_above, script_line, told_line, told_of, with_above, with_below, AnswerText, Below, IsFaultOf, LineText, ToldText}
use Rattle.script_cli.specs.declared.transcripts.fault.TranscriptFault.{TranscriptFault}
use Rattle.script_cli.specs.declared.transcripts.fault.TranscriptFault.TheVariants as fault
use Rattle.script_cli.specs.declared.script.Line.TheVariants as line

-- the lines of the script so far, the last of them with the answers that follow, and the lines below these
abbrev pub told_with : List ToldText → ToldText → Result Below TranscriptFault → Result (List ToldText) TranscriptFault
told_with front last (Ok below) = Ok (front ++ with_below last below)
told_with front last (Err why) = Err why

pub begins : (below : Result Below TranscriptFault) → told_with [] (told_line 0 line.Nothing []) below ≡ all_told below
begins (Ok below) = refl
begins (Err why) = refl

-- one more line
pub goes_on : (front front' : List ToldText) (last last' : ToldText) (number : ℕ) (what : LineText) (below : Result Below TranscriptFault)
    → ((b : Below) → front' ++ with_below last' b ≡ front ++ with_below last (with_above number what b))
    → told_with front' last' below ≡ told_with front last (read_above number (Ok what) below)
goes_on front front' last last' number what (Ok below) same = ap (λ (l : List ToldText). Ok l) (same below)
goes_on front front' last last' number what (Err why) same = refl

pub starts : (front : List ToldText) (last : ToldText) (bytes : List (List ℕ)) → front ≡ [] → last ≡ told_line 0 line.Nothing [] → told_with front last (lines_said 1 bytes) ≡ told_of bytes
starts front last bytes e f = (λ i. told_with (e i) (f i) (lines_said 1 bytes)) ∙ begins (lines_said 1 bytes)

pub one_more : (front front' : List ToldText) (last last' : ToldText) (number number' : ℕ) (meant : Result LineText TranscriptFault) (what : LineText) (more : List (List ℕ)) (all : Result (List ToldText) TranscriptFault)
    → told_with front last (read_above number meant (lines_said (next_number number) more)) ≡ all → meant ≡ Ok what → number' ≡ next_number number
    → ((b : Below) → front' ++ with_below last' b ≡ front ++ with_below last (with_above number what b))
    → told_with front' last' (lines_said number' more) ≡ all
one_more front front' last last' number number' meant what more all before found next same =
    (λ i. told_with front' last' (lines_said (next i) more)) ∙ goes_on front front' last last' number what (lines_said (next_number number) more) same
    ∙ (λ i. told_with front last (read_above number (sym found i) (lines_said (next_number number) more))) ∙ before

-- no line is left
pub ends : (front : List ToldText) (last : ToldText) (number : ℕ) (left : List (List ℕ)) (all : Result (List ToldText) TranscriptFault)
    → left ≡ [] → told_with front last (lines_said number left) ≡ all → all ≡ Ok (front ++ last ∷ [])
ends front last number left all none before =
    sym before ∙ (λ i. told_with front last (lines_said number (none i)))
    ∙ ap (λ (answers : List AnswerText). Ok (front ++ record last { answers = answers } ∷ [])) (append-nil last.answers)

-- a fault is that of all lines
pub is_fault : (meant : Result LineText TranscriptFault) (why : TranscriptFault) (front : List ToldText) (last : ToldText) (number : ℕ) (below : Result Below TranscriptFault) (all : Result (List ToldText) TranscriptFault)
    → IsFaultOf meant why → told_with front last (read_above number meant below) ≡ all → IsFaultOf all why
is_fault meant (fault.Line n f) front last number below all found same = sym same ∙ ap (λ (m : Result LineText TranscriptFault). told_with front last (read_above number m below)) found
is_fault meant (fault.BadOptions n) front last number below all found same = sym same ∙ ap (λ (m : Result LineText TranscriptFault). told_with front last (read_above number m below)) found
is_fault meant fault.TooLong front last number below all found same = sym same ∙ ap (λ (m : Result LineText TranscriptFault). told_with front last (read_above number m below)) found
is_fault meant fault.Memory front last number below all found same = tt

-- a line that does not say options
pub is_of_script : (number : ℕ) (bytes : List ℕ) → begins_with (codes "# options:") bytes ≡ false → no_answer number bytes ≡ script_line number (line_of bytes)
is_of_script number bytes none = λ i. if none i then options_line number else script_line number (line_of bytes)
