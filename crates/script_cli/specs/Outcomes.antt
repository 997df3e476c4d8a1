-- How a transcript turned out.
use Rattle.std.specs.Prelude.{◌≡◌, ◌<◌, ◌≤◌, ◌+◌, ◌==◌, ℕ, Bool, true, false, IsUtf8, Option, Some, None, List, [], ◌∷◌, length, max, min, take, if◌then◌else◌}
use Rattle.std.specs.Str.Lossy.{utf8_valid_len}
use Rattle.script_cli.specs.{Differences.{difference_text, first_difference, DifferenceText}, Lines.{is_feed, lines}, Transcripts.ToldText}
use Rattle.script_cli.specs.declared.fault.LineFault.TheVariants.{NotAscii}
use Rattle.script_cli.specs.declared.transcripts.{fault.TranscriptFault.TranscriptFault, testing.Outcome.Outcome}
use Rattle.script_cli.specs.declared.transcripts.fault.TranscriptFault.TheVariants as fault
use Rattle.script_cli.specs.declared.transcripts.testing.Outcome.TheVariants as outcome

-- how many line feeds
abbrev pub feeds_in : List ℕ → ℕ
feeds_in [] = 0
feeds_in (b ∷ bs) = if is_feed b then feeds_in bs + 1 else feeds_in bs

-- the number of the line with the first byte that is not text
abbrev pub bad_line : List ℕ → ℕ
bad_line bytes = min (feeds_in (take (utf8_valid_len bytes) bytes) + 1) 4294967295

-- why bytes are not the text of a transcript
abbrev pub IsNoText : List ℕ → TranscriptFault → Type 0
IsNoText bytes fault.TooLong = 16777216 < length bytes
IsNoText bytes (fault.Line number why) = (length bytes ≤ 16777216) × ¬ (IsUtf8 bytes) × (number ≡ bad_line bytes) × (why ≡ NotAscii)
IsNoText bytes (fault.BadOptions number) = ⊥
IsNoText bytes fault.Memory = ⊥

-- how many lines, as far as 32 bits count
abbrev pub line_count : List ℕ → ℕ
line_count text = min (length (lines text)) 4294967295

-- a difference before any step is told at the last line of the text
abbrev pub placed : List ℕ → DifferenceText → DifferenceText
placed text d = if d.number == 0 then record d { number = max (line_count text) 1 } else d

abbrev pub first_of : Option DifferenceText → Option DifferenceText → Option DifferenceText
first_of (Some d) later = Some d
first_of None later = later

-- the first difference of lines of a script and what each of them printed
abbrev pub difference_of : List ToldText → List (List ℕ) → Option DifferenceText
difference_of [] printed = None
difference_of (told ∷ rest) [] = None
difference_of (told ∷ rest) (came ∷ more) = first_of (first_difference told (lines came)) (difference_of rest more)

-- it agrees exactly where there is no difference and no option that it does not say; a difference is told before such options
abbrev pub IsComparedAs : List ℕ → Option DifferenceText → Bool → Outcome → Type 0
IsComparedAs text None false outcome.Agrees = Unit {0}
IsComparedAs text None true (outcome.Unsaid updated) = Unit {0}
IsComparedAs text (Some d) unsaid (outcome.Differs difference updated) = difference_text difference ≡ placed text d
IsComparedAs text found unsaid other = ⊥
