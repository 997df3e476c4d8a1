-- The first difference between what was printed and what a transcript says.
use Rattle.std.specs.Prelude.{◌≡◌, ◌↔◌, ℕ, ◌+◌, ◌==◌, Option, Some, None, List, [], ◌∷◌, codes, IsNone, map, option_map, string_bytes, unwrap_or, if◌then◌else◌}
use Rattle.std.specs.Str.{bytes_eq}
use Rattle.script_cli.specs.Transcripts.{AnswerText, ToldText}
use Rattle.script_cli.specs.declared.transcripts.difference.Difference.{Difference}

-- a difference: the number of a line, what is there, and what was printed
pub record DifferenceText : Type 0 where
  pub number : ℕ
  pub wanted : Option (List ℕ)
  pub came : Option (List ℕ)

abbrev pub difference_text : Difference → DifferenceText
difference_text d = record { number = d.number; wanted = option_map string_bytes d.wanted; came = option_map string_bytes d.came }

abbrev pub differs : ℕ → Option (List ℕ) → Option (List ℕ) → Option DifferenceText
differs number wanted came = Some (record { number = number; wanted = wanted; came = came })

-- the first place where answers and printed lines differ, below a line of this number
abbrev pub difference_below : ℕ → List AnswerText → List (List ℕ) → Option DifferenceText
difference_below above [] [] = None
difference_below above [] (came ∷ more) = differs above None (Some came)
difference_below above (answer ∷ rest) [] = differs answer.number (Some answer.text) None
difference_below above (answer ∷ rest) (came ∷ more) =
    if bytes_eq answer.text came then difference_below answer.number rest more
    else differs answer.number (Some answer.text) (Some came)

-- the same of a line of a script and the lines that it printed
abbrev pub first_difference : ToldText → List (List ℕ) → Option DifferenceText
first_difference told printed = difference_below told.number told.answers printed

-- there is none exactly where the printed lines are the answers, in the same order and as many
abbrev pub NoneIfSame : Type 0
NoneIfSame = (told : ToldText) (printed : List (List ℕ)) → IsNone (first_difference told printed) ↔ (map (λ (a : AnswerText). a.text) told.answers ≡ printed)

-- what is told of a text that is not there
abbrev pub text_or_nothing : Option (List ℕ) → List ℕ
text_or_nothing text = unwrap_or text (codes "nothing")

-- how many bytes two texts begin with alike
abbrev pub common_front : List ℕ → List ℕ → ℕ
common_front (a ∷ as') (b ∷ bs) = if a == b then common_front as' bs + 1 else 0
common_front as' bs = 0

-- the column of its line where a difference begins; an answer follows two bytes
abbrev pub column_of : Option (List ℕ) → Option (List ℕ) → ℕ
column_of (Some wanted) (Some came) = 3 + common_front wanted came
column_of wanted came = 1
