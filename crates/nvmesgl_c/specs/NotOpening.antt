-- Why a handle is not opened, and what C is told of it.
use Rattle.std.specs.{List.list_any, Prelude.{◌==◌, ℕ, Option, Some, None, List, if◌then◌else◌}}
use Rattle.nvmesgl_c.specs.{Answers.nothing, Codes.code_of_open_refusal, Requests.is_set}
use Rattle.nvmesgl_c.specs.declared.words.{answer.Answer.Answer, not_opened.NotOpened.NotOpened}
use Rattle.nvmesgl_c.specs.Answers as words
use Rattle.nvmesgl_c.specs.declared.words.not_opened.NotOpened.TheVariants as not_opened

-- what is wrong with the form of options: the size of their kind, their own, and their reserved words
abbrev pub fault_of_form : ℕ → ℕ → List ℕ → Option NotOpened
fault_of_form own size reserved =
    if size == own
    then (if list_any is_set reserved then Some not_opened.BadOption else None)
    else Some not_opened.BadSize

abbrev pub code_of_not_opened : NotOpened → ℕ
code_of_not_opened not_opened.BadSize = 7
code_of_not_opened not_opened.BadOption = 8
code_of_not_opened not_opened.BadImage = 9
code_of_not_opened not_opened.Memory = 15
code_of_not_opened (not_opened.Refused why) = code_of_open_refusal why

abbrev pub told_not_opened : NotOpened → Answer
told_not_opened (not_opened.Refused why) = words.not_opened why
told_not_opened why = nothing
