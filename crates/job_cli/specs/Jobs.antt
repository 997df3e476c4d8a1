-- What a script of jobs is, or its first fault. Its lines and words are cut, and stand for values, as those of a script of steps.
use Rattle.std.specs.{Prelude.{ℕ, ◌^◌, ◌+◌, ◌≡◌, ◌&&◌, not, nat_lt, Option, Some, None, Result, Ok, Err, List, [], ◌∷◌, ◌++◌, length, codes, if◌then◌else◌}, Str.bytes_eq}
use Rattle.io_commands.specs.{Asked.Request, Requests.{brings_data, has_list}, declared.request.{Kind.Kind, Piece.Piece}}
use Rattle.script_cli.specs.{Grammar.{Words, ◌>>=◌, number_word, kind_word, hex_word, request_of, request_words, begins_comment, words_of}, Lines.lines}
use Rattle.script_cli.specs.declared.fault.{LineFault.{LineFault, TheVariants.{UnknownVerb, TooManyLines}}, ScriptFault.ScriptFault}
use Rattle.job_cli.specs.declared.jobs.{JobHead.JobHead, JobLine.JobLine}
use Rattle.script_cli.specs.declared.fault.ScriptFault.TheVariants as fault

-- Lines

abbrev pub head : ℕ → ℕ → Kind → ℕ → ℕ → JobHead
head submitter q kind slba blocks = record { submitter = submitter; q = q; kind = kind; slba = slba; blocks = blocks }

-- what is before the bytes and the pieces of a job
unfoldable pub head_words : ℕ → Words → Result (JobHead × Words) LineFault
head_words submitters ws = do
  submitter ← number_word submitters ws
  q ← number_word (2 ^ 16) submitter.1
  kind ← kind_word q.1
  slba ← number_word (2 ^ 64) kind.1
  blocks ← number_word (2 ^ 32) slba.1
  Ok (head submitter.0 q.0 kind.0 slba.0 blocks.0, blocks.1)

-- the bytes of a command with a list that brings none; another has no bytes
unfoldable pub data_words : Kind → Words → Result (List ℕ × Words) LineFault
data_words kind ws = if has_list kind && not (brings_data kind) then hex_word ws else Ok ([], ws)

abbrev pub job_of : ℕ → JobHead → Request → List ℕ → JobLine
job_of number head request bytes = record { number = number; submitter = head.submitter; job = record { q = head.q; request = request; bytes = bytes } }

-- the job of a request of namespace 1, without flags
abbrev pub job : ℕ → JobHead → List Piece → List ℕ → JobLine
job number head pieces bytes = job_of number head (request_of head.kind head.slba head.blocks pieces) bytes

-- what follows `job` in the line of this number, where there are this many submitters
unfoldable pub job_words : ℕ → ℕ → Words → Result JobLine LineFault
job_words submitters number ws = do
  head ← head_words submitters ws
  bytes ← data_words head.0.kind head.1
  request ← request_words head.0.kind head.0.slba head.0.blocks bytes.1
  Ok (job_of number head.0 request bytes.0)

abbrev pub some_job : Result JobLine LineFault → Result (Option JobLine) LineFault
some_job (Ok found) = Ok (Some found)
some_job (Err why) = Err why

-- the job of a line, by its words; a line without words and a comment have none
abbrev pub job_of_words : ℕ → ℕ → Words → Result (Option JobLine) LineFault
job_of_words submitters number [] = Ok None
job_of_words submitters number (first ∷ rest) =
    if begins_comment first then Ok None
    else if bytes_eq first (codes "job") then some_job (job_words submitters number rest)
    else Err UnknownVerb

abbrev pub job_of_line : ℕ → ℕ → List ℕ → Result (Option JobLine) LineFault
job_of_line submitters number bytes = words_of bytes >>= job_of_words submitters number

-- Scripts

abbrev pub at_line : {A : Type 0} → ℕ → Result A LineFault → Result A ScriptFault
at_line number (Ok value) = Ok value
at_line number (Err why) = Err (fault.Line number why)

-- the job of the line of this number
abbrev pub numbered_job : ℕ → ℕ → List ℕ → Result (Option JobLine) ScriptFault
numbered_job submitters number bytes =
    if nat_lt 65536 number then Err (fault.Line number TooManyLines) else at_line number (job_of_line submitters number bytes)

-- the jobs so far and one more, if there is one
abbrev pub with_job : List JobLine → Option JobLine → List JobLine
with_job so_far None = so_far
with_job so_far (Some next) = so_far ++ (next ∷ [])

abbrev pub then_jobs : List JobLine → (List JobLine → Result (List JobLine) ScriptFault) → Result (Option JobLine) ScriptFault → Result (List JobLine) ScriptFault
then_jobs so_far rest (Ok what) = rest (with_job so_far what)
then_jobs so_far rest (Err why) = Err why

-- the jobs of lines, from those so far, where the first of the lines left has this number
abbrev pub jobs_from : ℕ → List JobLine → ℕ → List (List ℕ) → Result (List JobLine) ScriptFault
jobs_from submitters so_far number [] = Ok so_far
jobs_from submitters so_far number (bytes ∷ rest) =
    then_jobs so_far (λ more. jobs_from submitters more (number + 1) rest) (numbered_job submitters number bytes)

abbrev pub jobs_in : ℕ → List ℕ → Result (List JobLine) ScriptFault
jobs_in submitters text = jobs_from submitters [] 1 (lines text)

-- the jobs of a script, or its first fault
abbrev pub jobs_of : ℕ → List ℕ → Result (List JobLine) ScriptFault
jobs_of submitters text = if nat_lt 1048576 (length text) then Err fault.TooLong else jobs_in submitters text

-- what a reading may give of what a text means: just that, or that memory was refused
abbrev pub IsReadAs : {A : Type 0} → Result A ScriptFault → Result A ScriptFault → Type 0
IsReadAs meant (Ok value) = meant ≡ Ok value
IsReadAs meant (Err fault.TooLong) = meant ≡ Err fault.TooLong
IsReadAs meant (Err (fault.Line number why)) = meant ≡ Err (fault.Line number why)
IsReadAs meant (Err fault.Memory) = Unit {0}
