-- How a call has what a whole command came to: the bytes of a Read are at the start of its buffer, or are a list.
use Rattle.std.specs.Prelude.{◌≡◌, ⊤, ◌⊎◌, ◌++◌, ◌<◌, ◌≤◌, ℕ, Option, Some, None, Result, Ok, Err, List, [], drop, length, take}
use Rattle.io_commands.specs.Values.{FinishedContents}
use Rattle.nvmesgl_c.specs.{Answers.{nothing, collected}, Gathering.IsUngathered, MachineWhole.Outcome, declared.words.answer.Answer.Answer}
use Rattle.nvmesgl_c.specs.declared.machine.carrying.{Brought.{Brought, TheVariants.{Laid, Listed}}, Carried.{Carried, TheVariants.{Ended, NotReserved, GivenUp, Left}}}
use Rattle.nvmesgl_c.specs.MachineWhole as whole

-- the bytes, where the buffer is as it was left
abbrev pub brought_in : Brought → List ℕ → List ℕ
brought_in (Laid count) buffer = take count buffer
brought_in (Listed bytes) buffer = bytes

abbrev pub count_of : Brought → ℕ
count_of (Laid count) = count
count_of (Listed bytes) = length bytes

-- what was laid comes before what is left of the buffer; else nothing of it changed
abbrev pub IsLaid : Brought → List ℕ → List ℕ → Type 0
IsLaid (Laid count) old buffer = (count ≤ length old) × (count ≤ length buffer) × (buffer ≡ take count buffer ++ drop count old)
IsLaid (Listed bytes) old buffer = buffer ≡ old

-- there is a list only where what the command brought does not fit
abbrev pub IsListedFor : Option FinishedContents → ℕ → Brought → Type 0
IsListedFor finished room (Laid count) = ⊤
IsListedFor finished room (Listed bytes) = IsUngathered finished room

abbrev pub IsCarried : Carried → List ℕ → List ℕ → Type 0
IsCarried (Ended status hints brought) old buffer = IsLaid brought old buffer
IsCarried carried old buffer = buffer ≡ old

abbrev pub IsCarriedKept : Result Carried ℕ → List ℕ → List ℕ → Type 0
IsCarriedKept (Ok carried) old buffer = IsCarried carried old buffer
IsCarriedKept (Err code) old buffer = buffer ≡ old

-- how it turned out
abbrev pub outcome_of : Carried → List ℕ → Outcome
outcome_of (Ended status hints brought) buffer = whole.Ended status hints (brought_in brought buffer)
outcome_of (NotReserved why) buffer = whole.NotReserved why
outcome_of (GivenUp why) buffer = whole.GivenUp why
outcome_of (Left cid why) buffer = whole.Left cid why

abbrev pub outcome_kept : Result Carried ℕ → List ℕ → Result Outcome ℕ
outcome_kept (Ok carried) buffer = Ok (outcome_of carried buffer)
outcome_kept (Err code) buffer = Err code

-- what C is told of it

abbrev pub code_of_carried : Carried → ℕ
code_of_carried carried = whole.code_of_carried (outcome_of carried [])

abbrev pub told_carried : Carried → Answer
told_carried (Ended status hints brought) = record (collected status hints) { bytes = count_of brought }
told_carried carried = whole.told_carried (outcome_of carried [])

abbrev pub code_of : Result Carried ℕ → ℕ
code_of carried = whole.code_of (outcome_kept carried [])

abbrev pub told_of_kept : Result Carried ℕ → Answer
told_of_kept (Err code) = nothing
told_of_kept (Ok carried) = told_carried carried

-- the bytes that were not laid

abbrev pub listed_in : Result Carried ℕ → Option (List ℕ)
listed_in (Ok (Ended status hints (Listed bytes))) = Some bytes
listed_in carried = None

-- they are laid at the start of a buffer, where they fit, with the code of the command; what was laid before stays
abbrev pub LaysListed : Option (List ℕ) → ℕ → ℕ → List ℕ → List ℕ → Type 0
LaysListed (Some bytes) own code old new = ((length old < length bytes) × (code ≡ 5) × (new ≡ old)) ⊎ ((code ≡ own) × (new ≡ bytes ++ drop (length bytes) old))
LaysListed None own code old new = (code ≡ own) × (new ≡ old)

abbrev pub LaysOn : Result Carried ℕ → ℕ → List ℕ → List ℕ → Type 0
LaysOn carried code old new = LaysListed (listed_in carried) (code_of carried) code old new
