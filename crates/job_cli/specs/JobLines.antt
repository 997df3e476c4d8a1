-- The text of how jobs ended.
use Rattle.std.specs.{Fmt.decimal, Prelude.{ℕ, ◌+◌, Bool, false, not, List, [], ◌∷◌, ◌++◌, codes, count_by, min}}
use Rattle.driver_threads.specs.{Values.JobEnd, declared.jobs.JobRefusal.JobRefusal}
use Rattle.entry_codec.specs.Status.{is_success}
use Rattle.entry_codec.specs.Status.{status_text}
use Rattle.io_commands.specs.{Requests.kind_name, declared.{draft.FillFault.TheVariants.WrongLength, request.Kind.Kind}}
use Rattle.script_cli.specs.Replies.{gathered_text, request_fault_name, fill_fault_name}
use Rattle.driver_threads.specs.declared.jobs.JobEnd.TheVariants as end
use Rattle.driver_threads.specs.declared.jobs.JobRefusal.TheVariants as refusal

abbrev pub too_few_text : ℕ → ℕ → List ℕ
too_few_text need pool = codes "refused NoPages need " ++ (decimal need ++ (codes " pool " ++ decimal pool))

abbrev pub job_refusal_text : JobRefusal → List ℕ
job_refusal_text refusal.NoQueue = codes "refused NoQueue"
job_refusal_text refusal.QueueGone = codes "refused QueueGone"
job_refusal_text (refusal.Bad why) = codes "refused Bad " ++ request_fault_name why
job_refusal_text refusal.OtherBlocks = codes "refused OtherBlocks"
job_refusal_text (refusal.NoPages need pool) = too_few_text need pool
job_refusal_text refusal.WrongLength = codes "refused " ++ fill_fault_name WrongLength

abbrev pub job_end_text : JobEnd → List ℕ
job_end_text (end.Done status bytes) = codes "status " ++ (status_text status ++ (codes " " ++ gathered_text bytes))
job_end_text (end.Refused why) = job_refusal_text why

-- the line of a job, with its line feed
abbrev pub job_text : ℕ → ℕ → Kind → JobEnd → List ℕ
job_text number seat kind what =
    decimal number ++ (codes " seat " ++ (decimal seat ++ (codes " " ++ (kind_name kind ++ (codes " " ++ (job_end_text what ++ (10 ∷ [])))))))

-- it was not refused, and its status is 0:00
abbrev pub is_well_end : JobEnd → Bool
is_well_end (end.Done status bytes) = is_success status
is_well_end (end.Refused why) = false

-- how many ends are not so
abbrev pub unwell_among : List JobEnd → ℕ
unwell_among ends = count_by (λ what. not (is_well_end what)) ends

-- this many and those of some submitters, as far as 64 bits count
abbrev pub unwell_from : ℕ → List (List JobEnd) → ℕ
unwell_from many [] = many
unwell_from many (ends ∷ rest) = unwell_from (min (many + unwell_among ends) 18446744073709551615) rest

abbrev pub unwell_in : List (List JobEnd) → ℕ
unwell_in ends = unwell_from 0 ends
