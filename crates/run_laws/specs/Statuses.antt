-- The statuses that completions give, each with its cause, told by the steps before.
use Rattle.std.specs.{List.list_any, Option.{option_map, option_map_or}}
use Rattle.std.specs.Prelude.{◌≡◌, ℕ, ◌+◌, ◌==◌, nat_lt, Bool, false, not, ◌&&◌, ◌||◌, is_none, IsTrue, Option, Some, None, List, [], ◌∷◌, ◌++◌, if◌then◌else◌}
use Rattle.admin_commands.specs.Entries.{named_queue, named_command}
use Rattle.entry_codec.specs.{Status.is_success, declared.{admin_opcode.TheConstants.{ABORT, DELETE_IO_SQ}, io_opcode.TheConstants.COMPARE, status.Status.Status}}
use Rattle.entry_codec.specs.declared.status.TheConstants.Status.{ABORT_REQUESTED, ABORTED_SQ_DELETION, INVALID_OPCODE, INVALID_NAMESPACE, LBA_OUT_OF_RANGE, COMPARE_FAILURE}
use Rattle.entry_codec.specs.declared.submission.SubEntry.{SubEntry}
use Rattle.machine_model.specs.{After.{final_status, walks, image_blocks}, Events.{Event, Reply}, Image.Made, Refusals.{job_at, next_rung}, State.{State, Job}}
use Rattle.machine_model.specs.{Status.same_status, Trusted.TrustedRun}
use Rattle.io_commands.specs.Jobs.{first_block, block_number, kind_of_opcode}
use Rattle.machine_model.specs.Events as events

-- What a step is

abbrev pub status_by : State → Event → Reply → ℕ → ℕ → Option Status
status_by s (events.Complete q' cid') (events.Completed touched) q cid =
    if (q' == q) && (cid' == cid) then option_map (final_status s) (job_at s q cid) else None
status_by s e reply q cid = None

-- the status that this step gives a command, if it completes it
abbrev pub status_given : Made → ℕ → ℕ → Option Status
status_given m q cid = status_by m.before m.event m.reply q cid

abbrev pub fetches_by : ℕ → ℕ → Event → Reply → Bool
fetches_by q cid (events.Fetch q') (events.Fetched cid' touched) = (q' == q) && (cid' == cid)
fetches_by q cid e reply = false

abbrev pub fetches : ℕ → ℕ → Made → Bool
fetches q cid m = fetches_by q cid m.event m.reply

abbrev pub managed_entry : State → Event → Reply → Option SubEntry
managed_entry s (events.Fetch q) (events.Fetched cid touched) = if q == 0 then next_rung s 0 else None
managed_entry s e reply = None

-- the fetch of an Abort of this command while it was a job without a verdict
abbrev pub aborts : ℕ → ℕ → Made → Bool
aborts q cid m =
    option_map_or (λ e. (e.opcode == ABORT) && (named_queue e == q) && (named_command e == cid) && walks m.before q cid)
    (managed_entry m.before m.event m.reply) false

abbrev pub deletes : ℕ → Made → Bool
deletes q m = option_map_or (λ e. (e.opcode == DELETE_IO_SQ) && (named_queue e == q)) (managed_entry m.before m.event m.reply) false

abbrev pub job_test : (Job → Bool) → Made → ℕ → ℕ → Bool
job_test test m q cid = option_map_or test (job_at m.before q cid) false

-- the controller has only Reads, Writes and Compares
abbrev pub is_unknown : Made → ℕ → ℕ → Bool
is_unknown m q cid = job_test (λ j. is_none (kind_of_opcode j.entry.opcode)) m q cid

-- and only namespace 1
abbrev pub misses_namespace : Made → ℕ → ℕ → Bool
misses_namespace m q cid = job_test (λ j. not (j.entry.nsid == 1)) m q cid

abbrev pub passes_image : Made → ℕ → ℕ → Bool
passes_image m q cid = job_test (λ j. nat_lt (image_blocks m.before) (first_block j.entry + block_number j.entry)) m q cid

abbrev pub is_compare : Made → ℕ → ℕ → Bool
is_compare m q cid = job_test (λ j. j.entry.opcode == COMPARE) m q cid

-- The seven statuses, each with its cause; `earlier` are the steps before, and the command's fetch is the last one of its identifier
abbrev pub since_fetch : ℕ → ℕ → List Made → List Made
since_fetch q cid [] = []
since_fetch q cid (m ∷ made) = if list_any (fetches q cid) made then since_fetch q cid made else if fetches q cid m then made else since_fetch q cid made

abbrev pub has_cause : List Made → Made → ℕ → ℕ → Status → Bool
has_cause earlier m q cid st =
    is_success st
    || (same_status st ABORT_REQUESTED && list_any (aborts q cid) (since_fetch q cid earlier))
    || (same_status st ABORTED_SQ_DELETION && list_any (deletes q) (since_fetch q cid earlier))
    || (same_status st INVALID_OPCODE && is_unknown m q cid)
    || (same_status st INVALID_NAMESPACE && misses_namespace m q cid)
    || (same_status st LBA_OUT_OF_RANGE && passes_image m q cid)
    || (same_status st COMPARE_FAILURE && is_compare m q cid)

abbrev pub every_status_has_its_cause : Type 0
every_status_has_its_cause =
    (image : List ℕ) (earlier later : List Made) (m : Made) (end : State) (q cid : ℕ) (st : Status) → TrustedRun image (earlier ++ m ∷ later) end
    → IsTrue (nat_lt 0 q) → status_given m q cid ≡ Some st → IsTrue (has_cause earlier m q cid st)
