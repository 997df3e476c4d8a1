-- What a controller does with an admin entry at its fetch.
use Rattle.std.specs.Option.{option_map_or}
use Rattle.std.specs.Prelude.{ℕ, ◌+◌, ◌/◌, ◌%◌, ◌==◌, nat_lt, nat_le, Bool, true, false, ◌&&◌, ◌||◌, not, Option, Some, None, if◌then◌else◌}
use Rattle.entry_codec.specs.declared.{admin_opcode.TheConstants.{ABORT, DELETE_IO_SQ, DELETE_IO_CQ, CREATE_IO_CQ}, status.Status.Status}
use Rattle.entry_codec.specs.declared.status.TheConstants.Status.{SUCCESS, INVALID_OPCODE, INVALID_FIELD, INVALID_QUEUE_IDENTIFIER, INVALID_QUEUE_SIZE, INVALID_QUEUE_DELETION, COMPLETION_QUEUE_INVALID}
use Rattle.entry_codec.specs.declared.submission.SubEntry.{SubEntry}
use Rattle.page_memory.specs.declared.page.Half.{Half, TheVariants.{Submission, Completion}}
use Rattle.queue_pair.specs.Memory.{half_pages}
use Rattle.admin_commands.specs.Entries.{named_queue, named_command, named_size, named_completion_queue, named_base, is_contiguous, is_opcode}
use Rattle.admin_commands.specs.declared.AdminVerdict.{AdminVerdict, TheVariants.{Answer, AbortJob, StopQueue, DropCompletion, MakeCompletion, MakeSubmission}}
use Rattle.admin_commands.specs.declared.{DeviceView.DeviceView, SqState.{SqState, TheVariants.{Absent, Live, Stopping}}}

abbrev pub is_live : SqState → Bool
is_live Absent = false
is_live Live = true
is_live Stopping = false

abbrev pub is_absent : SqState → Bool
is_absent Absent = true
is_absent Live = false
is_absent Stopping = false

-- An Abort stops an I/O job that has no verdict. Queue 0 has no such job. Otherwise it is answered at once: not aborted.
abbrev pub abort_verdict : ℕ → ℕ → DeviceView → AdminVerdict
abort_verdict q cid view = if view.target_walks && not (q == 0) then AbortJob q cid else Answer SUCCESS 1

-- A live I/O submission queue is stopped. One that is 0, is not there, or is being stopped is no queue to delete.
abbrev pub delete_sq_verdict : ℕ → DeviceView → AdminVerdict
delete_sq_verdict q view = if (q == 0) || not (is_live view.sq) then Answer INVALID_QUEUE_IDENTIFIER 0 else StopQueue q

-- A completion queue goes where its submission queue is gone.
abbrev pub delete_cq_verdict : ℕ → DeviceView → AdminVerdict
delete_cq_verdict q view =
    if (q == 0) || not view.cq_there then Answer INVALID_QUEUE_IDENTIFIER 0
    else if not (is_absent view.sq) then Answer INVALID_QUEUE_DELETION 0
    else DropCompletion q

-- whether a number is that of an I/O queue of the controller
abbrev pub is_io_queue : ℕ → DeviceView → Bool
is_io_queue q view = nat_lt 0 q && nat_le q view.queues

-- What is wrong with the half that a creation asks for: its size, which has to be that of every ring, and then its pages. They are
-- consecutive, begin with the base address, and lie in the pool.
abbrev pub half_fault : Half → SubEntry → DeviceView → Option Status
half_fault half entry view =
    if not (named_size entry == view.entries) then Some INVALID_QUEUE_SIZE
    else if not (is_contiguous entry) then Some INVALID_FIELD
    else if not (named_base entry % 4096 == 0) then Some INVALID_FIELD
    else if nat_lt view.pages (named_base entry / 4096 + half_pages view.entries half) then Some INVALID_FIELD
    else None

-- A completion queue is made where there is none of its number.
abbrev pub create_cq_verdict : SubEntry → DeviceView → AdminVerdict
create_cq_verdict entry view =
    if not (is_io_queue (named_queue entry) view) || view.cq_there then Answer INVALID_QUEUE_IDENTIFIER 0
    else option_map_or (λ fault. Answer fault 0) (half_fault Completion entry view) (MakeCompletion (named_queue entry) (named_base entry))

-- A submission queue is made where there is none of its number in any state, and the completion queue of its number is there.
abbrev pub create_sq_verdict : SubEntry → DeviceView → AdminVerdict
create_sq_verdict entry view =
    if not (is_io_queue (named_queue entry) view) || not (is_absent view.sq) then Answer INVALID_QUEUE_IDENTIFIER 0
    else if not (is_io_queue (named_completion_queue entry) view) then Answer INVALID_QUEUE_IDENTIFIER 0
    else if not view.cq_there || not (named_completion_queue entry == named_queue entry) then Answer COMPLETION_QUEUE_INVALID 0
    else option_map_or (λ fault. Answer fault 0) (half_fault Submission entry view) (MakeSubmission (named_queue entry) (named_base entry))

-- The checks of an admin entry's fields, opcode before FUSE, and then the rule of its command.
abbrev pub decision : SubEntry → DeviceView → AdminVerdict
decision entry view =
    if not (is_opcode entry.opcode) then Answer INVALID_OPCODE 0
    else if not (entry.fuse == 0) then Answer INVALID_FIELD 0
    else if entry.opcode == ABORT then abort_verdict (named_queue entry) (named_command entry) view
    else if entry.opcode == DELETE_IO_SQ then delete_sq_verdict (named_queue entry) view
    else if entry.opcode == DELETE_IO_CQ then delete_cq_verdict (named_queue entry) view
    else if entry.opcode == CREATE_IO_CQ then create_cq_verdict entry view
    else create_sq_verdict entry view
