-- The text of what a step answered.
use Rattle.std.specs.{Fmt.{decimal, digit_glyph}, Prelude.{ℕ, ◌+◌, ◌/◌, ◌%◌, ◌==◌, Bool, true, false, List, [], ◌∷◌, ◌++◌, codes, if◌then◌else◌}}
use Rattle.controller_walk.specs.declared.walk.WalkState.{WalkState, TheVariants.{More, End, Fault}}
use Rattle.entry_codec.specs.Status.{is_success, status_text}
use Rattle.io_commands.specs.declared.{draft.FillFault.{FillFault, TheVariants.{NotASource, WrongLength}}, request.RequestFault.RequestFault}
use Rattle.io_commands.specs.declared.request.RequestFault.TheVariants.{TooManyPieces, EmptyPiece, CrossesPage, BadCount, LengthMismatch, HostsOwn}
use Rattle.machine_model.specs.declared.words.{Reaped.{Reaped, TheVariants.{Empty, Done, AdminDone, Rejected}}, Refusal.Refusal, RejectedFor.RejectedFor}
use Rattle.machine_model.specs.declared.words.RejectedFor.TheVariants.{WrongQueue, BadHead, UnknownId}
use Rattle.script_cli.specs.{Verbs.verb_text, declared.verb.Verb.Verb}
use Rattle.step_core.specs.Values.{Reply}
use Rattle.machine_model.specs.declared.words.Refusal.TheVariants as refusal
use Rattle.step_core.specs.declared.step.Reply.TheVariants as reply

-- Lists

abbrev pub more_pages : List ℕ → List ℕ
more_pages [] = []
more_pages (page ∷ pages) = codes "," ++ (decimal page ++ more_pages pages)

-- the numbers of the pages, joined by commas, or a dash for none
abbrev pub touched_text : List ℕ → List ℕ
touched_text [] = codes "-"
touched_text (page ∷ pages) = decimal page ++ more_pages pages

-- a run of one byte
abbrev pub run_text : ℕ → ℕ → List ℕ
run_text byte count = digit_glyph true (byte / 16) ∷ digit_glyph true (byte % 16) ∷ (codes "*" ++ decimal count)

-- the longest runs of a byte that came this often so far and of the bytes after it, joined by commas
abbrev pub runs_text : ℕ → ℕ → List ℕ → List ℕ
runs_text byte count [] = run_text byte count
runs_text byte count (next ∷ rest) =
    if next == byte then runs_text byte (count + 1) rest
    else run_text byte count ++ (codes "," ++ runs_text next 1 rest)

-- the longest runs of equal bytes, or a dash for no bytes
abbrev pub gathered_text : List ℕ → List ℕ
gathered_text [] = codes "-"
gathered_text (byte ∷ bytes) = runs_text byte 1 bytes

-- Refusals

abbrev pub request_fault_name : RequestFault → List ℕ
request_fault_name TooManyPieces = codes "TooManyPieces"
request_fault_name EmptyPiece = codes "EmptyPiece"
request_fault_name CrossesPage = codes "CrossesPage"
request_fault_name BadCount = codes "BadCount"
request_fault_name LengthMismatch = codes "LengthMismatch"
request_fault_name HostsOwn = codes "HostsOwn"

abbrev pub fill_fault_name : FillFault → List ℕ
fill_fault_name NotASource = codes "NotASource"
fill_fault_name WrongLength = codes "WrongLength"

abbrev pub refusal_name : Refusal → List ℕ
refusal_name refusal.NoQueue = codes "NoQueue"
refusal_name refusal.Deleting = codes "Deleting"
refusal_name (refusal.Bad why) = codes "Bad"
refusal_name refusal.OtherBlocks = codes "OtherBlocks"
refusal_name refusal.NoIdentifier = codes "NoIdentifier"
refusal_name (refusal.NoPages need free) = codes "NoPages"
refusal_name refusal.Memory = codes "Memory"
refusal_name refusal.Stranger = codes "Stranger"
refusal_name refusal.NotBuilt = codes "NotBuilt"
refusal_name refusal.QueueGone = codes "QueueGone"
refusal_name refusal.QueueFull = codes "QueueFull"
refusal_name refusal.NotYet = codes "NotYet"
refusal_name refusal.WrongState = codes "WrongState"
refusal_name refusal.NoSuchCommand = codes "NoSuchCommand"
refusal_name refusal.NotDeleted = codes "NotDeleted"
refusal_name refusal.NotDrained = codes "NotDrained"
refusal_name refusal.Outstanding = codes "Outstanding"
refusal_name (refusal.NoRun need) = codes "NoRun"
refusal_name refusal.NoSlot = codes "NoSlot"
refusal_name refusal.Idle = codes "Idle"
refusal_name refusal.SlotOut = codes "SlotOut"
refusal_name refusal.Full = codes "Full"
refusal_name refusal.NoJob = codes "NoJob"
refusal_name refusal.Nothing = codes "Nothing"
refusal_name refusal.Walking = codes "Walking"
refusal_name refusal.Waits = codes "Waits"

-- what follows the name of a refusal
abbrev pub refusal_detail : Refusal → List ℕ
refusal_detail (refusal.Bad why) = codes " " ++ request_fault_name why
refusal_detail (refusal.NoPages need free) = codes " need " ++ (decimal need ++ (codes " free " ++ decimal free))
refusal_detail (refusal.NoRun need) = codes " need " ++ decimal need
refusal_detail why = []

abbrev pub refusal_text : Refusal → List ℕ
refusal_text why = codes "refused " ++ (refusal_name why ++ refusal_detail why)

-- Answers

abbrev pub rejected_name : RejectedFor → List ℕ
rejected_name WrongQueue = codes "WrongQueue"
rejected_name BadHead = codes "BadHead"
rejected_name UnknownId = codes "UnknownId"

abbrev pub reaped_text : Reaped → List ℕ
reaped_text Empty = codes "empty"
reaped_text (Done cid status) = codes "done cid " ++ (decimal cid ++ (codes " status " ++ status_text status))
reaped_text (AdminDone cid status dw0) = codes "admin cid " ++ (decimal cid ++ (codes " status " ++ (status_text status ++ (codes " dw0 " ++ decimal dw0))))
reaped_text (Rejected why) = codes "rejected " ++ rejected_name why

abbrev pub walk_text : WalkState → List ℕ
walk_text More = codes "more"
walk_text End = codes "end"
walk_text (Fault status) = codes "fault " ++ status_text status

abbrev pub reserved_text : ℕ → ℕ → ℕ → ℕ → List ℕ
reserved_text q cid pages chain = codes "q " ++ (decimal q ++ (codes " cid " ++ (decimal cid ++ (codes " data " ++ (decimal pages ++ (codes " chain " ++ decimal chain))))))

abbrev pub answer_text : Reply → List ℕ
answer_text (reply.Reserved q cid pages chain) = reserved_text q cid pages chain
answer_text reply.Accepted = codes "ok"
answer_text (reply.Fetched cid touched) = codes "cid " ++ (decimal cid ++ (codes " touched " ++ touched_text touched))
answer_text (reply.Walked state touched) = walk_text state ++ (codes " touched " ++ touched_text touched)
answer_text (reply.Completed touched) = codes "ok touched " ++ touched_text touched
answer_text (reply.Reaps what) = reaped_text what
answer_text (reply.Collected status hints) = codes "status " ++ status_text status
answer_text (reply.Gathered bytes) = gathered_text bytes
answer_text (reply.Sent cid) = codes "cid " ++ decimal cid
answer_text reply.NoValue = codes "refused NoValue"
answer_text (reply.NotFilled why) = codes "refused " ++ fill_fault_name why
answer_text (reply.Refused why touched) = refusal_text why

-- the line of a step, with its line feed
abbrev pub reply_line : ℕ → Verb → Reply → List ℕ
reply_line number verb what = decimal number ++ (codes " " ++ (verb_text verb ++ (codes " " ++ (answer_text what ++ (10 ∷ [])))))

-- Which answers are well

-- no completion was rejected, and none has another status
abbrev pub is_well_reaped : Reaped → Bool
is_well_reaped Empty = true
is_well_reaped (Done cid status) = is_success status
is_well_reaped (AdminDone cid status dw0) = is_success status
is_well_reaped (Rejected why) = false

abbrev pub is_well_walk : WalkState → Bool
is_well_walk More = true
is_well_walk End = true
is_well_walk (Fault status) = is_success status

-- nothing was refused, and no status is another than 0:00
abbrev pub is_well : Reply → Bool
is_well (reply.Reserved q cid pages chain) = true
is_well reply.Accepted = true
is_well (reply.Fetched cid touched) = true
is_well (reply.Walked state touched) = is_well_walk state
is_well (reply.Completed touched) = true
is_well (reply.Reaps what) = is_well_reaped what
is_well (reply.Collected status hints) = is_success status
is_well (reply.Gathered bytes) = true
is_well (reply.Sent cid) = true
is_well reply.NoValue = false
is_well (reply.NotFilled why) = false
is_well (reply.Refused why touched) = false
