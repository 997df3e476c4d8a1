-- The host reaps a completion.
use Rattle.std.specs.{Option.option_map_or, Prelude.{◌≡◌, ℕ, ◌<◌, ◌&&◌, Bool, true, false, Option, Some, None, List, find, slice_get, if◌then◌else◌, not}}
use Rattle.admin_commands.specs.declared.AdminKind.{AdminKind, TheVariants.{Abort, DeleteSq, DeleteCq, CreateCq, CreateSq}}
use Rattle.entry_codec.specs.{Status.is_success, declared.{completion.ComEntry.ComEntry, hints.Hints.Hints, status.Status.Status}}
use Rattle.machine_model.specs.{After.{change, held}, Refusals.{has_cq_alone, is_reaped, seen_entry}, State.{Record, is_at, with_record, without_record}}
use Rattle.machine_model.specs.{Step.Step, Work.Work, declared.words.HostState.{HostState, TheVariants.{Live, Deleting, Gone, HalfMade}}}
use Rattle.machine_model.specs.declared.words.{Phase.TheVariants.Submitted, Reaped.Reaped, Work.TheVariants.{Io, Management}}
use Rattle.page_ledger.specs.Owners.{given_back, is_half}
use Rattle.page_memory.specs.declared.page.Half.TheVariants.{Submission, Completion}
use Rattle.queue_pair.specs.{Memory.completion_place, Rings.{knowing, next_head}, Slots.is_in_range}
use Rattle.host_core.specs.{Commands.{passes, state_at, without_claim}, Rows.Queue, Tables.{Tables, state_of}, Whole.IsWhole}
use Rattle.machine_model.specs.Events as events

-- no queue of a number has completions that are reaped
abbrev pub lacks_completion : Option Queue → Bool
lacks_completion o = not (option_map_or (λ queue. is_reaped queue.state) o false)

-- the address of a completion slot of a queue whose completions are reaped
pub record IsCompletionSlot (t : Tables) (q slot place : ℕ) : Type 0 where
  pub queue : Queue
  pub at : slice_get t.queues q ≡ Some queue
  pub live : is_reaped queue.state ≡ true
  pub below : slot < t.entries
  pub there : place ≡ completion_place queue.host.cq slot

-- a queue whose completion at the head was taken
abbrev pub with_completion_taken : Queue → Queue
with_completion_taken queue = record queue { host = record queue.host { ring = next_head queue.host.entries queue.host.ring } }

abbrev pub with_head_known : ℕ → Queue → Queue
with_head_known sqhd queue = record queue { host = record queue.host { ring = knowing sqhd queue.host.ring } }

-- the tables once a completion was consumed
abbrev pub consumed : ℕ → Tables → Tables
consumed q t = record t { queues = change q with_completion_taken t.queues }

-- a queue from which a completion that tells the controller's submission head was taken
abbrev pub with_completion_heard : ℕ → Queue → Queue
with_completion_heard sqhd queue = with_head_known sqhd (with_completion_taken queue)

-- the tables once a completion that tells the controller's submission head was taken
abbrev pub heard : ℕ → ℕ → Tables → Tables
heard q sqhd t = record t { queues = change q (with_completion_heard sqhd) t.queues }

-- and once how a command of the caller's ended, and what was hinted at, is held
abbrev pub ended_with : ℕ → ℕ → ℕ → Status → Hints → Tables → Tables
ended_with q sqhd cid status hints t = record (heard q sqhd t) { records = with_record q cid (held status hints) t.records }

-- and once one of the host's own is over
abbrev pub over : ℕ → ℕ → ℕ → Tables → Tables
over q sqhd cid t = record t { queues = change q (without_claim cid) (heard q sqhd t).queues; records = without_record q cid t.records }

abbrev pub with_state : HostState → Queue → Queue
with_state state queue = record queue { state = state }

-- what the host knows of a queue once the deletion of its submission side has ended
abbrev pub state_deleted : Status → HostState
state_deleted status = if is_success status then Deleting true else Live

-- a queue's completion half is given back, and the queue is gone then
abbrev pub without_completion : ℕ → Tables → Tables
without_completion q t = record t { owners = given_back (is_half q Completion) t.owners; queues = change q (with_state Gone) t.queues }

-- whether the end of the deletion of a completion queue gives the half back
abbrev pub gives_back : ℕ → Status → Tables → Bool
gives_back q status t = is_success status && passes has_cq_alone (state_at t.queues q)

-- a queue's submission half is given back, and the queue is in this state then
abbrev pub without_submission : HostState → ℕ → Tables → Tables
without_submission state q t = record t { owners = given_back (is_half q Submission) t.owners; queues = change q (with_state state) t.queues }

-- what the end of one of the host's own means for the queue that it names
abbrev pub meant : AdminKind → Status → Tables → Tables
meant (Abort q cid) status t = t
meant (DeleteSq q) status t = record t { queues = change q (with_state (state_deleted status)) t.queues }
meant (DeleteCq q) status t = if gives_back q status t then without_completion q t else t
meant (CreateCq q n base vector) status t = if is_success status then record t { queues = change q (with_state HalfMade) t.queues } else without_completion q t
meant (CreateSq q n base) status t = if is_success status then record t { queues = change q (with_state Live) t.queues } else without_submission HalfMade q t

-- the command that the host sent itself, if it is one
abbrev pub kind_of : Work → Option AdminKind
kind_of (Io request) = None
kind_of (Management kind) = Some kind

-- the completion that the host sees at a queue's head
abbrev pub seen_at : Tables → ℕ → Option ComEntry
seen_at t q = seen_entry (state_of t) q

-- what a reap finds, and leaves
pub record ReapsTo (t : Tables) (q : ℕ) (what : Reaped) (new : Tables) : Type 0 where
  pub step : Step (state_of t) (events.Reap q) (events.Reaps what) (state_of new)
  pub whole : IsWhole new

-- A queue's head pointer may be this one.
abbrev pub FitsHead : List Queue → ℕ → ℕ → Type 0
FitsHead queues q sqhd =
    (queue : Queue) → slice_get queues q ≡ Some queue → is_in_range queue.host.entries queue.host.ring.known_head queue.host.ring.tail sqhd ≡ true

-- The submitted command that a completion is for, and which one of the host's own that is, if it is one. The completion names this queue, and
-- a head that fits.
pub record Answered (t : Tables) (q : ℕ) (e : ComEntry) (kind : Option AdminKind) : Type 0 where
  pub entry : Record
  pub was : find (is_at q e.cid) t.records ≡ Some entry
  pub submitted : entry.phase ≡ Submitted
  pub means : kind_of entry.work ≡ kind
  pub sqid : e.sqid ≡ q
  pub head : FitsHead t.queues q e.sqhd
