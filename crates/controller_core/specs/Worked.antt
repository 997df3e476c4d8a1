-- A controller for worked runs: an admin queue in the pages 0 and 1, an I/O queue in the pages 2 and 3, four entries in each ring, over an
-- image of one block of bytes 11h. The first slot of the I/O queue has the entry of a Read of that block to the page at 4000h.
use Rattle.std.specs.Prelude.{ℕ, ◌∷◌, ◌++◌, [], List, Option, Some, None, true, replicate, slice_range}
use Rattle.admin_commands.specs.{Entries.admin_entry, declared.{AdminKind.TheVariants.{Abort, CreateCq, CreateSq}, SqState.TheVariants.Live}}
use Rattle.controller_walk.specs.{Worked.eight_pages, declared.progress.State.{State, TheVariants.{First, Data, Over}}}
use Rattle.entry_codec.specs.{Completion.completion_bytes, Worked.{first_sgl1, first_read, first_read_bytes, first_completion}, declared.status.Status.Status}
use Rattle.entry_codec.specs.declared.{status.TheConstants.Status.SUCCESS, submission.SubEntry.SubEntry}
use Rattle.io_commands.specs.Jobs.{JobContents}
use Rattle.page_memory.specs.Memory.{Memory, written}
use Rattle.queue_pair.specs.Rings.{fresh_controller_ring}
use Rattle.sgl_descriptor.specs.declared.Direction.TheVariants.{Destination}
use Rattle.controller_core.specs.{Posting.completion_by, Completing.{completed, without_submission}, Contents.{Contents, change}, Doorbells.tail_rung}
use Rattle.controller_core.specs.{Fetching.begun, Managing.{command_of, managed, without_completion}, Opening.opened, Resetting.reset}
use Rattle.controller_core.specs.declared.{command.FetchedWork.TheVariants.Io, queue.{ControllerQueue.ControllerQueue, QueuePages.QueuePages}}

abbrev pub block : List ℕ
block = replicate 512 0x11

abbrev pub admin_pages : QueuePages
admin_pages = record { sq = 0; cq = 1 }

abbrev pub io_pages : QueuePages
io_pages = record { sq = 2; cq = 3 }

abbrev pub fresh : Contents
fresh = opened 4 (admin_pages ∷ io_pages ∷ []) block

abbrev pub rung : Contents
rung = tail_rung 1 1 fresh

abbrev pub memory_with_entry : Memory
memory_with_entry = written eight_pages 0x2000 first_read_bytes

-- the Read, whose walk meets this next with this many bytes wanted
abbrev pub read_at : State → ℕ → Option Status → JobContents
read_at state wanted verdict =
    record {
      blocks = 1;
      entry = first_read;
      bytes = block;
      walk = Some (record { direction = Destination; need = 512; wanted = wanted; allowed = 4095; state = state });
      verdict = verdict;
    }

abbrev pub read_begun : JobContents
read_begun = read_at (First first_sgl1) 512 None

abbrev pub read_halfway : JobContents
read_halfway = read_at (Data (record { place = 0x4000; len = 512; offset = 0; descriptor = None }) None) 0 None

abbrev pub read_walked : JobContents
read_walked = read_at (Over None) 0 (Some SUCCESS)

abbrev pub with_read_begun : Contents
with_read_begun = begun 1 read_begun rung

abbrev pub with_read_halfway : Contents
with_read_halfway = record with_read_begun { commands = record (command_of 1 (Io read_halfway)) { units_done = 1 } ∷ [] }

abbrev pub with_read_walked : Contents
with_read_walked = record with_read_begun { commands = record (command_of 1 (Io read_walked)) { units_done = 2 } ∷ [] }

abbrev pub memory_with_data : Memory
memory_with_data = written memory_with_entry 0x4000 block

abbrev pub with_read_completed : Contents
with_read_completed = completed 1 0 (Io read_walked) with_read_walked

abbrev pub memory_with_completion : Memory
memory_with_completion = written memory_with_data 0x3000 (completion_bytes first_completion)

-- an entry of queue 0 with an opcode that no admin command has
abbrev pub wrong_opcode : SubEntry
wrong_opcode = record first_read { opcode = 0x77 }

-- the halfword of status and phase in the first completion of a queue, for a command that ends so
abbrev pub status_bytes : Status → List ℕ
status_bytes st = slice_range (completion_bytes (completion_by 1 0 st 0 (record { q = 1; entries = 4; sq = 2; cq = 3; ring = fresh_controller_ring }))) 14 16

-- the entries that make the I/O queue again, once it is deleted: its completion queue at 6000h, and its submission queue at 5000h
abbrev pub create_cq : SubEntry
create_cq = admin_entry (CreateCq 1 4 0x6000 None) 0

abbrev pub create_sq : SubEntry
create_sq = admin_entry (CreateSq 1 4 0x5000) 1

abbrev pub create_cq_bytes : List ℕ
create_cq_bytes =
    0x05 ∷ 0x00 ∷ 0x00 ∷ 0x00 ∷ []
    ++ replicate 21 0x00
    ++ 0x60 ∷ []
    ++ replicate 14 0x00
    ++ 0x01 ∷ 0x00 ∷ 0x03 ∷ 0x00 ∷ []
    ++ 0x01 ∷ 0x00 ∷ 0x00 ∷ 0x00 ∷ []
    ++ replicate 16 0x00

abbrev pub create_sq_bytes : List ℕ
create_sq_bytes =
    0x01 ∷ 0x00 ∷ 0x01 ∷ 0x00 ∷ []
    ++ replicate 21 0x00
    ++ 0x50 ∷ []
    ++ replicate 14 0x00
    ++ 0x01 ∷ 0x00 ∷ 0x03 ∷ 0x00 ∷ []
    ++ 0x01 ∷ 0x00 ∷ 0x01 ∷ 0x00 ∷ []
    ++ replicate 16 0x00

-- both in the slots of queue 0, at a controller that has neither half of the I/O queue
abbrev pub memory_with_creations : Memory
memory_with_creations = written (written eight_pages 0x0000 create_cq_bytes) 0x0040 create_sq_bytes

abbrev pub without_queue : Contents
without_queue = tail_rung 0 2 (record fresh { queues = change 1 without_completion (change 1 without_submission fresh.queues) })

abbrev pub with_completion_made : Contents
with_completion_made = managed 8 create_cq without_queue

abbrev pub with_queue_made : Contents
with_queue_made = managed 8 create_sq with_completion_made

abbrev pub made_queue : ControllerQueue
made_queue = record { state = Live; cq_there = true; controller = record { q = 1; entries = 4; sq = 5; cq = 6; ring = fresh_controller_ring } }

-- The Read in the midst of its walk, and an Abort that stopped it. A reset ends both. Then the tail of queue 0 is rung after the two
-- creations.
abbrev pub with_abort : Contents
with_abort = managed 8 (admin_entry (Abort 1 0) 0) (tail_rung 0 1 with_read_halfway)

abbrev pub with_reset : Contents
with_reset = reset with_abort

abbrev pub with_reset_rung : Contents
with_reset_rung = tail_rung 0 2 with_reset
