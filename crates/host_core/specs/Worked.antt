-- A host for worked runs: an admin queue in the pages 0 and 1, an I/O queue in the pages 2 and 3, four entries in each ring. A Read of one
-- block into page 4 was submitted to the I/O queue as its first entry, and waits for its completion.
use Rattle.std.specs.Prelude.{[], ◌∷◌, None, Some, replicate, true}
use Rattle.entry_codec.specs.{Completion.completion_bytes, declared.{completion.ComEntry.ComEntry, status.TheConstants.Status.SUCCESS}}
use Rattle.entry_codec.specs.declared.hints.TheConstants.Hints.{NONE as no_hints}
use Rattle.io_commands.specs.{Asked.Request, declared.request.{Kind.TheVariants.Read, Piece.TheVariants.Data, TheConstants.Flags.NONE}}
use Rattle.io_commands.specs.declared.block_size.BlockSize.TheVariants.{Bytes512}
use Rattle.machine_model.specs.{State.{HostQueue, Record}, declared.words.{Peer.TheVariants.Device, HostState.TheVariants.Live, Phase.TheVariants.Submitted, Work.TheVariants.Io}}
use Rattle.page_memory.specs.Pages.{Pages, with_page_bytes, zero_page}
use Rattle.queue_pair.specs.Rings.{fresh_host_ring}
use Rattle.host_core.specs.Alone.{HostView}

abbrev pub one_block : Request
one_block = record { kind = Read; nsid = 1; flags = NONE; slba = 0; block_size = Bytes512; blocks = 1; pieces = Data 0 512 ∷ [] }

abbrev pub admin_queue : HostQueue
admin_queue = record { state = Live; ring = fresh_host_ring; sq_pages = 0 ∷ []; cq_pages = 1 ∷ [] }

abbrev pub io_queue : HostQueue
io_queue = record { state = Live; ring = record fresh_host_ring { tail = 1 }; sq_pages = 2 ∷ []; cq_pages = 3 ∷ [] }

abbrev pub read_command : Record
read_command = record { q = 1; cid = 0; phase = Submitted; work = Io one_block; data_pages = 4 ∷ []; chain_pages = []; status = None; hints = no_hints }

abbrev pub waiting : HostView
waiting =
    record {
      entries = 4;
      segment = 2;
      host = record { peer = Device; free = 5 ∷ 6 ∷ 7 ∷ []; queues = admin_queue ∷ io_queue ∷ []; records = read_command ∷ [] };
    }

abbrev pub blank : Pages
blank = replicate 8 (Some zero_page)

-- the completion of the Read, in the first pass of the ring, and the pages with one in the first slot
abbrev pub completion : ComEntry
completion = record { dw0 = 0; sqhd = 1; sqid = 1; cid = 0; phase = true; status = SUCCESS; hints = no_hints }

-- the same with each hint
abbrev pub hinting_completion : ComEntry
hinting_completion = record completion { hints = record { retry_delay = 2; more = true; do_not_retry = true } }

abbrev pub pages_with : ComEntry → Pages
pages_with e = with_page_bytes blank 3 0 (completion_bytes e)
