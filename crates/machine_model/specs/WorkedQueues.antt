-- Worked runs of queues: slots, identifiers, pages, refusals, and how commands end.
use Rattle.std.specs.{Option.option_map, Prelude.{ℕ, List, [], ◌∷◌, ◌++◌, replicate, Option, slice_get, true, false}}
use Rattle.controller_walk.specs.declared.walk.WalkState.TheVariants.{More, End}
use Rattle.machine_model.specs.{After.{on_ring}, Claims.{counts_of}}
use Rattle.machine_model.specs.Script.{Line, Said, Table, defaults, played, left_by, carried, reserve, ask, fill, build, submit, cancel, ring, fetch, walk, complete, reap, collect, gather, release, abort, retire, ok, reserved, fetched, walked, completed, reaps, held, refused, not_filled, no_value}
use Rattle.machine_model.specs.WorkedReads.{ordinary}
use Rattle.io_commands.specs.declared.{draft.FillFault.TheVariants.{NotASource, WrongLength}, request.Kind.{Kind, TheVariants.{Read, Compare, Write}}}
use Rattle.io_commands.specs.declared.request.{Piece.TheVariants.Data, RequestFault.TheVariants.LengthMismatch, TheConstants.Flags.NONE}
use Rattle.io_commands.specs.{Asked.Request, declared.block_size.BlockSize.TheVariants.{Bytes512, Bytes4096}}
use Rattle.entry_codec.specs.declared.status.TheConstants.Status.{SUCCESS, COMPARE_FAILURE, INVALID_NAMESPACE, LBA_OUT_OF_RANGE}
use Rattle.page_ledger.specs.declared.owner.Counts.{Counts}
use Rattle.queue_pair.specs.Rings.{HostRing}
use Rattle.machine_model.specs.Events as events

abbrev pub block : Kind → ℕ → Line
block kind slba = reserve 1 kind slba 1 (Data 0 512 ∷ [])

-- two entries, so the rings turn with each command
abbrev pub two_entries : Table
two_entries = defaults 16 1 2 256

abbrev pub once : List Line
once = block Read 0 ∷ carried 2 1 0 ++ release 1 0 ∷ []

-- the host's ring of queue 1 after one command and after two, and the table where it stands so
abbrev pub ring_of : Table → Option HostRing
ring_of t = option_map (λ queue. queue.ring) (slice_get t.world.host.queues 1)

abbrev pub ring_after_one : HostRing
ring_after_one = record { head = 1; phase = true; known_head = 1; tail = 1 }

abbrev pub ring_after_two : HostRing
ring_after_two = record { head = 0; phase = false; known_head = 0; tail = 0 }

abbrev pub turned_to : HostRing → Table
turned_to turned = record two_entries { world = on_ring 1 (λ old. turned) two_entries.world }

-- a completion of this SQ head pointer and phase bit, and the first word of a Read
abbrev pub completion_in_slot : ℕ → ℕ → List ℕ
completion_in_slot sqhd phase = replicate 8 0 ++ sqhd ∷ 0 ∷ 1 ∷ 0 ∷ 0 ∷ 0 ∷ phase ∷ 0 ∷ []

abbrev pub first_word : List ℕ
first_word = 2 ∷ 64 ∷ 0 ∷ 0 ∷ []

-- of four reserves the fourth has no identifier, until a command is released
abbrev pub identifiers_run_out : List Line
identifiers_run_out = block Read 0 ∷ block Read 0 ∷ block Read 0 ∷ block Read 0 ∷ carried 2 1 0 ++ release 1 0 ∷ block Read 0 ∷ []

abbrev pub identifiers_run_out_said : List Said
identifiers_run_out_said =
    reserved 1 0 (4 ∷ []) [] ∷ reserved 1 1 (5 ∷ []) [] ∷ reserved 1 2 (6 ∷ []) [] ∷ refused events.NoIdentifier
    ∷ ok ∷ ok ∷ ok ∷ fetched 0 (2 ∷ []) ∷ walked More [] ∷ walked End (4 ∷ []) ∷ completed (3 ∷ []) ∷ reaps (events.Done 0 SUCCESS) ∷ held SUCCESS ∷ ok
    ∷ reserved 1 0 (4 ∷ []) [] ∷ []

-- a Compare that is equal, and one that is not
abbrev pub two_compares : List Line
two_compares =
    block Compare 0 ∷ fill 1 0 (0 ∷ []) ∷ carried 2 1 0 ++ release 1 0 ∷ block Compare 0 ∷ fill 1 0 (1 ∷ []) ∷ carried 2 1 0

abbrev pub two_compares_said : List Said
two_compares_said =
    reserved 1 0 (4 ∷ []) [] ∷ ok ∷ ok ∷ ok ∷ ok ∷ fetched 0 (2 ∷ []) ∷ walked More [] ∷ walked End (4 ∷ []) ∷ completed (3 ∷ []) ∷ reaps (events.Done 0 SUCCESS) ∷ held SUCCESS ∷ ok
    ∷ reserved 1 0 (4 ∷ []) [] ∷ ok ∷ ok ∷ ok ∷ ok ∷ fetched 0 (2 ∷ []) ∷ walked More [] ∷ walked End (4 ∷ []) ∷ completed (3 ∷ []) ∷ reaps (events.Done 0 COMPARE_FAILURE) ∷ held COMPARE_FAILURE ∷ []

-- a Read of two blocks, the second of which is past the image: it has its verdict at the fetch
abbrev pub read_past_image : List Line
read_past_image =
    reserve 1 Read 63 2 (Data 0 1024 ∷ []) ∷ build 1 0 ∷ submit 1 0 ∷ ring 1 ∷ fetch 1 ∷ walk 1 0 ∷ complete 1 0 ∷ reap 1 ∷ collect 1 0 ∷ release 1 0
    ∷ block Read 0 ∷ []

abbrev pub read_past_image_said : List Said
read_past_image_said =
    reserved 1 0 (4 ∷ []) [] ∷ ok ∷ ok ∷ ok ∷ fetched 0 (2 ∷ []) ∷ refused events.Nothing ∷ completed (3 ∷ []) ∷ reaps (events.Done 0 LBA_OUT_OF_RANGE) ∷ held LBA_OUT_OF_RANGE ∷ ok
    ∷ reserved 1 0 (4 ∷ []) [] ∷ []

-- a Read of namespace 2, with both flags and past the image: the namespace is reported first
abbrev pub read_of_namespace_2 : List Line
read_of_namespace_2 =
    ask 1 (record { kind = Read; nsid = 2; flags = record { force_unit_access = true; limited_retry = true }; slba = 63; block_size = Bytes512; blocks = 2; pieces = Data 0 1024 ∷ [] })
    ∷ build 1 0 ∷ submit 1 0 ∷ ring 1 ∷ fetch 1 ∷ walk 1 0 ∷ complete 1 0 ∷ reap 1 ∷ collect 1 0 ∷ []

abbrev pub read_of_namespace_2_said : List Said
read_of_namespace_2_said =
    reserved 1 0 (4 ∷ []) [] ∷ ok ∷ ok ∷ ok ∷ fetched 0 (2 ∷ []) ∷ refused events.Nothing ∷ completed (3 ∷ []) ∷ reaps (events.Done 0 INVALID_NAMESPACE) ∷ held INVALID_NAMESPACE ∷ []

-- a Read of one block of 4,096 bytes, good in itself: the host of a world takes no such blocks. A fault of the request is reported first, lack of identifiers after
abbrev pub large_block : Request
large_block = record { kind = Read; nsid = 1; flags = NONE; slba = 0; block_size = Bytes4096; blocks = 1; pieces = Data 0 4096 ∷ [] }

abbrev pub other_blocks : List Line
other_blocks =
    block Read 0 ∷ ask 1 large_block ∷ block Read 0 ∷ block Read 0 ∷ ask 1 large_block ∷ ask 1 (record large_block { blocks = 2 }) ∷ block Read 0 ∷ []

abbrev pub other_blocks_said : List Said
other_blocks_said =
    reserved 1 0 (4 ∷ []) [] ∷ refused events.OtherBlocks ∷ reserved 1 1 (5 ∷ []) [] ∷ reserved 1 2 (6 ∷ []) []
    ∷ refused events.OtherBlocks ∷ refused (events.Bad LengthMismatch) ∷ refused events.NoIdentifier ∷ []

-- the counts, at a run's end
abbrev pub counts_after : List Line → Counts
counts_after lines = counts_of (left_by ordinary lines).world.host

-- twelve pieces need thirteen pages, of which twelve are free; eleven pieces take all
abbrev pub pages_run_out : List Line
pages_run_out = reserve 1 Read 0 12 (replicate 12 (Data 0 512)) ∷ reserve 1 Read 0 11 (replicate 11 (Data 0 512)) ∷ cancel 1 0 ∷ []

abbrev pub pages_run_out_said : List Said
pages_run_out_said = refused (events.NoPages 13 12) ∷ reserved 1 0 (4 ∷ 5 ∷ 6 ∷ 7 ∷ 8 ∷ 9 ∷ 10 ∷ 11 ∷ 12 ∷ 13 ∷ 14 ∷ []) (15 ∷ []) ∷ ok ∷ []

-- the draft of one world, in a second one and in its own
abbrev pub stranger : List Said
stranger =
    let t = left_by ordinary (block Read 0 ∷ build 1 0 ∷ []) in
    played (record t { world = ordinary.world }) (submit 1 0 ∷ []) ++ played t (submit 1 0 ∷ [])

-- not built, and a request that is refused before the identifiers are checked
abbrev pub refusals_in_order : List Line
refusals_in_order = block Read 0 ∷ submit 1 0 ∷ block Read 0 ∷ block Read 0 ∷ reserve 1 Read 0 1 (Data 0 511 ∷ []) ∷ reserve 2 Read 0 1 [] ∷ collect 1 0 ∷ collect 0 0 ∷ walk 1 0 ∷ complete 1 0 ∷ fetch 7 ∷ ring 7 ∷ abort 1 0 ∷ abort 0 0 ∷ retire 1 ∷ []

abbrev pub refusals_in_order_said : List Said
refusals_in_order_said =
    reserved 1 0 (4 ∷ []) [] ∷ refused events.NotBuilt ∷ reserved 1 1 (5 ∷ []) [] ∷ reserved 1 2 (6 ∷ []) []
    ∷ refused (events.Bad LengthMismatch) ∷ refused events.NoQueue ∷ no_value ∷ no_value
    ∷ refused events.NoJob ∷ refused events.NoJob ∷ refused events.Idle ∷ refused events.NoQueue ∷ refused events.NoSuchCommand ∷ refused events.NoQueue ∷ refused events.NotDeleted ∷ []

-- what a draft's fill refuses, and what isn't kept
abbrev pub fills : List Line
fills = block Read 0 ∷ fill 1 0 (1 ∷ []) ∷ block Write 0 ∷ fill 1 1 (replicate 513 7) ∷ fill 1 1 (replicate 512 7) ∷ fill 1 2 (1 ∷ []) ∷ gather 1 0 ∷ submit 1 2 ∷ []

abbrev pub fills_said : List Said
fills_said = reserved 1 0 (4 ∷ []) [] ∷ not_filled NotASource ∷ reserved 1 1 (5 ∷ []) [] ∷ not_filled WrongLength ∷ ok ∷ no_value ∷ no_value ∷ no_value ∷ []
