-- What worked runs show of the laws: the image of a run, chains that spell their parts, entries read back.
use Rattle.std.specs.{Option.{option_map, option_map_or}, Prelude.{ℕ, Bool, Option, MatchOption, List, [], ◌∷◌, map, replicate, take, drop, slice_index}}
use Rattle.controller_walk.specs.declared.walk.WalkState.TheVariants.{More, End}
use Rattle.sgl_descriptor.specs.{Spelling.spelling, declared.{Descriptor.{Descriptor, TheVariants.{DataBlock, Segment, LastSegment}}, Part.Part}}
use Rattle.entry_codec.specs.{Submission.{submission_bytes, submission_of}, declared.submission.SubEntry.SubEntry}
use Rattle.io_commands.specs.{Drafts.{DraftContents, IsDraft, io_entry, built}, declared.request.{Flags.Flags, Kind.TheVariants.Read, Piece.TheVariants.{Data, Bucket}, TheConstants.Flags.NONE}}
use Rattle.io_commands.specs.declared.block_size.BlockSize.TheVariants.{Bytes512}
use Rattle.sgl_chain.specs.{Chains.parts_from, Spells.Spells}
use Rattle.machine_model.specs.{Image.{image_after, read_of, draft_of}, Opening.opening}
use Rattle.machine_model.specs.Script.{collect, release, delete_sq, retire, Table, Line, Said, table, defaults, left_by, made_by, walks, reserve, build, submit, ring, fetch, walk, complete, reap, ok, fetched, walked, completed, reaps, refused}
use Rattle.machine_model.specs.{State.State, Step.Answers, Trusted.drafts_of, WorkedChains.{small_segments, two_segments}, WorkedReads.{ordinary, first_write}}
use Rattle.page_memory.specs.Pages.{byte_at}
use Rattle.sgl_descriptor.specs.declared.Part.TheVariants as parts
use Rattle.machine_model.specs.Events as events

-- the first Write, over eight blocks
abbrev pub eight_blocks : Table
eight_blocks = table (opening 16 1 4 256 (replicate 4096 0))

abbrev pub image_of_first_write : List ℕ
image_of_first_write = take 4 (drop 2559 (image_after (replicate 4096 0) (made_by eight_blocks (take 13 first_write))))

abbrev pub image_left : List ℕ
image_left = take 4 (drop 2559 (left_by eight_blocks (take 13 first_write)).world.controller.image)

abbrev pub three_parts : List Part
three_parts = parts.Data 16384 512 ∷ parts.Data 20480 512 ∷ parts.Data 24576 512 ∷ []

abbrev pub segments_of_three : List (List Descriptor)
segments_of_three = (DataBlock 16384 512 ∷ LastSegment 32768 32 ∷ []) ∷ (DataBlock 20480 512 ∷ DataBlock 24576 512 ∷ []) ∷ []

abbrev pub parts_spelled : List Part
parts_spelled = parts_from (Segment 28672 32) segments_of_three

-- its draft, once built, is one as its type keeps it
abbrev pub built_of_three : Option DraftContents
built_of_three = draft_of 1 0 (left_by small_segments (take 2 two_segments)).drafts

abbrev pub IsBuiltOfThree : Type 0
IsBuiltOfThree = MatchOption built_of_three ⊥ IsDraft

-- and the segments are in the memory that its run leaves, so that the entry's descriptor spells its parts
abbrev pub SegmentsNamed : Type 0
SegmentsNamed = Spells (byte_at (left_by small_segments two_segments).world.memory) (Segment 28672 32) three_parts

-- in that run, the pages that the walk's second step may say it touched
abbrev pub walking : State
walking = (left_by small_segments (take 6 two_segments)).world

abbrev pub SecondStepTouches : List ℕ → Type 0
SecondStepTouches pages = Answers walking (events.Walk 1 0) (events.Walked More pages)

-- the second block is discarded
abbrev pub read_with_bucket : List ℕ
read_with_bucket = read_of (record { kind = Read; nsid = 1; flags = NONE; slba = 0; block_size = Bytes512; blocks = 2; pieces = Data 0 512 ∷ Bucket 512 ∷ [] }) (4 ∷ []) (replicate 32768 0)

abbrev pub far_entry : SubEntry
far_entry = io_entry 0 (record { kind = Read; nsid = 1; flags = NONE; slba = 4294967297; block_size = Bytes512; blocks = 1; pieces = Data 0 512 ∷ [] }) (spelling (DataBlock 16384 512))

abbrev pub far_entry_read : SubEntry
far_entry_read = submission_of (submission_bytes far_entry)

-- CDW12 of an entry of eight blocks with these flags
abbrev pub cdw12_with : Bool → Bool → ℕ
cdw12_with fua lr =
    let flags : Flags = record { force_unit_access = fua; limited_retry = lr } in
    (io_entry 0 (record { kind = Read; nsid = 1; flags = flags; slba = 0; block_size = Bytes512; blocks = 8; pieces = Data 0 4096 ∷ [] }) (spelling (DataBlock 16384 4096))).cdw12

-- What the definitions would let through without IsProper: a draft whose entry isn't its own, in a trusted world.
abbrev pub renamed : SubEntry → SubEntry
renamed e = record e { cid = 77 }

abbrev pub one_built : Table
one_built = left_by ordinary (reserve 1 Read 0 1 (Data 0 512 ∷ []) ∷ build 1 0 ∷ [])

abbrev pub renamed_draft : DraftContents → DraftContents
renamed_draft d = record d { entry = option_map renamed d.entry }

abbrev pub one_renamed : Table
one_renamed = record one_built { drafts = map renamed_draft one_built.drafts }

abbrev pub renamed_run : List Line
renamed_run = submit 1 0 ∷ ring 1 ∷ fetch 1 ∷ walk 1 77 ∷ walk 1 77 ∷ complete 1 77 ∷ reap 1 ∷ []

abbrev pub renamed_said : List Said
renamed_said = ok ∷ ok ∷ fetched 77 (2 ∷ []) ∷ walked More [] ∷ walked End (4 ∷ []) ∷ completed (3 ∷ []) ∷ reaps (events.Rejected events.UnknownId) ∷ []

-- A draft made anew with segments of 3 in a world of 4: as many chain pages, another entry, and no refusal sees it.
abbrev pub four_each : Table
four_each = left_by (defaults 16 1 4 4) (reserve 1 Read 0 5 (Data 0 512 ∷ Data 0 512 ∷ Data 0 512 ∷ Data 0 512 ∷ Data 0 512 ∷ []) ∷ [])

abbrev pub built_by_three : DraftContents → DraftContents
built_by_three d = built (record d { segment = 3 })

abbrev pub made_anew : Table
made_anew = record four_each { drafts = map built_by_three four_each.drafts }

abbrev pub length_named : DraftContents → ℕ
length_named d = option_map_or (λ e. slice_index e.sgl1 8) d.entry 0

abbrev pub lengths : Table → List ℕ
lengths t = map length_named t.drafts

abbrev pub anew_run : List Line
anew_run = submit 1 0 ∷ ring 1 ∷ fetch 1 ∷ walks 13 1 0

abbrev pub anew_said : List Said
anew_said =
    ok ∷ ok ∷ fetched 0 (2 ∷ []) ∷ walked More []
    ∷ walked More (9 ∷ []) ∷ walked More (4 ∷ []) ∷ walked More (9 ∷ []) ∷ walked More (5 ∷ []) ∷ walked More (9 ∷ [])
    ∷ walked More (10 ∷ []) ∷ walked More (6 ∷ []) ∷ walked More (10 ∷ []) ∷ walked More (7 ∷ []) ∷ walked More (10 ∷ []) ∷ walked End (8 ∷ [])
    ∷ refused events.Nothing ∷ []

-- A Read of two blocks that was never fetched, after one of a single block with its identifier, which was: the draft as it was
-- submitted before that fetch isn't its own. Its queue is deleted, and it is collected as its own draft left it.
abbrev pub never_fetched : List Line
never_fetched =
    reserve 1 Read 0 1 (Data 0 512 ∷ []) ∷ build 1 0 ∷ submit 1 0 ∷ ring 1 ∷ fetch 1 ∷ walk 1 0 ∷ walk 1 0 ∷ complete 1 0 ∷ reap 1 ∷ collect 1 0 ∷ release 1 0
    ∷ reserve 1 Read 0 2 (Data 0 512 ∷ Data 0 512 ∷ []) ∷ build 1 0 ∷ submit 1 0
    ∷ delete_sq 1 ∷ ring 0 ∷ fetch 0 ∷ complete 0 0 ∷ reap 0 ∷ retire 1 ∷ collect 1 0 ∷ []

abbrev pub one_block : Table
one_block = table (opening 8 1 4 256 (replicate 512 0))

-- how many blocks the latest draft of its identifier is for, of those that this many lines submitted
abbrev pub blocks_drafted : ℕ → List ℕ
blocks_drafted lines =
    option_map_or (λ d. d.request.blocks ∷ []) (draft_of 1 0 (drafts_of (made_by one_block (take lines never_fetched)))) []
