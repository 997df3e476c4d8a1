-- Worked runs of chains.
use Rattle.std.specs.Prelude.{ℕ, List, [], ◌∷◌, ◌++◌, take}
use Rattle.controller_walk.specs.declared.walk.WalkState.TheVariants.{More, End}
use Rattle.io_commands.specs.declared.request.{Kind.{Kind, TheVariants.{Read, Write}}, Piece.TheVariants.{Data, Bucket}}
use Rattle.io_commands.specs.declared.request.RequestFault.TheVariants.{LengthMismatch}
use Rattle.entry_codec.specs.declared.status.TheConstants.Status.{SUCCESS}
use Rattle.machine_model.specs.Script.{Line, Said, Table, defaults, left_by, shown, carried, walks, reserve, build, submit, cancel, ring, fetch, gather, release, ok, reserved, fetched, walked, completed, reaps, held, gathered, refused}
use Rattle.machine_model.specs.WorkedReads.{ordinary}
use Rattle.machine_model.specs.Events as events

-- three pieces, with two descriptors in a segment: two segments
abbrev pub small_segments : Table
small_segments = defaults 16 1 4 2

abbrev pub two_segments : List Line
two_segments = reserve 1 Read 0 3 (Data 0 512 ∷ Data 0 512 ∷ Data 0 512 ∷ []) ∷ build 1 0 ∷ submit 1 0 ∷ ring 1 ∷ fetch 1 ∷ walks 8 1 0

abbrev pub two_segments_said : List Said
two_segments_said =
    reserved 1 0 (4 ∷ 5 ∷ 6 ∷ []) (7 ∷ 8 ∷ []) ∷ ok ∷ ok ∷ ok ∷ fetched 0 (2 ∷ [])
    ∷ walked More [] ∷ walked More (7 ∷ []) ∷ walked More (4 ∷ []) ∷ walked More (7 ∷ [])
    ∷ walked More (8 ∷ []) ∷ walked More (5 ∷ []) ∷ walked More (8 ∷ []) ∷ walked End (6 ∷ []) ∷ []

-- the entry's descriptor and the two segments
abbrev pub two_segments_bytes : List ℕ
two_segments_bytes =
    0 ∷ 112 ∷ 0 ∷ 0 ∷ 0 ∷ 0 ∷ 0 ∷ 0 ∷ 32 ∷ 0 ∷ 0 ∷ 0 ∷ 0 ∷ 0 ∷ 0 ∷ 32
    ∷ 0 ∷ 64 ∷ 0 ∷ 0 ∷ 0 ∷ 0 ∷ 0 ∷ 0 ∷ 0 ∷ 2 ∷ 0 ∷ 0 ∷ 0 ∷ 0 ∷ 0 ∷ 0
    ∷ 0 ∷ 128 ∷ 0 ∷ 0 ∷ 0 ∷ 0 ∷ 0 ∷ 0 ∷ 32 ∷ 0 ∷ 0 ∷ 0 ∷ 0 ∷ 0 ∷ 0 ∷ 48
    ∷ 0 ∷ 80 ∷ 0 ∷ 0 ∷ 0 ∷ 0 ∷ 0 ∷ 0 ∷ 0 ∷ 2 ∷ 0 ∷ 0 ∷ 0 ∷ 0 ∷ 0 ∷ 0
    ∷ 0 ∷ 96 ∷ 0 ∷ 0 ∷ 0 ∷ 0 ∷ 0 ∷ 0 ∷ 0 ∷ 2 ∷ 0 ∷ 0 ∷ 0 ∷ 0 ∷ 0 ∷ 0 ∷ []

abbrev pub two_segments_shown : List ℕ
two_segments_shown = let t = left_by small_segments two_segments in shown t 2 24 16 ++ shown t 7 0 32 ++ shown t 8 0 32

-- a Bucket after data: it counts for a Read and not for a Write
abbrev pub bucket_request : Kind → (blocks : ℕ) → Line
bucket_request kind blocks = reserve 1 kind 0 blocks (Data 0 512 ∷ Bucket 512 ∷ [])

abbrev pub bucket_behind_data : List Line
bucket_behind_data = bucket_request Read 2 ∷ carried 4 1 0 ++ gather 1 0 ∷ release 1 0 ∷ bucket_request Write 1 ∷ carried 3 1 0 ++ bucket_request Write 2 ∷ []

abbrev pub bucket_behind_data_said : List Said
bucket_behind_data_said =
    reserved 1 0 (4 ∷ []) (5 ∷ []) ∷ ok ∷ ok ∷ ok ∷ fetched 0 (2 ∷ [])
    ∷ walked More [] ∷ walked More (5 ∷ []) ∷ walked More (4 ∷ []) ∷ walked End (5 ∷ []) ∷ completed (3 ∷ [])
    ∷ reaps (events.Done 0 SUCCESS) ∷ held SUCCESS ∷ gathered ((0, 512) ∷ []) ∷ ok
    ∷ reserved 1 0 (4 ∷ []) (5 ∷ []) ∷ ok ∷ ok ∷ ok ∷ fetched 0 (2 ∷ [])
    ∷ walked More [] ∷ walked More (5 ∷ []) ∷ walked End (4 ∷ []) ∷ completed (3 ∷ [])
    ∷ reaps (events.Done 0 SUCCESS) ∷ held SUCCESS
    ∷ refused (events.Bad LengthMismatch) ∷ []

abbrev pub bucket_bytes : List ℕ
bucket_bytes =
    0 ∷ 80 ∷ 0 ∷ 0 ∷ 0 ∷ 0 ∷ 0 ∷ 0 ∷ 32 ∷ 0 ∷ 0 ∷ 0 ∷ 0 ∷ 0 ∷ 0 ∷ 48
    ∷ 0 ∷ 64 ∷ 0 ∷ 0 ∷ 0 ∷ 0 ∷ 0 ∷ 0 ∷ 0 ∷ 2 ∷ 0 ∷ 0 ∷ 0 ∷ 0 ∷ 0 ∷ 0
    ∷ 0 ∷ 0 ∷ 0 ∷ 0 ∷ 0 ∷ 0 ∷ 0 ∷ 0 ∷ 0 ∷ 2 ∷ 0 ∷ 0 ∷ 0 ∷ 0 ∷ 0 ∷ 16 ∷ []

abbrev pub bucket_shown : List ℕ
bucket_shown = let t = left_by ordinary (bucket_request Read 2 ∷ build 1 0 ∷ submit 1 0 ∷ []) in shown t 2 24 16 ++ shown t 5 0 32

-- four whole pages, which together are one descriptor
abbrev pub four_pages : List Line
four_pages = reserve 1 Read 0 32 (Data 0 4096 ∷ Data 0 4096 ∷ Data 0 4096 ∷ Data 0 4096 ∷ []) ∷ carried 5 1 0

abbrev pub four_pages_said : List Said
four_pages_said =
    reserved 1 0 (4 ∷ 5 ∷ 6 ∷ 7 ∷ []) [] ∷ ok ∷ ok ∷ ok ∷ fetched 0 (2 ∷ [])
    ∷ walked More [] ∷ walked More (4 ∷ []) ∷ walked More (5 ∷ []) ∷ walked More (6 ∷ []) ∷ walked End (7 ∷ []) ∷ completed (3 ∷ [])
    ∷ reaps (events.Done 0 SUCCESS) ∷ held SUCCESS ∷ []

abbrev pub four_pages_bytes : List ℕ
four_pages_bytes = 0 ∷ 64 ∷ 0 ∷ 0 ∷ 0 ∷ 0 ∷ 0 ∷ 0 ∷ 0 ∷ 64 ∷ 0 ∷ 0 ∷ 0 ∷ 0 ∷ 0 ∷ 0 ∷ []

abbrev pub four_pages_shown : List ℕ
four_pages_shown = shown (left_by ordinary (take 3 four_pages)) 2 24 16

-- a Read of one block, and one of two whole pages
abbrev pub one_block : Line
one_block = reserve 1 Read 0 1 (Data 0 512 ∷ [])

abbrev pub two_pages : Line
two_pages = reserve 1 Read 0 16 (Data 0 4096 ∷ Data 0 4096 ∷ [])

-- the lowest free page stands alone, so two pages are taken after it
abbrev pub run_behind_a_hole : List Line
run_behind_a_hole = one_block ∷ one_block ∷ one_block ∷ cancel 1 1 ∷ two_pages ∷ build 1 1 ∷ submit 1 1 ∷ []

abbrev pub run_behind_a_hole_said : List Said
run_behind_a_hole_said = reserved 1 0 (4 ∷ []) [] ∷ reserved 1 1 (5 ∷ []) [] ∷ reserved 1 2 (6 ∷ []) [] ∷ ok ∷ reserved 1 1 (7 ∷ 8 ∷ []) [] ∷ ok ∷ ok ∷ []

abbrev pub run_behind_a_hole_bytes : List ℕ
run_behind_a_hole_bytes = 0 ∷ 112 ∷ 0 ∷ 0 ∷ 0 ∷ 0 ∷ 0 ∷ 0 ∷ 0 ∷ 32 ∷ 0 ∷ 0 ∷ 0 ∷ 0 ∷ 0 ∷ 0 ∷ []

abbrev pub run_behind_a_hole_shown : List ℕ
run_behind_a_hole_shown = shown (left_by ordinary run_behind_a_hole) 2 24 16

-- two free pages that are no run need a chain page too; once there is a run, two are enough
abbrev pub nine_pages : Table
nine_pages = defaults 9 1 8 256

abbrev pub no_run : List Line
no_run = one_block ∷ one_block ∷ one_block ∷ one_block ∷ one_block ∷ cancel 1 1 ∷ cancel 1 3 ∷ two_pages ∷ cancel 1 4 ∷ two_pages ∷ []

abbrev pub no_run_said : List Said
no_run_said =
    reserved 1 0 (4 ∷ []) [] ∷ reserved 1 1 (5 ∷ []) [] ∷ reserved 1 2 (6 ∷ []) [] ∷ reserved 1 3 (7 ∷ []) [] ∷ reserved 1 4 (8 ∷ []) [] ∷ ok ∷ ok
    ∷ refused (events.NoPages 3 2) ∷ ok ∷ reserved 1 1 (7 ∷ 8 ∷ []) [] ∷ []
