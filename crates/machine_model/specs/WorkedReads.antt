-- Worked runs of one block: a Read and a Write through one Data Block, and a Read through two that an Abort stops between them.
use Rattle.std.specs.Prelude.{List, [], ◌∷◌, ◌++◌}
use Rattle.controller_walk.specs.declared.walk.WalkState.TheVariants.{More, End}
use Rattle.io_commands.specs.declared.request.{Kind.TheVariants.{Read, Write}, Piece.TheVariants.Data}
use Rattle.entry_codec.specs.declared.status.TheConstants.Status.{SUCCESS, ABORT_REQUESTED}
use Rattle.machine_model.specs.Script.{Line, Said, Table, defaults, carried, reserve, fill, build, submit, ring, fetch, walk, complete, reap, collect, gather, release, abort, ok, reserved, fetched, walked, completed, reaps, held, gathered, sent, refused}
use Rattle.machine_model.specs.Events as events

abbrev pub ordinary : Table
ordinary = defaults 16 1 4 256

abbrev pub first_read : List Line
first_read = reserve 1 Read 0 1 (Data 0 512 ∷ []) ∷ carried 2 1 0 ++ gather 1 0 ∷ release 1 0 ∷ []

abbrev pub first_read_said : List Said
first_read_said =
    reserved 1 0 (4 ∷ []) [] ∷ ok ∷ ok ∷ ok ∷ fetched 0 (2 ∷ []) ∷ walked More [] ∷ walked End (4 ∷ []) ∷ completed (3 ∷ [])
    ∷ reaps (events.Done 0 SUCCESS) ∷ held SUCCESS ∷ gathered ((0, 512) ∷ []) ∷ ok ∷ []

abbrev pub first_write : List Line
first_write =
    reserve 1 Write 5 1 (Data 0 512 ∷ []) ∷ fill 1 0 (171 ∷ 205 ∷ []) ∷ build 1 0 ∷ submit 1 0 ∷ fetch 1 ∷ ring 1 ∷ fetch 1
    ∷ walk 1 0 ∷ walk 1 0 ∷ complete 1 0 ∷ reap 1 ∷ collect 1 0 ∷ release 1 0
    ∷ reserve 1 Read 5 1 (Data 0 512 ∷ []) ∷ carried 2 1 0 ++ gather 1 0 ∷ []

abbrev pub first_write_said : List Said
first_write_said =
    reserved 1 0 (4 ∷ []) [] ∷ ok ∷ ok ∷ ok ∷ refused events.Idle ∷ ok ∷ fetched 0 (2 ∷ [])
    ∷ walked More [] ∷ walked End (4 ∷ []) ∷ completed (3 ∷ []) ∷ reaps (events.Done 0 SUCCESS) ∷ held SUCCESS ∷ ok
    ∷ reserved 1 0 (4 ∷ []) [] ∷ ok ∷ ok ∷ ok ∷ fetched 0 (2 ∷ []) ∷ walked More [] ∷ walked End (4 ∷ []) ∷ completed (3 ∷ [])
    ∷ reaps (events.Done 0 SUCCESS) ∷ held SUCCESS ∷ gathered ((171, 1) ∷ (205, 1) ∷ (0, 510) ∷ []) ∷ []

-- one byte of the block is moved, and none after it
abbrev pub stopped_read : List Line
stopped_read =
    reserve 1 Write 5 1 (Data 0 512 ∷ []) ∷ fill 1 0 (171 ∷ 205 ∷ []) ∷ carried 2 1 0 ++ release 1 0
    ∷ reserve 1 Read 5 1 (Data 0 1 ∷ Data 0 511 ∷ []) ∷ build 1 0 ∷ submit 1 0 ∷ ring 1 ∷ fetch 1 ∷ walk 1 0 ∷ walk 1 0 ∷ walk 1 0
    ∷ abort 1 0 ∷ ring 0 ∷ fetch 0 ∷ complete 1 0 ∷ complete 0 0 ∷ reap 1 ∷ collect 1 0 ∷ gather 1 0 ∷ []

abbrev pub stopped_read_said : List Said
stopped_read_said =
    reserved 1 0 (4 ∷ []) [] ∷ ok ∷ ok ∷ ok ∷ ok ∷ fetched 0 (2 ∷ []) ∷ walked More [] ∷ walked End (4 ∷ []) ∷ completed (3 ∷ [])
    ∷ reaps (events.Done 0 SUCCESS) ∷ held SUCCESS ∷ ok
    ∷ reserved 1 0 (4 ∷ 5 ∷ []) (6 ∷ []) ∷ ok ∷ ok ∷ ok ∷ fetched 0 (2 ∷ []) ∷ walked More [] ∷ walked More (6 ∷ []) ∷ walked More (4 ∷ [])
    ∷ sent 0 ∷ ok ∷ fetched 0 (0 ∷ []) ∷ completed (3 ∷ []) ∷ completed (1 ∷ []) ∷ reaps (events.Done 0 ABORT_REQUESTED) ∷ held ABORT_REQUESTED
    ∷ gathered ((171, 1) ∷ (0, 511) ∷ []) ∷ []
