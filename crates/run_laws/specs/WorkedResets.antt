-- Worked runs of a reset: under two Reads that are submitted, one of which is a job,
-- and one was completed with success and not reaped; and after the deletion of a queue.
use Rattle.std.specs.Prelude.{ℕ, List, [], ◌∷◌, ◌++◌, length, filter}
use Rattle.controller_walk.specs.declared.walk.WalkState.TheVariants.{More, End}
use Rattle.io_commands.specs.declared.request.Kind.TheVariants.{Read}
use Rattle.entry_codec.specs.declared.status.TheConstants.Status.{ABORTED_SQ_DELETION}
use Rattle.machine_model.specs.Image.{Made}
use Rattle.machine_model.specs.Script.{Line, Said, build, submit, ring, fetch, walk, complete, delete_sq, reset, reap, collect, ok, fetched, walked, completed, held, refused}
use Rattle.machine_model.specs.{WorkedAdmin.{block, said_block}, WorkedCreations.managed, declared.words.Refusal.TheVariants.{NoQueue, NoJob}}
use Rattle.run_laws.specs.Ends.{ends}

abbrev pub reset_under : List Line
reset_under =
    block 1 Read ∷ block 1 Read ∷ build 1 0 ∷ build 1 1 ∷ submit 1 0 ∷ submit 1 1 ∷ ring 1 ∷ fetch 1 ∷ fetch 1
    ∷ walk 1 0 ∷ walk 1 0 ∷ complete 1 0 ∷ walk 1 1
    ∷ reset ∷ reap 1 ∷ walk 1 1 ∷ collect 1 0 ∷ collect 1 1 ∷ []

abbrev pub reset_under_said : List Said
reset_under_said =
    said_block 0 4 ∷ said_block 1 5 ∷ ok ∷ ok ∷ ok ∷ ok ∷ ok ∷ fetched 0 (2 ∷ []) ∷ fetched 1 (2 ∷ [])
    ∷ walked More [] ∷ walked End (4 ∷ []) ∷ completed (3 ∷ []) ∷ walked More []
    ∷ ok ∷ refused NoQueue ∷ refused NoJob ∷ held ABORTED_SQ_DELETION ∷ held ABORTED_SQ_DELETION ∷ []

-- how many steps end a command of queue 1 while it is submitted
abbrev pub times_ended : ℕ → List Made → ℕ
times_ended cid made = length (filter (ends 1 cid) made)

-- a queue is deleted, and the controller is reset before it is retired
abbrev pub deleted_and_reset : List Line
deleted_and_reset = managed (delete_sq 1) ++ reset ∷ []
