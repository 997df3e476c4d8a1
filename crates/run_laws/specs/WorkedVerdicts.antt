-- A queue that is deleted under two commands that have their verdicts: one was aborted, one walked to its end.
use Rattle.std.specs.{Option.option_map_or, Prelude.{ℕ, Option, None, List, [], ◌∷◌}}
use Rattle.controller_walk.specs.declared.walk.WalkState.TheVariants.{More, End}
use Rattle.io_commands.specs.declared.request.Kind.TheVariants.{Read}
use Rattle.entry_codec.specs.declared.status.{Status.Status, TheConstants.Status.{SUCCESS, ABORT_REQUESTED}}
use Rattle.machine_model.specs.Refusals.{job_at}
use Rattle.machine_model.specs.Script.{Line, Said, Table, build, submit, ring, fetch, walk, complete, reap, collect, abort, delete_sq, ok, fetched, walked, completed, reaps, held, sent, refused}
use Rattle.machine_model.specs.{WorkedAdmin.{block, said_block}, declared.words.{Reaped.TheVariants.{Done, AdminDone}, Refusal.TheVariants.{Nothing, Waits}}}

-- the verdict of a job, where there is one
abbrev pub verdict_at : ℕ → ℕ → Table → Option Status
verdict_at q cid t = option_map_or (λ j. j.verdict) (job_at t.world q cid) None

-- two Reads are fetched; an Abort stops the second, and the first is walked to its end. Then a deletion of their queue is fetched
abbrev pub one_aborted : List Line
one_aborted =
    block 1 Read ∷ block 1 Read ∷ build 1 0 ∷ build 1 1 ∷ submit 1 0 ∷ submit 1 1 ∷ ring 1 ∷ fetch 1 ∷ fetch 1
    ∷ abort 1 1 ∷ ring 0 ∷ fetch 0 ∷ walk 1 0 ∷ walk 1 0
    ∷ delete_sq 1 ∷ ring 0 ∷ fetch 0 ∷ []

abbrev pub one_aborted_said : List Said
one_aborted_said =
    said_block 0 4 ∷ said_block 1 5 ∷ ok ∷ ok ∷ ok ∷ ok ∷ ok ∷ fetched 0 (2 ∷ []) ∷ fetched 1 (2 ∷ [])
    ∷ sent 0 ∷ ok ∷ fetched 0 (0 ∷ []) ∷ walked More [] ∷ walked End (4 ∷ [])
    ∷ sent 1 ∷ ok ∷ fetched 1 (0 ∷ []) ∷ []

-- neither is walked any more, the deletion waits for both, and each is collected with its verdict
abbrev pub deleted_under : List Line
deleted_under =
    walk 1 0 ∷ walk 1 1 ∷ complete 0 1 ∷ complete 1 1 ∷ complete 0 1 ∷ complete 1 0 ∷ complete 0 1 ∷ complete 0 0
    ∷ reap 1 ∷ reap 1 ∷ reap 0 ∷ reap 0 ∷ collect 1 0 ∷ collect 1 1 ∷ []

abbrev pub deleted_under_said : List Said
deleted_under_said =
    refused Nothing ∷ refused Nothing ∷ refused Waits ∷ completed (3 ∷ []) ∷ refused Waits ∷ completed (3 ∷ []) ∷ completed (1 ∷ []) ∷ completed (1 ∷ [])
    ∷ reaps (Done 1 ABORT_REQUESTED) ∷ reaps (Done 0 SUCCESS) ∷ reaps (AdminDone 1 SUCCESS 0) ∷ reaps (AdminDone 0 SUCCESS 0)
    ∷ held SUCCESS ∷ held ABORT_REQUESTED ∷ []
