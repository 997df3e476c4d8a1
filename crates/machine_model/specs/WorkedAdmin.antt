-- Worked runs of Abort and of the deletion of queues.
use Rattle.std.specs.Prelude.{ℕ, List, [], ◌∷◌}
use Rattle.controller_walk.specs.declared.walk.WalkState.TheVariants.{More, End}
use Rattle.io_commands.specs.declared.request.{Kind.{Kind, TheVariants.Read}, Piece.TheVariants.Data}
use Rattle.entry_codec.specs.declared.status.TheConstants.Status.{SUCCESS, ABORTED_SQ_DELETION, ABORT_REQUESTED, INVALID_QUEUE_DELETION}
use Rattle.machine_model.specs.Script.{Line, Said, reserve, build, submit, cancel, ring, fetch, walk, complete, reap, collect, release, abort, delete_sq, delete_cq, retire, ok, reserved, fetched, walked, completed, reaps, held, sent, refused}
use Rattle.machine_model.specs.Events as events

abbrev pub block : ℕ → Kind → Line
block q kind = reserve q kind 0 1 (Data 0 512 ∷ [])

abbrev pub said_block : ℕ → ℕ → Said
said_block cid page = reserved 1 cid (page ∷ []) []

-- an Abort of a job, one that comes after the verdict, and one of a command that is not fetched
abbrev pub three_aborts : List Line
three_aborts =
    block 1 Read ∷ build 1 0 ∷ submit 1 0 ∷ ring 1 ∷ fetch 1 ∷ walk 1 0
    ∷ abort 1 0 ∷ ring 0 ∷ fetch 0 ∷ complete 0 0 ∷ walk 1 0 ∷ complete 1 0 ∷ complete 0 0 ∷ reap 1 ∷ reap 0 ∷ abort 1 0
    ∷ block 1 Read ∷ build 1 1 ∷ submit 1 1 ∷ ring 1 ∷ fetch 1 ∷ walk 1 1 ∷ walk 1 1
    ∷ abort 1 1 ∷ ring 0 ∷ fetch 0 ∷ complete 0 0 ∷ reap 0 ∷ complete 1 1 ∷ reap 1
    ∷ block 1 Read ∷ build 1 2 ∷ submit 1 2 ∷ ring 1 ∷ abort 1 2 ∷ ring 0 ∷ fetch 0 ∷ complete 0 0 ∷ reap 0 ∷ []

abbrev pub three_aborts_said : List Said
three_aborts_said =
    said_block 0 4 ∷ ok ∷ ok ∷ ok ∷ fetched 0 (2 ∷ []) ∷ walked More []
    ∷ sent 0 ∷ ok ∷ fetched 0 (0 ∷ []) ∷ refused events.Waits ∷ refused events.Nothing ∷ completed (3 ∷ []) ∷ completed (1 ∷ [])
    ∷ reaps (events.Done 0 ABORT_REQUESTED) ∷ reaps (events.AdminDone 0 SUCCESS 0) ∷ refused events.NoSuchCommand
    ∷ said_block 1 5 ∷ ok ∷ ok ∷ ok ∷ fetched 1 (2 ∷ []) ∷ walked More [] ∷ walked End (5 ∷ [])
    ∷ sent 0 ∷ ok ∷ fetched 0 (0 ∷ []) ∷ completed (1 ∷ []) ∷ reaps (events.AdminDone 0 SUCCESS 1) ∷ completed (3 ∷ []) ∷ reaps (events.Done 1 SUCCESS)
    ∷ said_block 2 6 ∷ ok ∷ ok ∷ ok ∷ sent 0 ∷ ok ∷ fetched 0 (0 ∷ []) ∷ completed (1 ∷ []) ∷ reaps (events.AdminDone 0 SUCCESS 1) ∷ []

-- a queue deleted with a job at the controller, an entry that is not fetched, and a draft
abbrev pub queue_deletion : List Line
queue_deletion =
    block 1 Read ∷ block 1 Read ∷ block 1 Read ∷ build 1 0 ∷ build 1 1 ∷ build 1 2
    ∷ submit 1 0 ∷ submit 1 1 ∷ ring 1 ∷ fetch 1 ∷ walk 1 0
    ∷ delete_cq 1 ∷ ring 0 ∷ fetch 0 ∷ complete 0 0 ∷ reap 0
    ∷ delete_sq 1 ∷ ring 0 ∷ fetch 0 ∷ complete 0 0 ∷ complete 1 0 ∷ complete 0 0 ∷ retire 1 ∷ block 1 Read ∷ reap 0
    ∷ retire 1 ∷ reap 1 ∷ retire 1 ∷ collect 1 1 ∷ submit 1 2 ∷ cancel 1 2 ∷ collect 1 0 ∷ release 1 0 ∷ release 1 1
    ∷ delete_cq 1 ∷ ring 0 ∷ fetch 0 ∷ complete 0 0 ∷ reap 0 ∷ []

abbrev pub queue_deletion_said : List Said
queue_deletion_said =
    said_block 0 4 ∷ said_block 1 5 ∷ said_block 2 6 ∷ ok ∷ ok ∷ ok
    ∷ ok ∷ ok ∷ ok ∷ fetched 0 (2 ∷ []) ∷ walked More []
    ∷ sent 0 ∷ ok ∷ fetched 0 (0 ∷ []) ∷ completed (1 ∷ []) ∷ reaps (events.AdminDone 0 INVALID_QUEUE_DELETION 0)
    ∷ sent 0 ∷ ok ∷ fetched 0 (0 ∷ []) ∷ refused events.Waits ∷ completed (3 ∷ []) ∷ completed (1 ∷ []) ∷ refused events.NotDeleted ∷ refused events.Deleting
    ∷ reaps (events.AdminDone 0 SUCCESS 0)
    ∷ refused events.NotDrained ∷ reaps (events.Done 0 ABORTED_SQ_DELETION) ∷ ok ∷ held ABORTED_SQ_DELETION ∷ refused events.QueueGone ∷ ok ∷ held ABORTED_SQ_DELETION ∷ ok ∷ ok
    ∷ sent 0 ∷ ok ∷ fetched 0 (0 ∷ []) ∷ completed (1 ∷ []) ∷ reaps (events.AdminDone 0 SUCCESS 0) ∷ []

-- an Abort sent for an earlier command of the same identifier
abbrev pub abort_of_reused_identifier : List Line
abort_of_reused_identifier =
    block 1 Read ∷ build 1 0 ∷ submit 1 0 ∷ ring 1 ∷ abort 1 0
    ∷ fetch 1 ∷ walk 1 0 ∷ walk 1 0 ∷ complete 1 0 ∷ reap 1 ∷ collect 1 0 ∷ release 1 0
    ∷ block 1 Read ∷ build 1 0 ∷ submit 1 0 ∷ ring 1 ∷ fetch 1 ∷ walk 1 0 ∷ ring 0 ∷ fetch 0 ∷ complete 1 0 ∷ reap 1 ∷ []

abbrev pub abort_of_reused_identifier_said : List Said
abort_of_reused_identifier_said =
    said_block 0 4 ∷ ok ∷ ok ∷ ok ∷ sent 0
    ∷ fetched 0 (2 ∷ []) ∷ walked More [] ∷ walked End (4 ∷ []) ∷ completed (3 ∷ []) ∷ reaps (events.Done 0 SUCCESS) ∷ held SUCCESS ∷ ok
    ∷ said_block 0 4 ∷ ok ∷ ok ∷ ok ∷ fetched 0 (2 ∷ []) ∷ walked More [] ∷ ok ∷ fetched 0 (0 ∷ []) ∷ completed (3 ∷ []) ∷ reaps (events.Done 0 ABORT_REQUESTED) ∷ []

-- two Delete CQs sent to a live queue: both are decided against, and the completion queue stays as the submission queue is deleted and retired
abbrev pub two_cq_deletions : List Line
two_cq_deletions =
    delete_cq 1 ∷ delete_cq 1 ∷ delete_sq 1 ∷ delete_cq 1 ∷ ring 0 ∷ fetch 0 ∷ fetch 0 ∷ fetch 0 ∷ complete 0 2 ∷ complete 0 0 ∷ complete 0 1
    ∷ reap 0 ∷ reap 0 ∷ reap 0 ∷ retire 1 ∷ delete_cq 1 ∷ delete_cq 1 ∷ delete_sq 1 ∷ []

abbrev pub two_cq_deletions_said : List Said
two_cq_deletions_said =
    sent 0 ∷ sent 1 ∷ sent 2 ∷ refused events.WrongState ∷ ok ∷ fetched 0 (0 ∷ []) ∷ fetched 1 (0 ∷ []) ∷ fetched 2 (0 ∷ []) ∷ completed (1 ∷ []) ∷ completed (1 ∷ []) ∷ completed (1 ∷ [])
    ∷ reaps (events.AdminDone 2 SUCCESS 0) ∷ reaps (events.AdminDone 0 INVALID_QUEUE_DELETION 0) ∷ reaps (events.AdminDone 1 INVALID_QUEUE_DELETION 0)
    ∷ ok ∷ sent 0 ∷ refused events.WrongState ∷ refused events.NoQueue ∷ []
