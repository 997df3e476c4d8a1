-- Worked runs of the controller reset.
use Rattle.std.specs.Prelude.{Bool, None, List, [], ◌∷◌, ◌++◌}
use Rattle.controller_walk.specs.declared.walk.WalkState.TheVariants.{More, End}
use Rattle.entry_codec.specs.declared.status.TheConstants.Status.{SUCCESS, ABORTED_SQ_DELETION}
use Rattle.io_commands.specs.declared.request.Kind.TheVariants.{Read}
use Rattle.machine_model.specs.Script.{Line, Said, Table, carried, build, submit, cancel, ring, fetch, walk, complete, reap, collect, release, delete_sq, create_cq, reset, forge, ok, reserved, fetched, walked, completed, reaps, held, sent, refused}
use Rattle.machine_model.specs.{WorkedAdmin.block, WorkedCreations.{creation, creation_said}, WorkedForged.forged}
use Rattle.machine_model.specs.Events as events

-- a command that is collected, one that is held, and one that is a job; one that is a draft, and one that is submitted and not fetched; and a deletion that is not fetched
abbrev pub one_of_each : List Line
one_of_each =
    block 1 Read ∷ carried 2 1 0
    ++ block 1 Read ∷ build 1 1 ∷ submit 1 1 ∷ ring 1 ∷ fetch 1 ∷ walk 1 1 ∷ walk 1 1 ∷ complete 1 1 ∷ reap 1
    ∷ block 1 Read ∷ build 1 2 ∷ submit 1 2 ∷ ring 1 ∷ fetch 1 ∷ walk 1 2
    ∷ block 2 Read ∷ block 2 Read ∷ build 2 1 ∷ submit 2 1 ∷ ring 2 ∷ delete_sq 2 ∷ ring 0 ∷ []

abbrev pub one_of_each_said : List Said
one_of_each_said =
    reserved 1 0 (6 ∷ []) [] ∷ ok ∷ ok ∷ ok ∷ fetched 0 (2 ∷ []) ∷ walked More [] ∷ walked End (6 ∷ []) ∷ completed (3 ∷ []) ∷ reaps (events.Done 0 SUCCESS) ∷ held SUCCESS
    ∷ reserved 1 1 (7 ∷ []) [] ∷ ok ∷ ok ∷ ok ∷ fetched 1 (2 ∷ []) ∷ walked More [] ∷ walked End (7 ∷ []) ∷ completed (3 ∷ []) ∷ reaps (events.Done 1 SUCCESS)
    ∷ reserved 1 2 (8 ∷ []) [] ∷ ok ∷ ok ∷ ok ∷ fetched 2 (2 ∷ []) ∷ walked More []
    ∷ reserved 2 0 (9 ∷ []) [] ∷ reserved 2 1 (10 ∷ []) [] ∷ ok ∷ ok ∷ ok ∷ sent 0 ∷ ok ∷ []

-- nothing is at the controller any more and no I/O queue is in service; the commands that were submitted are lost, and the others are as they were
abbrev pub after_all : List Line
after_all =
    reset ∷ fetch 0 ∷ fetch 1 ∷ walk 1 2 ∷ complete 1 2 ∷ reap 0 ∷ reap 1 ∷ block 1 Read ∷ build 2 0 ∷ submit 2 0 ∷ create_cq 1 None
    ∷ cancel 2 0 ∷ collect 1 1 ∷ collect 1 2 ∷ collect 2 1 ∷ release 1 0 ∷ release 1 1 ∷ release 1 2 ∷ release 2 1 ∷ []

abbrev pub after_all_said : List Said
after_all_said =
    ok ∷ refused events.Idle ∷ refused events.Idle ∷ refused events.NoJob ∷ refused events.NoJob ∷ reaps events.Empty ∷ refused events.NoQueue ∷ refused events.NoQueue ∷ ok ∷ refused events.QueueGone
    ∷ refused events.Outstanding
    ∷ ok ∷ held SUCCESS ∷ held ABORTED_SQ_DELETION ∷ held ABORTED_SQ_DELETION ∷ ok ∷ ok ∷ ok ∷ ok ∷ []

-- then queue 1 is made again, and carries a Read
abbrev pub reset_run : List Line
reset_run = one_of_each ++ after_all ++ creation

abbrev pub reset_run_said : List Said
reset_run_said = one_of_each_said ++ after_all_said ++ creation_said

-- a forged entry completes a command that is a job, whose walk is not done: after a reset the machine is trusted again
abbrev pub forged_and_reset : List Line
forged_and_reset =
    block 1 Read ∷ build 1 0 ∷ submit 1 0 ∷ ring 1 ∷ fetch 1 ∷ walk 1 0 ∷ forge 1 0 (forged 1 1 0) ∷ reap 1 ∷ reset ∷ walk 1 0 ∷ collect 1 0 ∷ release 1 0 ∷ creation

abbrev pub forged_and_reset_said : List Said
forged_and_reset_said =
    reserved 1 0 (4 ∷ []) [] ∷ ok ∷ ok ∷ ok ∷ fetched 0 (2 ∷ []) ∷ walked More [] ∷ ok ∷ reaps (events.Done 0 SUCCESS) ∷ ok ∷ refused events.NoJob ∷ held SUCCESS ∷ ok ∷ creation_said

abbrev pub is_trusted : Table → Bool
is_trusted t = t.world.trusted
