-- Worked runs of forged entries, as far as the host's part decides them, and to their ends with the controller's own rings.
use Rattle.std.specs.Prelude.{ℕ, List, [], ◌∷◌, ◌++◌, map, replicate, true, false, if◌then◌else◌}
use Rattle.controller_walk.specs.declared.walk.WalkState.TheVariants.{More, End, Fault}
use Rattle.admin_commands.specs.declared.SqState.TheVariants.{Absent}
use Rattle.io_commands.specs.declared.request.{Kind.TheVariants.Read, Piece.TheVariants.Data}
use Rattle.entry_codec.specs.declared.hints.Hints.{Hints}
use Rattle.entry_codec.specs.declared.status.TheConstants.Status.{SUCCESS, DATA_TRANSFER_ERROR}
use Rattle.machine_model.specs.Script.{line, Line, Said, Table, defaults, walks, reserve, build, submit, cancel, ring, fetch, walk, complete, reap, collect, release, delete_sq, retire, forge, reset, ok, reserved, fetched, walked, completed, reaps, held, sent, refused}
use Rattle.machine_model.specs.State.{Controller, ServedQueue, PostedCompletion}
use Rattle.machine_model.specs.Events as events

abbrev pub block : ℕ → Line
block q = reserve q Read 0 1 (Data 0 512 ∷ [])

-- a forged entry in phase 1 with status 0:00
abbrev pub forged : (sqhd sqid cid : ℕ) → List ℕ
forged sqhd sqid cid = replicate 8 0 ++ sqhd ∷ 0 ∷ sqid ∷ 0 ∷ cid ∷ 0 ∷ 1 ∷ 0 ∷ []

abbrev pub three_rejections : List Line
three_rejections =
    forge 1 0 (forged 0 1 3) ∷ reap 1 ∷ forge 1 1 (forged 1 1 0) ∷ reap 1 ∷ forge 1 2 (forged 0 0 0) ∷ reap 1 ∷ reap 1 ∷ forge 1 4 (forged 0 0 0) ∷ forge 2 0 (forged 0 0 0) ∷ []

abbrev pub three_rejections_said : List Said
three_rejections_said =
    ok ∷ reaps (events.Rejected events.UnknownId) ∷ ok ∷ reaps (events.Rejected events.BadHead) ∷ ok ∷ reaps (events.Rejected events.WrongQueue)
    ∷ reaps events.Empty ∷ refused events.NoSlot ∷ refused events.NoQueue ∷ []

-- a command held and collected by a forged entry while the controller walks: up to the walk, which no rule decides, and its release
abbrev pub collected_while_walking : List Line
collected_while_walking = block 1 ∷ build 1 0 ∷ submit 1 0 ∷ ring 1 ∷ fetch 1 ∷ walk 1 0 ∷ forge 1 0 (forged 1 1 0) ∷ reap 1 ∷ collect 1 0 ∷ walk 1 0 ∷ release 1 0 ∷ []

abbrev pub collected_while_walking_said : List Said
collected_while_walking_said =
    reserved 1 0 (4 ∷ []) [] ∷ ok ∷ ok ∷ ok ∷ fetched 0 (2 ∷ []) ∷ walked More [] ∷ ok ∷ reaps (events.Done 0 SUCCESS) ∷ held SUCCESS
    ∷ walked (Fault DATA_TRANSFER_ERROR) [] ∷ ok ∷ []

abbrev pub three_submitted : List Line
three_submitted =
    block 1 ∷ block 1 ∷ block 1 ∷ build 1 0 ∷ build 1 1 ∷ build 1 2 ∷ submit 1 0 ∷ submit 1 1 ∷ submit 1 2 ∷ ring 1 ∷ []

abbrev pub head_held_back : List Line
head_held_back = forge 1 0 (forged 0 1 0) ∷ reap 1 ∷ collect 1 0 ∷ release 1 0 ∷ block 1 ∷ build 1 0 ∷ submit 1 0 ∷ cancel 1 0 ∷ []

abbrev pub head_held_back_said : List Said
head_held_back_said =
    ok ∷ reaps (events.Done 0 SUCCESS) ∷ held SUCCESS ∷ ok ∷ reserved 1 0 (4 ∷ []) [] ∷ ok ∷ refused events.QueueFull ∷ ok ∷ []

-- a forged entry holds a command that is a job: its identifier is reserved again and meets it at the controller. Up to the reap after the full ring
abbrev pub identifier_of_a_job : List Line
identifier_of_a_job =
    fetch 1 ∷ fetch 1 ∷ fetch 1 ∷ walks 2 1 0 ++ walks 2 1 1 ++ walks 2 1 2
    ++ forge 1 0 (forged 3 1 0) ∷ reap 1 ∷ collect 1 0 ∷ release 1 0 ∷ block 1 ∷ build 1 0 ∷ submit 1 0 ∷ ring 1
    ∷ fetch 1 ∷ complete 1 0 ∷ complete 1 1 ∷ complete 1 2 ∷ []

abbrev pub identifier_of_a_job_said : List Said
identifier_of_a_job_said =
    fetched 0 (2 ∷ []) ∷ fetched 1 (2 ∷ []) ∷ fetched 2 (2 ∷ []) ∷ walked More [] ∷ walked End (4 ∷ []) ∷ walked More [] ∷ walked End (5 ∷ []) ∷ walked More [] ∷ walked End (6 ∷ [])
    ∷ ok ∷ reaps (events.Done 0 SUCCESS) ∷ held SUCCESS ∷ ok ∷ reserved 1 0 (4 ∷ []) [] ∷ ok ∷ ok ∷ ok
    ∷ fetched 0 (2 ∷ 3 ∷ []) ∷ completed (3 ∷ []) ∷ completed (3 ∷ []) ∷ refused events.Full ∷ []

-- a forged entry in phase 1 with status 0:00, and each hint
abbrev pub forged_hinting : (sqhd sqid cid : ℕ) → List ℕ
forged_hinting sqhd sqid cid = replicate 8 0 ++ sqhd ∷ 0 ∷ sqid ∷ 0 ∷ cid ∷ 0 ∷ 1 ∷ 0xE0 ∷ []

abbrev pub each_hint : Hints
each_hint = record { retry_delay = 2; more = true; do_not_retry = true }

-- the hints of the finished commands that are kept
abbrev pub hints_told : Table → List Hints
hints_told t = map (λ f. f.hints) t.finished

-- a command ended by such an entry, one by the controller, and one by a reset
abbrev pub ended_by_hinting : List Line
ended_by_hinting = block 1 ∷ build 1 0 ∷ submit 1 0 ∷ ring 1 ∷ forge 1 0 (forged_hinting 1 1 0) ∷ reap 1 ∷ collect 1 0 ∷ []

abbrev pub ended_by_controller : List Line
ended_by_controller = block 1 ∷ build 1 0 ∷ submit 1 0 ∷ ring 1 ∷ fetch 1 ∷ walks 2 1 0 ++ complete 1 0 ∷ reap 1 ∷ collect 1 0 ∷ []

abbrev pub ended_by_reset : List Line
ended_by_reset = block 1 ∷ build 1 0 ∷ submit 1 0 ∷ ring 1 ∷ forge 1 0 (forged_hinting 1 1 0) ∷ reset ∷ collect 1 0 ∷ []

-- a forged success of a deletion: a queue is retired from which the controller still fetches. Up to the fetch, which no rule decides
abbrev pub two_queues : Table
two_queues = defaults 16 2 4 256

abbrev pub forged_deletion : List Line
forged_deletion =
    block 1 ∷ build 1 0 ∷ submit 1 0 ∷ ring 1 ∷ delete_sq 1 ∷ forge 0 0 (forged 0 0 0) ∷ reap 0 ∷ retire 1 ∷ block 2 ∷ cancel 2 0 ∷ []

abbrev pub forged_deletion_said : List Said
forged_deletion_said =
    reserved 1 0 (6 ∷ []) [] ∷ ok ∷ ok ∷ ok ∷ sent 0 ∷ ok ∷ reaps (events.AdminDone 0 SUCCESS 0) ∷ ok ∷ reserved 2 0 (2 ∷ []) [] ∷ ok ∷ []

-- Once something was forged, the controller's part is open: here it is another one after each line, and the host's answers stay
abbrev pub played_over : (Controller → Controller) → Table → List Line → List Said
played_over f t [] = []
played_over f t (l ∷ ls) =
    let step = line t l in
    let s = step.0.world in
    step.1 ∷ played_over f (record step.0 { world = if s.trusted then s else record s { controller = f s.controller } }) ls

abbrev pub emptied : ServedQueue → ServedQueue
emptied at = record at { state = Absent; cq_there = false; unfetched = []; rung = 0; completions = [] }

abbrev pub blank : Controller → Controller
blank d = record d { queues = map emptied d.queues; jobs = [] }

-- with a completion of each command that there could be, on each queue
abbrev pub a_completion : ℕ → PostedCompletion
a_completion cid = record { cid = cid; status = SUCCESS; dw0 = 0; sq_head = 0 }

abbrev pub admin_completions : ServedQueue → ServedQueue
admin_completions at = record at { completions = a_completion 0 ∷ a_completion 1 ∷ a_completion 2 ∷ [] }

abbrev pub crowded : Controller → Controller
crowded d = record d { queues = map admin_completions d.queues }
