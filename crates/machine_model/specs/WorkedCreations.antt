-- Worked runs of queues that are made again.
use Rattle.std.specs.{Option.option_map_or, Prelude.{ℕ, Option, None, List, [], ◌∷◌, ◌++◌, ◌*◌, slice_get, replicate}}
use Rattle.controller_walk.specs.declared.walk.WalkState.TheVariants.{More, End}
use Rattle.entry_codec.specs.declared.status.TheConstants.Status.{SUCCESS}
use Rattle.io_commands.specs.declared.request.Kind.TheVariants.{Read}
use Rattle.machine_model.specs.Script.{Line, Said, Table, left_by, shown, carried, ring, fetch, complete, reap, abort, delete_sq, delete_cq, create_cq, create_sq, retire, forge, ok, reserved, fetched, walked, completed, reaps, held, sent, refused}
use Rattle.machine_model.specs.WorkedAdmin.{block}
use Rattle.machine_model.specs.Events as events

-- an admin command carried from its call to its reaping
abbrev pub managed : Line → List Line
managed l = l ∷ ring 0 ∷ fetch 0 ∷ complete 0 0 ∷ reap 0 ∷ []

abbrev pub managed_said : List Said
managed_said = sent 0 ∷ ok ∷ fetched 0 (0 ∷ []) ∷ completed (1 ∷ []) ∷ reaps (events.AdminDone 0 SUCCESS 0) ∷ []

-- after a deletion queue 1 is gone; it is made again, and carries a Read
abbrev pub creation_with : (vector : Option ℕ) → List Line
creation_with vector = managed (create_cq 1 vector) ++ managed (create_sq 1) ++ block 1 Read ∷ carried 2 1 0 ++ create_cq 1 vector ∷ []

-- polled
abbrev pub creation : List Line
creation = creation_with None

abbrev pub creation_said : List Said
creation_said =
    managed_said ++ managed_said
    ++ reserved 1 0 (4 ∷ []) [] ∷ ok ∷ ok ∷ ok ∷ fetched 0 (3 ∷ []) ∷ walked More [] ∷ walked End (4 ∷ []) ∷ completed (2 ∷ []) ∷ reaps (events.Done 0 SUCCESS) ∷ held SUCCESS
    ∷ refused events.WrongState ∷ []

-- the bytes of the two entries, in the slots at the tail of queue 0
abbrev pub admin_tail : Table → ℕ
admin_tail t = option_map_or (λ queue. queue.ring.tail) (slice_get t.world.host.queues 0) 0

abbrev pub entry_of : Table → Line → List ℕ
entry_of t l = shown (left_by t (l ∷ [])) 0 (64 * admin_tail t) 64

abbrev pub completion_queue_entry_said : List ℕ
completion_queue_entry_said =
    5 ∷ 0 ∷ 0 ∷ 0 ∷ replicate 20 0 ++ 0 ∷ 32 ∷ 0 ∷ 0 ∷ 0 ∷ 0 ∷ 0 ∷ 0 ∷ replicate 8 0 ++ 1 ∷ 0 ∷ 3 ∷ 0 ∷ 1 ∷ 0 ∷ 0 ∷ 0 ∷ replicate 16 0

-- with interrupts on vector 3
abbrev pub interrupts_entry_said : List ℕ
interrupts_entry_said =
    5 ∷ 0 ∷ 0 ∷ 0 ∷ replicate 20 0 ++ 0 ∷ 32 ∷ 0 ∷ 0 ∷ 0 ∷ 0 ∷ 0 ∷ 0 ∷ replicate 8 0 ++ 1 ∷ 0 ∷ 3 ∷ 0 ∷ 3 ∷ 0 ∷ 3 ∷ 0 ∷ replicate 16 0

abbrev pub submission_queue_entry_said : List ℕ
submission_queue_entry_said =
    1 ∷ 0 ∷ 0 ∷ 0 ∷ replicate 20 0 ++ 0 ∷ 48 ∷ 0 ∷ 0 ∷ 0 ∷ 0 ∷ 0 ∷ 0 ∷ replicate 8 0 ++ 1 ∷ 0 ∷ 3 ∷ 0 ∷ 1 ∷ 0 ∷ 1 ∷ 0 ∷ replicate 16 0

-- what is refused while a queue is being made
abbrev pub half_made_refusals : List Line
half_made_refusals =
    create_sq 1 ∷ create_cq 1 None ∷ block 1 Read ∷ ring 1 ∷ reap 1 ∷ abort 1 0 ∷ delete_sq 1 ∷ delete_cq 1 ∷ retire 1 ∷ forge 1 0 (replicate 16 0) ∷ create_cq 1 None ∷ create_sq 1
    ∷ ring 0 ∷ fetch 0 ∷ complete 0 0 ∷ reap 0 ∷ create_cq 1 None ∷ ring 1 ∷ delete_cq 1 ∷ delete_cq 1 ∷ create_sq 1 ∷ ring 0 ∷ fetch 0 ∷ complete 0 0 ∷ reap 0
    ∷ delete_cq 1 ∷ create_cq 0 None ∷ create_cq 2 None ∷ []

abbrev pub half_made_refusals_said : List Said
half_made_refusals_said =
    refused events.WrongState ∷ sent 0 ∷ refused events.NoQueue ∷ refused events.NoQueue ∷ refused events.NoQueue ∷ refused events.NoQueue ∷ refused events.NoQueue
    ∷ refused events.WrongState ∷ refused events.NotDeleted ∷ refused events.NoQueue ∷ refused events.WrongState ∷ refused events.WrongState
    ∷ ok ∷ fetched 0 (0 ∷ []) ∷ completed (1 ∷ []) ∷ reaps (events.AdminDone 0 SUCCESS 0)
    ∷ refused events.WrongState ∷ refused events.NoQueue ∷ sent 0 ∷ refused events.WrongState ∷ refused events.WrongState ∷ ok ∷ fetched 0 (0 ∷ []) ∷ completed (1 ∷ []) ∷ reaps (events.AdminDone 0 SUCCESS 0)
    ∷ refused events.NoQueue ∷ refused events.NoQueue ∷ refused events.NoQueue ∷ []
