-- Which pages the controller may touch, and which pages a reply says it touched.
use Rattle.std.specs.{List.{flat_map, list_all}, Option.option_map_or, Prelude.{ℕ, Bool, is_some, List, [], ◌∷◌, ◌++◌, if◌then◌else◌}}
use Rattle.page_ledger.specs.Owners.{is_among}
use Rattle.admin_commands.specs.Verdicts.{is_absent}
use Rattle.machine_model.specs.{Events.{Event, Reply}, Refusals.{job_at, host_queue}, State.{State, HostQueue, ServedQueue, pages_of, record_at}}
use Rattle.machine_model.specs.Events as events

-- The pages that the controller may touch: of queues that it has, and of commands that are jobs

abbrev pub pages_at_queue : HostQueue → ServedQueue → List ℕ
pages_at_queue queue at =
    (if is_absent at.state then [] else queue.sq_pages) ++ (if at.cq_there then queue.cq_pages else [])

abbrev pub pages_at_queues : List HostQueue → List ServedQueue → List ℕ
pages_at_queues [] ats = []
pages_at_queues (queue ∷ queues) [] = []
pages_at_queues (queue ∷ queues) (at ∷ ats) = pages_at_queue queue at ++ pages_at_queues queues ats

abbrev pub allowed : State → List ℕ
allowed s =
    pages_at_queues s.host.queues s.controller.queues
    ++ flat_map (λ r. if is_some (job_at s r.q r.cid) then pages_of r else []) s.host.records

abbrev pub touched_by : Reply → List ℕ
touched_by (events.Fetched cid touched) = touched
touched_by (events.Walked outcome touched) = touched
touched_by (events.Completed touched) = touched
touched_by (events.Refused why touched) = touched
touched_by reply = []

abbrev pub stays_allowed : State → Reply → Bool
stays_allowed s reply = list_all (is_among (allowed s)) (touched_by reply)

abbrev pub pages_of_command : State → ℕ → ℕ → List ℕ
pages_of_command s q cid = option_map_or pages_of (record_at s.host q cid) []

abbrev pub pages_of_queue : State → ℕ → List ℕ
pages_of_queue s q = option_map_or (λ queue. queue.sq_pages ++ queue.cq_pages) (host_queue s q) []

-- more closely: a walk touches its command's pages, the other two their queue's
abbrev pub own_pages : State → Event → List ℕ
own_pages s (events.Walk q cid) = pages_of_command s q cid
own_pages s (events.Fetch q) = pages_of_queue s q
own_pages s (events.Complete q cid) = pages_of_queue s q
own_pages s e = []

abbrev pub stays_own : State → Event → Reply → Bool
stays_own s e reply = list_all (is_among (own_pages s e)) (touched_by reply)
