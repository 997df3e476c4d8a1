-- What a look at the rings of a queue tells of the machine's state.
use Rattle.std.specs.{Option.option_map_or, Prelude.{◌≡◌, ℕ, not, Option, Some, None, IfSome, is_some, slice_get, if◌then◌else◌}}
use Rattle.admin_commands.specs.Verdicts.{is_absent}
use Rattle.controller_core.specs.declared.queue.ControllerQueue.{ControllerQueue}
use Rattle.machine_model.specs.{Agreeing.{has_completions_at, is_absent_at}, Refusals.{fetch_slot, post_slot}, State.State}
use Rattle.queue_pair.specs.{Lists.expected_phase, Slots.distance}
use Rattle.step_core.specs.declared.rings.{FetchPositions.FetchPositions, PostPositions.PostPositions, Rings.Rings}

-- where a queue of the controller stands, as far as it is there
abbrev pub fetching_of : ControllerQueue → Option FetchPositions
fetching_of c = if is_absent c.state then None else Some (record { head = c.controller.ring.head; tail_doorbell = c.controller.ring.bell })

abbrev pub posting_of : ControllerQueue → Option PostPositions
posting_of c =
    if c.cq_there then Some (record { tail = c.controller.ring.tail; phase = c.controller.ring.phase; head_doorbell = c.controller.ring.known_head }) else None

-- the halves that the controller has
pub record ShowsHalves (s : State) (q : ℕ) (rings : Rings) : Type 0 where
  pub submission : is_some rings.submission ≡ not (is_absent_at s.controller.queues q)
  pub completion : is_some rings.completion ≡ has_completions_at s.controller.queues q

-- as many entries were announced and not fetched as lie from the controller's head to the tail in its doorbell
abbrev pub TellsRung : State → ℕ → Rings → Type 0
TellsRung s q rings =
    IfSome rings.submission (λ at. distance s.entries at.head at.tail_doorbell ≡ option_map_or (λ queue. queue.rung) (slice_get s.controller.queues q) 0)

-- Where nothing was forged: the controller's submission head is where the machine fetches next,
abbrev pub TellsFetching : State → ℕ → Rings → Type 0
TellsFetching s q rings = IfSome rings.submission (λ at. at.head ≡ fetch_slot s q)

-- and its completion tail is where the machine posts next, the completion head in the doorbell is the host's, and the host expects at its head the phase
-- tag of the controller's pass, or the one of the pass before.
pub record IsPosting (s : State) (q : ℕ) (rings : Rings) (at : PostPositions) : Type 0 where
  pub tail : at.tail ≡ post_slot s q
  pub heard : at.head_doorbell ≡ rings.host.completion_head
  pub phase : rings.host.phase ≡ expected_phase rings.host.completion_head at.tail at.phase

abbrev pub TellsPosting : State → ℕ → Rings → Type 0
TellsPosting s q rings = IfSome rings.completion (λ at. IsPosting s q rings at)
