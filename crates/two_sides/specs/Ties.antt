-- What holds of a host and a controller over one pool of pages: always, and as long as nothing was forged.
use Rattle.std.specs.{Bool.OnTrue, List.AllByRecursion, Prelude.{◌≡◌, ◌||◌, Bool, ℕ, suc, true, false, None, List, [], ◌∷◌, IsTrue, slice_index}}
use Rattle.admin_commands.specs.Verdicts.{is_absent}
use Rattle.controller_core.specs.{Contents.{FetchedCommand, IsController, FetchedWork}, declared.command.FetchedWork.TheVariants.{Io, Admin}}
use Rattle.controller_core.specs.declared.queue.ControllerQueue.{ControllerQueue}
use Rattle.controller_walk.specs.{Laws.after_units, Units.course_of_list}
use Rattle.entry_codec.specs.declared.{completion.ComEntry.ComEntry, hints.TheConstants.Hints.NONE}
use Rattle.host_core.specs.Alone.{IsOver, IsSoundHost, alone}
use Rattle.io_commands.specs.Jobs.{job_course, direction_of_entry, need_of_entry}
use Rattle.machine_model.specs.{Agreeing.SidesAgree, Always.IsHostProvided, Claims.IsSound, Memory.memory_of, Refusals.{in_service, is_making_cq, is_reaped}}
use Rattle.machine_model.specs.State.{HostQueue}
use Rattle.two_sides.specs.{Deletions.CompletionsServe, Recovering.CanRecover, Sides.{Sides, state_of, completions_between}}
use Rattle.page_ledger.specs.Owners.{pages_from}
use Rattle.page_memory.specs.{Memory.Memory, Pages.byte_at, declared.page.Half.TheVariants.{Submission, Completion}}
use Rattle.queue_pair.specs.{Lists.{HasPhases, PhasesStand, expected_phase}, Memory.half_pages, Rings.IsControllerSide, Slots.is_in_range}

-- The controller's side of queue q has n entries in each ring, as the host's has. Where the halves of an I/O queue lie is said where nothing was forged: after a
-- forged entry a controller may have fetched an old entry that makes a queue somewhere else.
pub record ShareQueue (n q : ℕ) (h : HostQueue) (c : ControllerQueue) : Type 0 where
  pub number : c.controller.q ≡ q
  pub entries : c.controller.entries ≡ n
  pub side : IsControllerSide c.controller

-- one after the other, starting at queue q, and as many on either side
abbrev pub ShareQueues : ℕ → ℕ → List HostQueue → List ControllerQueue → Type 0
ShareQueues n q [] [] = Unit {0}
ShareQueues n q [] (c ∷ cs) = ⊥
ShareQueues n q (h ∷ hs) [] = ⊥
ShareQueues n q (h ∷ hs) (c ∷ cs) = ShareQueue n q h c × ShareQueues n (suc q) hs cs

-- Queue 0 has its halves where both sides have them, and keeps them whatever was forged: no command deletes it or makes it again.
pub record ShareAdmin (n : ℕ) (h : HostQueue) (c : ControllerQueue) : Type 0 where
  pub submission : h.sq_pages ≡ pages_from c.controller.sq (half_pages n Submission)
  pub completion : h.cq_pages ≡ pages_from c.controller.cq (half_pages n Completion)

-- it is the first on either side
abbrev pub SharesAdmin : ℕ → List HostQueue → List ControllerQueue → Type 0
SharesAdmin n [] cs = Unit {0}
SharesAdmin n (h ∷ hs) [] = Unit {0}
SharesAdmin n (h ∷ hs) (c ∷ cs) = ShareAdmin n h c

-- What holds whatever was forged.
pub record AreSides (s : Sides) : Type 0 where
  pub over : IsOver s.host s.pages
  pub sound : IsSoundHost s.host
  pub kept : IsSound (alone s.host s.pages)
  pub provided : IsHostProvided s.host.entries s.host.segment s.host.host
  pub controller : IsController s.controller
  pub queues : ShareQueues s.host.entries 0 s.host.host.queues s.controller.queues
  pub admin : SharesAdmin s.host.entries s.host.host.queues s.controller.queues

-- The submission heads of the completions in a completion ring follow each other from the head that the host knows to the controller's.
abbrev pub HeadsFollow : ℕ → ℕ → ℕ → List ComEntry → Type 0
HeadsFollow n from to [] = IsTrue (is_in_range n from to to)
HeadsFollow n from to (e ∷ es) = IsTrue (is_in_range n from to e.sqhd) × HeadsFollow n e.sqhd to es

-- whether a completion ring is in use on either side
abbrev pub has_ring : HostQueue → ControllerQueue → Bool
has_ring h c = is_reaped h.state || c.cq_there

-- The halves of a queue lie where both sides have them: the submission half as long as the controller has it, the completion half as long as either side uses it.
pub record ShareHalves (n : ℕ) (h : HostQueue) (c : ControllerQueue) : Type 0 where
  pub submission : is_absent c.state ≡ false → h.sq_pages ≡ pages_from c.controller.sq (half_pages n Submission)
  pub completion : has_ring h c ≡ true → h.cq_pages ≡ pages_from c.controller.cq (half_pages n Completion)

-- A completion that the controller posted in queue q: it names the queue, and hints at nothing.
abbrev pub IsOwned : ℕ → ComEntry → Type 0
IsOwned q e = (e.sqid ≡ q) × (e.hints ≡ NONE)

-- The rings of queue q stand: what was posted, announced and taken on either side fits.
pub record RingsStand (m : Memory) (q : ℕ) (h : HostQueue) (c : ControllerQueue) : Type 0 where
  pub fetched : is_in_range c.controller.entries h.ring.known_head h.ring.tail c.controller.ring.head ≡ true
  pub rung : is_in_range c.controller.entries c.controller.ring.head h.ring.tail c.controller.ring.bell ≡ true
  pub heard : c.controller.ring.known_head ≡ h.ring.head
  pub expected : h.ring.phase ≡ expected_phase h.ring.head c.controller.ring.tail c.controller.ring.phase
  pub phases : HasPhases m c.controller
  pub owned : AllByRecursion (IsOwned q) (completions_between m h.ring c.controller)
  pub follow : HeadsFollow c.controller.entries h.ring.known_head c.controller.ring.head (completions_between m h.ring c.controller)
  -- nothing waits in the completion ring of a queue that is out of service
  pub drained : in_service h.state ≡ false → h.ring.head ≡ c.controller.ring.tail

-- where the completion half of a queue begins at the host
abbrev pub first_completion_page : HostQueue → ℕ
first_completion_page h = slice_index h.cq_pages 0

-- A queue whose completion ring is in use has halves where both sides have them, and its rings stand. Nothing is said of any other, since its rings are made anew
-- before they are used, except that a completion ring which the host has asked for and the controller has not made yet is as it was granted: no slot of it is new.
pub record QueueStands (n : ℕ) (m : Memory) (q : ℕ) (h : HostQueue) (c : ControllerQueue) : Type 0 where
  pub halves : ShareHalves n h c
  pub rings : has_ring h c ≡ true → RingsStand m q h c
  pub granted : is_making_cq h.state ≡ true → c.cq_there ≡ false → PhasesStand m (first_completion_page h) n 0 true

abbrev pub AllQueuesStand : ℕ → Memory → ℕ → List HostQueue → List ControllerQueue → Type 0
AllQueuesStand n m q [] cs = Unit {0}
AllQueuesStand n m q (h ∷ hs) [] = Unit {0}
AllQueuesStand n m q (h ∷ hs) (c ∷ cs) = QueueStands n m q h c × AllQueuesStand n m (suc q) hs cs

-- As long as a command has no verdict, its walk has to do what is left of its list after the units that it did, in the memory as it is now.
abbrev pub WalkStands : Memory → ℕ → FetchedWork → Type 0
WalkStands m done (Io job) =
    job.verdict ≡ None → job_course m job ≡ after_units done (course_of_list m job.entry.sgl1 (direction_of_entry job.entry) (need_of_entry job.entry))
WalkStands m done (Admin entry status dw0) = Unit {0}

abbrev pub WalksStand : Memory → List FetchedCommand → Type 0
WalksStand m commands = AllByRecursion (λ k. WalkStands m k.units_done k.work) commands

-- What holds where nothing was forged.
pub record AreTied (s : Sides) : Type 0 where
  pub queues : AllQueuesStand s.host.entries (byte_at s.pages) 0 s.host.host.queues s.controller.queues
  pub walks : WalksStand (memory_of s.pages) s.controller.commands
  pub agree : SidesAgree (state_of s)
  pub serve : CompletionsServe (state_of s)

-- both together, and that a reset makes the machine's sides agree, whatever was forged
pub record IsWorld (s : Sides) : Type 0 where
  pub sides : AreSides s
  pub recovers : CanRecover (state_of s)
  pub tied : OnTrue s.trusted (AreTied s)
