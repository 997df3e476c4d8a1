-- The laws of states whose sides agree: an opening has it, each step keeps it as long as nothing is forged, and what follows from it.
use Rattle.std.specs.Prelude.{◌≡◌, ℕ, nat_lt, false, true, ◌&&◌, ◌||◌, ◌≤◌, not, IsTrue, Some, List}
use Rattle.page_ledger.specs.Owners.{is_among}
use Rattle.page_memory.specs.Pages.{page_at}
use Rattle.machine_model.specs.{After.course_of, Agreeing.SidesAgree, Events.{Event, Reply}, Image.Made, Linked.{IsLinked, absent}, Opening.{opening, Opens}}
use Rattle.machine_model.specs.{Refusals.{host_queue, is_live, is_submitted, job_at}, Standing.JobStands}
use Rattle.machine_model.specs.{State.{State, HostQueue, Record, Job, record_at, outstanding_on}, Step.{Step, resets, times}, Touch.{stays_allowed, stays_own}}
use Rattle.machine_model.specs.Trusted.{TrustedRun}
use Rattle.two_sides.specs.MachineLaws.{HasChainIfIo, is_full, admin_places}

-- Where it holds

abbrev pub openings_agree : Type 0
openings_agree = (pages queues n s : ℕ) (image : List ℕ) → Opens pages queues n s → SidesAgree (opening pages queues n s image)

-- a step that leads to a trusted state came from one or is a reset, and keeps it; `resets_recover` says how a reset restores it after a forgery
abbrev pub steps_keep_agreement : Type 0
steps_keep_agreement =
    (old : State) (e : Event) (reply : Reply) (new : State) → Step old e reply new → IsTrue new.trusted
    → IsTrue (old.trusted || resets e) × (SidesAgree old → SidesAgree new)

-- so it holds after each run in which nothing was forged
abbrev pub trusted_runs_agree : Type 0
trusted_runs_agree = (image : List ℕ) (made : List Made) (end : State) → TrustedRun image made end → SidesAgree end

-- What follows from it

abbrev pub agreeing_sides_are_linked : Type 0
agreeing_sides_are_linked = (s : State) → SidesAgree s → IsLinked s

-- a submission queue that is live at the host is there at the controller
abbrev pub agreed_live_queues_are_there : Type 0
agreed_live_queues_are_there =
    (s : State) (q : ℕ) (queue : HostQueue) → SidesAgree s → host_queue s q ≡ Some queue → is_live queue.state ≡ true → absent s q ≡ false

-- where nothing was forged, no step is refused because a ring is full or a slot's page is out
abbrev pub agreeing_sides_have_room : Type 0
agreeing_sides_have_room =
    (old : State) (e : Event) (reply : Reply) (new : State) → SidesAgree old → IsTrue old.trusted → Step old e reply new → IsTrue (not (is_full reply))

-- an admin command is at the controller at most once, and only where it is outstanding
abbrev pub agreed_admin_commands_stand_once : Type 0
agreed_admin_commands_stand_once = (s : State) (cid : ℕ) → SidesAgree s → times cid (admin_places s) ≤ times cid (outstanding_on s.host 0)

-- each job of an I/O queue stands
abbrev pub agreed_jobs_stand : Type 0
agreed_jobs_stand = (s : State) (q cid : ℕ) (j : Job) → SidesAgree s → IsTrue (nat_lt 0 q) → job_at s q cid ≡ Some j → JobStands s j

-- a step after which nothing is forged, and that leaves a job of an I/O queue there, keeps its list the same
abbrev pub agreed_jobs_keep_their_lists : Type 0
agreed_jobs_keep_their_lists =
    (old new : State) (e : Event) (reply : Reply) (q cid : ℕ) (before after : Job)
    → SidesAgree old → Step old e reply new → IsTrue new.trusted → IsTrue (nat_lt 0 q) → job_at old q cid ≡ Some before → job_at new q cid ≡ Some after
    → (after.entry ≡ before.entry) × (course_of new after ≡ course_of old before)

-- the chain of a submitted command spells its parts
abbrev pub agreed_chains_stand : Type 0
agreed_chains_stand =
    (s : State) (q cid : ℕ) (r : Record) → SidesAgree s → record_at s.host q cid ≡ Some r → IsTrue (is_submitted r.phase) → HasChainIfIo s r r.work

-- where nothing was forged, no step changes a byte of a chain page of a record that is submitted
abbrev pub agreed_chains_stay : Type 0
agreed_chains_stay =
    (old : State) (e : Event) (reply : Reply) (new : State) (q cid : ℕ) (r : Record) (p : ℕ)
    → SidesAgree old → IsTrue old.trusted → Step old e reply new
    → record_at old.host q cid ≡ Some r → IsTrue (is_submitted r.phase) → IsTrue (is_among r.chain_pages p)
    → page_at new.memory p ≡ page_at old.memory p

-- where nothing was forged, each step of the controller stays within what is allowed, and within its own queue or command
abbrev pub agreeing_steps_stay_allowed : Type 0
agreeing_steps_stay_allowed =
    (old new : State) (e : Event) (reply : Reply)
    → SidesAgree old → IsTrue old.trusted → Step old e reply new → IsTrue (stays_allowed old reply && stays_own old e reply)
