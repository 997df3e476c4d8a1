-- What ties the controller's queues and jobs to the host's where nothing was forged.
use Rattle.std.specs.{Option.option_map_or, Prelude.{◌≡◌, ℕ, ◌<◌, Bool, true, false, Some, length, is_some}}
use Rattle.admin_commands.specs.Verdicts.{is_absent}
use Rattle.machine_model.specs.{After.cq_there, Positions.IsInRing, Refusals.{served_queue, host_queue, job_at}, State.{State, HostQueue}}
use Rattle.page_memory.specs.declared.page.Half.TheVariants.{Submission, Completion}
use Rattle.queue_pair.specs.Memory.{half_pages}

-- whether the controller has no submission queue of a number
abbrev pub absent : State → ℕ → Bool
absent s q = option_map_or (λ at. is_absent at.state) (served_queue s q) true

pub record IsLinked (s : State) : Type 0 where
  -- some entries, and the halves that the controller has are whole at the host
  pub entries : 0 < s.entries
  pub submission_whole : (q : ℕ) (queue : HostQueue) → host_queue s q ≡ Some queue → absent s q ≡ false → length queue.sq_pages ≡ half_pages s.entries Submission
  pub completion_whole : (q : ℕ) (queue : HostQueue) → host_queue s q ≡ Some queue → cq_there s q ≡ true → length queue.cq_pages ≡ half_pages s.entries Completion
  -- the host stands in its rings
  pub inside : (q : ℕ) (queue : HostQueue) → host_queue s q ≡ Some queue → IsInRing s.entries queue.ring
  -- a queue that the controller has is at the host, and has its completion half
  pub known : (q : ℕ) → absent s q ≡ false → is_some (host_queue s q) ≡ true
  pub completion_stays : (q : ℕ) → absent s q ≡ false → cq_there s q ≡ true
  -- so does one that has a job
  pub jobs_have_queues : (q cid : ℕ) → is_some (job_at s q cid) ≡ true → absent s q ≡ false
