-- From round to round.
use Rattle.std.specs.Int.{div_ceil}
use Rattle.std.specs.Prelude.{◌≡◌, ℕ, ◌+◌, ◌-◌, ◌*◌, ◌/◌, ◌%◌, ◌^◌, ◌<◌, Option, Some, None, List, length, map, max, min, nat_lt, slice_index_or, if◌then◌else◌}
use Rattle.load.specs.{Planning.{IsPlanOf, TaskJob, job_for}, declared.{content.Content.Content, layout.Layout.Layout, plan.Planned.Planned}}
use Rattle.script_cli.specs.declared.workload.Load.{Load}

-- how many of a given number of commands a submitter does: as many as each other, or one more
abbrev pub share_of : ℕ → ℕ → ℕ → ℕ
share_of commands submitters submitter = commands / submitters + (if nat_lt submitter (commands % submitters) then 1 else 0)

-- each submitter has its plan, of its share of this many commands
pub record ArePlans (layout : Layout) (generations : List ℕ) (commands : ℕ) (plans : List (List Planned)) : Type 0 where
  pub all : length plans ≡ layout.submitters
  pub each : (s : ℕ) (d : List Planned) → s < length plans → IsPlanOf layout generations s (share_of commands layout.submitters s) (slice_index_or plans s d)

-- the queue of a submitter
abbrev pub queue_of : ℕ → ℕ → ℕ
queue_of queues submitter = 1 + submitter % queues

-- each submitter has the jobs of its plan, for its queue
pub record AreJobs (layout : Layout) (seed : ℕ) (content : Option Content) (queues : ℕ) (plans : List (List Planned)) (lists : List (List TaskJob)) : Type 0 where
  pub all : length lists ≡ length plans
  pub each : (s : ℕ) (d : List TaskJob) (e : List Planned) → s < length lists → slice_index_or lists s d ≡ map (job_for layout seed content (queue_of queues s)) (slice_index_or plans s e)

-- the entries that a command leaves in a log at most, where no step of it is refused: eight, and three for each page of its data
abbrev pub entries_for : ℕ → ℕ
entries_for blocks = 8 + 3 * div_ceil blocks 8

-- The most commands of a round: so many that its log has no more entries, one at least. Where no log is limited, 800, or 200 of each submitter where these are more, and of 204,800 blocks in all
abbrev pub commands_for : ℕ → ℕ → Option ℕ → ℕ
commands_for blocks submitters None = min (max 800 (200 * submitters)) (204800 / blocks)
commands_for blocks submitters (Some entries) = max (entries / entries_for blocks) 1

-- how many commands may be begun after this many: as many as there are numbers of 64 bits where their number does not bound them
abbrev pub by_count : Option ℕ → ℕ → ℕ
by_count None begun = 2 ^ 64 - 1
by_count (Some count) begun = count - begun

-- none once this many seconds are over, nor where the clock cannot be read
abbrev pub in_time : Option ℕ → Option ℕ → ℕ → ℕ
in_time None nanos left = left
in_time (Some seconds) None left = 0
in_time (Some seconds) (Some nanos) left = if nat_lt nanos (seconds * 1000000000) then left else 0

abbrev pub commands_left : Load → ℕ → Option ℕ → ℕ
commands_left what begun nanos = in_time what.runtime nanos (by_count what.count begun)
