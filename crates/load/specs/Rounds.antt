-- Rounds of a load, each over the world to which the one before led.
use Rattle.std.specs.Prelude.{◌≡◌, ◌≤◌, ◌<◌, ◌+◌, ◌-◌, ◌*◌, ◌/◌, ◌==◌, zero, suc, ℕ, Bool, true, false, Option, List, [], ◌∷◌, length, map, max, min, slice_index, slice_index_or, slice_set, if◌then◌else◌}
use Rattle.driver_book.specs.{Entries.LogContents, Reports.Report, State.AreOfJobs}
use Rattle.driver_threads.specs.{Ends.AllAgree, Jobs.AllWentBy, Runs.EndsRound, declared.jobs.JobEnd.TheVariants.{Done}}
use Rattle.entry_codec.specs.Status.{is_success}
use Rattle.io_commands.specs.declared.request.Kind.{Kind}
use Rattle.load.specs.{Course.{AreJobs, ArePlans, commands_left}, Planning.{TaskJob, bytes_for, planned_at}, Tallies.{KeepsFound, TaskEnd, both, counted, no_tally, sum_of, tallies_from}}
use Rattle.load.specs.declared.{content.Content.Content, layout.Layout.Layout, plan.Planned.Planned, tally.Tally.Tally}
use Rattle.machine_model.specs.State.{State}
use Rattle.script_cli.specs.declared.workload.Load.{Load}
use Rattle.step_core.specs.World.{WorldContents}
use Rattle.io_commands.specs.declared.request.Kind.TheVariants as kind

-- What stays over a load: how its blocks are shared out, what its bytes are made of, its queues, the most commands of a round, and what is compared
pub record Setting : Type 0 where
  pub layout : Layout
  pub seed : ℕ
  pub queues : ℕ
  pub round : ℕ
  pub content : Option Content

-- how often each slot was written, the machine, and what commands came to so far
pub record Standing : Type 0 where
  pub generations : List ℕ
  pub machine : State
  pub tally : Tally

-- a round: its commands, how they ended, and the world that they left
pub record Round : Type 0 where
  pub plans : List (List Planned)
  pub ends : List (List TaskEnd)
  pub world : WorldContents

-- How often slots were written

-- a command wrote its slot
abbrev pub wrote : Kind → TaskEnd → Bool
wrote kind.Write (Done status kept) = is_success status
wrote other what = false

abbrev pub noted_one : List ℕ → Planned → TaskEnd → List ℕ
noted_one generations p end = if wrote p.kind end then slice_set generations p.slot p.generation else generations

-- after the commands of a submitter
abbrev pub noted : List ℕ → List Planned → List TaskEnd → List ℕ
noted generations [] ends = generations
noted generations (p ∷ plan) [] = generations
noted generations (p ∷ plan) (end ∷ ends) = noted (noted_one generations p end) plan ends

-- after those of all submitters
abbrev pub all_noted : List ℕ → List (List Planned) → List (List TaskEnd) → List ℕ
all_noted generations [] lists = generations
all_noted generations (plan ∷ plans) [] = generations
all_noted generations (plan ∷ plans) (ends ∷ lists) = all_noted (noted generations plan ends) plans lists

-- Rounds

-- The commands of plans were done over a machine: a book that opened there was closed, whose log has the steps of jobs alone. The jobs of each submitter were those of its plan, on its queue: each was submitted
-- with its own request and bytes, and its end has what is found of the bytes that were gathered from a command that a book of the round collected under its receipt's queue and identifier, by what the job's slot
-- must hold; or a book of the round refused it. Each command has its end, which is the one that its receipt says, and there is no further receipt.
pub record AreDone (s : Setting) (before : State) (plans : List (List Planned)) (ends : List (List TaskEnd)) (world : WorldContents) : Type 0 where
  pub lists : List (List TaskJob)
  pub log : LogContents
  pub report : Report
  pub ended : EndsRound before log report world
  pub are_jobs : AreJobs s.layout s.seed s.content s.queues plans lists
  pub went : AllWentBy bytes_for KeepsFound before lists report.receipts ends
  pub all : map length ends ≡ map length plans
  pub agree : AllAgree report.receipts ends
  pub jobs : AreOfJobs log.entries

-- how many commands plans have, counted to those before, as far as a number of 64 bits goes
abbrev pub commands_from : ℕ → List (List Planned) → ℕ
commands_from many [] = many
commands_from many (plan ∷ plans) = commands_from (sum_of many (length plan)) plans

abbrev pub commands_of : List (List Planned) → ℕ
commands_of plans = commands_from 0 plans

-- after a round of commands of the load, or of reads after it
abbrev pub after : Setting → Bool → Standing → Round → Standing
after s of_load before round = record {
  generations = all_noted before.generations round.plans round.ends;
  machine = round.world.state;
  tally = both before.tally (counted of_load (tallies_from no_tally round.plans round.ends));
}

-- this many commands at most are planned, and done
pub record IsRoundOf (s : Setting) (most : ℕ) (before : Standing) (round : Round) : Type 0 where
  pub planned : ArePlans s.layout before.generations (min most s.round) round.plans
  pub done : AreDone s before.machine round.plans round.ends round.world

-- one round, of this many commands, led from where a load stood to where it stands
pub record GoesOn (s : Setting) (most : ℕ) (before : Standing) (many : ℕ) (standing : Standing) : Type 0 where
  pub round : Round
  pub is_round : IsRoundOf s most before round
  pub count : many ≡ commands_of round.plans
  pub stands : standing ≡ after s true before round

-- Rounds of the load went on from where it stood to where it stands, and from this many commands to this many. Each was begun as commands were left.
abbrev pub GoOn : Load → Setting → ℕ → Standing → List Round → ℕ → Standing → Type 0
GoOn what s begun before [] many standing = (many ≡ begun) × (standing ≡ before)
GoOn what s begun before (round ∷ rounds) many standing =
    ((nanos : Option ℕ) × (0 < commands_left what begun nanos) × IsRoundOf s (commands_left what begun nanos) before round)
    × GoOn what s (sum_of begun (commands_of round.plans)) (after s true before round) rounds many standing

-- They went on until no command was left.
pub record HasGoneOn (what : Load) (s : Setting) (before standing : Standing) : Type 0 where
  pub rounds : List Round
  pub begun : ℕ
  pub nanos : Option ℕ
  pub go_on : GoOn what s 0 before rounds begun standing
  pub none_left : commands_left what begun nanos ≡ 0

-- Reads after the load

-- Reads of those that were written, of this many slots starting at one
abbrev pub reads_from : List ℕ → ℕ → ℕ → List Planned
reads_from generations slot zero = []
reads_from generations slot (suc many) =
    if slice_index generations slot == 0 then reads_from generations (slot + 1) many else planned_at generations slot kind.Read ∷ reads_from generations (slot + 1) many

-- how many of the slots of each submitter are read in a round
abbrev pub reads_of : Setting → ℕ
reads_of s = min s.layout.slots (max (s.round / s.layout.submitters) 1)

-- each submitter has the reads of this many of its slots starting at one
pub record AreReads (layout : Layout) (generations : List ℕ) (from many : ℕ) (plans : List (List Planned)) : Type 0 where
  pub all : length plans ≡ layout.submitters
  pub each :
      (s : ℕ) (d : List Planned) → s < length plans
      → slice_index_or plans s d ≡ reads_from generations (s * layout.slots + min from layout.slots) (min many (layout.slots - from))

-- this many of each submitter's slots are read that were written, starting at one
pub record IsReadOf (s : Setting) (from : ℕ) (before : Standing) (round : Round) : Type 0 where
  pub planned : AreReads s.layout before.generations from (reads_of s) round.plans
  pub done : AreDone s before.machine round.plans round.ends round.world

-- one round of reads led from where a load stood to where it stands
pub record ReadsOn (s : Setting) (from : ℕ) (before standing : Standing) : Type 0 where
  pub round : Round
  pub is_read : IsReadOf s from before round
  pub stands : standing ≡ after s false before round

-- Rounds of reads went on from one slot of each submitter to another, and from where the load stood to where it stands.
abbrev pub ReadOn : Setting → ℕ → Standing → List Round → ℕ → Standing → Type 0
ReadOn s from before [] at standing = (at ≡ from) × (standing ≡ before)
ReadOn s from before (round ∷ rounds) at standing =
    ((from < s.layout.slots) × IsReadOf s from before round) × ReadOn s (from + reads_of s) (after s false before round) rounds at standing

-- They went on from the first slot until there was none: each slot that was written was read again.
pub record HasReadAgain (s : Setting) (before standing : Standing) : Type 0 where
  pub rounds : List Round
  pub at : ℕ
  pub read_on : ReadOn s 0 before rounds at standing
  pub all : s.layout.slots ≤ at
