-- Jobs that are done in rounds, each over the world to which the one before led.
use Rattle.std.specs.Prelude.{◌≡◌, ◌⊎◌, ◌≤◌, ◌+◌, ◌*◌, ℕ, List, [], ◌∷◌, ◌++◌, length, min, sum_by}
use Rattle.driver_book.specs.{Entries.{Entry, LogContents}, Reports.Report, State.AreOfJobs, declared.report.Receipt.Receipt}
use Rattle.driver_threads.specs.{Behind.behind, Ends.AllAgree, Jobs.AllWent, Runs.EndsRound, Values.{Job, JobEnd}}
use Rattle.machine_model.specs.State.{State}
use Rattle.step_core.specs.World.{WorldContents}

-- A round: the jobs that each submitter did in it, the log of its book, what that said as it was closed, how the jobs ended, and the world to which the log leads.
pub record Round : Type 0 where
  pub lists : List (List Job)
  pub log : LogContents
  pub report : Report
  pub ends : List (List JobEnd)
  pub world : WorldContents

-- Rounds, each of a book that opened over the world to which the one before led, and that was closed: from one state to another. Each job of a round was submitted with its own request
-- and bytes, and its end has what was gathered of a command that a book of the round collected under its receipt's queue and identifier; or a book of the round refused it.
abbrev pub GoOn : State → List Round → State → Type 0
GoOn before [] after = after ≡ before
GoOn before (round ∷ rounds) after =
    EndsRound before round.log round.report round.world × AllWent before round.lists round.report.receipts round.ends × GoOn round.world.state rounds after

-- the jobs that each submitter did in all rounds, one round after the other, and how they ended
abbrev pub lists_of : List Round → List (List Job)
lists_of [] = []
lists_of (round ∷ rounds) = behind round.lists (lists_of rounds)

abbrev pub ends_in : List Round → List (List JobEnd)
ends_in [] = []
ends_in (round ∷ rounds) = behind round.ends (ends_in rounds)

-- the logs of all rounds, one after the other
abbrev pub logs_of : List Round → List Entry
logs_of [] = []
logs_of (round ∷ rounds) = round.log.entries ++ logs_of rounds

-- the receipts of each submitter in all rounds, one round after the other
abbrev pub receipts_of : List Round → List (List Receipt)
receipts_of [] = []
receipts_of (round ∷ rounds) = behind round.report.receipts (receipts_of rounds)

-- Some rounds led from one state to another, in which the submitters did these jobs, which ended so: each command ended as its receipt in the report of its round says, and there is
-- no further receipt. All logs have the steps of jobs alone.
pub record HasGoneOn (before : State) (lists : List (List Job)) (ends : List (List JobEnd)) (after : State) : Type 0 where
  pub rounds : List Round
  pub go_on : GoOn before rounds after
  pub lists_are : lists ≡ lists_of rounds
  pub ends_are : ends ≡ ends_in rounds
  pub agree : AllAgree (receipts_of rounds) ends
  pub jobs : AreOfJobs (logs_of rounds)

-- the same of the first of the submitters' jobs, where these are left
pub record HasBegun (before : State) (all : List (List Job)) (ends : List (List JobEnd)) (after : State) : Type 0 where
  pub done : List (List Job)
  pub left : List (List Job)
  pub all_are : behind done left ≡ all
  pub gone_on : HasGoneOn before done ends after

-- How many jobs a round takes of a submitter

-- How many entries of a log a job writes at most, where no step of it is refused: eight, and those of its walk, which reads a descriptor of
-- each piece, follows a link for it, and moves its bytes. A request of more than 1,024 pieces is refused, and walks over none.
abbrev pub entries_for : Job → ℕ
entries_for job = 8 + 3 * min (length job.request.pieces) 1024

-- this many jobs are one at most, or write no more entries than that
abbrev pub Fit : ℕ → List Job → Type 0
Fit share jobs = (length jobs ≤ 1) ⊎ (sum_by entries_for jobs ≤ share)
