-- What contracts see of a book and of a seat, and what holds of every book.
use Rattle.std.specs.{Bool.OnTrue, List.AllByRecursion, Prelude.{◌≡◌, ℕ, ◌+◌, ◌≤◌, List, Bool, true, false, not, ◌||◌, is_some, length}}
use Rattle.io_commands.specs.Drafts.{DraftContents}
use Rattle.machine_model.specs.{Claims.IsSound, State.State}
use Rattle.driver_book.specs.{Entries.{Entry, Room}, History.{LeadsTo, LeadsBy, is_accepted, accepted}, declared.report.Receipt.Receipt}
use Rattle.step_core.specs.Values.{Step}
use Rattle.step_core.specs.declared.step.Step.TheVariants as step

-- A book: the world as it was opened and as it is, how many pages were touched so far, the log between, how many seats were made, how many of them no close took, how many
-- submissions the others had, whether the workers are told to stop, how much the log takes before it has to grow, the drafts of the accepted submissions, and
-- whether the book has its table of the last ones.
pub record BookContents : Type 0 where
  pub opening : State
  pub world : State
  pub touches : ℕ
  pub log : List Entry
  pub made : ℕ
  pub out : ℕ
  pub taken : ℕ
  pub stopping : Bool
  pub room : Room
  pub drafts : List DraftContents
  pub tabled : Bool

-- A book of this opening: its log is that of a run that leads from there to the world as it is, with its drafts, and the world is sound, so each page has one
-- owner, the counts add up, and the identifiers of a queue are distinct.
pub record IsBookOf (opening : State) (book : BookContents) : Type 0 where
  pub opens : book.opening ≡ opening
  pub legal : LeadsTo opening book.log book.world
  pub submitted : LeadsBy opening book.log book.drafts book.world
  pub sound : IsSound book.world

-- A seat: its number, its receipts, how many more of them it takes before their list has to grow, and the drafts of all submissions up to its last one.
pub record SeatContents : Type 0 where
  pub number : ℕ
  pub receipts : List Receipt
  pub spare : ℕ
  pub known : List DraftContents

-- each accepted submission was made by a seat
abbrev pub is_seated : Entry → Bool
is_seated e = is_some e.seat || not (is_accepted e)

abbrev pub AreSeated : List Entry → Type 0
AreSeated log = AllByRecursion (λ e. is_seated e ≡ true) log

-- The steps of jobs: what submitters, the reader of completions and the controller do for them. The others change queues, abort, forge or reset.
abbrev pub is_of_jobs : Step → Bool
is_of_jobs (step.Abort q cid) = false
is_of_jobs (step.DeleteSq q) = false
is_of_jobs (step.DeleteCq q) = false
is_of_jobs (step.CreateCq q vector) = false
is_of_jobs (step.CreateSq q) = false
is_of_jobs (step.Retire q) = false
is_of_jobs (step.Forge q slot bytes) = false
is_of_jobs step.Reset = false
is_of_jobs what = true

abbrev pub AreOfJobs : List Entry → Type 0
AreOfJobs log = AllByRecursion (λ e. is_of_jobs e.step ≡ true) log

-- A book's log leads from the opening to the world as it is, which is sound, with its drafts; the tally counts its accepted submissions; the parts of the ledger
-- are those of the seats that are out, and the rest. Where the driver takes the steps of jobs alone, the log has no others.
pub record IsBook (jobs_alone : Bool) (opening world : State) (log : List Entry) (drafts : List DraftContents) (tally parts out made ledger : ℕ) : Type 0 where
  pub legal : LeadsTo opening log world
  pub submitted : LeadsBy opening log drafts world
  pub sound : IsSound world
  pub counted : accepted log ≡ tally
  pub numbered : length drafts ≡ accepted log
  pub seated : AreSeated log
  pub jobs : OnTrue jobs_alone (AreOfJobs log)
  pub shares : parts + out ≡ 65536
  pub all_parts : ledger ≡ 65536
  pub given : out ≤ made
  pub most : made ≤ 65535
