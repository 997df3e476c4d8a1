-- How many commands ended how.
use Rattle.std.specs.{Prelude.{◌≡◌, ℕ, ◌+◌, ◌-◌, ◌^◌, ◌==◌, ◌&&◌, Bool, true, false, Option, Some, None, List, [], ◌∷◌, min, if◌then◌else◌}, Str.bytes_eq}
use Rattle.driver_threads.specs.{Jobs.KeepsOf, Values.EndOf, declared.jobs.JobEnd.TheVariants.{Done, Refused}}
use Rattle.entry_codec.specs.Status.{is_success}
use Rattle.io_commands.specs.{Values.gathered_from, declared.request.Kind.Kind}
use Rattle.load.specs.{Content.slot_content, Planning.TaskContents, declared.{content.Content.Content, layout.Layout.Layout, plan.Planned.Planned, task.Found.Found, tally.Tally.Tally}}
use Rattle.load.specs.declared.task.Found.TheVariants as found
use Rattle.io_commands.specs.declared.request.Kind.TheVariants as kind

abbrev pub no_tally : Tally
no_tally = record { done = 0; refused = 0; failed = 0; verified = 0; differ = 0 }

-- added up, as far as a number of 64 bits goes
abbrev pub sum_of : ℕ → ℕ → ℕ
sum_of a b = min (a + b) (2 ^ 64 - 1)

abbrev pub both : Tally → Tally → Tally
both a b = record {
  done = sum_of a.done b.done;
  refused = sum_of a.refused b.refused;
  failed = sum_of a.failed b.failed;
  verified = sum_of a.verified b.verified;
  differ = sum_of a.differ b.differ;
}

-- no command was refused or failed, and none brought other bytes
abbrev pub is_good : Tally → Bool
is_good tally = (tally.refused == 0) && ((tally.failed == 0) && (tally.differ == 0))

-- what a Read must bring; of another command nothing is compared
abbrev pub wanted_by : Kind → List ℕ → Option (List ℕ)
wanted_by kind.Read bytes = Some bytes
wanted_by k bytes = None

-- what a command must bring, where that is compared
abbrev pub wanted_of : Layout → Option Content → Planned → Option (List ℕ)
wanted_of layout None planned = None
wanted_of layout (Some content) planned = wanted_by planned.kind (slot_content layout content.seed content.first.items planned.slot planned.generation)

-- what is found of a command that brought these bytes, where these are wanted
abbrev pub found_of : Option (List ℕ) → List ℕ → Found
found_of None brought = found.NotCompared
found_of (Some wanted) brought = if bytes_eq brought wanted then found.Same else found.Differs

-- an end keeps what is found of what was gathered from its command
abbrev pub KeepsFound : KeepsOf TaskContents Found
KeepsFound task command kept = kept ≡ found_of (wanted_of task.layout task.content task.planned) (gathered_from command)

-- an end of a command
abbrev pub TaskEnd : Type 0
TaskEnd = EndOf Found

-- a command with status 0:00 of which this is found
abbrev pub compared : Found → Tally
compared found.NotCompared = record no_tally { done = 1 }
compared found.Same = record no_tally { done = 1; verified = 1 }
compared found.Differs = record no_tally { done = 1; differ = 1 }

-- one command
abbrev pub of_end : TaskEnd → Tally
of_end (Refused why) = record no_tally { refused = 1 }
of_end (Done status kept) = if is_success status then compared kept else record no_tally { failed = 1 }

-- commands and their ends, in order, counted to those before
abbrev pub tally_from : Tally → List Planned → List TaskEnd → Tally
tally_from tally [] ends = tally
tally_from tally (planned ∷ plan) [] = tally
tally_from tally (planned ∷ plan) (end ∷ ends) = tally_from (both tally (of_end end)) plan ends

-- the commands of submitters and their ends, submitter by submitter, counted to those before
abbrev pub tallies_from : Tally → List (List Planned) → List (List TaskEnd) → Tally
tallies_from tally [] lists = tally
tallies_from tally (plan ∷ plans) [] = tally
tallies_from tally (plan ∷ plans) (ends ∷ lists) = tallies_from (both tally (tally_from no_tally plan ends)) plans lists

-- what is counted of a round: of reads after the load none is done
abbrev pub counted : Bool → Tally → Tally
counted true tally = tally
counted false tally = record tally { done = 0 }
