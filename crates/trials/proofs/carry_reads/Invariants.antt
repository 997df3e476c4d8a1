use Rattle.std.specs.Prelude.{true}
use Rattle.step_core.specs.Opening.{opening_of}
use Rattle.trials.proofs.carry_reads.Given as goal

abbrev pub ghosts-read_in_threads-L-Ledger : goal.ghosts-read_in_threads-L-Ledger
ghosts-read_in_threads-L-Ledger g a = record { name = a.blank.ledger.name; parts = a.blank.ledger.parts }

abbrev pub ghosts-read_in_threads-L-Naming : goal.ghosts-read_in_threads-L-Naming
ghosts-read_in_threads-L-Naming g a = record { list = a.blank.drafts.name }

abbrev pub ghosts-read_in_threads-L-LogBrand : goal.ghosts-read_in_threads-L-LogBrand
ghosts-read_in_threads-L-LogBrand g a = record { opening = opening_of a.config a.image; jobs_alone = true }

abbrev pub ghosts-read_alone-L-Ledger : goal.ghosts-read_alone-L-Ledger
ghosts-read_alone-L-Ledger g a = record { name = a.blank.ledger.name; parts = a.blank.ledger.parts }

abbrev pub ghosts-read_alone-L-Naming : goal.ghosts-read_alone-L-Naming
ghosts-read_alone-L-Naming g a = record { list = a.blank.drafts.name }

abbrev pub ghosts-read_alone-L-LogBrand : goal.ghosts-read_alone-L-LogBrand
ghosts-read_alone-L-LogBrand g a = record { opening = opening_of a.config a.image; jobs_alone = true }
