use Rattle.std.specs.Prelude.{true}
use Rattle.step_core.specs.Opening.{opening_of}
use Rattle.session_scripts.proofs.desk.runs.play_at.Given as goal

abbrev pub ghosts-outcome_of-L-Ledger : goal.ghosts-outcome_of-L-Ledger
ghosts-outcome_of-L-Ledger g a = record { name = a.blank.ledger.name; parts = a.blank.ledger.parts }

abbrev pub ghosts-outcome_of-L-Naming : goal.ghosts-outcome_of-L-Naming
ghosts-outcome_of-L-Naming g a = record { list = a.blank.drafts.name }

abbrev pub ghosts-outcome_of-L-LogBrand : goal.ghosts-outcome_of-L-LogBrand
ghosts-outcome_of-L-LogBrand g a = record { opening = opening_of a.config a.image; jobs_alone = true }
