use Rattle.std.specs.Prelude.{true}
use Rattle.step_core.specs.Opening.{opening_of}
use Rattle.driver_tests.proofs.serving.what_who_rings_serves.Given as goal

abbrev pub ghosts-see_served-L-Ledger : goal.ghosts-see_served-L-Ledger
ghosts-see_served-L-Ledger g a = record { name = a.blank.ledger.name; parts = a.blank.ledger.parts }

abbrev pub ghosts-see_served-L-Naming : goal.ghosts-see_served-L-Naming
ghosts-see_served-L-Naming g a = record { list = a.blank.drafts.name }

abbrev pub ghosts-see_served-L-LogBrand : goal.ghosts-see_served-L-LogBrand
ghosts-see_served-L-LogBrand g a = record { opening = opening_of a.config a.image; jobs_alone = true }
