use Rattle.std.specs.Prelude.{false}
use Rattle.step_core.specs.Opening.{opening_of}
use Rattle.driver_tests.proofs.wakes.each_call_wakes_who_waits_for_it.Given as goal

abbrev pub ghosts-wake-L-Ledger : goal.ghosts-wake-L-Ledger
ghosts-wake-L-Ledger g a = record { name = a.blank.ledger.name; parts = a.blank.ledger.parts }

abbrev pub ghosts-wake-L-Naming : goal.ghosts-wake-L-Naming
ghosts-wake-L-Naming g a = record { list = a.blank.drafts.name }

abbrev pub ghosts-wake-L-LogBrand : goal.ghosts-wake-L-LogBrand
ghosts-wake-L-LogBrand g a = record { opening = opening_of a.config a.image; jobs_alone = false }
