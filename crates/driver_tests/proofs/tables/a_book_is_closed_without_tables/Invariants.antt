use Rattle.std.specs.Prelude.{false}
use Rattle.step_core.specs.Opening.{opening_of}
use Rattle.driver_tests.proofs.tables.a_book_is_closed_without_tables.Given as goal

abbrev pub ghosts-run-L-Ledger : goal.ghosts-run-L-Ledger
ghosts-run-L-Ledger g a = record { name = a.blank.ledger.name; parts = a.blank.ledger.parts }

abbrev pub ghosts-run-L-Naming : goal.ghosts-run-L-Naming
ghosts-run-L-Naming g a = record { list = a.blank.drafts.name }

abbrev pub ghosts-run-L-LogBrand : goal.ghosts-run-L-LogBrand
ghosts-run-L-LogBrand g a = record { opening = opening_of a.config a.image; jobs_alone = false }
