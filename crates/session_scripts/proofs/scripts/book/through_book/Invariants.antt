use Rattle.std.specs.Prelude.{false}
use Rattle.step_core.specs.Opening.{opening_of}
use Rattle.session_scripts.proofs.scripts.book.through_book.Given as goal

abbrev pub ghosts-play_in-L-Ledger : goal.ghosts-play_in-L-Ledger
ghosts-play_in-L-Ledger g a = record { name = a.blank.ledger.name; parts = a.blank.ledger.parts }

abbrev pub ghosts-play_in-L-Naming : goal.ghosts-play_in-L-Naming
ghosts-play_in-L-Naming g a = record { list = a.blank.drafts.name }

abbrev pub ghosts-play_in-L-LogBrand : goal.ghosts-play_in-L-LogBrand
ghosts-play_in-L-LogBrand g a = record { opening = opening_of a.config a.image; jobs_alone = false }
