use Rattle.std.specs.Prelude.{false}
use Rattle.step_core.specs.Opening.{opening_of}
use Rattle.session_scripts.proofs.scripts.visit.visit.Given as goal

abbrev pub ghosts-play_away-M-Ledger : goal.ghosts-play_away-M-Ledger
ghosts-play_away-M-Ledger g a = record { name = a.blank.ledger.name; parts = a.blank.ledger.parts }

abbrev pub ghosts-play_away-M-Naming : goal.ghosts-play_away-M-Naming
ghosts-play_away-M-Naming g a = record { list = a.blank.drafts.name }

abbrev pub ghosts-play_away-M-LogBrand : goal.ghosts-play_away-M-LogBrand
ghosts-play_away-M-LogBrand g a = record { opening = opening_of a.config a.image; jobs_alone = false }
