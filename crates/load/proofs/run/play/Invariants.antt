-- the ledger of a round's book, and what that book opens with
use Rattle.std.specs.Prelude.{true}
use Rattle.load.proofs.run.play.Given as goal

abbrev pub ghosts-run_round-L-Ledger : goal.ghosts-run_round-L-Ledger
ghosts-run_round-L-Ledger g a = record { name = a.blank.ledger.name; parts = a.blank.ledger.parts }

abbrev pub ghosts-run_round-L-Naming : goal.ghosts-run_round-L-Naming
ghosts-run_round-L-Naming g a = record { list = a.blank.drafts.name }

abbrev pub ghosts-run_round-L-LogBrand : goal.ghosts-run_round-L-LogBrand
ghosts-run_round-L-LogBrand g a = record { opening = a.world.state; jobs_alone = true }
