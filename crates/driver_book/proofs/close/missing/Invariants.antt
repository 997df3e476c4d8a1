use Rattle.driver_book.proofs.StandsInReceipts.{Searched}
use Rattle.driver_book.proofs.close.missing.Given as goal

-- the seats so far were gone through
abbrev pub invariant-loop-i : goal.invariant-loop-i
invariant-loop-i g l = Searched l.log.entries l.seats l.i l.end
