use Rattle.std.proofs.Common.{Some}
use Rattle.driver_book.proofs.StandsInReceipts.{Passed}
use Rattle.driver_book.proofs.close.missing_of.Given as goal

-- the log was gone through up to here
abbrev pub invariant-loop-p : goal.invariant-loop-p
invariant-loop-p g l = Passed l.log.entries l.seats (Some l.seat) l.p l.number l.place
