use Rattle.driver_book.specs.Passes.{AreKnown}
use Rattle.driver_book.proofs.close.known_until.Given as goal

abbrev pub invariant-loop-p : goal.invariant-loop-p
invariant-loop-p g l = AreKnown l.log.entries l.seats l.p
