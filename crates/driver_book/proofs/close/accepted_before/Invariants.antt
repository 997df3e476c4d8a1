use Rattle.std.proofs.Common.{◌≡◌, take}
use Rattle.driver_book.specs.History.{accepted}
use Rattle.driver_book.proofs.close.accepted_before.Given as goal

abbrev pub invariant-loop-p : goal.invariant-loop-p
invariant-loop-p g l = l.number ≡ accepted (take l.p l.log.entries)
