use Rattle.std.proofs.Common.{◌≡◌, ◌+◌, drop}
use Rattle.driver_book.specs.Close.{held}
use Rattle.driver_book.proofs.close.status_behind.Given as goal

-- what was passed over gave no status
abbrev pub invariant-loop-i : goal.invariant-loop-i
invariant-loop-i g l = held l.q l.cid (drop l.i l.log.entries) ≡ held l.q l.cid (drop (l.index + 1) l.log.entries)
