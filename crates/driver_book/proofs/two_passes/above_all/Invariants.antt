use Rattle.std.proofs.Common.{◌≡◌, ◌<◌, ℕ, Some}
use Rattle.std.specs.List.{slice_get}
use Rattle.driver_book.specs.State.{SeatContents}
use Rattle.driver_book.proofs.two_passes.above_all.Given as goal

-- the number is above those of the seats so far
abbrev pub invariant-loop-seat : goal.invariant-loop-seat
invariant-loop-seat g l = (k : ℕ) → k < l.seat-index → (s : SeatContents) → slice_get l.seats k ≡ Some s → s.number < l.end
