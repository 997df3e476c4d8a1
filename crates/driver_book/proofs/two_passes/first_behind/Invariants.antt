use Rattle.std.proofs.Common.{◌≡◌, length}
use Rattle.std.specs.Prelude.{MatchOption}
use Rattle.driver_book.specs.Table.{AreCounted, Tells, StandFrom, IsMissingFrom}
use Rattle.driver_book.proofs.two_passes.first_behind.Given as goal

-- the log was gone through from its end to here
abbrev pub invariant-loop-place : goal.invariant-loop-place
invariant-loop-place g l = record {
  counted : AreCounted l.counted.number l.counted.of_seats.items l.log.entries l.place;
  seats : length l.counted.of_seats.items ≡ length l.initial.counted.of_seats.items;
  tells : Tells l.ends l.log.entries l.place;
  queues : length l.ends.retired ≡ length l.initial.ends.retired;
  identifiers : l.ends.identifiers ≡ l.initial.ends.identifiers;
  found : MatchOption l.found (StandFrom l.log.entries l.seats l.place (length l.log.entries)) (λ m. IsMissingFrom l.log.entries l.seats l.place m.0 m.1);
}
