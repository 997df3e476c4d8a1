use Rattle.std.proofs.Common.{◌≡◌, ◌≤◌, length}
use Rattle.driver_book.specs.Table.{AreCounted, AreWithin}
use Rattle.driver_book.proofs.two_passes.Counted.of_log.Given as goal

-- the log was gone through up to here
abbrev pub invariant-loop-place : goal.invariant-loop-place
invariant-loop-place g l = record {
  counted : AreCounted l.counted.number l.counted.of_seats.items l.log.entries l.place;
  seats : length l.counted.of_seats.items ≡ length l.initial.counted.of_seats.items;
  within : AreWithin l.bounds.queues l.bounds.identifiers l.log.entries l.place;
  few_queues : l.bounds.queues ≤ 65536;
  few_identifiers : l.bounds.identifiers ≤ 65536;
}
