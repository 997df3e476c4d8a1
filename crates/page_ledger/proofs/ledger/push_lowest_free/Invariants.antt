use Rattle.std.proofs.Common.{◌≡◌, ◌≤◌, ◌++◌, filter, length, vec_capacity}
use Rattle.slot_table.specs.Places.{is_true_at}
use Rattle.page_ledger.specs.Owners.{pages_from}
use Rattle.page_ledger.proofs.ledger.push_lowest_free.Given as goal

abbrev pub invariant-loop : goal.invariant-loop
invariant-loop g l = record {
  inside : l.from ≤ length l.free;
  pages : l.into.items ≡ l.fn.into.items ++ filter (is_true_at l.free) (pages_from 0 l.from);
  count : length (filter (is_true_at l.free) (pages_from 0 l.from)) ≡ l.counter;
  room : vec_capacity l.into ≡ vec_capacity l.fn.into;
}
