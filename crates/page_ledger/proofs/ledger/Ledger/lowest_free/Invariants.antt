use Rattle.std.proofs.Common.{◌≡◌, ◌≤◌, filter, length}
use Rattle.arrayvec.specs.ArrayVec.{array_vec_len}
use Rattle.page_ledger.specs.Owners.{is_free, is_owned_at, pages_from}
use Rattle.page_ledger.proofs.ledger.Ledger.lowest_free.Given as goal

abbrev pub invariant-loop : goal.invariant-loop
invariant-loop g l = record {
  inside : l.from ≤ length l.self;
  pages : l.pages.items ≡ filter (is_owned_at is_free l.self) (pages_from 0 l.from);
  count : array_vec_len l.pages ≡ l.counter;
}
