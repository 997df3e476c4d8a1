use Rattle.std.proofs.Common.{◌≡◌, ◌+◌, ◌<◌, ◌≤◌, length, map, vec_capacity}
use Rattle.driver_book.specs.Close.{receipts_of}
use Rattle.driver_book.proofs.close.take_in.Given as goal

abbrev pub invariant-loop-seat : goal.invariant-loop-seat
invariant-loop-seat g l = record {
  parts : l.rest.parts ≡ l.initial.rest.parts + length l.yielded;
  amount : l.rest.amount ≡ l.initial.rest.amount + receipts_of l.yielded;
  lists : map (λ v. v.items) l.lists.items ≡ map (λ a. a.receipts) l.yielded;
  room : vec_capacity l.lists ≡ vec_capacity l.initial.lists;
  bound : 0 < length l.yielded → l.rest.parts ≤ g.L.Ledger.parts;
}
