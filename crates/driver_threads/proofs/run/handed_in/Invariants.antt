-- the seats so far and the ends of their jobs agree, and they went as the threads gave back
use Rattle.std.proofs.Common.{◌≡◌, IfOk, length, map, vec_len}
use Rattle.std.specs.List.{AllZip}
use Rattle.driver_threads.specs.{Ends.{ends_of, statuses_of}, Jobs.{AllWentBy, WentBy}}
use Rattle.driver_threads.proofs.run.handed_in.Given as goal

abbrev pub invariant-loop-returned : goal.invariant-loop-returned
invariant-loop-returned g l = record {
  agree : map (λ seat. statuses_of seat.receipts) l.seats.items ≡ map (λ list. ends_of list.items) l.lists.items;
  many : vec_len l.lists ≡ length l.yielded;
  went : (lists : _) → AllZip (λ list returned. IfOk returned.carried (λ carried. WentBy g.D.Data.bytes g.D.Data.keeps g.L.LogBrand.opening carried.seat.number list carried.seat.receipts carried.ends.items)) lists l.yielded
      → AllWentBy g.D.Data.bytes g.D.Data.keeps g.L.LogBrand.opening lists (map (λ seat. seat.receipts) l.seats.items) (map (λ list. list.items) l.lists.items);
}
