use Rattle.std.proofs.Common.{◌≡◌, ◌++◌, ◌+◌, ◌≤◌, ◌-◌, length, drop, take, vec_len, vec_capacity}
use Rattle.machine_model.specs.Memory.{without_pages, zeroed_pages}
use Rattle.host_core.specs.{Commands.CanTake, Touching.TouchesBy}
use Rattle.host_core.proofs.moving.move_out_zeroed.Given as goal

abbrev pub invariant-loop-number : goal.invariant-loop-number
invariant-loop-number g l = record {
  rest : without_pages (drop l.number-index l.numbers) l.store.pages ≡ without_pages l.numbers l.fn.store.pages;
  can : CanTake (drop l.number-index l.numbers) l.store.pages;
  items : l.into.items ≡ l.fn.into.items ++ zeroed_pages (take l.number-index l.numbers);
  room : vec_len l.into + (length l.numbers - l.number-index) ≤ vec_capacity l.into;
  capacity : vec_capacity l.into ≡ vec_capacity l.fn.into;
  touches : TouchesBy l.number-index l.fn.store l.store;
}
