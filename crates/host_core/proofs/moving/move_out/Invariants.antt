use Rattle.std.proofs.Common.{◌≡◌, ◌++◌, ◌+◌, drop, vec_len, vec_capacity}
use Rattle.machine_model.specs.Memory.{without_pages}
use Rattle.host_core.specs.{Collecting.taken_pages, Commands.CanTake, Touching.TouchesBy}
use Rattle.host_core.proofs.moving.move_out.Given as goal

abbrev pub invariant-loop-number : goal.invariant-loop-number
invariant-loop-number g l = record {
  rest : without_pages (drop l.number-index l.numbers) l.store.pages ≡ without_pages l.numbers l.fn.store.pages;
  can : CanTake (drop l.number-index l.numbers) l.store.pages;
  items : l.into.items ++ taken_pages (drop l.number-index l.numbers) l.store.pages ≡ l.fn.into.items ++ taken_pages l.numbers l.fn.store.pages;
  many : vec_len l.into ≡ vec_len l.fn.into + l.number-index;
  capacity : vec_capacity l.into ≡ vec_capacity l.fn.into;
  touches : TouchesBy l.number-index l.fn.store l.store;
}
