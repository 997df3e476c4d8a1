use Rattle.std.proofs.Common.{◌≡◌, length, drop}
use Rattle.machine_model.specs.Memory.{with_pages}
use Rattle.host_core.specs.{Commands.CanPut, Touching.TouchesBy}
use Rattle.host_core.proofs.moving.move_in.Given as goal

abbrev pub invariant-loop-page : goal.invariant-loop-page
invariant-loop-page g l = record {
  rest : with_pages (drop (length l.yielded) l.fn.pages.items) l.store.pages ≡ with_pages l.fn.pages.items l.fn.store.pages;
  can : CanPut (drop (length l.yielded) l.fn.pages.items) l.store.pages;
  touches : TouchesBy 0 l.fn.store l.store;
}
