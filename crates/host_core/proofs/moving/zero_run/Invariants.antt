use Rattle.std.proofs.Common.{◌≡◌, ◌+◌, ◌-◌}
use Rattle.machine_model.specs.Memory.{with_pages, zeroed_pages}
use Rattle.page_ledger.specs.Owners.{pages_from}
use Rattle.host_core.specs.{Commands.CanZero, Touching.TouchesBy}
use Rattle.host_core.proofs.moving.zero_run.Given as goal

abbrev pub invariant-loop-p : goal.invariant-loop-p
invariant-loop-p g l = record {
  rest : with_pages (zeroed_pages (pages_from l.p (l.fn.first + l.fn.count - l.p))) l.store.pages ≡ with_pages (zeroed_pages (pages_from l.fn.first l.fn.count)) l.fn.store.pages;
  can : CanZero (pages_from l.p (l.fn.first + l.fn.count - l.p)) l.store.pages;
  touches : TouchesBy (l.p - l.fn.first) l.fn.store l.store;
}
