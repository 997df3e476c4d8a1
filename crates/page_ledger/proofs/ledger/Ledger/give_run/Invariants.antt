use Rattle.std.proofs.Common.{◌≡◌, length}
use Rattle.page_ledger.specs.Owners.{pages_from, with_owner}
use Rattle.page_ledger.proofs.ledger.Ledger.give_run.Given as goal

abbrev pub invariant-loop-i : goal.invariant-loop-i
invariant-loop-i g l = record {
  owners : l.self ≡ with_owner l.fn.self (pages_from l.first l.i) l.owner;
  size : length l.self ≡ length l.fn.self;
}
