use Rattle.std.proofs.Common.{◌≡◌, length, drop}
use Rattle.page_ledger.specs.Owners.{with_owner}
use Rattle.page_ledger.proofs.ledger.Ledger.give.Given as goal

abbrev pub invariant-loop-page : goal.invariant-loop-page
invariant-loop-page g l = record {
  rest : with_owner l.self (drop l.page-index l.pages) l.owner ≡ with_owner l.fn.self l.pages l.owner;
  size : length l.self ≡ length l.fn.self;
}
