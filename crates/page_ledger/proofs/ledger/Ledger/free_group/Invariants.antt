use Rattle.std.{proofs.Common.{◌≡◌, ◌≤◌, length, take}, specs.List.count_by}
use Rattle.page_ledger.{proofs.Tables.given_below, specs.Groups.is_member}
use Rattle.page_ledger.proofs.ledger.Ledger.free_group.Given as goal

abbrev pub invariant-loop-p : goal.invariant-loop-p
invariant-loop-p g l = record {
  owners : l.self ≡ given_below (is_member l.group) l.p l.fn.self;
  size : length l.self ≡ length l.fn.self;
  number : l.freed ≡ count_by (is_member l.group) (take l.p l.fn.self);
  few : l.freed ≤ l.p;
}
