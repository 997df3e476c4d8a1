use Rattle.std.proofs.Common.{◌≡◌, length, vec_capacity}
use Rattle.host_core.specs.Opening.{HalvesGranted, fresh_queues}
use Rattle.host_core.proofs.open.open_queues.Given as goal

abbrev pub invariant-loop-q : goal.invariant-loop-q
invariant-loop-q g l = record {
  queues : l.queues.items ≡ fresh_queues l.entries l.q;
  granted : HalvesGranted l.entries l.q l.ledger;
  size : length l.ledger ≡ length l.fn.ledger;
  room : vec_capacity l.queues ≡ vec_capacity l.initial.queues;
}
