use Rattle.std.proofs.Common.{◌≡◌, vec_capacity, take}
use Rattle.controller_core.specs.Opening.{queues_from}
use Rattle.controller_core.proofs.controller.open_queues.Given as goal

abbrev pub invariant-loop-i : goal.invariant-loop-i
invariant-loop-i g l = record {
  queues : l.queues.items ≡ queues_from l.entries 0 (take l.i l.pages);
  room : vec_capacity l.queues ≡ vec_capacity l.initial.queues;
}
