use Rattle.std.proofs.Common.{◌≡◌, map, take}
use Rattle.nvmesgl_c.specs.ControllerOptions as options
use Rattle.nvmesgl_c.proofs.controller.options.pages_of.Given as goal

abbrev pub invariant-loop-queue : goal.invariant-loop-queue
invariant-loop-queue l = l.made.items ≡ map options.pages_of_queue (take l.queue-index l.queues)
