use Rattle.std.proofs.Common.{take}
use Rattle.machine_model.specs.Proper.{ArePages}
use Rattle.host_core.proofs.compare.are_whole.Given as goal

abbrev pub invariant-loop-page : goal.invariant-loop-page
invariant-loop-page g l = ArePages (take l.page-index l.pages)
