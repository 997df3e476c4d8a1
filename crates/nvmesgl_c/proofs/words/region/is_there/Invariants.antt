use Rattle.std.proofs.Common.{ℕ, ◌<◌, ◌≤◌, ◌+◌, ◌-◌}
use Rattle.std.specs.Prelude.{IsSome}
use Rattle.nvmesgl_c.specs.Regions.{byte_in}
use Rattle.nvmesgl_c.proofs.words.region.is_there.Given as goal

abbrev pub invariant-loop-run : goal.invariant-loop-run
invariant-loop-run l = record {
  few : l.done ≤ l.count;
  there : (k : ℕ) → k < l.done → IsSome (byte_in l.regions (l.addr + k));
}

abbrev pub decreases-loop-run : goal.decreases-loop-run
decreases-loop-run l = l.count - l.done
