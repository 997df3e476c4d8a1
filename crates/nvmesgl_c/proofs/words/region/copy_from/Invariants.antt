use Rattle.std.proofs.Common.{◌≡◌, ℕ, ◌<◌, ◌≤◌, ◌+◌, ◌-◌, Some, length, slice_index}
use Rattle.nvmesgl_c.specs.Regions.{byte_in}
use Rattle.nvmesgl_c.proofs.words.region.copy_from.Given as goal

abbrev pub invariant-loop-run : goal.invariant-loop-run
invariant-loop-run l = record {
  few : l.done ≤ length l.into;
  copied : (k : ℕ) → k < l.done → byte_in l.regions (l.addr + k) ≡ Some (slice_index l.into k);
}

abbrev pub decreases-loop-run : goal.decreases-loop-run
decreases-loop-run l = length l.into - l.done
