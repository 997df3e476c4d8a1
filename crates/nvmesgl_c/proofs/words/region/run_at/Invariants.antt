use Rattle.std.proofs.Common.{◌≡◌, ℕ, ◌<◌, ◌≤◌, Some}
use Rattle.std.specs.List.{slice_get}
use Rattle.nvmesgl_c.specs.Regions.{IsClear}
use Rattle.nvmesgl_c.specs.declared.words.region.CRegion.{CRegion}
use Rattle.nvmesgl_c.proofs.words.region.run_at.Given as goal

-- no region so far has a byte of what is left of the range
abbrev pub invariant-loop-place : goal.invariant-loop-place
invariant-loop-place l = record {
  some : 0 < l.left;
  few : l.left ≤ l.most;
  first : (place : ℕ) (before : CRegion) → place < l.place → slice_get l.regions place ≡ Some before → IsClear before l.addr l.left;
}
