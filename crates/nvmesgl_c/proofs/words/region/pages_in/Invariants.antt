use Rattle.std.proofs.Common.{◌≡◌, take}
use Rattle.nvmesgl_c.specs.Regions.{pages_of}
use Rattle.nvmesgl_c.proofs.words.region.pages_in.Given as goal

abbrev pub invariant-loop-region : goal.invariant-loop-region
invariant-loop-region l = l.pages ≡ pages_of (take l.region-index l.regions)
