use Rattle.nvmesgl_c.proofs.Runs.{pages_step}
use Rattle.nvmesgl_c.proofs.words.region.pages_in.Goals as goal

pub loop-region-preserved : goal.loop-region-preserved
loop-region-preserved c =
    pages_step c.args.regions.now c.loop-region.region-index c.loop-region.pages c.pages_with-pages.result c.region-item.result c.loop-region-test.true c.region-item.is c.loop-region.invariant c.pages_with-pages.ensures
