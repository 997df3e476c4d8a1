use Rattle.nvmesgl_c.proofs.Runs.{none_there}
use Rattle.nvmesgl_c.proofs.words.region.run_at.Goals as goal

pub returns-clause-none : goal.returns-clause-none
returns-clause-none c =
    λ asked. none_there c.args.regions.now c.args.addr c.loop-place.left c.loop-place.place c.loop-place.invariant.some c.loop-place-test.false c.loop-place.invariant.first
