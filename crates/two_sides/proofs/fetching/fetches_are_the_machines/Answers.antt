use Rattle.two_sides.proofs.FetchSteps.{fetches}
use Rattle.two_sides.proofs.fetching.fetches_are_the_machines.Goals as goal

pub returns : goal.returns
returns c = fetches
