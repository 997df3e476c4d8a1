use Rattle.views.proofs.Telling.{all_within}
use Rattle.views.proofs.explain.laws.fetched_lists_stand_apart.Goals as goal

pub returns : goal.returns
returns c list = record { reads = all_within list; moves = tt }
