use Rattle.sgl_chain.proofs.Back.{spells_there}
use Rattle.sgl_chain.proofs.laws.spells_in_more_memory.Goals as goal

pub returns : goal.returns
returns c = spells_there
