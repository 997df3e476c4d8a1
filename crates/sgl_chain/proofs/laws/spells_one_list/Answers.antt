use Rattle.sgl_chain.proofs.Back.{one_list}
use Rattle.sgl_chain.proofs.laws.spells_one_list.Goals as goal

pub returns : goal.returns
returns c = one_list
