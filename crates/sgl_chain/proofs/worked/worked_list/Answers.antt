use Rattle.sgl_chain.proofs.Back.{list_refused}
use Rattle.sgl_chain.proofs.worked.worked_list.Goals as goal

pub returns-clause-not_last : goal.returns-clause-not_last
returns-clause-not_last c = list_refused
