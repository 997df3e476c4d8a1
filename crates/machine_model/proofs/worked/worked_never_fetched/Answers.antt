use Rattle.machine_model.proofs.NeverFetched.{before_the_fetch, before_the_collect}
use Rattle.machine_model.proofs.worked.worked_never_fetched.Goals as goal

pub returns-clause-before_the_fetch : goal.returns-clause-before_the_fetch
returns-clause-before_the_fetch c = before_the_fetch

pub returns-clause-before_the_collect : goal.returns-clause-before_the_collect
returns-clause-before_the_collect c = before_the_collect
