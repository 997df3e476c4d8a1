use Rattle.two_sides.proofs.PoolBytes.{goes_as_in_the_pool}
use Rattle.two_sides.proofs.laws.law_of_memory.Goals as goal

pub returns-clause-courses : goal.returns-clause-courses
returns-clause-courses c = goes_as_in_the_pool
