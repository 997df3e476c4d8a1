-- the walk is in its list, or has ended as that does; it has fetched what that moves, and the descriptors that it read are told
use Rattle.controller_walk.specs.Walks.{left_of}
use Rattle.views.specs.{Fetched.Fetches, Sparse.byte_in}
use Rattle.views.proofs.Telling.{Telling, Standing}
use Rattle.views.proofs.explain.list.walk_list.Given as goal

abbrev pub invariant-walk : goal.invariant-walk
invariant-walk l = record {
  stands : Standing l.fn.begun l.walk (byte_in l.fn.memory.pool) (byte_in l.memory.pool) l.staging;
  fetches : Fetches l.fn.begun l.walk (byte_in l.fn.memory.pool) (byte_in l.memory.pool) l.fn.staging l.staging;
  tells : Telling l.fn.begun l.walk (byte_in l.fn.memory.pool) (byte_in l.memory.pool) l.sgl1 l.taken.items;
}

abbrev pub decreases-walk : goal.decreases-walk
decreases-walk l = left_of l.walk
