-- the commands that are left are noted after those that came
use Rattle.std.{proofs.Common.◌≡◌, specs.{Iterator.Adapters.{zip_first, zip_second}, Slice.Iter.iter_rest}}
use Rattle.load.specs.Rounds.{noted}
use Rattle.load.proofs.look.note_writes.Given as goal

abbrev pub invariant-loop-planned : goal.invariant-loop-planned
invariant-loop-planned l =
    noted l.generations (iter_rest (zip_first l.planned-iterator)) (iter_rest (zip_second l.planned-iterator)) ≡ noted l.fn.generations l.plan l.ends
