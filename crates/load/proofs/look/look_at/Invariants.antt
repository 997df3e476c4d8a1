-- the commands that are left are counted after those that came
use Rattle.std.{proofs.Common.◌≡◌, specs.{Iterator.Adapters.{zip_first, zip_second}, Slice.Iter.iter_rest}}
use Rattle.load.specs.Tallies.{no_tally, tally_from}
use Rattle.load.proofs.look.look_at.Given as goal

abbrev pub invariant-loop-planned : goal.invariant-loop-planned
invariant-loop-planned l =
    tally_from l.looked.tally (iter_rest (zip_first l.planned-iterator)) (iter_rest (zip_second l.planned-iterator))
    ≡ tally_from no_tally l.plan l.ends
