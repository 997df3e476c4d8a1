-- the rounds of reads so far went on to where the load stands
use Rattle.std.proofs.Common.{◌≡◌, ◌-◌, List}
use Rattle.load.specs.{Loaded.{setting_of, standing_of}, Rounds.{ReadOn, Round}}
use Rattle.load.proofs.run.read_again.Given as goal

abbrev pub invariant-loop-from : goal.invariant-loop-from
invariant-loop-from g l = record {
  read_on : (rounds : List Round) × ReadOn (setting_of l.fn.course) 0 (standing_of l.fn.course l.fn.world.state) rounds l.from (standing_of l.course l.world.state);
  setting : setting_of l.course ≡ setting_of l.fn.course;
}

abbrev pub decreases-loop-from : goal.decreases-loop-from
decreases-loop-from g l = l.course.layout.slots - l.from
