-- the rounds so far went on to where the load stands
use Rattle.std.proofs.Common.{◌≡◌, List}
use Rattle.load.specs.{Loaded.{setting_of, standing_of}, Rounds.{GoOn, Round}}
use Rattle.load.proofs.run.run_commands.Given as goal

abbrev pub invariant-loop : goal.invariant-loop
invariant-loop g l = record {
  next : (goal.iterator-loop g).can_next l.iterator';
  finite : (goal.iterator-loop g).is_finite l.iterator';
  gone_on : (rounds : List Round) × GoOn l.load (setting_of l.fn.course) 0 (standing_of l.fn.course l.fn.world.state) rounds l.begun (standing_of l.course l.world.state);
  setting : setting_of l.course ≡ setting_of l.fn.course;
}
