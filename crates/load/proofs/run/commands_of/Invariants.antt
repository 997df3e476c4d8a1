-- the plans that are left are counted after those that came
use Rattle.std.proofs.Common.{◌≡◌, drop, map}
use Rattle.load.specs.Rounds.{commands_from}
use Rattle.load.proofs.run.commands_of.Given as goal

abbrev pub invariant-loop-plan : goal.invariant-loop-plan
invariant-loop-plan l = commands_from l.many (map (λ plan. plan.items) (drop l.plan-index l.plans)) ≡ commands_from 0 (map (λ plan. plan.items) l.plans)
