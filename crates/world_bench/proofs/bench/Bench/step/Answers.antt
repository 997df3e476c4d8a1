use Rattle.std.proofs.Common.{subst}
use Rattle.step_core.specs.Bench.{Does}
use Rattle.world_bench.proofs.Collecting.{collected_once}
use Rattle.world_bench.specs.{BenchTables.{BenchContents, table_of}, Collecting.CollectsOnce}
use Rattle.world_bench.proofs.bench.Bench.step.Goals as goal

pub returns-clause-does : goal.returns-clause-does
returns-clause-does g c = subst (λ (b : BenchContents). Does b.table c.args.step c.step.result (table_of c.step.new.self)) c.self.view_is c.step.ensures.does

pub returns-clause-once : goal.returns-clause-once
returns-clause-once g c =
    let kept = c.self.inside.kept in
    subst (λ (b : BenchContents). CollectsOnce b.table c.args.step c.step.result) c.self.view_is
    (collected_once kept.world.state kept.values c.args.step c.step.result (table_of c.step.new.self) c.self.invariant c.step.ensures.does)
