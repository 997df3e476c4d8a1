use Rattle.std.proofs.Common.{refl}
use Rattle.host_bench.proofs.KeptRows.{goes_on}
use Rattle.machine_model.specs.Events as events
use Rattle.world_bench.proofs.bench_tables.BenchTables.reset.Goals as goal

pub returns-clause-kept : goal.returns-clause-kept
returns-clause-kept g c = goes_on c.args.self.now.world.state events.Reset events.Accepted c.reset.new.self.state c.args.self.now.values c.reset.ensures.step (λ k n. refl) c.requires
