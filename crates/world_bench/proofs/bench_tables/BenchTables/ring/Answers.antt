use Rattle.std.proofs.Common.{[], refl}
use Rattle.host_bench.proofs.KeptRows.{goes_on}
use Rattle.machine_model.specs.Events as events
use Rattle.world_bench.proofs.bench_tables.BenchTables.ring.Goals as goal

pub returns-in-Ok-clause-kept : goal.returns-in-Ok-clause-kept
returns-in-Ok-clause-kept g c = goes_on c.args.self.now.world.state (events.Ring c.args.q) events.Accepted c.ring.new.self.state c.args.self.now.values c.in-Ok.ensures.step (λ k n. refl) c.requires

pub returns-in-Err-clause-kept : goal.returns-in-Err-clause-kept
returns-in-Err-clause-kept g c = goes_on c.args.self.now.world.state (events.Ring c.args.q) (events.Refused c.in-Err.why []) c.ring.new.self.state c.args.self.now.values c.in-Err.ensures.step (λ k n. refl) c.requires
