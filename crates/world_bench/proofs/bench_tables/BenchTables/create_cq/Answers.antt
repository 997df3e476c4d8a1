use Rattle.std.proofs.Common.{[], refl}
use Rattle.host_bench.proofs.KeptRows.{goes_on}
use Rattle.machine_model.specs.Events as events
use Rattle.world_bench.proofs.bench_tables.BenchTables.create_cq.Goals as goal

pub returns-in-Ok-clause-kept : goal.returns-in-Ok-clause-kept
returns-in-Ok-clause-kept g c = goes_on c.args.self.now.world.state (events.CreateCq c.args.q c.args.vector) (events.Sent c.in-Ok.cid) c.create_cq.new.self.state c.args.self.now.values c.in-Ok.ensures.step (λ k n. refl) c.requires

pub returns-in-Err-clause-kept : goal.returns-in-Err-clause-kept
returns-in-Err-clause-kept g c = goes_on c.args.self.now.world.state (events.CreateCq c.args.q c.args.vector) (events.Refused c.in-Err.why []) c.create_cq.new.self.state c.args.self.now.values c.in-Err.ensures.step (λ k n. refl) c.requires
