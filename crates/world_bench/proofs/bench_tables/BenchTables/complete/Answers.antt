use Rattle.std.proofs.Common.{refl}
use Rattle.host_bench.proofs.KeptRows.{goes_on}
use Rattle.machine_model.specs.Events as events
use Rattle.world_bench.proofs.bench_tables.BenchTables.complete.Goals as goal

pub returns-in-Ok-clause-kept : goal.returns-in-Ok-clause-kept
returns-in-Ok-clause-kept g c = goes_on c.args.self.now.world.state (events.Complete c.args.q c.args.cid) (events.Completed c.in-Ok.done.touched) c.complete.new.self.state c.args.self.now.values c.in-Ok.ensures.step (λ k n. refl) c.requires

pub returns-in-Err-clause-kept : goal.returns-in-Err-clause-kept
returns-in-Err-clause-kept g c = goes_on c.args.self.now.world.state (events.Complete c.args.q c.args.cid) (events.Refused c.in-Err.refusal.why c.in-Err.refusal.touched) c.complete.new.self.state c.args.self.now.values c.in-Err.ensures.step (λ k n. refl) c.requires
