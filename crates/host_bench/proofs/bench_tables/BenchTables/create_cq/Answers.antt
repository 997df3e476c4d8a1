use Rattle.host_core.specs.Alone.{alone}
use Rattle.host_bench.proofs.KeptRows.{goes_on}
use Rattle.host_bench.specs.BenchTables.{state_of}
use Rattle.std.proofs.Common.{[], refl}
use Rattle.machine_model.specs.Events as events
use Rattle.host_bench.proofs.bench_tables.BenchTables.create_cq.Goals as goal

pub returns-in-Ok-clause-kept : goal.returns-in-Ok-clause-kept
returns-in-Ok-clause-kept g c = goes_on (state_of c.args.self.now) (events.CreateCq c.args.q c.args.vector) (events.Sent c.in-Ok.cid) (alone c.create_cq.new.self c.create_cq.new.store.pages) c.args.self.now.values c.in-Ok.ensures.step (λ k n. refl) c.requires.bench

pub returns-in-Err-clause-kept : goal.returns-in-Err-clause-kept
returns-in-Err-clause-kept g c = goes_on (state_of c.args.self.now) (events.CreateCq c.args.q c.args.vector) (events.Refused c.in-Err.why []) (alone c.create_cq.new.self c.create_cq.new.store.pages) c.args.self.now.values c.in-Err.ensures.step (λ k n. refl) c.requires.bench
