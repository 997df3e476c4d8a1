use Rattle.host_core.specs.Alone.{alone}
use Rattle.host_bench.proofs.KeptRows.{goes_on}
use Rattle.host_bench.specs.BenchTables.{state_of}
use Rattle.std.proofs.Common.{[], refl}
use Rattle.machine_model.specs.Events as events
use Rattle.host_bench.proofs.bench_tables.BenchTables.reap.Goals as goal

pub returns-in-Ok-clause-kept : goal.returns-in-Ok-clause-kept
returns-in-Ok-clause-kept g c = goes_on (state_of c.args.self.now) (events.Reap c.args.q) (events.Reaps c.in-Ok.field-0.found) (alone c.reap.new.self c.reap.new.store.pages) c.args.self.now.values c.in-Ok.ensures.step (λ k n. refl) c.requires.bench

pub returns-in-Err-clause-kept : goal.returns-in-Err-clause-kept
returns-in-Err-clause-kept g c = goes_on (state_of c.args.self.now) (events.Reap c.args.q) (events.Refused c.in-Err.why []) (alone c.reap.new.self c.reap.new.store.pages) c.args.self.now.values c.in-Err.ensures.step (λ k n. refl) c.requires.bench
