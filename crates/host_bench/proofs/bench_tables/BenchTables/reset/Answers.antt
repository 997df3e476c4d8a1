use Rattle.host_bench.proofs.Benches.{resets}
use Rattle.host_bench.proofs.bench_tables.BenchTables.reset.Goals as goal

pub returns-clause-does : goal.returns-clause-does
returns-clause-does g c = (resets c.args.self.now.host c.reset.new.self c.args.self.now.store.pages c.reset.new.store.pages c.args.self.now.values c.requires.bench c.reset.ensures.host c.reset.ensures.pages).0

pub returns-clause-kept : goal.returns-clause-kept
returns-clause-kept g c = (resets c.args.self.now.host c.reset.new.self c.args.self.now.store.pages c.reset.new.store.pages c.args.self.now.values c.requires.bench c.reset.ensures.host c.reset.ensures.pages).1
