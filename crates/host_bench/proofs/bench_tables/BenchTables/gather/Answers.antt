use Rattle.host_bench.{proofs.Benches.{finished_there, gathers, gathers_nothing}, specs.BenchTables.state_of}
use Rattle.std.proofs.Common.{◌∙◌, sym, refl}
use Rattle.host_bench.proofs.bench_tables.BenchTables.gather.Goals as goal

pub returns-in_default-clause-does : goal.returns-in_default-clause-does
returns-in_default-clause-does g c = rw (finished_there (state_of c.args.self.now) c.args.self.now.values c.args.q c.args.cid c.requires.bench ∙ sym c.in_default.ensures) (refl, refl)

pub returns-in-Ok-clause-does : goal.returns-in-Ok-clause-does
returns-in-Ok-clause-does g c =
    gathers (state_of c.args.self.now) c.args.self.now.values c.args.q c.args.cid c.in-Some.finished.now c.requires.bench c.in-Some.ensures c.from_vec.result (c.from_vec.ensures ∙ c.in-Ok.ensures.gathered)

pub returns-in-Err-clause-does : goal.returns-in-Err-clause-does
returns-in-Err-clause-does g c =
    gathers_nothing (state_of c.args.self.now) c.args.self.now.values c.args.q c.args.cid c.in-Some.finished.now c.requires.bench c.in-Some.ensures c.no_memory.result c.no_memory.ensures
