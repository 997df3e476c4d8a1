use Rattle.host_bench.proofs.Benches.{finished_there}
use Rattle.std.proofs.Common.{refl, ◌∙◌, sym}
use Rattle.world_bench.proofs.Benches.{gathers, gathers_nothing}
use Rattle.world_bench.proofs.bench_tables.BenchTables.gather.Goals as goal

pub returns-in_default-clause-does : goal.returns-in_default-clause-does
returns-in_default-clause-does g c = rw (finished_there c.args.self.now.world.state c.args.self.now.values c.args.q c.args.cid c.requires ∙ sym c.in_default.ensures) (refl, refl)

pub returns-in-Ok-clause-does : goal.returns-in-Ok-clause-does
returns-in-Ok-clause-does g c =
    gathers c.args.self.now.world.state c.args.self.now.values c.args.q c.args.cid c.in-Some.finished.now c.requires c.in-Some.ensures c.from_vec.result (c.from_vec.ensures ∙ c.in-Ok.ensures.gathered)

pub returns-in-Err-clause-does : goal.returns-in-Err-clause-does
returns-in-Err-clause-does g c =
    gathers_nothing c.args.self.now.world.state c.args.self.now.values c.args.q c.args.cid c.in-Some.finished.now c.requires c.in-Some.ensures c.no_memory.result c.no_memory.ensures
