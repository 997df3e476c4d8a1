use Rattle.host_bench.proofs.Benches.{finished_there}
use Rattle.std.proofs.Common.{refl, ◌∙◌}
use Rattle.world_bench.proofs.Benches.{releases, release_refused}
use Rattle.host_bench.proofs.KeptRows.{is_empty}
use Rattle.host_bench.specs.declared.values.CommandValue.TheVariants as value
use Rattle.world_bench.proofs.bench_tables.BenchTables.release.Goals as goal

pub returns-in_default-clause-does : goal.returns-in_default-clause-does
returns-in_default-clause-does g c = rw (c.in_default.ensures.kept, finished_there c.args.self.now.world.state c.args.self.now.values c.args.q c.args.cid c.requires ∙ c.in_default.ensures.none) (refl, refl)

pub put_back-requires : goal.put_back-requires
put_back-requires g c = is_empty c.args.self.now.values c.take_finished.new.values c.args.q c.args.cid (value.Finished c.in-Some.finished) c.in-Some.ensures.out

pub returns-in-Ok-clause-does : goal.returns-in-Ok-clause-does
returns-in-Ok-clause-does g c = (releases c.args.self.now.world.state c.args.self.now.values c.take_finished.new.values c.args.q c.args.cid c.in-Some.finished c.requires c.in-Some.ensures.out c.release.new.self.state c.drop_row.new.values c.in-Ok.ensures.step c.drop_row.ensures.rest).0

pub returns-in-Ok-clause-kept : goal.returns-in-Ok-clause-kept
returns-in-Ok-clause-kept g c = (releases c.args.self.now.world.state c.args.self.now.values c.take_finished.new.values c.args.q c.args.cid c.in-Some.finished c.requires c.in-Some.ensures.out c.release.new.self.state c.drop_row.new.values c.in-Ok.ensures.step c.drop_row.ensures.rest).1

pub returns-in-Err-clause-does : goal.returns-in-Err-clause-does
returns-in-Err-clause-does g c = (release_refused c.args.self.now.world.state c.args.self.now.values c.take_finished.new.values c.args.q c.args.cid c.in-Some.finished c.requires c.in-Some.ensures.out c.release.new.self.state c.in-Err.field-0.value c.in-Err.field-0.why c.refused.result c.put_back.new.values c.in-Err.ensures.step c.in-Err.ensures.back c.refused.ensures c.put_back.ensures).0

pub returns-in-Err-clause-kept : goal.returns-in-Err-clause-kept
returns-in-Err-clause-kept g c = (release_refused c.args.self.now.world.state c.args.self.now.values c.take_finished.new.values c.args.q c.args.cid c.in-Some.finished c.requires c.in-Some.ensures.out c.release.new.self.state c.in-Err.field-0.value c.in-Err.field-0.why c.refused.result c.put_back.new.values c.in-Err.ensures.step c.in-Err.ensures.back c.refused.ensures c.put_back.ensures).1
