use Rattle.host_bench.proofs.Benches.{draft_at}
use Rattle.std.proofs.Common.{refl, ◌∙◌}
use Rattle.world_bench.proofs.Benches.{builds, builds_kept}
use Rattle.host_bench.proofs.KeptRows.{is_empty}
use Rattle.host_bench.specs.declared.values.CommandValue.TheVariants as value
use Rattle.world_bench.proofs.bench_tables.BenchTables.build.Goals as goal

pub returns-in_default-clause-does : goal.returns-in_default-clause-does
returns-in_default-clause-does g c = rw (c.in_default.ensures.kept, draft_at c.args.self.now.world.state c.args.self.now.values c.args.q c.args.cid c.requires ∙ c.in_default.ensures.none) (refl, refl)

pub put_back-requires : goal.put_back-requires
put_back-requires g c = is_empty c.args.self.now.values c.take_draft.new.values c.args.q c.args.cid (value.Draft c.in-Some.draft) c.in-Some.ensures.out

pub returns-clause-does : goal.returns-clause-does
returns-clause-does g c = builds c.args.self.now.world.state c.args.self.now.values c.take_draft.new.values c.args.q c.args.cid c.in-Some.draft c.requires c.in-Some.ensures.out c.build_draft-reply.result c.build_draft-reply.new.draft c.put_back.new.values c.build_draft-reply.ensures c.put_back.ensures

pub returns-clause-kept : goal.returns-clause-kept
returns-clause-kept g c = builds_kept c.args.self.now.world.state c.args.self.now.values c.take_draft.new.values c.args.q c.args.cid c.in-Some.draft c.requires c.in-Some.ensures.out c.build_draft-reply.result c.build_draft-reply.new.draft c.put_back.new.values c.build_draft-reply.ensures c.put_back.ensures
