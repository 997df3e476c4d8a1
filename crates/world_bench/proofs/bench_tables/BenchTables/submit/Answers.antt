use Rattle.host_bench.proofs.Benches.{draft_at}
use Rattle.std.proofs.Common.{refl, ◌∙◌}
use Rattle.world_bench.proofs.Benches.{submits, submit_refused}
use Rattle.host_bench.proofs.KeptRows.{is_empty, place_there}
use Rattle.host_bench.specs.declared.values.CommandValue.TheVariants as value
use Rattle.world_bench.proofs.bench_tables.BenchTables.submit.Goals as goal

pub returns-in_default-clause-does : goal.returns-in_default-clause-does
returns-in_default-clause-does g c = rw (c.in_default.ensures.kept, draft_at c.args.self.now.world.state c.args.self.now.values c.args.q c.args.cid c.requires ∙ c.in_default.ensures.none) (refl, refl)

pub put_next-requires : goal.put_next-requires
put_next-requires g c = place_there c.args.self.now.values c.take_draft.new.values c.args.q c.args.cid (value.Draft c.in-Some.draft) c.in-Some.ensures.out c.args.self.now.world.state c.requires

pub put_back-requires : goal.put_back-requires
put_back-requires g c = is_empty c.args.self.now.values c.take_draft.new.values c.args.q c.args.cid (value.Draft c.in-Some.draft) c.in-Some.ensures.out

pub returns-in-Ok-clause-does : goal.returns-in-Ok-clause-does
returns-in-Ok-clause-does g c = (submits c.args.self.now.world.state c.args.self.now.values c.take_draft.new.values c.args.q c.args.cid c.in-Some.draft c.requires c.in-Some.ensures.out c.submit.new.self.state c.in-Ok.ticket c.put_next.new.values c.in-Ok.ensures.step c.in-Ok.ensures.ticket c.put_next.ensures).0

pub returns-in-Ok-clause-kept : goal.returns-in-Ok-clause-kept
returns-in-Ok-clause-kept g c = (submits c.args.self.now.world.state c.args.self.now.values c.take_draft.new.values c.args.q c.args.cid c.in-Some.draft c.requires c.in-Some.ensures.out c.submit.new.self.state c.in-Ok.ticket c.put_next.new.values c.in-Ok.ensures.step c.in-Ok.ensures.ticket c.put_next.ensures).1

pub returns-in-Err-clause-does : goal.returns-in-Err-clause-does
returns-in-Err-clause-does g c = (submit_refused c.args.self.now.world.state c.args.self.now.values c.take_draft.new.values c.args.q c.args.cid c.in-Some.draft c.requires c.in-Some.ensures.out c.submit.new.self.state c.in-Err.field-0.value c.in-Err.field-0.why c.refused.result c.put_back.new.values c.in-Err.ensures.step c.in-Err.ensures.back c.refused.ensures c.put_back.ensures).0

pub returns-in-Err-clause-kept : goal.returns-in-Err-clause-kept
returns-in-Err-clause-kept g c = (submit_refused c.args.self.now.world.state c.args.self.now.values c.take_draft.new.values c.args.q c.args.cid c.in-Some.draft c.requires c.in-Some.ensures.out c.submit.new.self.state c.in-Err.field-0.value c.in-Err.field-0.why c.refused.result c.put_back.new.values c.in-Err.ensures.step c.in-Err.ensures.back c.refused.ensures c.put_back.ensures).1
