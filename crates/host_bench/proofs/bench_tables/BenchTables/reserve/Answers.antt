use Rattle.host_core.specs.Alone.{alone}
use Rattle.host_bench.proofs.Benches.{place_of, reserves}
use Rattle.host_bench.specs.BenchTables.{state_of}
use Rattle.host_bench.proofs.bench_tables.BenchTables.reserve.Goals as goal

pub put-requires-clause-place : goal.put-requires-clause-place
put-requires-clause-place g c = (place_of (state_of c.args.self.now) c.args.self.now.values c.args.q c.cid-cid.result c.args.request c.in-Ok.draft c.requires.bench (alone c.reserve.new.self c.reserve.new.store.pages) c.in-Ok.ensures.step c.cid-cid.ensures).0

pub put-requires-clause-empty : goal.put-requires-clause-empty
put-requires-clause-empty g c = (place_of (state_of c.args.self.now) c.args.self.now.values c.args.q c.cid-cid.result c.args.request c.in-Ok.draft c.requires.bench (alone c.reserve.new.self c.reserve.new.store.pages) c.in-Ok.ensures.step c.cid-cid.ensures).1

pub returns-in-Ok-clause-does : goal.returns-in-Ok-clause-does
returns-in-Ok-clause-does g c =
    (reserves (state_of c.args.self.now) c.args.self.now.values c.args.q c.cid-cid.result c.args.request c.in-Ok.draft c.requires.bench (alone c.reserve.new.self c.reserve.new.store.pages) c.reserved-reply.result c.put.new.self c.in-Ok.ensures.step c.in-Ok.ensures.identifier c.in-Ok.ensures.pages c.cid-cid.ensures
    c.reserved-reply.ensures c.put.ensures).0

pub returns-in-Ok-clause-kept : goal.returns-in-Ok-clause-kept
returns-in-Ok-clause-kept g c =
    (reserves (state_of c.args.self.now) c.args.self.now.values c.args.q c.cid-cid.result c.args.request c.in-Ok.draft c.requires.bench (alone c.reserve.new.self c.reserve.new.store.pages) c.reserved-reply.result c.put.new.self c.in-Ok.ensures.step c.in-Ok.ensures.identifier c.in-Ok.ensures.pages c.cid-cid.ensures
    c.reserved-reply.ensures c.put.ensures).1
