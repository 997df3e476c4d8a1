use Rattle.std.proofs.Common.{refl, None}
use Rattle.host_core.specs.Alone.{alone}
use Rattle.host_bench.proofs.Benches.{ticket_at, collects, collect_refused}
use Rattle.host_bench.proofs.KeptRows.{is_empty, place_there}
use Rattle.host_bench.specs.BenchTables.{state_of}
use Rattle.host_bench.specs.declared.values.CommandValue.TheVariants as value
use Rattle.host_bench.proofs.bench_tables.BenchTables.collect.Goals as goal

pub returns-in_default-clause-does : goal.returns-in_default-clause-does
returns-in_default-clause-does g c = rw (c.in_default.ensures.kept, ticket_at (state_of c.args.self.now) c.args.self.now.values c.args.q c.args.cid None c.requires.bench c.in_default.ensures.none) (refl, refl)

pub put_next-requires : goal.put_next-requires
put_next-requires g c = place_there c.args.self.now.values c.take_ticket.new.values c.args.q c.args.cid (value.Ticket c.in-Some.ticket) c.in-Some.ensures.out (state_of c.args.self.now) c.requires.bench

pub put_back-requires : goal.put_back-requires
put_back-requires g c = is_empty c.args.self.now.values c.take_ticket.new.values c.args.q c.args.cid (value.Ticket c.in-Some.ticket) c.in-Some.ensures.out

pub returns-in-Ok-clause-does : goal.returns-in-Ok-clause-does
returns-in-Ok-clause-does g c = (collects (state_of c.args.self.now) c.args.self.now.values c.take_ticket.new.values c.args.q c.args.cid c.in-Some.ticket c.requires.bench c.in-Some.ensures.out (alone c.collect.new.self c.collect.new.store.pages) c.in-Ok.finished c.status-status.result c.hints-hints.result c.put_next.new.values c.in-Ok.ensures.step c.status-status.ensures c.hints-hints.ensures c.put_next.ensures).0

pub returns-in-Ok-clause-kept : goal.returns-in-Ok-clause-kept
returns-in-Ok-clause-kept g c = (collects (state_of c.args.self.now) c.args.self.now.values c.take_ticket.new.values c.args.q c.args.cid c.in-Some.ticket c.requires.bench c.in-Some.ensures.out (alone c.collect.new.self c.collect.new.store.pages) c.in-Ok.finished c.status-status.result c.hints-hints.result c.put_next.new.values c.in-Ok.ensures.step c.status-status.ensures c.hints-hints.ensures c.put_next.ensures).1

pub returns-in-Err-clause-does : goal.returns-in-Err-clause-does
returns-in-Err-clause-does g c = (collect_refused (state_of c.args.self.now) c.args.self.now.values c.take_ticket.new.values c.args.q c.args.cid c.in-Some.ticket c.requires.bench c.in-Some.ensures.out (alone c.collect.new.self c.collect.new.store.pages) c.in-Err.field-0.value c.in-Err.field-0.why c.refused.result c.put_back.new.values c.in-Err.ensures.step c.in-Err.ensures.back c.refused.ensures c.put_back.ensures).0

pub returns-in-Err-clause-kept : goal.returns-in-Err-clause-kept
returns-in-Err-clause-kept g c = (collect_refused (state_of c.args.self.now) c.args.self.now.values c.take_ticket.new.values c.args.q c.args.cid c.in-Some.ticket c.requires.bench c.in-Some.ensures.out (alone c.collect.new.self c.collect.new.store.pages) c.in-Err.field-0.value c.in-Err.field-0.why c.refused.result c.put_back.new.values c.in-Err.ensures.step c.in-Err.ensures.back c.refused.ensures c.put_back.ensures).1
