use Rattle.host_bench.proofs.Benches.{ticket_at}
use Rattle.step_core.specs.Touching.{last_pages, touches_more}
use Rattle.world_bench.proofs.Benches.{collected_last, collects, collect_refused, pages_of_last}
use Rattle.std.proofs.Common.{ℕ, None, refl, ap, sym, ◌∙◌}
use Rattle.host_bench.{proofs.KeptRows.{is_empty, place_there}, specs.CommandValues.table_with}
use Rattle.host_bench.specs.declared.values.CommandValue.TheVariants as value
use Rattle.world_bench.proofs.bench_tables.BenchTables.collect.Goals as goal

pub returns-in_default-clause-does : goal.returns-in_default-clause-does
returns-in_default-clause-does g c = rw (c.in_default.ensures.kept, ticket_at c.args.self.now.world.state c.args.self.now.values c.args.q c.args.cid None c.requires c.in_default.ensures.none) (refl, refl)

pub put_next-requires : goal.put_next-requires
put_next-requires g c = place_there c.args.self.now.values c.take_ticket.new.values c.args.q c.args.cid (value.Ticket c.in-Some.ticket) c.in-Some.ensures.out c.args.self.now.world.state c.requires

pub put_back-requires : goal.put_back-requires
put_back-requires g c = is_empty c.args.self.now.values c.take_ticket.new.values c.args.q c.args.cid (value.Ticket c.in-Some.ticket) c.in-Some.ensures.out

pub returns-in-Ok-clause-does : goal.returns-in-Ok-clause-does
returns-in-Ok-clause-does g c = (collects c.args.self.now.world.state c.args.self.now.values c.take_ticket.new.values c.args.q c.args.cid c.in-Some.ticket c.requires c.in-Some.ensures.out c.collect.new.self.state c.in-Ok.finished c.status-status.result c.hints-hints.result c.put_next.new.values c.in-Ok.ensures.step c.status-status.ensures c.hints-hints.ensures c.put_next.ensures).0

pub returns-in-Ok-clause-kept : goal.returns-in-Ok-clause-kept
returns-in-Ok-clause-kept g c = (collects c.args.self.now.world.state c.args.self.now.values c.take_ticket.new.values c.args.q c.args.cid c.in-Some.ticket c.requires c.in-Some.ensures.out c.collect.new.self.state c.in-Ok.finished c.status-status.result c.hints-hints.result c.put_next.new.values c.in-Ok.ensures.step c.status-status.ensures c.hints-hints.ensures c.put_next.ensures).1

pub returns-in-Err-clause-does : goal.returns-in-Err-clause-does
returns-in-Err-clause-does g c = (collect_refused c.args.self.now.world.state c.args.self.now.values c.take_ticket.new.values c.args.q c.args.cid c.in-Some.ticket c.requires c.in-Some.ensures.out c.collect.new.self.state c.in-Err.field-0.value c.in-Err.field-0.why c.refused.result c.put_back.new.values c.in-Err.ensures.step c.in-Err.ensures.back c.refused.ensures c.put_back.ensures).0

pub returns-in-Err-clause-kept : goal.returns-in-Err-clause-kept
returns-in-Err-clause-kept g c = (collect_refused c.args.self.now.world.state c.args.self.now.values c.take_ticket.new.values c.args.q c.args.cid c.in-Some.ticket c.requires c.in-Some.ensures.out c.collect.new.self.state c.in-Err.field-0.value c.in-Err.field-0.why c.refused.result c.put_back.new.values c.in-Err.ensures.step c.in-Err.ensures.back c.refused.ensures c.put_back.ensures).1

pub returns-in-Ok-clause-touches : goal.returns-in-Ok-clause-touches
returns-in-Ok-clause-touches g c =
    let last = collected_last c.args.self.now.world.state c.args.self.now.values c.take_ticket.new.values c.args.q c.args.cid c.in-Some.ticket c.requires c.in-Some.ensures.out c.collect.new.self.state c.in-Ok.finished c.put_next.new.values c.put_next.ensures in
    c.in-Ok.ensures.touches ∙ ap (λ (n : ℕ). touches_more c.args.self.now.world.touches n) (sym (ap last_pages last ∙ pages_of_last (table_with c.args.self.now.world.state c.args.self.now.values).finished c.in-Ok.finished))
