use Rattle.std.proofs.Common.{List, [], length, filter, map, ap, sym, ◌∙◌, arith, subst}
use Rattle.machine_model.specs.{After.{is_of_io, lost}, State.Record}
use Rattle.host_core.{proofs.ResetRecords.{all-queues_lost, none-lost, one-queue_lost, places-lost, same-many}, specs.Parts.tables_of}
use Rattle.host_core.specs.{Resetting.{with_all_own_over, HasPlaces}, Tables.Tables}
use Rattle.host_core.proofs.tables.HostTables.reset_commands.Goals as goal

pub overflow_cast-q-end : goal.overflow_cast-q-end
overflow_cast-q-end g c =
    omega (arith, c.len-q-end.ensures, ap (λ (u : Tables). length u.queues) (c.forget_admin.ensures []), same-many (tables_of c.args.self.now []), c.requires.places.few_queues)

pub loop-q-init : goal.loop-q-init
loop-q-init g c = record {
  lost = λ pages.
      let t : Tables = tables_of c.args.self.now pages in
      c.forget_admin.ensures pages ∙ ap (λ (rs : List Record). record (with_all_own_over t) { records = rs }) (none-lost (filter (λ r. is_of_io r.work) t.records));
}

pub lose_commands-requires : goal.lose_commands-requires
lose_commands-requires g c =
    subst HasPlaces (sym (c.loop-q.invariant.lost [])) (places-lost (tables_of c.args.self.now []) c.requires.places c.loop-q.q)

pub loop-q-preserved : goal.loop-q-preserved
loop-q-preserved g c = record {
  lost = λ pages.
      let t : Tables = tables_of c.args.self.now pages in
      c.lose_commands.ensures pages
      ∙ (ap (λ (u : Tables). record u { records = map (lost c.loop-q.q) u.records }) (c.loop-q.invariant.lost pages)
      ∙ ap (λ (rs : List Record). record (with_all_own_over t) { records = rs }) (one-queue_lost c.loop-q.q (filter (λ (r : Record). is_of_io r.work) t.records)));
}

pub returns : goal.returns
returns g c = λ pages.
    let t : Tables = tables_of c.args.self.now pages in
    c.loop-q.invariant.lost pages
    ∙ ap (λ (rs : List Record). record (with_all_own_over t) { records = rs })
    (all-queues_lost t c.requires.places.commands c.loop-q.q
    (omega (arith, c.len-q-end.ensures, ap (λ (u : Tables). length u.queues) (c.forget_admin.ensures []), same-many t, c.loop-q-test.false)))
