use Rattle.std.proofs.Common.{List, [], ap, ◌∙◌, arith}
use Rattle.machine_model.specs.{After.lost, State.{Record, with_record}}
use Rattle.host_core.{proofs.Identifiers.{all-lost, none-below, one-lost}, specs.{Parts.tables_of, Tables.Tables}}
use Rattle.host_core.proofs.tables.HostTables.lose_commands.Goals as goal

pub loop-cid-init : goal.loop-cid-init
loop-cid-init g c = record {
  swept = λ pages.
      let t : Tables = tables_of c.args.self.now pages in
      ap (λ (rs : List Record). record t { records = rs }) (none-below c.args.q t.records);
}

pub loop-cid-preserved : goal.loop-cid-preserved
loop-cid-preserved g c = record {
  swept = λ pages.
      let t : Tables = tables_of c.args.self.now pages in
      c.lose.ensures pages
      ∙ (ap (λ (u : Tables). record u { records = with_record c.args.q c.loop-cid.cid (lost c.args.q) u.records }) (c.loop-cid.invariant.swept pages)
      ∙ ap (λ (rs : List Record). record t { records = rs }) (one-lost c.args.q c.loop-cid.cid t.records));
}

pub returns : goal.returns
returns g c = λ pages.
    let t : Tables = tables_of c.args.self.now pages in
    c.loop-cid.invariant.swept pages
    ∙ ap (λ (rs : List Record). record t { records = rs })
    (all-lost (tables_of c.args.self.now []) c.requires c.args.q c.loop-cid.cid (omega (arith, c.loop-cid-test.false)))
