use Rattle.std.proofs.Common.{◌+◌, Some, arith, length, ap, sym, ◌∙◌}
use Rattle.host_core.{proofs.{Ending.{not-held, collect-none, collect-not_yet, collect-stranger}, RowRecords.{found-row, no-row, row-is}}, specs.Parts.{record_of, tables_of}}
use Rattle.host_core.specs.{Rows.RecordRow, Tables.Tables}
use Rattle.machine_model.specs.State.{Record}
use Rattle.host_core.proofs.tables.HostTables.check_collect.Goals.{in_default-2-via-in-Held+in-Io+in_default, in_default-2-via-in-Held+in_default, in_default-2-via-in_default}
use Rattle.machine_model.specs.Refusals.{is_submitted}
use Rattle.host_core.proofs.tables.HostTables.check_collect.Goals as goal

pub returns-in_default-clause-refused : goal.returns-in_default-clause-refused
returns-in_default-clause-refused g c = λ pages w.
    collect-none (tables_of c.args.self.now pages) c.args.q c.args.cid (no-row c.args.self.now.records.rows c.args.q c.args.cid (sym c.in_default.ensures.value))

pub returns-in-Held-Io-Some-clause-stands : goal.returns-in-Held-Io-Some-clause-stands
returns-in-Held-Io-Some-clause-stands g c = λ pages w. record {
  entry = record_of c.args.q c.args.cid c.in-Some.entry.now;
  was = found-row c.args.self.now.records.rows c.args.q c.args.cid c.in-Some.entry.now (sym c.in-Some.ensures.value);
  held = ap (λ (k : RecordRow). k.phase) (sym c.entry.view_is) ∙ c.in-Held-Io-Some.is-0;
}

pub returns-in-Held-Io-Some-clause-tells : goal.returns-in-Held-Io-Some-clause-tells
returns-in-Held-Io-Some-clause-tells g c = λ pages w entry was.
    let same = row-is c.args.self.now.records.rows c.args.q c.args.cid (sym c.in-Some.ensures.value ∙ ap Some (sym c.entry.view_is)) was in (
      ap (λ (r : Record). r.work) (sym same) ∙ c.in-Held-Io-Some.is-1,
      ap (λ (r : Record). r.status) (sym same) ∙ c.in-Held-Io-Some.is-2,
      ap (λ (r : Record). r.hints) (sym same),
    )

pub returns-in-Held-Io-Some-clause-pages : goal.returns-in-Held-Io-Some-clause-pages
returns-in-Held-Io-Some-clause-pages g c = λ pages w entry was.
    let same = row-is c.args.self.now.records.rows c.args.q c.args.cid (sym c.in-Some.ensures.value ∙ ap Some (sym c.entry.view_is)) was in
    omega (arith, ap (λ (r : Record). length r.data_pages + length r.chain_pages) same, c.len.ensures, c.len-in-Held-Io-Some.ensures)

pub returns-in-Submitted-default-default-clause-refused : goal.returns-in-Submitted-default-default-clause-refused
returns-in-Submitted-default-default-clause-refused g c = λ pages w.
    collect-not_yet (tables_of c.args.self.now pages) c.args.q c.args.cid (record_of c.args.q c.args.cid c.in-Some.entry.now) (found-row c.args.self.now.records.rows c.args.q c.args.cid c.in-Some.entry.now (sym c.in-Some.ensures.value))
    (ap (λ (k : RecordRow). is_submitted k.phase) (sym c.entry.view_is) ∙ ap is_submitted c.in-Submitted-default-default.is-0)

pub returns-in_default-2-clause-refused : goal.returns-in_default-2-clause-refused
returns-in_default-2-clause-refused g c = λ pages whole.
    let t : Tables = tables_of c.args.self.now pages in
    let there = sym c.in-Some.ensures.value ∙ ap Some (sym c.entry.view_is) in
    let was = found-row c.args.self.now.records.rows c.args.q c.args.cid _ there in
    elim c.in_default-2.branch [
      | in_default-2-via-in-Held+in-Io+in_default w ↦ collect-stranger t c.args.q c.args.cid _ was w.in_default-2.not-Submitted-0 (not-held t c.args.q c.args.cid _ whole was (λ fits. rw (w.in_default-2.is-1, w.in_default-2.is-2) at fits))
      | in_default-2-via-in-Held+in_default w ↦ collect-stranger t c.args.q c.args.cid _ was w.in_default-2.not-Submitted-0 (not-held t c.args.q c.args.cid _ whole was (λ fits. rw w.in_default-2.is-1 at fits))
      | in_default-2-via-in_default w ↦ collect-stranger t c.args.q c.args.cid _ was w.in_default-2.not-Submitted-0 w.in_default-2.not-Held-0
    ]

pub overflow_add-result : goal.overflow_add-result
overflow_add-result g c = omega arith
