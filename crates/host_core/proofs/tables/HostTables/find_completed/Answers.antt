use Rattle.std.proofs.Common.{◌≡◌, true, sym, ◌∙◌, subst, eq-eqb}
use Rattle.queue_pair.specs.Slots.{is_in_range}
use Rattle.host_core.proofs.{QueueLists.completion-at, Reaps.{reject-none, reject-phase, submitted-is}, RowRecords.{found-row, no-row}}
use Rattle.host_core.specs.{Parts.{record_of, tables_of}, Rows.Queue, Tables.Tables}
use Rattle.host_core.proofs.tables.HostTables.find_completed.Goals as goal
use Rattle.page_memory.proofs.Lists.{some_is}

pub returns-in_default-clause-rejected : goal.returns-in_default-clause-rejected
returns-in_default-clause-rejected g c = λ pages w.
    let t : Tables = tables_of c.args.self.now pages in
    let at = completion-at t c.args.q c.from.result c.index.result.now c.requires.there c.from.ensures c.index.ensures in
    reject-none t w c.args.q c.index.result.now c.args.entry at (eq-eqb c.args.entry.sqid c.args.q c.if-entry-q.false) (sym c.head_fits.ensures.fits ∙ c.if-not-head_fits.false)
    (no-row c.args.self.now.records.rows c.args.q c.args.entry.cid (sym c.in_default.ensures.value))

pub returns-then-is_submitted-clause-answered : goal.returns-then-is_submitted-clause-answered
returns-then-is_submitted-clause-answered g c = λ pages.
    let t : Tables = tables_of c.args.self.now pages in
    let at = completion-at t c.args.q c.from.result c.index.result.now c.requires.there c.from.ensures c.index.ensures in
    record {
      entry = record_of c.args.q c.args.entry.cid c.in-Some.command.now;
      was = found-row c.args.self.now.records.rows c.args.q c.args.entry.cid c.in-Some.command.now (sym c.in-Some.ensures.value);
      submitted = submitted-is c.in-Some.command.now.phase (sym c.is_submitted.ensures ∙ c.if-is_submitted.true);
      means = sym c.kind.ensures;
      sqid = c.if-entry-q.false;
      head = λ queue e. subst (λ (x : Queue). is_in_range x.host.entries x.host.ring.known_head x.host.ring.tail c.args.entry.sqhd ≡ true) (some_is (sym at ∙ e)) (sym c.head_fits.ensures.fits ∙ c.if-not-head_fits.false);
    }

pub returns-else-is_submitted-clause-rejected : goal.returns-else-is_submitted-clause-rejected
returns-else-is_submitted-clause-rejected g c = λ pages w.
    let t : Tables = tables_of c.args.self.now pages in
    let at = completion-at t c.args.q c.from.result c.index.result.now c.requires.there c.from.ensures c.index.ensures in
    reject-phase t w c.args.q c.index.result.now c.args.entry (record_of c.args.q c.args.entry.cid c.in-Some.command.now) at (eq-eqb c.args.entry.sqid c.args.q c.if-entry-q.false) (sym c.head_fits.ensures.fits ∙ c.if-not-head_fits.false)
    (found-row c.args.self.now.records.rows c.args.q c.args.entry.cid c.in-Some.command.now (sym c.in-Some.ensures.value)) (sym c.is_submitted.ensures ∙ c.if-is_submitted.false)
