use Rattle.std.proofs.Common.{sym, subst}
use Rattle.page_memory.specs.Pages.{Pages}
use Rattle.host_core.{proofs.Openings.{made as tables_made, opens_made, fits_word}, specs.{Alone.IsOver, Tables.view_of}}
use Rattle.host_core.proofs.host.Host.open.Goals as goal

pub overflow_cast-result : goal.overflow_cast-result
overflow_cast-result g c = (fits_word c.args.config (sym c.in-None.ensures)).0

pub overflow_cast-result-in-Ok-open_tables : goal.overflow_cast-result-in-Ok-open_tables
overflow_cast-result-in-Ok-open_tables g c = (fits_word c.args.config (sym c.in-None.ensures)).1

pub invariant_of-result : goal.invariant_of-result
invariant_of-result g c =
    (opens_made c.args.config c.args.peer c.in-Ok-open_tables.ledger c.in-Ok-open_tables.records c.in-Ok-open_tables.queues.items (sym c.in-None.ensures) c.in-Ok-open_tables.ensures.owners c.in-Ok-open_tables.ensures.granted c.in-Ok-open_tables.ensures.records c.in-Ok-open_tables.ensures.queues).host

pub returns-in-Ok-open_tables-clause-host : goal.returns-in-Ok-open_tables-clause-host
returns-in-Ok-open_tables-clause-host g c =
    (opens_made c.args.config c.args.peer c.in-Ok-open_tables.ledger c.in-Ok-open_tables.records c.in-Ok-open_tables.queues.items (sym c.in-None.ensures) c.in-Ok-open_tables.ensures.owners c.in-Ok-open_tables.ensures.granted c.in-Ok-open_tables.ensures.records c.in-Ok-open_tables.ensures.queues).view

pub returns-in-Ok-open_tables-clause-over : goal.returns-in-Ok-open_tables-clause-over
returns-in-Ok-open_tables-clause-over g c =
    let made = opens_made c.args.config c.args.peer c.in-Ok-open_tables.ledger c.in-Ok-open_tables.records c.in-Ok-open_tables.queues.items (sym c.in-None.ensures) c.in-Ok-open_tables.ensures.owners c.in-Ok-open_tables.ensures.granted c.in-Ok-open_tables.ensures.records c.in-Ok-open_tables.ensures.queues in
    subst (λ (pages : Pages). IsOver (view_of (tables_made c.args.config c.args.peer c.in-Ok-open_tables.ledger c.in-Ok-open_tables.records c.in-Ok-open_tables.queues.items)) pages) (sym c.in-Ok-open_tables.ensures.pages) made.over
