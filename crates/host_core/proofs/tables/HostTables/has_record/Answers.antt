use Rattle.std.{proofs.Common.{false, ap, sym, ◌∙◌}, specs.Option.option_map_or}
use Rattle.io_commands.specs.Values.{numbers_of}
use Rattle.machine_model.specs.Refusals.{is_of}
use Rattle.host_core.{proofs.RowRecords.{found-row, no-row}, specs.Commands.phase_of_end}
use Rattle.host_core.proofs.tables.HostTables.has_record.Goals as goal

pub returns-in-Some : goal.returns-in-Some
returns-in-Some g c =
    let rows = c.args.self.now.records.rows in
    c.belongs.ensures c.args.command.0 c.args.command.1
    ∙ ap (λ o. option_map_or (is_of (phase_of_end c.args.ended) c.args.request.now (numbers_of c.args.data_pages.now) (numbers_of c.args.chain_pages.now)) o false) (sym (found-row rows c.args.command.0 c.args.command.1 c.in-Some.entry.now (sym c.in-Some.ensures.value)))

pub returns-in-None : goal.returns-in-None
returns-in-None g c =
    let rows = c.args.self.now.records.rows in
    ap (λ o. option_map_or (is_of (phase_of_end c.args.ended) c.args.request.now (numbers_of c.args.data_pages.now) (numbers_of c.args.chain_pages.now)) o false) (sym (no-row rows c.args.command.0 c.args.command.1 (sym c.in-None.ensures.value)))
