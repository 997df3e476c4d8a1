use Rattle.std.proofs.Common.{[], arith, sym, ◌∙◌}
use Rattle.host_core.{proofs.Identifiers.{commands-found, commands-none}, specs.Parts.{records_of, tables_of}}
use Rattle.host_core.proofs.tables.HostTables.has_commands.Goals as goal

pub returns-then-has_command : goal.returns-then-has_command
returns-then-has_command g c = sym (commands-found (records_of c.args.self.now.records.rows) c.args.q c.loop-cid.cid (sym c.has_command.ensures ∙ c.if-has_command.true))

pub returns : goal.returns
returns g c =
    sym (commands-none (tables_of c.args.self.now []) c.requires c.args.q c.loop-cid.cid (omega (arith, c.loop-cid-test.false, c.loop-cid.auto.cid-end, c.requires.limits.least_entries)) c.loop-cid.invariant.none)
