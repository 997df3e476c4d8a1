use Rattle.std.proofs.Common.{[], arith, sym, ◌∙◌}
use Rattle.host_core.{proofs.Identifiers.{deletion-found, deletion-none}, specs.Parts.{records_of, tables_of}}
use Rattle.host_core.proofs.tables.HostTables.awaits_deletion.Goals as goal

pub returns-then-is_deletion : goal.returns-then-is_deletion
returns-then-is_deletion g c = sym (deletion-found (records_of c.args.self.now.records.rows) c.args.q c.loop-cid.cid (sym c.is_deletion.ensures ∙ c.if-is_deletion.true))

pub returns : goal.returns
returns g c =
    sym (deletion-none (tables_of c.args.self.now []) c.requires c.args.q c.loop-cid.cid (omega (arith, c.loop-cid-test.false, c.loop-cid.auto.cid-end, c.requires.limits.least_entries)) c.loop-cid.invariant.none)
