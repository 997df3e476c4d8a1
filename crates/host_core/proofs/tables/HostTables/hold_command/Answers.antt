use Rattle.host_core.{proofs.Reaps.held-tables, specs.Parts.tables_of}
use Rattle.host_core.proofs.tables.HostTables.hold_command.Goals as goal

pub returns : goal.returns
returns g c = λ pages.
    held-tables (tables_of c.args.self.now pages) (tables_of c.accept.new.self pages) (tables_of c.hold.new.self pages) c.args.q c.args.entry (c.accept.ensures pages) (c.hold.ensures pages)
