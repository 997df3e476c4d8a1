use Rattle.std.{proofs.Common.{sym, ◌∙◌, ap}, specs.Option.option_map_or}
use Rattle.host_core.{proofs.RowRecords.{found-row, no-row}, specs.{Parts.records_of, Rights.{right_of_owner, right_of_role}}}
use Rattle.host_core.specs.declared.rights.Right.TheVariants as right
use Rattle.host_core.proofs.tables.HostTables.right.Goals as goal

pub returns-in-Some : goal.returns-in-Some
returns-in-Some g c =
    c.right.ensures c.in-Command.q c.in-Command.cid
    ∙ (ap (λ o. option_map_or (λ r. right_of_role r c.in-Command.role) o right.Nothing) (sym (found-row c.args.self.now.records.rows c.in-Command.q c.in-Command.cid c.in-Some.entry.now (sym c.in-Some.ensures.value)))
    ∙ ap (right_of_owner (records_of c.args.self.now.records.rows)) (sym c.in-Command.is))

pub returns-in-None : goal.returns-in-None
returns-in-None g c =
    ap (λ o. option_map_or (λ r. right_of_role r c.in-Command.role) o right.Nothing) (sym (no-row c.args.self.now.records.rows c.in-Command.q c.in-Command.cid (sym c.in-None.ensures.value)))
    ∙ ap (right_of_owner (records_of c.args.self.now.records.rows)) (sym c.in-Command.is)
