use Rattle.std.proofs.Common.{◌≡◌, ◌+◌, ◌≤◌, drop}
use Rattle.slot_table.specs.Rows.{first_place}
use Rattle.host_core.specs.Rows.{rows_on}
use Rattle.host_core.proofs.tables.HostTables.count_records.Given as goal

abbrev pub invariant-loop : goal.invariant-loop
invariant-loop g l =
    (l.place ≡ first_place (drop l.counter l.fn.self.records.rows))
    × (l.found + rows_on l.q (drop l.counter l.fn.self.records.rows) ≡ rows_on l.q l.fn.self.records.rows)
    × (l.found ≤ l.counter)
