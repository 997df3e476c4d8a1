-- the rows that are left come after the bytes so far
use Rattle.std.proofs.Common.{◌≡◌, ◌++◌, ◌-◌}
use Rattle.load.specs.Content.{rows}
use Rattle.load.proofs.content.put_rows.Given as goal

abbrev pub invariant-loop-number : goal.invariant-loop-number
invariant-loop-number l =
    l.out.items ++ rows l.row l.number (7 - l.number) ≡ l.fn.out.items ++ rows l.row 0 7
