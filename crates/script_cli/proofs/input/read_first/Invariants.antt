-- the bytes so far are what the reader gave, and one more than the limit at most
use Rattle.std.{proofs.Common.{◌≤◌, ◌+◌, ◌-◌, length}, specs.Io.KnownBytes.Consumes}
use Rattle.script_cli.proofs.input.read_first.Given as goal

abbrev pub invariant-loop-bytes : goal.invariant-loop-bytes
invariant-loop-bytes g l = record { most : length l.bytes.items ≤ l.limit + 1; read : Consumes (g.R.Read.remaining l.fn.reader) (g.R.Read.remaining l.reader) l.bytes.items }

abbrev pub decreases-loop-bytes : goal.decreases-loop-bytes
decreases-loop-bytes g l = l.limit + 1 - length l.bytes.items
