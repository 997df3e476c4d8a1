-- the run so far and the owners left go on to the same text from the text so far
use Rattle.std.proofs.Common.{◌≡◌, ◌≤◌, ◌+◌, ◌++◌, length, string_bytes}
use Rattle.script_cli.specs.Owners.{owner_lines, owners_text}
use Rattle.script_cli.proofs.owners.append_owners.Given as goal

abbrev pub invariant-loop-next : goal.invariant-loop-next
invariant-loop-next l = record { most : l.last + length l.rest ≤ 65536; same : string_bytes l.out ++ owner_lines l.first l.last l.owner l.rest ≡ string_bytes l.fn.out ++ owners_text l.fn.owners }

abbrev pub decreases-loop-next : goal.decreases-loop-next
decreases-loop-next l = length l.rest
