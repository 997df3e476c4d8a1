-- the run so far and the bytes left go on to the same text from the text so far
use Rattle.std.proofs.Common.{◌≡◌, ◌≤◌, ◌+◌, ◌++◌, length, string_bytes}
use Rattle.script_cli.specs.Replies.{runs_text, gathered_text}
use Rattle.script_cli.proofs.reply.put_gathered.Given as goal

abbrev pub invariant-loop-next : goal.invariant-loop-next
invariant-loop-next l = record { most : l.count + length l.rest ≤ length l.fn.bytes; same : string_bytes l.out ++ runs_text l.byte l.count l.rest ≡ string_bytes l.fn.out ++ gathered_text l.fn.bytes }

abbrev pub decreases-loop-next : goal.decreases-loop-next
decreases-loop-next l = length l.rest
