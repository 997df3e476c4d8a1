-- the bytes left are the same exactly where all are
use Rattle.std.{proofs.Common.{◌≡◌, length}, specs.Str.bytes_eq}
use Rattle.script_cli.proofs.verb.is_name.Given as goal

abbrev pub invariant-loop-byte : goal.invariant-loop-byte
invariant-loop-byte l = bytes_eq l.name l.word ≡ bytes_eq l.fn.name l.fn.word

abbrev pub decreases-loop-byte : goal.decreases-loop-byte
decreases-loop-byte l = length l.name
