-- the bytes are there as often as the loop went round
use Rattle.std.proofs.Common.{◌≡◌, ◌+◌, ◌*◌, ◌++◌, vec_len}
use Rattle.texts.specs.Runs.{repeated}
use Rattle.texts.proofs.byte_runs.put_run.Given as goal

abbrev pub invariant-loop : goal.invariant-loop
invariant-loop l = record { put : l.out.items ≡ l.fn.out.items ++ repeated l.bytes.items l.counter; len : vec_len l.out ≡ vec_len l.fn.out + vec_len l.bytes * l.counter }
