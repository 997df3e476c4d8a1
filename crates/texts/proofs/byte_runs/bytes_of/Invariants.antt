-- the first runs were put, as many as the loop went round, and their bytes are not too many
use Rattle.std.proofs.Common.{◌≤◌, drop, length, vec_len}
use Rattle.texts.{proofs.RunLemmas.GoesOn, specs.Runs.runs_of}
use Rattle.texts.proofs.byte_runs.bytes_of.Given as goal

abbrev pub invariant-loop-run : goal.invariant-loop-run
invariant-loop-run l = record { few : vec_len l.out ≤ l.fn.most; so_far : GoesOn (runs_of l.fn.word) (drop (length l.yielded) (runs_of l.fn.word)) l.out.items }
