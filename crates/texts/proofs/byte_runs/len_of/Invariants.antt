-- the first runs were counted, as many as the loop went round
use Rattle.std.proofs.Common.{drop, length}
use Rattle.texts.{proofs.RunLemmas.Counts, specs.Runs.runs_of}
use Rattle.texts.proofs.byte_runs.len_of.Given as goal

abbrev pub invariant-loop-run : goal.invariant-loop-run
invariant-loop-run l = Counts (runs_of l.fn.word) (drop (length l.yielded) (runs_of l.fn.word)) l.len
