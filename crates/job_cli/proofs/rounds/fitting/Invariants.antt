-- the entries so far are those of the jobs so far, which fit
use Rattle.std.{proofs.Common.{◌≡◌, ◌+◌, ◌≤◌, take}, specs.Prelude.sum_by}
use Rattle.job_cli.specs.GoneOn.{Fit, entries_for}
use Rattle.job_cli.proofs.rounds.fitting.Given as goal

abbrev pub invariant-loop-place : goal.invariant-loop-place
invariant-loop-place l = record {
  sum : l.entries ≡ sum_by entries_for (take l.place l.left.items);
  few : l.entries ≤ l.share + 3080;
  fit : Fit l.share (take l.place l.left.items);
}
