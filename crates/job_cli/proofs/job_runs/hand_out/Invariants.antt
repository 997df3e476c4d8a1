-- the jobs of the lines that came are handed out; the other lines are left
use Rattle.std.proofs.Common.{◌≡◌, ◌++◌, map, vec_len}
use Rattle.job_cli.specs.{Headings.headings_of, JobRuns.AreListsOf}
use Rattle.job_cli.proofs.job_runs.hand_out.Given as goal

abbrev pub invariant-loop-line : goal.invariant-loop-line
invariant-loop-line l = record {
  lines : l.yielded ++ l.line-iterator.rest.items ≡ l.fn.lines.items;
  headings : l.headings.items ≡ headings_of l.yielded;
  lists : AreListsOf l.submitters l.yielded (map (λ list. list.items) l.lists.items);
  count : vec_len l.lists ≡ l.submitters;
}
