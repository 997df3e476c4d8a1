-- The list of the submitter grew.
use Rattle.std.proofs.Common.{arith}
use Rattle.job_cli.proofs.JobRuns.{is_given}
use Rattle.job_cli.proofs.job_runs.give.Goals as goal

pub returns-clause-given : goal.returns-clause-given
returns-clause-given c =
    is_given (λ list. list.items) c.args.lists.now.items c.from.result c.args.submitter c.index_mut-list.result.now c.push_back.new.self c.args.job
    c.from.ensures (omega (arith, c.args.lists.now.ok.0, c.from.ensures)) c.index_mut-list.ensures.value c.in_ok-push_back.ensures.items
