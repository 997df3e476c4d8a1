-- The first line with a fault is where the reading ends.
use Rattle.std.proofs.Common.{rules, ◌≡◌, ◌<◌, ◌∷◌, length}
use Rattle.job_cli.{proofs.JobRuns.fault_ends, specs.Jobs.{jobs_from, jobs_in}}
use Rattle.script_cli.{proofs.Texts.lines_are_cut, specs.Lines.lines}
use Rattle.job_cli.proofs.jobs.read_job_lines.Goals as goal

pub returns-in-Err : goal.returns-in-Err
returns-in-Err c =
    let some : 0 < length c.loop-rest.rest.now = search rules in
    let whole : lines c.loop-rest.rest.now ≡ c.split_line.result.0.now ∷ lines c.split_line.result.1.now = cc (lines_are_cut c.loop-rest.rest.now some) in
    let same : jobs_from c.args.submitters c.loop-rest.jobs.items c.loop-rest.number (c.split_line.result.0.now ∷ lines c.split_line.result.1.now) ≡ jobs_in c.args.submitters c.args.text.now = cc (c.loop-rest.invariant.same) in
    fault_ends c.args.submitters c.loop-rest.jobs.items c.loop-rest.number c.split_line.result.0.now (lines c.split_line.result.1.now) c.args.text.now c.in-Err.fault c.in-Err.ensures same
