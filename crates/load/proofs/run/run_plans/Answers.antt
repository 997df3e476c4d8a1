-- Each job has its end, and there are as many jobs as commands.
use Rattle.std.proofs.{Common.{◌∙◌, length, map, sym}, lemmas.Simd.map-map}
use Rattle.load.proofs.Rounds.{jobs_long}
use Rattle.load.proofs.run.run_plans.Goals as goal

pub returns-clause-done : goal.returns-clause-done
returns-clause-done g c =
    let course = c.args.course.now in
    let plans = map (λ plan. plan.items) c.args.plans.now in
    let jobs = c.in_ok-jobs.jobs.items in
    let round = c.in_ok-world.field-0 in
    let ran = c.in_ok-world.ensures in
    record {
      lists = map (λ list. list.items) jobs;
      log = round.log;
      report = round.report;
      ended = ran.ended;
      are_jobs = c.in_ok-jobs.ensures.jobs;
      went = ran.went;
      all = ran.all_jobs ∙ (sym (map-map length (λ list. list.items) jobs) ∙ jobs_long course.layout course.seed course.content course.queues plans (map (λ list. list.items) jobs) c.in_ok-jobs.ensures.jobs);
      agree = ran.agree;
      jobs = ran.jobs;
    }
