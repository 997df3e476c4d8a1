-- Each job goes to the list of its submitter, after those that it had.
use Rattle.std.proofs.{Common.{arith, sym, subst, ◌≡◌, ◌<◌, ◌++◌, ◌∷◌, ◌∙◌, List, map, All}, lemmas.Grind.common_steps}
use Rattle.job_cli.{proofs.JobRuns.{next_is, given_more, headings_grow}, specs.declared.jobs.JobLine.JobLine}
use Rattle.job_cli.proofs.job_runs.hand_out.Goals as goal

pub give-requires : goal.give-requires
give-requires c =
    let split : c.loop-line.yielded ++ c.in-Some.line ∷ c.next.new.self.rest.items ≡ c.args.lines.items = rw (sym c.in-Some.ensures.steps.0) c.loop-line.invariant.lines in
    let below : c.in-Some.line.submitter < c.args.submitters =
    next_is (λ line. line.submitter < c.args.submitters) c.loop-line.yielded c.next.new.self.rest.items c.in-Some.line
    (subst (λ (lines : List JobLine). All (λ line. line.submitter < c.args.submitters) lines) (sym split) c.requires) in
    omega (arith, below, c.loop-line.invariant.count)

pub loop-line-preserved : goal.loop-line-preserved
loop-line-preserved c =
    let split : c.loop-line.yielded ++ c.in-Some.line ∷ c.next.new.self.rest.items ≡ c.args.lines.items = rw (sym c.in-Some.ensures.steps.0) c.loop-line.invariant.lines in
    let below : c.in-Some.line.submitter < c.args.submitters =
    next_is (λ line. line.submitter < c.args.submitters) c.loop-line.yielded c.next.new.self.rest.items c.in-Some.line
    (subst (λ (lines : List JobLine). All (λ line. line.submitter < c.args.submitters) lines) (sym split) c.requires) in
    record {
      lines = grind (arith, common_steps);
      headings =
          headings_grow c.args.submitters c.loop-line.yielded c.in-Some.line (map (λ list. list.items) c.loop-line.lists.items) c.loop-line.headings.items c.push.new.self.items c.in_ok-place.place
          c.loop-line.invariant.lists below c.loop-line.invariant.headings c.in_ok-push.ensures.items c.in_ok-place.ensures.place;
      lists =
          given_more c.args.submitters c.loop-line.yielded (map (λ list. list.items) c.loop-line.lists.items) (map (λ list. list.items) c.give.new.lists.items) c.in-Some.line
          c.loop-line.invariant.lists below c.in_ok-place.ensures.given;
      count = c.in_ok-place.ensures.count ∙ c.loop-line.invariant.count;
    }
