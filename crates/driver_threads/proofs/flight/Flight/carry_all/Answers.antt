-- One more job is carried; at the end all of them went this way.
use Rattle.std.proofs.{Common.{◌≡◌, ◌∙◌, arith, rules, sym, subst}, lemmas.{Grind.common_steps, Iterator.{Adapters.YieldsList-from_vec, Consumers.YieldsList-end}}}
use Rattle.driver_threads.{proofs.Carried.{at_most, landed_so, same_items, under_condition}, specs.JobSteps.Carries}
use Rattle.driver_threads.proofs.flight.Flight.carry_all.Goals as goal

pub loop-job-preserved : goal.loop-job-preserved
loop-job-preserved g c = record {
  under_way = c.in_ok-carry.ensures.under_way;
  all = grind (arith, common_steps);
  left = grind (arith, common_steps);
  carries = λ start. c.in_ok-carry.ensures.carries c.loop-job.yielded (c.loop-job.invariant.carries start);
  places = c.in_ok-carry.ensures.places ∙ c.loop-job.invariant.places;
}

pub returns-clause-most : goal.returns-clause-most
returns-clause-most g c =
    let few = at_most c.finish_all.result _ _ c.finish_all.ensures.all c.finish_all.ensures.fewer in
    omega (arith, few, c.loop-job.invariant.all, c.loop-job.invariant.left)

pub returns-clause-went : goal.returns-clause-went
returns-clause-went g c =
    let flight = c.loop-job.self in
    let next = c.finish_all.new.self in
    let ended = YieldsList-end (YieldsList-from_vec c.args.jobs.items (search rules) (search rules)) c.loop-job.yielded c.loop-job.job-iterator c.loop-job.yielded_by c.next.result c.next.new.self c.in-None.is c.next.ensures.steps in
    let all : c.loop-job.yielded ≡ c.args.jobs.items = sym (same_items c.loop-job.yielded) ∙ ended.0 in
    under_condition _ _ c.finish_all.result
    (λ start.
    landed_so g.D.Data.bytes g.D.Data.keeps c.finish_all.result g.L.LogBrand.opening flight.seat next.seat flight.ends.items next.ends.items flight.flying.items next.flying.items c.args.jobs.items _ next.flying.ok.0 c.finish_all.ensures.none
    c.finish_all.ensures.carries (subst (λ jobs. Carries g.D.Data.bytes g.D.Data.keeps g.L.LogBrand.opening flight.seat flight.ends.items flight.flying.items jobs) all (c.loop-job.invariant.carries start)))
