-- The plan of the next submitter follows those of the others.
use Rattle.std.proofs.{Common.{◌∙◌, ◌∷◌, [], All, Global, List, Vec, ap, arith, length, subst, sym, ℕ}, lemmas.List.length-append}
use Rattle.load.{proofs.Loads.{each_more, one_more}, specs.{Course.share_of, Planning.{IsInside, IsPlanOf}, declared.layout.Layout.Layout}}
use Rattle.load.proofs.course.Course.plan.Goals as goal

pub loop-submitter-preserved : goal.loop-submitter-preserved
loop-submitter-preserved c =
    let layout = c.args.self.now.layout in
    let slots = c.args.self.now.generations.items in
    let plan = c.in_ok-plan.plan.items in
    let same = c.deref.ensures.value ∙ ap (λ (v : Vec ℕ Global). v.items) c.loop-submitter.invariant.generations in
    let kept = subst (λ (all : List ℕ). IsPlanOf layout all c.loop-submitter.submitter c.share_of-share.result plan) same c.in_ok-plan.ensures.planned in
    let shared = subst (λ (m : ℕ). IsPlanOf layout slots c.loop-submitter.submitter m plan) c.share_of-share.ensures kept in
    let last = subst (λ (s : ℕ). IsPlanOf layout slots s (share_of c.min-commands.result layout.submitters s) plan) (sym c.loop-submitter.invariant.count) shared in
    record {
      count = omega (arith, ap length c.in_ok-push.ensures.items, length-append c.loop-submitter.plans.items (c.in_ok-plan.plan ∷ []), c.loop-submitter.invariant.count);
      each =
          each_more (λ plan. plan.items) (λ s plan. IsPlanOf layout slots s (share_of c.min-commands.result layout.submitters s) plan)
          c.loop-submitter.plans.items c.push.new.self.items c.in_ok-plan.plan c.in_ok-push.ensures.items c.loop-submitter.invariant.each last;
      inside =
          one_more (λ plan. All (IsInside c.loop-submitter.self.layout) plan.items) c.loop-submitter.plans.items c.push.new.self.items c.in_ok-plan.plan c.in_ok-push.ensures.items
          c.loop-submitter.invariant.inside (subst (λ (y : Layout). All (IsInside y) plan) (sym c.loop-submitter.invariant.layout) c.in_ok-plan.ensures.inside);
      layout = c.loop-submitter.invariant.layout;
      seed = c.loop-submitter.invariant.seed;
      queues = c.loop-submitter.invariant.queues;
      round = c.loop-submitter.invariant.round;
      content = c.loop-submitter.invariant.content;
      generations = c.loop-submitter.invariant.generations;
      tally = c.loop-submitter.invariant.tally;
    }
