-- The commands that were planned were run, noted and counted.
use Rattle.std.proofs.Common.{◌∙◌, Global, List, Vec, ap, ap₂, map, subst, true, ℕ}
use Rattle.load.{proofs.Rounds.{same_setting, stands_after}, specs.{Loaded.{setting_of, standing_of}, Rounds.{AreDone, Round, Setting, Standing, all_noted, commands_of}}}
use Rattle.load.specs.{Tallies.{both, counted, no_tally, tallies_from}, declared.{plan.Planned.Planned, tally.Tally.Tally}}
use Rattle.load.proofs.run.run_some.Goals as goal

pub returns-clause-done : goal.returns-clause-done
returns-clause-done g c =
    let s : Setting = setting_of c.args.course.now in
    let before : Standing = standing_of c.args.course.now c.args.world.state in
    let planned = c.in_ok-plans.ensures in
    let ran = c.in_ok-left.ensures in
    let plans = map (λ plan. plan.items) c.in_ok-plans.plans.items in
    let ends = c.in_ok-left.left.ends in
    let round : Round = record { plans = plans; ends = ends; world = c.in_ok-left.left.world } in
    let same = ap (λ (ps : List (Vec Planned Global)). map (λ plan. plan.items) ps) c.deref.ensures.value in
    let kept = same_setting c.plan.new.self c.args.course.now planned.layout planned.seed planned.queues planned.round planned.content in
    let noted =
    ap (λ (v : Vec ℕ Global). v.items) (c.measure.ensures.generations ∙ c.count.ensures.generations)
    ∙ (ran.noted
    ∙ (ap (λ (ps : List (List Planned)). all_noted c.plan.new.self.generations.items ps ends) same ∙ ap (λ (v : Vec ℕ Global). all_noted v.items plans ends) planned.generations)) in
    let come =
    ran.told ∙ ap (λ (ps : List (List Planned)). tallies_from no_tally ps ends) same in
    let told =
    c.measure.ensures.tally
    ∙ (c.count.ensures.counted ∙ ap₂ (λ (old new : Tally). both old (counted true new)) (ran.tally ∙ planned.tally) come) in
    record {
      round = round;
      is_round = record { planned = planned.planned; done = subst (λ (x : Setting). AreDone x c.args.world.state plans ends c.in_ok-left.left.world) kept (subst (λ (ps : List (List Planned)). AreDone (setting_of c.plan.new.self) c.args.world.state ps ends c.in_ok-left.left.world) same ran.done) };
      count = c.commands_of.ensures ∙ ap (λ (ps : List (Vec Planned Global)). commands_of (map (λ plan. plan.items) ps)) c.deref-4.ensures.value;
      stands = stands_after s true before round c.measure.new.self noted told;
    }

pub returns-clause-setting : goal.returns-clause-setting
returns-clause-setting g c =
    let planned = c.in_ok-plans.ensures in
    let counted = c.count.ensures in
    let measured = c.measure.ensures in
    same_setting c.measure.new.self c.run_plans.new.course (measured.layout ∙ counted.layout) (measured.seed ∙ counted.seed) (measured.queues ∙ counted.queues) (measured.round ∙ counted.round)
    (measured.content ∙ counted.content)
    ∙ (c.in_ok-left.ensures.setting ∙ same_setting c.plan.new.self c.args.course.now planned.layout planned.seed planned.queues planned.round planned.content)
